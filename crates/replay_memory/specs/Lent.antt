-- The memory lent is the first bytes of an array. The lines of the guest change those only; the bytes past them are 0. A line may print
-- a part of it.
use Rattle.std.specs.Prelude.{◌≡◌, List, [], ◌∷◌, ◌++◌, ℕ, zero, suc, ◌+◌, ◌≤◌, min, length, set, take, drop}
use Rattle.decimal.specs.Write.{field_of, Put}
use Rattle.replay_field.specs.Hex.{bytes_of_hex, poured}
use Rattle.replay_line.specs.declared.Guest.{Guest}
use Rattle.replay_line.specs.declared.Guest.TheVariants.{Store, Fill, Ram, Dump}
use Rattle.replay_text.specs.Hex.{hex_word}
use Rattle.replay_memory.specs.declared.Touched.{Touched}

-- memory with n bytes at a place set to b; "bytes past the end are dropped"
unfoldable pub filled : ℕ → List ℕ → ℕ → ℕ → List ℕ
filled zero m at b = m
filled (suc k) m at b = filled k (set m at b) (at + 1) b

-- the array after a line s of the guest, of which `lent` bytes were lent: "the guest writes these bytes", "sets LEN
-- bytes"; "new bytes are zero, bytes cut off are lost"
abbrev pub touched_ram : Guest → List ℕ → List ℕ → ℕ → List ℕ
touched_ram (Store address at) s ram lent = poured (bytes_of_hex (drop at s)) (take lent ram) address.0 ++ drop lent ram
touched_ram (Fill address n b) s ram lent = filled n (take lent ram) address.0 b ++ drop lent ram
touched_ram (Ram n) s ram lent = filled 1048576 ram n 0
touched_ram (Dump address n) s ram lent = ram

-- how many bytes are lent after it
abbrev pub touched_length : Guest → ℕ → ℕ
touched_length (Store address at) lent = lent
touched_length (Fill address n b) lent = lent
touched_length (Ram n) lent = n
touched_length (Dump address n) lent = lent

-- ---- the text that it leaves

-- "d: LINE HEX": "prints LEN bytes (at most 65,536) of the memory lent, 0 past its end"; 32 is the space, 10 the line feed
unfoldable pub dump_bytes : ℕ → List ℕ → ℕ → ℕ → List ℕ
dump_bytes line m address n = field_of line 32 ++ hex_word (min n 65536) m address ++ 10 ∷ []

-- of the memory lent
abbrev pub touched_text : Guest → ℕ → List ℕ → List ℕ
touched_text (Store address at) line m = []
touched_text (Fill address n b) line m = []
touched_text (Ram n) line m = []
touched_text (Dump address n) line m = dump_bytes line m address.0 n

-- what is promised of a line s of the guest, the line-th: array and buffer before it, after it, and what it hands back
pub record Touches (g : Guest) (line : ℕ) (s ram : List ℕ) (lent : ℕ) (out ram' out' : List ℕ) (r : Touched) : Type 0 where
  pub memory : ram' ≡ touched_ram g s ram lent
  pub len : r.len ≡ touched_length g lent
  pub text : Put (touched_text g line (take lent ram)) out 0 out' r.end
  pub room : r.end ≤ length out'
