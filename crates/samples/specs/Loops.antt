-- The 16 bits that the loops form of a linear sample. That they are those of its conversion is proved (`proofs/Width.antt`).
use Rattle.std.specs.Prelude.{◌≡◌, ℕ, ◌-◌, ◌*◌, ◌/◌, ◌^◌, ◌<◌, Bool, cond, List, length, nat_lt, slice_index_or}
use Rattle.samples.specs.Formats.{Coding, bits_at}

-- the top 16 bits of w bytes
unfoldable pub top : ℕ → ℕ → ℕ
top w x = cond (nat_lt w 2) (x * 256) (x / 256 ^ (w - 2))

-- what turns the top bit of an unsigned sample
abbrev pub turn : Bool → ℕ
turn unsigned = cond unsigned 32768 0

-- what is made of each sample are the bits of its conversion
abbrev pub Converts : {S : Type 0} → Coding → List ℕ → List S → (S → ℕ → Type 0) → Type 0
Converts {S} c from samples made =
    (i : ℕ) (x : S) (v : ℕ) → i < length samples → x ≡ slice_index_or samples i x → made x v → v ≡ bits_at c from i
