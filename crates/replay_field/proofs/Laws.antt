-- Laws of lines by places: how great a field can be, HEX, words.
use mathlib.Core.Path.{◌≡◌, refl}
use mathlib.Core.List.{List, [], ◌∷◌}
use Prim.Native.Nat.{ℕ, ◌+◌, ◌-◌, ◌*◌, ◌≤◌, ◌<◌}
use native.Mathlib.Omega.{arith}
use lib.ListN.{length, get_or, set, take, drop}
use lib.Seq.{set_out}
use Rattle.std.proofs.Common.{eqb}
use Rattle.replay_field.specs.Hex.{nibble, bytes_of_hex, poured}
use Rattle.replay_field.specs.Word.{begins}
use Rattle.std.specs.List.{starts_with}
use Rattle.std.proofs.lemmas.List.{take_rest}
use Rattle.std.proofs.lemmas.Bool.Decides.{nat_tests}

-- ---- the bytes of a word of HEX, written to a place

-- nothing is written past the end
pub poured-past : (t m : List ℕ) (to : ℕ) → length m ≤ to → poured t m to ≡ m
unfolding poured
poured-past [] m to h = refl
poured-past (b ∷ t) m to h = rw (set_out m to b h) (poured-past t m (to + 1) (omega arith))

-- the next two digits make the next byte
pub poured-two : (r m : List ℕ) (d : ℕ) → 2 ≤ length r
    → poured (bytes_of_hex r) m d
    ≡ poured (bytes_of_hex (take (length r - 2) (drop 2 r))) (set m d (16 * nibble (get_or r 0 0) + nibble (get_or r 1 0))) (d + 1)
unfolding poured bytes_of_hex
poured-two [] m d h = absurd (omega arith)
poured-two (a ∷ []) m d h = absurd (omega arith)
poured-two (a ∷ b ∷ t) m d h = rw (take_rest (a ∷ b ∷ t) 2)

pub poured-rest : (r m : List ℕ) (d : ℕ) → length r < 2 → poured (bytes_of_hex r) m d ≡ m
unfolding poured bytes_of_hex
poured-rest [] m d h = refl
poured-rest (a ∷ []) m d h = refl
poured-rest (a ∷ b ∷ t) m d h = absurd (omega arith)

-- ---- the start of a line

same_test : (a b : ℕ) → eqb a b ≡ eqb b a
same_test a b = grind (arith, nat_tests)

pub begins_is : (w s : List ℕ) → starts_with eqb s w ≡ begins w s
unfolding begins
begins_is [] s = refl
begins_is (b ∷ w) [] = refl
begins_is (b ∷ w) (c ∷ s) = rw (same_test b c, begins_is w s)
