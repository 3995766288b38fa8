-- A number below 10 ^ 20 in decimal: as many digits as it has, the first of them 0 for the number 0 only.
use Rattle.std.specs.Prelude.{◌≡◌, List, [], ◌∷◌, ◌++◌, cond, ℕ, zero, suc, ◌+◌, ◌^◌, ltb, length}
use Rattle.std.proofs.lemmas.List.Edits.{sets}
use Rattle.io.specs.Digits.{last_digits}

-- how many digits a number below 10 ^ (k + 1) has: one more than the greatest power of ten in it
unfoldable pub places : ℕ → ℕ → ℕ
places zero n = 1
places (suc k) n = cond (ltb n (10 ^ suc k)) (places k n) (suc (suc k))

unfoldable pub decimal_of : ℕ → List ℕ
decimal_of n = last_digits 10 (places 19 n) n

-- a number and the byte behind it
unfoldable pub field_of : ℕ → ℕ → List ℕ
field_of n end = decimal_of n ++ end ∷ []

-- ---- a text in a buffer

-- what it means that a text was written into a buffer from a place on: the buffer after it, and the place behind the text
pub record Put (t before : List ℕ) (at : ℕ) (after : List ℕ) (end : ℕ) : Type 0 where
  pub stored : after ≡ sets before at t
  pub behind : end ≡ at + length t
