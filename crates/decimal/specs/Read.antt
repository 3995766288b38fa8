-- A number in a line: decimal digits, 48 to 57, at most `most` of them, of a value of at most `max`. A space is 32.
use mathlib.Core.List.{List, [], ◌∷◌, foldl}
use Rattle.std.specs.Prelude.{Bool, Option, Some, None, cond, ◌&&◌, ℕ, ◌+◌, ◌-◌, ◌*◌, eqb, leb, ltb, length, get_or, drop}

unfoldable pub is_digit : ℕ → Bool
is_digit b = leb 48 b && leb b 57

-- the digits that a text begins with
unfoldable pub digits : List ℕ → List ℕ
digits [] = []
digits (b ∷ t) = cond (is_digit b) (b ∷ digits t) []

-- a number with one more digit written behind it
abbrev pub one_more : ℕ → ℕ → ℕ
one_more v b = 10 * v + (b - 48)

-- the number that digits write in decimal
abbrev pub value : List ℕ → ℕ
value ds = foldl one_more 0 ds

-- "1 to 10 digits", "1 to 20 decimal digits"
abbrev pub is_number : ℕ → List ℕ → Bool
is_number most ds = leb 1 (length ds) && leb (length ds) most

-- the number whose first digit stands at `at`, and the place behind it
unfoldable pub number_at : List ℕ → ℕ → ℕ → ℕ → Option (ℕ × ℕ)
number_at s at most max =
    cond (is_number most (digits (drop at s)))
    (cond (leb (value (digits (drop at s))) max) (Some (value (digits (drop at s)), at + length (digits (drop at s)))) None)
    None

-- a single space at `at` and a number behind it
unfoldable pub field_at : List ℕ → ℕ → ℕ → ℕ → Option (ℕ × ℕ)
field_at s at most max = cond (ltb at (length s)) (cond (eqb (get_or s at 0) 32) (number_at s (at + 1) most max) None) None

abbrev pub by_number : {A : Type 0} → Option (ℕ × ℕ) → (ℕ → ℕ → A) → A → A
by_number (Some (v, next)) found none = found v next
by_number None found none = none
