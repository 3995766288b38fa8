-- NUMBER: "1 to 20 decimal digits", of a value that fits its field.
use Rattle.std.specs.Prelude.{List, Option, Some, None, cond, ℕ, ltb, length}
use Rattle.decimal.specs.Read as decimal
use Rattle.decimal.specs.Read.{by_number}

-- a single space at `at` and a number behind it, where it is at most `max`
abbrev pub field_at : List ℕ → ℕ → ℕ → Option (ℕ × ℕ)
field_at s at max = decimal.field_at s at 20 max

-- two fields, one behind the other
unfoldable pub pair_at : List ℕ → ℕ → ℕ → Option (ℕ × ℕ × ℕ)
pair_at s at max = by_number (field_at s at max) (λ a next. by_number (field_at s next max) (λ b end. Some (a, b, end)) None) None

abbrev pub by_pair : {A : Type 0} → Option (ℕ × ℕ × ℕ) → (ℕ → ℕ → ℕ → A) → A → A
by_pair (Some (a, b, next)) found none = found a b next
by_pair None found none = none

-- a number that ends the line
unfoldable pub size_at : List ℕ → ℕ → ℕ → Option ℕ
size_at s at max = by_number (field_at s at max) (λ n end. cond (ltb end (length s)) None (Some n)) None
