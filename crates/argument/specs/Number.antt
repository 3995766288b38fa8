-- "numbers have 1 to 10 digits": the argument is digits and nothing else.
use Rattle.std.specs.Prelude.{List, Option, Some, None, cond, ◌&&◌, ℕ, eqb, length}
use Rattle.decimal.specs.Read.{digits, value, is_number}

unfoldable pub number_of : List ℕ → Option ℕ
number_of s = cond (is_number 10 (digits s) && eqb (length (digits s)) (length s)) (Some (value (digits s))) None
