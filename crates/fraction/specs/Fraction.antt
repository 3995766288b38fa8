-- 02, order 12: "mean as a fraction in lowest terms".
use Rattle.std.specs.Prelude.{Bool, cond, ◌&&◌, ℕ, zero, suc, ◌/◌, ◌%◌, eqb}
use Rattle.fraction.specs.declared.Fraction.{Fraction}

abbrev pub divides : ℕ → ℕ → Bool
divides d n = eqb (n % d) 0

-- the greatest of 1 to k that divides both: 1 divides every number
unfoldable pub common_up_to : ℕ → ℕ → ℕ → ℕ
common_up_to zero a b = 1
common_up_to (suc k) a b = cond (divides (suc k) a && divides (suc k) b) (suc k) (common_up_to k a b)

-- the greatest that divides a and b, for a b above 0: what divides b is at most b
abbrev pub greatest_common : ℕ → ℕ → ℕ
greatest_common a b = common_up_to b a b

-- both parts divided by it; with 0 below there is no fraction, and the parts stay
unfoldable pub lowest_terms : ℕ → ℕ → Fraction
lowest_terms above below =
    cond (eqb below 0) (record { above = above; below = below })
    (record { above = above / greatest_common above below; below = below / greatest_common above below })
