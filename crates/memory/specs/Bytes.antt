-- Numbers in guest memory, the lowest byte first, once over the width, and the test that a range lies inside it.
-- A byte past the end reads as 0 (`get_or`), and a write there changes nothing (`set`).
use Rattle.std.specs.Prelude.{List, Bool, true, cond, ℕ, zero, suc, ◌+◌, ◌*◌, ◌/◌, ◌%◌, eqb, leb, get_or, set}

-- the number in n bytes at `at`
unfoldable pub le : ℕ → List ℕ → ℕ → ℕ
le zero m at = 0
le (suc k) m at = get_or m at 0 + 256 * le k m (at + 1)

-- memory with the lowest n bytes of v at `at`
unfoldable pub put : ℕ → List ℕ → ℕ → ℕ → List ℕ
put zero m at v = m
put (suc k) m at v = put k (set m at (v % 256)) (at + 1) (v / 256)

-- 01, Rings and chains: n bytes at `at` lie inside `len` bytes; "Length 0 is inside RAM at any address".
-- The sum is a number without bound: none of address and length is formed in 64 bits
abbrev pub inside_of : ℕ → ℕ → ℕ → Bool
inside_of len at n = cond (eqb n 0) true (leb (at + n) len)
