-- 02, order 12: of a 64-bit formats mask "the lowest bit set and how many are set".
use Rattle.std.specs.Prelude.{cond, ℕ, zero, suc, ◌+◌, ◌/◌, ◌%◌, ◌^◌, eqb}

-- bit i of a mask, 0 or 1
abbrev pub bit_at : ℕ → ℕ → ℕ
bit_at m i = m / 2 ^ i % 2

-- the first of the k bits from i on that is set; i + k where none is
unfoldable pub lowest_from : ℕ → ℕ → ℕ → ℕ
lowest_from zero i m = i
lowest_from (suc k) i m = cond (eqb (bit_at m i) 1) i (lowest_from k (i + 1) m)

-- how many of the k bits from i on are set
unfoldable pub set_from : ℕ → ℕ → ℕ → ℕ
set_from zero i m = 0
set_from (suc k) i m = bit_at m i + set_from k (i + 1) m

-- of the bits 0 to 63
abbrev pub lowest_bit : ℕ → ℕ
lowest_bit m = lowest_from 64 0 m

abbrev pub bits_set : ℕ → ℕ
bits_set m = set_from 64 0 m
