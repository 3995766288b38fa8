-- The counts of the toolchain's `lib.Count` take a number apart from its lowest bit on; here they are bit by bit.
use mathlib.Core.Path.{◌≡◌, refl, sym}
use mathlib.Core.Bool.{Bool, true, false, cond}
use Prim.Native.Nat.{ℕ, zero, suc, ◌+◌, ◌/◌, ◌^◌, ◌<◌}
use native.Mathlib.Numerals.{add-one}
use native.Mathlib.Omega.{arith}
use borrow.Author.Tests.{eqb-true, eqb-false}
use lib.Arith.{lt-one}
use lib.Count.{ones, ones_step, count_trailing_zeros, under}
use lib.Dec.{eqb}
use lib.Pow.{shr-shr, shr_lt}
use Rattle.format_mask.specs.Mask.{bit_at, lowest_from, set_from, lowest_bit, bits_set}

-- the bits from i + 1 on are those from i on without the lowest
rest : (m i : ℕ) → m / 2 ^ i / 2 ≡ m / 2 ^ (i + 1)
rest m i = shr-shr m i 1

lowest-trailing : (k i m : ℕ) → lowest_from k i m ≡ i + count_trailing_zeros k (m / 2 ^ i)
unfolding lowest_from count_trailing_zeros
lowest-trailing zero i m = omega arith
lowest-trailing (suc k) i m = by (eqb (bit_at m i) 1) refl (lowest-trailing k (i + 1) m) where
  by : (t : Bool) → eqb (bit_at m i) 1 ≡ t → lowest_from k (i + 1) m ≡ i + 1 + count_trailing_zeros k (m / 2 ^ (i + 1))
      → cond t i (lowest_from k (i + 1) m) ≡ i + under (bit_at m i) (count_trailing_zeros k (m / 2 ^ i / 2))
  by true e more = rw (eqb-true (bit_at m i) 1 e) (omega arith)
  by false e more =
      let z : bit_at m i ≡ 0 = omega (arith, eqb-false (bit_at m i) 1 e) in
      rw (z, rest m i, more) (omega arith)

set-ones : (k i m : ℕ) → m / 2 ^ i < 2 ^ k → set_from k i m ≡ ones (m / 2 ^ i)
unfolding set_from ones
set-ones zero i m h = rw (lt-one h)
set-ones (suc k) i m h =
    let l : m / 2 ^ (i + 1) < 2 ^ k = rw (← (rest m i)) (shr_lt k 1 (rw add-one h)) in
    rw (ones_step (m / 2 ^ i), rest m i, set-ones k (i + 1) m l)

-- the whole mask: the bits from 0 on
whole : (m : ℕ) → m / 2 ^ 0 ≡ m
whole m = omega arith

pub trailing-lowest : (m : ℕ) → count_trailing_zeros 64 m ≡ lowest_bit m
trailing-lowest m = let h : lowest_bit m ≡ 0 + count_trailing_zeros 64 (m / 2 ^ 0) = lowest-trailing 64 0 m in omega (arith, rw whole at h)

pub ones-set : (m : ℕ) → m < 2 ^ 64 → ones m ≡ bits_set m
ones-set m h = let s : bits_set m ≡ ones (m / 2 ^ 0) = set-ones 64 0 m (rw whole h) in sym (rw whole at s)
