-- A test of every element, as a loop goes through it; and masks by their leading zeros.
use mathlib.Core.Path.{◌≡◌, refl, ap}
use mathlib.Core.List.{List, [], ◌∷◌}
use mathlib.Core.Bool.{Bool, true, false, ◌&&◌}
use Prim.Native.Nat.{ℕ, suc, ◌+◌, ◌-◌, ◌*◌, ◌^◌, ◌≤◌, ◌<◌}
use native.Mathlib.Numerals.{add-one}
use native.Mathlib.Nat.{lt_of_lt_of_le, pow-suc}
use native.Mathlib.Omega.{arith}
use lib.Count.{count_leading_zeros, leading_length}
use lib.Dec.{leb, ltb}
use lib.Pow.{pow_mono}
use borrow.Author.Tests.{leb-true, leb-false, lt-ltb, le-ltb}
use Rattle.std.specs.List.{list_all, enumerate_from}
use Rattle.description.specs.Lawful.{lawful_position, lawful_positions}

-- by the numbers of the positions
pub positions-each : (channels i : ℕ) (l : List ℕ)
    → lawful_positions channels i l ≡ list_all (λ p. lawful_position channels p.0 p.1) (enumerate_from i l)
unfolding lawful_positions
positions-each channels i [] = refl
positions-each channels i (p ∷ ps) = rw add-one (ap (λ b. lawful_position channels i p && b) (positions-each channels (suc i) ps))

-- a number of k bits with at least k - n leading zeros is below 2 ^ n; with fewer it is not
pub zeros-below : (k n x : ℕ) → x < 2 ^ k → n ≤ k → k - n ≤ count_leading_zeros k x → x < 2 ^ n
zeros-below k n x h le z =
    let l = leading_length k x h in
    let e : l.0 ≤ n = omega (arith, l.1) in
    lt_of_lt_of_le l.2 (pow_mono e)

pub zeros-above : (k n x : ℕ) → x < 2 ^ k → n < k → count_leading_zeros k x < k - n → 2 ^ n ≤ x
zeros-above k n x h le z =
    let l = leading_length k x h in
    let e : n + 1 ≤ l.0 = omega (arith, l.1) in
    let p : 2 ^ (n + 1) ≤ 2 ^ l.0 = pow_mono e in
    let q : 2 ^ (n + 1) ≡ 2 ^ n * 2 = rw (add-one, pow-suc) in
    omega (arith, l.3, p, q)

-- a number of 64 bits is below 2 ^ n where it has at least 64 - n leading zeros
pub zeros-in : (n x : ℕ) → x < 2 ^ 64 → n < 64 → leb (64 - n) (count_leading_zeros 64 x) ≡ ltb x (2 ^ n)
zeros-in n x h b = by (leb (64 - n) (count_leading_zeros 64 x)) refl where
  by : (t : Bool) → leb (64 - n) (count_leading_zeros 64 x) ≡ t → t ≡ ltb x (2 ^ n)
  by true e = rw (lt-ltb x (2 ^ n) (zeros-below 64 n x h (omega arith) (leb-true _ _ e)))
  by false e = rw (le-ltb x (2 ^ n) (zeros-above 64 n x h b (omega (arith, leb-false _ _ e))))
