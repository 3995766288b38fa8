-- The number that an argument begins with, of at most ten digits, is the argument's where nothing stands behind it.
use mathlib.Core.Path.{◌≡◌, refl}
use mathlib.Core.List.{List, [], ◌∷◌}
use mathlib.Core.Bool.{Bool, true, false, cond, ◌&&◌, and-eq-true_iff}
use Prim.Native.Nat.{ℕ, ◌+◌, ◌≤◌}
use native.Mathlib.Nat.{pow-le-pow_right}
use native.Mathlib.Omega.{arith}
use borrow.Author.Tests.{le-leb, leb-true, ltb-true, ltb-false, eq-eqb, ne_eqb}
use lib.Dec.{eqb, leb, ltb}
use lib.ListN.{length}
use Rattle.decimal.specs.Read.{is_digit, digits, value, is_number, number_at, by_number}
use Rattle.decimal.proofs.Reading.{value-below}
use Rattle.argument.specs.Number.{number_of}
use Rattle.std.proofs.Common.{Some, None}

digits-short : (s : List ℕ) → length (digits s) ≤ length s
unfolding digits
digits-short [] = omega arith
digits-short (b ∷ t) = by (is_digit b) (digits-short t) where
  by : (d : Bool) → length (digits t) ≤ length t → length (cond d (b ∷ digits t) []) ≤ length (b ∷ t)
  by true h = omega arith
  by false h = omega arith

module _ (s : List ℕ) where
  -- ten digits write no more than 9,999,999,999
  ten-fit : is_number 10 (digits s) ≡ true → leb (value (digits s)) 9999999999 ≡ true
  ten-fit h =
      let n = length (digits s) in
      let k = leb-true n 10 ((and-eq-true_iff (leb 1 n) (leb n 10)).0 h).1 in
      le-leb (value (digits s)) 9999999999 (omega (arith, value-below s, pow-le-pow_right {n = 10} (omega arith) {i = n} {j = 10} k))

  -- nothing stands behind the digits: they are as many as there are bytes
  behind : (v : ℕ) → let n = length (digits s) in
      cond (eqb n (length s)) (Some v) None ≡ cond (ltb n (length s)) None (Some v)
  behind v = by (ltb (length (digits s)) (length s)) refl where
    by : (b : Bool) → ltb (length (digits s)) (length s) ≡ b
        → cond (eqb (length (digits s)) (length s)) (Some v) None ≡ cond b None (Some v)
    by true e = rw (ne_eqb (length (digits s)) (length s) (λ q. omega (arith, ltb-true (length (digits s)) (length s) e, q)))
    by false e = rw (eq-eqb (length (digits s)) (length s) (omega (arith, ltb-false (length (digits s)) (length s) e, digits-short s)))

  pub number_read : number_of s ≡ by_number (number_at s 0 10 9999999999) (λ v end. cond (ltb end (length s)) None (Some v)) None
  unfolding number_of number_at
  number_read = by (is_number 10 (digits s)) refl where
    by : (b : Bool) → is_number 10 (digits s) ≡ b
        → cond (b && eqb (length (digits s)) (length s)) (Some (value (digits s))) None
        ≡ by_number
        (cond b (cond (leb (value (digits s)) 9999999999) (Some (value (digits s), 0 + length (digits s))) None) None)
        (λ v end. cond (ltb end (length s)) None (Some v)) None
    by true e = let z : 0 + length (digits s) ≡ length (digits s) = omega arith in rw (ten-fit e, z) (behind (value (digits s)))
    by false e = refl
