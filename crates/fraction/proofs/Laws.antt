-- The greatest number that divides both: it divides both, nothing greater does, and nothing else is so. A fraction in lowest
-- terms has no divisor above 1 in common.
use mathlib.Core.Path.{◌≡◌, refl, sym, ◌∙◌}
use mathlib.Core.Bool.{Bool, true, false, cond, ◌&&◌, and-eq-true_iff, true≢false}
use Prim.Native.Nat.{ℕ, zero, suc, ◌*◌, ◌%◌, ◌≤◌, ◌<◌, ◌∣◌}
use native.Mathlib.Nat.{one-dvd, dvd_refl, dvd-zero, le_of_dvd, mod-eq-zero_of_dvd, dvd_of_mod-eq-zero}
use native.Mathlib.Nat.{mul-dvd-mul_right, div-mul_cancel, mul-le-mul_right, le_antisymm, pos_of_dvd_of_pos, div_self, zero-div}
use native.Mathlib.Omega.{arith}
use borrow.Author.Tests.{eqb-true, eqb-false, eq-eqb, ne_eqb, ltb-true, ltb-false}
use lib.Dec.{eqb, ltb}
use Rattle.std.specs.Int.{IsGcd}
use Rattle.fraction.specs.Fraction.{divides, common_up_to, greatest_common, lowest_terms}

divides-true : (d n : ℕ) → divides d n ≡ true → d ∣ n
divides-true d n h = dvd_of_mod-eq-zero d (eqb-true (n % d) 0 h)

true-divides : (d n : ℕ) → d ∣ n → divides d n ≡ true
true-divides d n h = eq-eqb (n % d) 0 (mod-eq-zero_of_dvd d h)

common-divides : (k a b : ℕ) → (common_up_to k a b ∣ a) × (common_up_to k a b ∣ b)
unfolding common_up_to
common-divides zero a b = (one-dvd a, one-dvd b)
common-divides (suc k) a b = by (divides (suc k) a && divides (suc k) b) refl (common-divides k a b) where
  by : (t : Bool) → (divides (suc k) a && divides (suc k) b) ≡ t → (common_up_to k a b ∣ a) × (common_up_to k a b ∣ b)
      → (cond t (suc k) (common_up_to k a b) ∣ a) × (cond t (suc k) (common_up_to k a b) ∣ b)
  by true e less =
      let h = (and-eq-true_iff (divides (suc k) a) (divides (suc k) b)).0 e in
      (divides-true (suc k) a h.0, divides-true (suc k) b h.1)
  by false e less = less

common-most : (k a b d : ℕ) → 0 < d → d ≤ k → d ∣ a → d ∣ b → d ≤ common_up_to k a b
unfolding common_up_to
common-most zero a b d p l x y = absurd (omega arith)
common-most (suc k) a b d p l x y = by (divides (suc k) a && divides (suc k) b) refl (λ m. common-most k a b d p m x y) where
  top : d ≡ suc k → (divides (suc k) a && divides (suc k) b) ≡ true
  top e = rw (← e, true-divides d a x, true-divides d b y)

  by : (t : Bool) → (divides (suc k) a && divides (suc k) b) ≡ t → (d ≤ k → d ≤ common_up_to k a b)
      → d ≤ cond t (suc k) (common_up_to k a b)
  by true e less = l
  by false e less = other (eqb d (suc k)) refl where
    other : (u : Bool) → eqb d (suc k) ≡ u → d ≤ common_up_to k a b
    other true f = absurd (true≢false (sym (top (eqb-true d (suc k) f)) ∙ e))
    other false f = less (omega (arith, eqb-false d (suc k) f))

-- "greatest": it divides both, and nothing greater does
pub greatest-divides : (a b : ℕ) → (greatest_common a b ∣ a) × (greatest_common a b ∣ b)
greatest-divides a b = common-divides b a b

pub greatest-most : (a b d : ℕ) → 0 < b → d ∣ a → d ∣ b → d ≤ greatest_common a b
greatest-most a b d p x y = common-most b a b d (pos_of_dvd_of_pos y p) (le_of_dvd p y) x y

-- a common divisor that every other divides is the greatest
pub greatest-IsGcd : (a b g : ℕ) → 0 < b → IsGcd a b g → (g ≡ greatest_common a b) × (0 < g)
greatest-IsGcd a b g p h =
    let k = greatest-divides a b in
    let s : 0 < g = pos_of_dvd_of_pos h.1 p in
    (le_antisymm (greatest-most a b g p h.0 h.1) (le_of_dvd s (h.2 (greatest_common a b) k.0 k.1)), s)

-- "in lowest terms": the parts have no divisor but 1 in common, and are those of the fraction, divided by one number
module _ (a b : ℕ) (p : 0 < b) where
  abbrev g : ℕ
  g = greatest_common a b

  pub terms-times : ((lowest_terms a b).above * g ≡ a) × ((lowest_terms a b).below * g ≡ b)
  unfolding lowest_terms
  terms-times =
      let h = greatest-divides a b in
      rw (ne_eqb b 0 (λ e. omega arith)) (div-mul_cancel g h.0, div-mul_cancel g h.1)

  pub terms-lowest : (d : ℕ) → d ∣ (lowest_terms a b).above → d ∣ (lowest_terms a b).below → d ≤ 1
  terms-lowest d x y =
      let t = terms-times in
      let m : d * g ≤ g = greatest-most a b (d * g) p (rw t.0 at (mul-dvd-mul_right d x g)) (rw t.1 at (mul-dvd-mul_right d y g)) in
      by (ltb 1 d) refl m where
        by : (t : Bool) → ltb 1 d ≡ t → d * g ≤ g → d ≤ 1
        by true e m = absurd (omega (arith, mul-le-mul_right g (ltb-true 1 d e), pos_of_dvd_of_pos (greatest-divides a b).1 p))
        by false e m = ltb-false 1 d e

-- 02, order 12: "0/1 for sum 0"
pub terms-zero : (n : ℕ) → 0 < n → lowest_terms 0 n ≡ record { above = 0; below = 1 }
unfolding lowest_terms
terms-zero n p =
    let g : greatest_common 0 n ≡ n =
    le_antisymm (le_of_dvd p (greatest-divides 0 n).1) (greatest-most 0 n n p (dvd-zero n) (dvd_refl n)) in
    rw (ne_eqb n 0 (λ e. omega arith), g, div_self p, zero-div)
