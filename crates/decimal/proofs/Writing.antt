-- Laws of numbers written: how many digits, that a number is read back, and stores one behind the other.
use mathlib.Core.Path.{◌≡◌, refl, sym, ◌∙◌}
use mathlib.Core.List.{List, [], ◌∷◌, ◌++◌, foldl-append}
use mathlib.Core.Bool.{Bool, true, false, cond}
use Prim.Native.Nat.{ℕ, zero, suc, ◌+◌, ◌-◌, ◌*◌, ◌/◌, ◌%◌, ◌^◌, ◌≤◌, ◌<◌}
use native.Mathlib.Nat.{pow-suc, pow-le-pow_right}
use native.Mathlib.Numerals.{add-one}
use native.Mathlib.Omega.{arith}
use borrow.Author.Tests.{leb-true, leb-false, ltb-true, ltb-false, lt-ltb}
use lib.Dec.{leb, ltb}
use lib.ListN.{length, get_or, set, take, drop, drop_of_length-le, length-append}
use lib.Seq.{sets, sets-eq, drop-cons, take-append_seam}
use Rattle.io.specs.Digits.{IsDigitCount, last_digits}
use Rattle.decimal.specs.Read.{value, one_more}
use Rattle.decimal.specs.Write.{places, decimal_of, field_of, Put}

-- ---- how many digits

-- a power of ten in a number that is below another
power_below : (a b n : ℕ) → 10 ^ a ≤ n → n < 10 ^ b → a < b
power_below a b n h k = by (leb b a) refl where
  by : (t : Bool) → leb b a ≡ t → a < b
  by true e = absurd (omega (arith, pow-le-pow_right {n = 10} (omega arith) (leb-true b a e)))
  by false e = leb-false b a e

pub fewest-below : (k n r : ℕ) → IsDigitCount 10 1 n r → n < 10 ^ k → 1 ≤ k → r ≤ k
fewest-below k n r w h l = by (ltb 1 r) refl where
  by : (t : Bool) → ltb 1 r ≡ t → r ≤ k
  by true e = omega (arith, power_below (r - 1) k n (w.2 (ltb-true 1 r e)) h)
  by false e = omega (arith, ltb-false 1 r e)

-- the fewest digits that hold a number are as many as it has
places-of-fewest : (k n r : ℕ) → n < 10 ^ suc k → IsDigitCount 10 1 n r → places k n ≡ r
unfolding places
places-of-fewest zero n r h w = omega (arith, fewest-below 1 n r w h (omega arith), w.0)
places-of-fewest (suc k) n r h w = by (ltb n (10 ^ suc k)) refl (λ l. places-of-fewest k n r l w) where
  by : (t : Bool) → ltb n (10 ^ suc k) ≡ t → (n < 10 ^ suc k → places k n ≡ r) → cond t (places k n) (suc (suc k)) ≡ r
  by true e fewer = fewer (ltb-true n (10 ^ suc k) e)
  by false e fewer =
      omega (arith, power_below (suc k) r n (ltb-false n (10 ^ suc k) e) w.1, fewest-below (suc (suc k)) n r w h (omega arith))

places-most : (k n : ℕ) → places k n ≤ suc k
unfolding places
places-most zero n = omega arith
places-most (suc k) n = by (ltb n (10 ^ suc k)) (places-most k n) where
  by : (t : Bool) → places k n ≤ suc k → cond t (places k n) (suc (suc k)) ≤ suc (suc k)
  by true fewer = omega arith
  by false fewer = omega arith

length_last : (k n : ℕ) → length (last_digits 10 k n) ≡ k
length_last zero n = refl
length_last (suc k) n = simp length-append (omega (arith, length_last k (n / 10)))

-- whatever the number, no more than 20 digits and the byte behind them
pub field-short : (n end : ℕ) → length (field_of n end) ≤ 21
unfolding field_of decimal_of
field-short n end = simp (length-append, length_last) (omega (arith, places-most 19 n))

-- the fewest digits that hold a number are its digits
pub digits-of-fewest : (n r : ℕ) → n < 10 ^ 20 → IsDigitCount 10 1 n r → last_digits 10 r n ≡ decimal_of n
unfolding decimal_of
digits-of-fewest n r h w = rw (places-of-fewest 19 n r h w)

-- ---- a number is read back

holds-places : (k n : ℕ) → n < 10 ^ suc k → n < 10 ^ places k n
unfolding places
holds-places zero n h = h
holds-places (suc k) n h = by (ltb n (10 ^ suc k)) refl (holds-places k n) where
  by : (t : Bool) → ltb n (10 ^ suc k) ≡ t → (n < 10 ^ suc k → n < 10 ^ places k n) → n < 10 ^ cond t (places k n) (suc (suc k))
  by true e fewer = fewer (ltb-true n (10 ^ suc k) e)
  by false e fewer = h

value-last : (k n : ℕ) → n < 10 ^ k → value (last_digits 10 k n) ≡ n
value-last zero n h = omega arith
value-last (suc k) n h =
    let q : n < 10 ^ k * 10 = rw pow-suc at h in
    rw (foldl-append one_more 0 (last_digits 10 k (n / 10)), value-last k (n / 10) (omega arith), lt-ltb (n % 10) 10 (omega arith))
    (omega arith)

-- what a number is written as reads as that number
pub read_back : (n : ℕ) → n < 10 ^ 20 → value (decimal_of n) ≡ n
unfolding decimal_of
read_back n h = value-last (places 19 n) n (holds-places 19 n h)

-- ---- stores one behind the other

sets-append : (t u l : List ℕ) (i : ℕ) → sets (sets l i t) (i + length t) u ≡ sets l i (t ++ u)
sets-append [] u l i = let e : i + 0 ≡ i = omega arith in rw e
sets-append (b ∷ t) u l i =
    let e : i + suc (length t) ≡ suc i + length t = omega arith in
    rw e (sets-append t u (set l i b) (suc i))

-- what was stored at the start
taken_back : (t l : List ℕ) → length t ≤ length l → take (length t) (sets l 0 t) ≡ t
taken_back t l h = rw (sets-eq t l 0 (omega arith)) (take-append_seam t (drop (0 + length t) l))

module _ (l s : List ℕ) (i to : ℕ) where
  pub sets_more : i < length s → sets l to (drop i s) ≡ sets (set l to (get_or s i 0)) (to + 1) (drop (i + 1) s)
  sets_more h = rw (add-one i, add-one to, drop-cons s i 0 h)

  pub sets_end : length s ≤ i → sets l to (drop i s) ≡ l
  sets_end h = rw (drop_of_length-le s h)

-- one text behind another
pub put_then : {t u a b c : List ℕ} {at p q : ℕ} → Put t a at b p → Put u b p c q → Put (t ++ u) a at c q
put_then {t} {u} {a} {b} {c} {at} {p} {q} f g =
    record {
      stored = rw (g.stored, f.stored, f.behind) (sets-append t u a at);
      behind = simp length-append (omega (arith, f.behind, g.behind));
    }

-- the same text by another name
pub put_as : {t u a b : List ℕ} {at p : ℕ} → t ≡ u → Put t a at b p → Put u a at b p
put_as e f = rw e at f

-- nothing written
pub put-none : (a : List ℕ) (at : ℕ) → Put [] a at a at
put-none a at = record { stored = refl; behind = omega arith }

-- one byte
pub put_byte : (a : List ℕ) (at b : ℕ) → Put (b ∷ []) a at (set a at b) (at + 1)
put_byte a at b = record { stored = refl; behind = omega arith }

-- what was written at the start is what stands there
pub put_back : {t a b : List ℕ} {end : ℕ} → Put t a 0 b end → length t ≤ length a → take end b ≡ t
put_back {t} {a} {b} {end} f h =
    let e : end ≡ length t = omega (arith, f.behind) in
    rw (f.stored, e) (taken_back t a h)

-- a number's digits, and the byte behind them
pub put-field : (n end : ℕ) {ds a b : List ℕ} {at p : ℕ} → ds ≡ decimal_of n → Put ds a at b p
    → Put (field_of n end) a at (set b p end) (p + 1)
unfolding field_of
put-field n end {ds} {a} {b} {at} {p} d f = rw (← d) (put_then f (put_byte b p end))

-- ---- a text that is written part by part

-- with u written at the place reached, the whole text w is written
abbrev pub Rest : List ℕ → List ℕ → ℕ → List ℕ → ℕ → List ℕ → Type 0
Rest w l q a at u = Put w l q (sets a at u) (at + length u)

pub rest-first : (w l : List ℕ) (q : ℕ) → Rest w l q l q w
rest-first w l q = record { stored = refl; behind = refl }

pub rest_more : {v a b w l : List ℕ} {at p q : ℕ} (u : List ℕ) → Put v a at b p → Rest w l q a at (v ++ u) → Rest w l q b p u
rest_more {v} {a} {b} {w} {l} {at} {p} {q} u f r =
    let e : at + length (v ++ u) ≡ p + length u = simp length-append (omega (arith, f.behind)) in
    record {
      stored = rw (f.stored, f.behind, sets-append v u a at) r.stored;
      behind = sym e ∙ r.behind;
    }

pub rest-none : {w l a : List ℕ} {at q : ℕ} → Rest w l q a at [] → Put w l q a at
rest-none {w} {l} {a} {at} {q} r = record { stored = r.stored; behind = omega (arith, r.behind) }
