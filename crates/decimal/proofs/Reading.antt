-- Laws of numbers by their places: digits, the number read so far, and how great a number is.
use mathlib.Core.Path.{◌≡◌, refl, ◌∙◌, ap}
use mathlib.Core.List.{List, [], ◌∷◌, foldl}
use mathlib.Core.Bool.{Bool, true, false, cond, and-eq-true_iff}
use Prim.Native.Nat.{ℕ, suc, ◌+◌, ◌-◌, ◌^◌, ◌≤◌, ◌<◌}
use native.Mathlib.Nat.{pow-suc}
use native.Mathlib.Numerals.{add-one}
use native.Mathlib.Omega.{arith}
use borrow.Author.Tests.{le-leb, lt-leb, leb-true}
use lib.Dec.{leb}
use lib.ListN.{length, get_or, drop, drop_of_length-le}
use lib.Seq.{drop-cons}
use Rattle.decimal.specs.Read.{is_digit, digits, value, one_more, number_at}
use Rattle.std.proofs.Common.{Option, Some, None}

-- ---- digits at a place

pub digit-bounds : (b : ℕ) → is_digit b ≡ true → (48 ≤ b) × (b ≤ 57)
unfolding is_digit
digit-bounds b h = let e = (and-eq-true_iff (leb 48 b) (leb b 57)).0 h in (leb-true 48 b e.0, leb-true b 57 e.1)

module _ (s : List ℕ) (i : ℕ) where
  pub digits_more : i < length s → is_digit (get_or s i 0) ≡ true → digits (drop i s) ≡ get_or s i 0 ∷ digits (drop (i + 1) s)
  unfolding digits
  digits_more h d = rw (add-one, drop-cons s i 0 h, d)

  pub digits-stop : i < length s → is_digit (get_or s i 0) ≡ false → digits (drop i s) ≡ []
  unfolding digits
  digits-stop h d = rw (drop-cons s i 0 h, d)

  pub digits-past : length s ≤ i → digits (drop i s) ≡ []
  unfolding digits
  digits-past h = rw (drop_of_length-le s h)

-- ---- how great a number is

-- more digits make no smaller number
value_grows : (v : ℕ) (ds : List ℕ) → v ≤ foldl one_more v ds
value_grows v [] = omega arith
value_grows v (b ∷ t) = omega (arith, value_grows (one_more v b) t)

-- k digits write a number below 10 ^ k
value-from : (t : List ℕ) (v k : ℕ) → v < 10 ^ k → foldl one_more v (digits t) < 10 ^ (k + length (digits t))
unfolding digits
value-from [] v k h = let e : k + 0 ≡ k = omega arith in rw e h
value-from (b ∷ t) v k h = by (is_digit b) refl (value-from t (one_more v b) (suc k)) where
  by : (d : Bool) → is_digit b ≡ d
      → (one_more v b < 10 ^ suc k → foldl one_more (one_more v b) (digits t) < 10 ^ (suc k + length (digits t)))
      → foldl one_more v (cond d (b ∷ digits t) []) < 10 ^ (k + length (cond d (b ∷ digits t) []))
  by true d more =
      let g = digit-bounds b d in
      let e : k + suc (length (digits t)) ≡ suc k + length (digits t) = omega arith in
      rw e (more (rw pow-suc (omega arith)))
  by false d more = let e : k + 0 ≡ k = omega arith in rw e h

pub value-below : (t : List ℕ) → value (digits t) < 10 ^ length (digits t)
value-below t = let e : 0 + length (digits t) ≡ length (digits t) = omega arith in rw e at (value-from t 0 0 (omega arith))

-- ---- the number at a place

none-either-way : (b : Bool) → ◌≡◌ {A = Option (ℕ × ℕ)} (cond b None None) None
none-either-way true = refl
none-either-way false = refl

module _ (s : List ℕ) (at most max : ℕ) where
  pub number-absent : digits (drop at s) ≡ [] → number_at s at most max ≡ None
  unfolding number_at
  number-absent h = rw h

  number-long : most < length (digits (drop at s)) → number_at s at most max ≡ None
  unfolding number_at
  number-long h = rw (le-leb 1 (length (digits (drop at s))) (omega arith), lt-leb (length (digits (drop at s))) most h)

  number-great : max < value (digits (drop at s)) → number_at s at most max ≡ None
  unfolding number_at
  number-great h = rw (lt-leb (value (digits (drop at s))) max h, none-either-way)

-- the digits from `at` up to `i` were read, and v is their number
pub record Reading (s : List ℕ) (at most max i v : ℕ) : Type 0 where
  pub from : at ≤ i
  pub few : i ≤ at + most
  pub fits : v ≤ max
  pub count : length (digits (drop at s)) ≡ i - at + length (digits (drop i s))
  pub number : value (digits (drop at s)) ≡ foldl one_more v (digits (drop i s))

pub reading-none : (s : List ℕ) (at most max : ℕ) → Reading s at most max at 0
reading-none s at most max =
    record { from = omega arith; few = omega arith; fits = omega arith; count = omega arith; number = refl }

module _ (s : List ℕ) (at most max i v : ℕ) (r : Reading s at most max i v) where
  pub reading-more : i < length s → i < at + most → is_digit (get_or s i 0) ≡ true → one_more v (get_or s i 0) ≤ max
      → Reading s at most max (i + 1) (one_more v (get_or s i 0))
  reading-more h k d f =
      let e = digits_more s i h d in
      record {
        from = omega arith;
        few = omega arith;
        fits = f;
        count = omega (arith, ap length e, r.count, r.from);
        number = r.number ∙ ap (foldl one_more v) e;
      }

  pub reading-done : at < length s → is_digit (get_or s at 0) ≡ true → digits (drop i s) ≡ [] → number_at s at most max ≡ Some (v, i)
  unfolding number_at
  reading-done h d e =
      let n : length (digits (drop at s)) ≡ i - at = omega (arith, ap length e, r.count) in
      let some : 1 ≤ i - at = omega (arith, ap length (digits_more s at h d)) in
      let p : at + (i - at) ≡ i = omega (arith, r.from) in
      rw (r.number, n, le-leb 1 (i - at) some, le-leb (i - at) most (omega (arith, r.few)), p, e, le-leb v max r.fits)

  pub reading-long : i < length s → is_digit (get_or s i 0) ≡ true → at + most ≤ i → number_at s at most max ≡ None
  reading-long h d k = number-long s at most max (omega (arith, ap length (digits_more s i h d), r.count))

  pub reading-great : i < length s → is_digit (get_or s i 0) ≡ true → max < one_more v (get_or s i 0) → number_at s at most max ≡ None
  reading-great h d k =
      let w = one_more v (get_or s i 0) in
      let e : value (digits (drop at s)) ≡ foldl one_more w (digits (drop (i + 1) s)) =
      r.number ∙ ap (foldl one_more v) (digits_more s i h d) in
      number-great s at most max (rw e (omega (arith, value_grows w (digits (drop (i + 1) s)))))
