-- Laws of lines: fields by their places in a line; how long a line that can be read is; and that
-- a line collected byte by byte reads as the whole line does.
use mathlib.Core.Path.{◌≡◌, refl, sym, ◌∙◌}
use mathlib.Core.List.{List, [], ◌∷◌, ◌++◌, foldl, foldl-append, append-nil, append_assoc}
use mathlib.Core.Bool.{Bool, true, false, cond, ◌&&◌, and-eq-true_iff}
use Prim.Native.Nat.{ℕ, ◌+◌, ◌^◌, ◌≤◌, ◌<◌}
use native.Mathlib.Numerals.{add-one}
use native.Mathlib.Nat.{pow-le-pow_right}
use native.Mathlib.Omega.{arith}
use borrow.Author.Tests.{le-leb, leb-true, leb-false, ltb-true, ltb-false, lt-ltb}
use lib.Dec.{eqb, leb, ltb}
use lib.ListN.{length, get_or, take, drop, length-take, length-drop, drop_of_length-le}
use lib.Seq.{drop-cons, drop-drop, take_all, take-append-le}
use Rattle.decimal.specs.Read.{digits, value, is_number, by_number, number_at, field_at}
use Rattle.decimal.proofs.Reading.{value-below}
use Rattle.access_line.specs.Line.{rest, field, at_end, read_form, write_form, line_of}
use Rattle.access_line.specs.Collect.{with_byte, collected}
use Rattle.std.proofs.Common.{length-append}
use Rattle.access_line.specs.declared.Access.{Access}
use Rattle.access_line.specs.declared.Access.TheVariants.{Read, Write}
use Rattle.std.proofs.Common.{Option, Some, None}

-- ---- numbers of at most 10 digits

-- they are no greater than the greatest
few-below : (t : List ℕ) → length (digits t) ≤ 10 → value (digits t) ≤ 9999999999
few-below t h =
    let p : 10 ^ length (digits t) ≤ 10 ^ 10 = pow-le-pow_right {n = 10} (omega arith) {i = length (digits t)} {j = 10} h in
    omega (arith, value-below t)

-- ---- a field at a place, and the line's end

-- what follows the digits at a place stands behind them
number-then : (s : List ℕ) (at : ℕ) (then : ℕ → List ℕ → Option Access) (space : Bool)
    → cond (space && is_number 10 (digits (drop at s))) (then (value (digits (drop at s))) (rest (drop at s))) None
    ≡ by_number (cond space (number_at s at 10 9999999999) None) (λ v next. then v (drop next s)) None
unfolding number_at
number-then s at then true = rw drop-drop (by (is_number 10 (digits (drop at s))) refl) where
  v : ℕ
  v = value (digits (drop at s))

  end : ℕ
  end = at + length (digits (drop at s))

  by : (b : Bool) → is_number 10 (digits (drop at s)) ≡ b → cond b (then v (drop end s)) None
      ≡ by_number (cond b (cond (leb v 9999999999) (Some (v, end)) None) None) (λ w next. then w (drop next s)) None
  by true e =
      let few = leb-true _ 10 ((and-eq-true_iff (leb 1 (length (digits (drop at s)))) _).0 e).1 in
      rw (le-leb (value (digits (drop at s))) 9999999999 (few-below (drop at s) few))
  by false e = refl
number-then s at then false = refl

field-at : (s : List ℕ) (at : ℕ) (then : ℕ → List ℕ → Option Access)
    → field (drop at s) then ≡ by_number (field_at s at 10 9999999999) (λ v next. then v (drop next s)) None
unfolding field field_at
field-at s at then = by (ltb at (length s)) refl where
  by : (b : Bool) → ltb at (length s) ≡ b
      → field (drop at s) then ≡ by_number (field_at s at 10 9999999999) (λ v next. then v (drop next s)) None
  by true h = rw (h, drop-cons s at 0 (ltb-true at (length s) h), ← (add-one at)) (number-then s (at + 1) then (eqb (get_or s at 0) 32))
  by false h = rw (drop_of_length-le s (ltb-false at (length s) h), h)

pub ended_at : (s : List ℕ) (n : ℕ) (access : Access) → at_end (drop n s) access ≡ cond (ltb n (length s)) None (Some access)
unfolding at_end
ended_at s n access = by (ltb n (length s)) refl where
  by : (b : Bool) → ltb n (length s) ≡ b → at_end (drop n s) access ≡ cond b None (Some access)
  by true h = rw (drop-cons s n 0 (ltb-true n (length s) h))
  by false h = rw (drop_of_length-le s (ltb-false n (length s) h))

not-ended-at : (s : List ℕ) (n : ℕ) (access : Access) → n < length s → at_end (drop n s) access ≡ None
not-ended-at s n access h = rw (ended_at s n access, lt-ltb n (length s) h)

-- the two forms by the places of their fields
abbrev field_by : List ℕ → ℕ → (ℕ → ℕ → Option Access) → Option Access
field_by s at then = by_number (field_at s at 10 9999999999) then None

pub read_form_is : (s : List ℕ) → read_form (drop 1 s) ≡ field_by s 1 (λ off a. field_by s a (λ w b. at_end (drop b s) (Read off w)))
unfolding read_form
read_form_is s = simp field-at

pub write_form_is : (s : List ℕ) → write_form (drop 1 s)
    ≡ field_by s 1 (λ off a. field_by s a (λ w b. field_by s b (λ v c. at_end (drop c s) (Write off w v))))
unfolding write_form
write_form_is s = simp field-at

-- ---- the letter

pub line_letter : (s : List ℕ) → line_of s
    ≡ cond (ltb 0 (length s))
    (cond (eqb (get_or s 0 0) 114) (read_form (drop 1 s)) (cond (eqb (get_or s 0 0) 119) (write_form (drop 1 s)) None)) None
unfolding line_of
line_letter [] = refl
line_letter (b ∷ t) = rw (lt-ltb 0 (length (b ∷ t)) (omega arith))

-- ---- how long a line can be

module _ (n : ℕ) (then : ℕ → List ℕ → Option Access) (short : (v : ℕ) (u : List ℕ) → n < length u → then v u ≡ None) where
  -- a space and a number take at most 11 bytes
  field-long : (t : List ℕ) → n + 11 < length t → field t then ≡ None
  unfolding field
  field-long [] h = refl
  field-long (b ∷ t) h = by (eqb b 32 && is_number 10 (digits t)) refl where
    few : (eqb b 32 && is_number 10 (digits t)) ≡ true → length (digits t) ≤ 10
    few e = leb-true (length (digits t)) 10 ((and-eq-true_iff (leb 1 (length (digits t))) _).0 ((and-eq-true_iff (eqb b 32) _).0 e).1).1

    by : (x : Bool) → (eqb b 32 && is_number 10 (digits t)) ≡ x → cond x (then (value (digits t)) (rest t)) None ≡ None
    by true e = short (value (digits t)) (rest t) (rw length-drop (omega (arith, few e)))
    by false e = refl

read-long : (t : List ℕ) → 22 < length t → read_form t ≡ None
unfolding read_form
read-long t h = field-long 11 _ (λ off u k. field-long 0 _ (λ w x j. not-ended-at x 0 _ j) u k) t h

write-long : (t : List ℕ) → 33 < length t → write_form t ≡ None
unfolding write_form
write-long t h = field-long 22 _ (λ off u k. field-long 11 _ (λ w x j. field-long 0 _ (λ v y i. not-ended-at y 0 _ i) x j) u k) t h

either : (x : Bool) (l m : Option Access) → l ≡ None → m ≡ None → cond x l m ≡ None
either true l m p q = p
either false l m p q = q

-- the longest that can be read: a letter and three fields
pub line-long : (t : List ℕ) → 34 < length t → line_of t ≡ None
unfolding line_of
line-long [] h = refl
line-long (b ∷ t) h = either (eqb b 114) _ _ (read-long t (omega arith)) (either (eqb b 119) _ _ (write-long t (omega arith)) refl)

-- ---- a line collected byte by byte

kept-with : (c : List ℕ) (b : ℕ) (t : List ℕ) → take 40 (with_byte c b ++ t) ≡ take 40 (c ++ b ∷ t)
kept-with c b t = by (ltb (length c) 40) refl where
  by : (x : Bool) → ltb (length c) 40 ≡ x → take 40 (with_byte c b ++ t) ≡ take 40 (c ++ b ∷ t)
  by true h = rw (h, append_assoc)
  by false h =
      let all : 40 ≤ length c = ltb-false (length c) 40 h in
      rw (h, take-append-le 40 c t (omega arith), take-append-le 40 c (b ∷ t) (omega arith))

short-with : (c : List ℕ) (b : ℕ) → length c ≤ 40 → length (with_byte c b) ≤ 40
short-with c b s = by (ltb (length c) 40) refl where
  by : (x : Bool) → ltb (length c) 40 ≡ x → length (with_byte c b) ≤ 40
  by true h = rw (h, length-append) (omega (arith, ltb-true (length c) 40 h))
  by false h = rw h s

kept-fold : (t c : List ℕ) → length c ≤ 40 → foldl with_byte c t ≡ take 40 (c ++ t)
kept-fold [] c s = rw (append-nil, take_all 40 c s)
kept-fold (b ∷ t) c s = kept-fold t (with_byte c b) (short-with c b s) ∙ kept-with c b t

line-cut : (t : List ℕ) → line_of (take 40 t) ≡ line_of t
line-cut t = by (leb (length t) 40) refl where
  by : (x : Bool) → leb (length t) 40 ≡ x → line_of (take 40 t) ≡ line_of t
  by true h = rw (take_all 40 t (leb-true (length t) 40 h))
  by false h =
      let k : 40 < length t = leb-false (length t) 40 h in
      line-long (take 40 t) (rw length-take (omega arith)) ∙ sym (line-long t (omega arith))

-- collecting a line and reading what was kept is reading the whole line
pub collected-reads : (t : List ℕ) → line_of (collected t) ≡ line_of t
collected-reads t = rw (kept-fold t [] (omega arith)) (line-cut t)

-- a line of which a byte came is not empty
pub collected-some : (b : ℕ) (t : List ℕ) → ltb 0 (length (collected (b ∷ t))) ≡ true
collected-some b t = rw (kept-fold (b ∷ t) [] (omega arith)) (lt-ltb 0 _ (rw length-take (omega arith)))

-- one byte more
pub collected-more : (t : List ℕ) (b : ℕ) → collected (t ++ b ∷ []) ≡ with_byte (collected t) b
collected-more t b = foldl-append with_byte [] t (b ∷ [])
