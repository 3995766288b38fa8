-- Laws of lines: what stands before a byte, the first line and those behind it, and a text that begins within a line.
use mathlib.Core.Path.{◌≡◌, refl}
use mathlib.Core.List.{List, [], ◌∷◌, ◌++◌, append-nil, append_assoc}
use mathlib.Core.Bool.{Bool, true, false, cond}
use Prim.Native.Nat.{ℕ, suc, ◌+◌, ◌-◌, ◌≤◌, ◌<◌}
use native.Mathlib.Numerals.{add-one}
use native.Mathlib.Omega.{arith}
use borrow.Author.Tests.{eq-eqb, ne_eqb, ltb-true, ltb-false}
use lib.Dec.{eqb, ltb}
use lib.ListN.{length, get_or, take, drop, drop_of_length-le, length-drop}
use lib.Seq.{drop-cons, drop-drop}
use Rattle.lines.specs.Lines.{headed, lines_of, span_of, behind_of}

-- ---- a byte at a place

module _ (byte : ℕ) (s : List ℕ) (i : ℕ) where
  pub span_more : i < length s → (get_or s i 0 ≡ byte → ⊥) → i + span_of byte (drop i s) ≡ i + 1 + span_of byte (drop (i + 1) s)
  unfolding span_of
  span_more h n = rw (drop-cons s i 0 h, ne_eqb (get_or s i 0) byte n, add-one i) (omega arith)

  pub span-stop : i < length s → get_or s i 0 ≡ byte → i + span_of byte (drop i s) ≡ i
  unfolding span_of
  span-stop h e = rw (drop-cons s i 0 h, eq-eqb (get_or s i 0) byte e) (omega arith)

  pub span-past : length s ≤ i → i + span_of byte (drop i s) ≡ i
  unfolding span_of
  span-past h = rw (drop_of_length-le s h) (omega arith)

pub span-within : (byte : ℕ) (t : List ℕ) → span_of byte t ≤ length t
unfolding span_of
span-within byte [] = omega arith
span-within byte (b ∷ t) = by (eqb b byte) (span-within byte t) where
  by : (x : Bool) → span_of byte t ≤ length t → cond x 0 (suc (span_of byte t)) ≤ suc (length t)
  by true h = omega arith
  by false h = omega arith

-- ---- the first line, and those behind it

headed-cut : (b : ℕ) (t : List ℕ) → (0 < length t → lines_of t ≡ take (span_of 10 t) t ∷ lines_of (drop (suc (span_of 10 t)) t))
    → headed b (lines_of t) ≡ (b ∷ take (span_of 10 t) t) ∷ lines_of (drop (suc (span_of 10 t)) t)
unfolding lines_of span_of
headed-cut b [] h = refl
headed-cut b (c ∷ t) h = rw (h (omega arith))

lines_cut : (t : List ℕ) → 0 < length t → lines_of t ≡ take (span_of 10 t) t ∷ lines_of (drop (suc (span_of 10 t)) t)
unfolding lines_of span_of
lines_cut [] h = absurd (omega arith)
lines_cut (b ∷ t) h = by (eqb b 10) (headed-cut b t (lines_cut t)) where
  by : (x : Bool) → headed b (lines_of t) ≡ (b ∷ take (span_of 10 t) t) ∷ lines_of (drop (suc (span_of 10 t)) t)
      → cond x ([] ∷ lines_of t) (headed b (lines_of t))
      ≡ take (cond x 0 (suc (span_of 10 t))) (b ∷ t) ∷ lines_of (drop (suc (cond x 0 (suc (span_of 10 t)))) (b ∷ t))
  by true e = refl
  by false e = e

drop-behind : (s : List ℕ) (end : ℕ) → drop (behind_of (length s) end) s ≡ drop (end + 1) s
drop-behind s end = by (ltb end (length s)) refl where
  by : (x : Bool) → ltb end (length s) ≡ x → drop (cond x (end + 1) (length s)) s ≡ drop (end + 1) s
  by true e = refl
  by false e =
      rw (drop_of_length-le s {i = length s} (omega arith), drop_of_length-le s {i = end + 1} (omega (arith, ltb-false end (length s) e)))

-- the lines from a place on: the one that ends at `end`, and those behind it
pub lines_next : (s : List ℕ) (at end : ℕ) → at < length s → end ≡ at + span_of 10 (drop at s)
    → lines_of (drop at s) ≡ take (end - at) (drop at s) ∷ lines_of (drop (behind_of (length s) end) s)
lines_next s at end h e =
    let n : end - at ≡ span_of 10 (drop at s) = omega arith in
    let k : at + suc (span_of 10 (drop at s)) ≡ end + 1 = omega arith in
    rw (n, drop-behind s end, ← k, ← (drop-drop (suc (span_of 10 (drop at s))) at s))
    (lines_cut (drop at s) (rw length-drop (omega arith)))

-- the next line starts further on, and inside
pub behind-moves : (len at end : ℕ) → at < len → at ≤ end → end ≤ len → (at < behind_of len end) × (behind_of len end ≤ len)
behind-moves len at end h a b = by (ltb end len) refl where
  by : (x : Bool) → ltb end len ≡ x → (at < cond x (end + 1) len) × (cond x (end + 1) len ≤ len)
  by true e = let k = ltb-true end len e in (omega arith, omega arith)
  by false e = (h, omega arith)

-- ---- a text that begins within a line, of which p came before

abbrev pub behind_part : List ℕ → List (List ℕ) → List (List ℕ)
behind_part [] [] = []
behind_part (b ∷ p) [] = (b ∷ p) ∷ []
behind_part p (l ∷ ls) = (p ++ l) ∷ ls

pub part_none : (ls : List (List ℕ)) → behind_part [] ls ≡ ls
part_none [] = refl
part_none (l ∷ ls) = refl

-- a line feed ends the line that it is in
pub part-ended : (p t : List ℕ) (b : ℕ) → eqb b 10 ≡ true → behind_part p (lines_of (b ∷ t)) ≡ p ∷ lines_of t
unfolding lines_of
part-ended [] t b h = rw h
part-ended (c ∷ p) t b h = rw (h, append-nil)

part-headed : (p : List ℕ) (b : ℕ) (ls : List (List ℕ)) → behind_part p (headed b ls) ≡ behind_part (p ++ b ∷ []) ls
part-headed [] b [] = refl
part-headed (c ∷ p) b [] = refl
part-headed [] b (l ∷ ls) = refl
part-headed (c ∷ p) b (l ∷ ls) = rw append_assoc

-- any other byte is one more of that line
pub part-more : (p t : List ℕ) (b : ℕ) → eqb b 10 ≡ false → behind_part p (lines_of (b ∷ t)) ≡ behind_part (p ++ b ∷ []) (lines_of t)
unfolding lines_of
part-more p t b h = rw h (part-headed p b (lines_of t))
