-- Laws of comparing: the test by pairs of bytes, and what it says of the bytes.
use mathlib.Core.Path.{◌≡◌, refl, ap, subst}
use mathlib.Core.Bool.{true}
use mathlib.Core.List.{List, [], ◌∷◌, ◌++◌, append_assoc}
use Prim.Native.Nat.{ℕ, suc, ◌+◌, ◌-◌, ◌≤◌}
use native.Mathlib.Numerals.{add-one}
use native.Mathlib.Omega.{arith}
use borrow.Author.Tests.{eq-eqb, eqb-true}
use lib.Dec.{eqb}
use lib.ListN.{length, get_or, take, drop, length-append}
use lib.Seq.{drop-cons, get_or-append_seam}
use Rattle.std.specs.Cmp.Lexicographic.{pointwise}
use Rattle.wave.specs.Outcome.{holds}
use Rattle.formats.proofs.Table.{first, second}

-- a part compared byte by byte
holds-pointwise : (file : List ℕ) (at : ℕ) (s : List ℕ) → at + length s ≤ length file
    → pointwise eqb (take (length s) (drop at file)) s ≡ holds file at s
unfolding holds
holds-pointwise file at [] h = refl
holds-pointwise file at (x ∷ s) h = rw (drop-cons file at 0 (omega arith), ← (add-one at), holds-pointwise file (at + 1) s (omega arith))

pub holds-part : (file : List ℕ) (at : ℕ) (s : List ℕ) → at + length s ≤ length file
    → pointwise eqb (take (at + length s - at) (drop at file)) s ≡ holds file at s
holds-part file at s h =
    let k : at + length s - at ≡ length s = omega arith in
    rw k (holds-pointwise file at s h)

-- a list stands in itself, and where a list stands its bytes are there
pub holds-behind : (p s : List ℕ) → holds (p ++ s) (length p) s ≡ true
unfolding holds
holds-behind p [] = refl
holds-behind p (x ∷ s) =
    let e : length (p ++ (x ∷ [])) ≡ length p + 1 = length-append p (x ∷ []) in
    let h = holds-behind (p ++ (x ∷ [])) s in
    let a : p ++ (x ∷ []) ++ s ≡ p ++ (x ∷ s) = append_assoc p (x ∷ []) s in
    let long : holds (p ++ (x ∷ s)) (length (p ++ (x ∷ []))) s ≡ true =
    subst (λ (f : List ℕ). holds f (length (p ++ (x ∷ []))) s ≡ true) a h in
    let next : holds (p ++ (x ∷ s)) (length p + 1) s ≡ true = subst (λ (n : ℕ). holds (p ++ (x ∷ s)) n s ≡ true) e long in
    rw (get_or-append_seam p x s 0, eq-eqb x x refl) next

pub holds-there : (file : List ℕ) (at : ℕ) (s : List ℕ) → at + length s ≤ length file → holds file at s ≡ true
    → take (length s) (drop at file) ≡ s
unfolding holds
holds-there file at [] h t = refl
holds-there file at (x ∷ s) h t =
    let e = eqb-true (get_or file at 0) x (first (eqb (get_or file at 0) x) (holds file (at + 1) s) t) in
    let i = holds-there file (at + 1) s (omega arith) (second (eqb (get_or file at 0) x) (holds file (at + 1) s) t) in
    rw (drop-cons file at 0 (omega arith), e, ← (add-one at), i)

pub holds_of : (file : List ℕ) (at : ℕ) (s : List ℕ) → at + length s ≤ length file → take (length s) (drop at file) ≡ s
    → holds file at s ≡ true
unfolding holds
holds_of file at [] h e = refl
holds_of file at (x ∷ s) h e =
    let g : get_or file at 0 ∷ take (length s) (drop (suc at) file) ≡ x ∷ s = rw (drop-cons file at 0 (omega arith)) at e in
    let a : get_or file at 0 ≡ x = ap (λ (l : List ℕ). get_or l 0 0) g in
    let b : take (length s) (drop (at + 1) file) ≡ s = rw (add-one at) (ap (λ (l : List ℕ). drop 1 l) g) in
    rw (eq-eqb (get_or file at 0) x a, holds_of file (at + 1) s (omega arith) b)
