-- Facts about lists, of positions and of a history's notes and losses.
use mathlib.Core.Path.{◌≡◌, refl, sym, ap}
use mathlib.Core.Bool.{Bool, true, false, cond, true≢false}
use mathlib.Core.List.{List, [], ◌∷◌, ◌++◌, map, append_assoc}
use Prim.Native.Nat.{ℕ, zero, suc, ◌+◌, ◌-◌, ◌≤◌, ◌<◌}
use native.Mathlib.Omega.{arith}
use borrow.Author.Tests.{eq-eqb, ne_eqb}
use lib.Dec.{eqb}
use lib.ListN.{length, take, drop, get_or, length-append, length-take, length-map}
use Rattle.ranges.specs.Ranges.{up_from}
use Rattle.ranges.proofs.Laws.{length-up_from, up_from-add}
use Rattle.device.specs.Device.{Direction, output, input}
use Rattle.device.specs.Transfer.{is_nil, bytes_moved}
use Rattle.device.specs.Histories.{Note, only, handed_of, addresses_of, lost_of, notes_of, losses_of}
use Rattle.device.proofs.Cases.{map-cond}

-- ---- lists

pub nil-true : (l : List ℕ) → is_nil l ≡ true → l ≡ []
nil-true [] e = refl
nil-true (x ∷ l) e = let z : ◌≡◌ {A = ℕ} 0 1 = ap (λ (b : Bool). cond b 1 0) e in absurd (omega arith)

pub some_of : (l : List ℕ) → is_nil l ≡ false → 0 < length l
some_of [] e = absurd (true≢false e)
some_of (x ∷ l) e = omega arith

pub nil-left : {A : Type 0} (xs ys : List A) → xs ++ ys ≡ [] → xs ≡ []
nil-left [] ys h = refl
nil-left (x ∷ xs) ys h = absurd (omega (arith, ap length h))

pub take-self : (k : ℕ) (l : List ℕ) → take (length (take k l)) l ≡ take k l
take-self zero l = refl
take-self (suc k) [] = refl
take-self (suc k) (x ∷ l) = rw (take-self k l)

pub get_d-snoc-other : {A : Type 0} (l : List A) (x : A) (i : ℕ) (d : A) → (i ≡ length l → ⊥) → get_or (l ++ x ∷ []) i d ≡ get_or l i d
get_d-snoc-other [] x zero d h = absurd (h refl)
get_d-snoc-other [] x (suc i) d h = refl
get_d-snoc-other (y ∷ l) x zero d h = refl
get_d-snoc-other (y ∷ l) x (suc i) d h = get_d-snoc-other l x i d (λ e. h (ap suc e))

-- ---- the elements with a key

pub only-append : {A : Type 0} (key val : A → ℕ) (t : ℕ) (xs ys : List A) → only key val t (xs ++ ys) ≡ only key val t xs
    ++ only key val t ys
only-append key val t [] ys = refl
only-append key val t (x ∷ xs) ys =
    rw (only-append key val t xs ys) (map-cond (λ (l : List ℕ). l ++ only key val t ys) (eqb (key x) t) (λ e. refl) (λ e. refl))

module _ (t : ℕ) where
  pub handed_of-same : (p : ℕ) (bytes xs : List ℕ) → handed_of t (notes_of t p bytes xs) ≡ up_from p (length xs)
  unfolding up_from
  handed_of-same p bytes [] = refl
  handed_of-same p bytes (x ∷ xs) = rw (eq-eqb t t refl, handed_of-same (p + 1) (drop 1 bytes) xs)

  pub addresses_of-same : (p : ℕ) (bytes xs : List ℕ) → addresses_of t (notes_of t p bytes xs) ≡ xs
  addresses_of-same p bytes [] = refl
  addresses_of-same p bytes (x ∷ xs) = rw (eq-eqb t t refl, addresses_of-same (p + 1) (drop 1 bytes) xs)

  -- the notes of another taking are none of t's
  pub notes_of-other :
      (val : Note → ℕ) (s p : ℕ) (bytes xs : List ℕ) → (t ≡ s → ⊥) → only (λ (n : Note). n.of) val t (notes_of s p bytes xs) ≡ []
  notes_of-other val s p bytes [] h = refl
  notes_of-other val s p bytes (x ∷ xs) h = rw (ne_eqb s t (λ e. h (sym e)), notes_of-other val s (p + 1) (drop 1 bytes) xs h)

  -- a byte for each address
  pub bytes-notes_of : (p : ℕ) (bytes xs : List ℕ) → length bytes ≡ length xs → map (λ (n : Note). n.byte) (notes_of t p bytes xs) ≡ bytes
  bytes-notes_of p [] [] h = refl
  bytes-notes_of p (b ∷ bytes) [] h = absurd (omega arith)
  bytes-notes_of p [] (x ∷ xs) h = absurd (omega arith)
  bytes-notes_of p (b ∷ bytes) (x ∷ xs) h = rw (bytes-notes_of (p + 1) bytes xs (omega arith))

pub lost_of-same : (t : ℕ) (ps : List ℕ) → lost_of t (losses_of t ps) ≡ ps
lost_of-same t [] = refl
lost_of-same t (p ∷ ps) = rw (eq-eqb t t refl, lost_of-same t ps)

pub lost_of-other : (t s : ℕ) (ps : List ℕ) → (t ≡ s → ⊥) → lost_of t (losses_of s ps) ≡ []
lost_of-other t s [] h = refl
lost_of-other t s (p ∷ ps) h = rw (ne_eqb s t (λ e. h (sym e)), lost_of-other t s ps h)

-- ---- positions

-- positions handed on move from those that wait to those handed
pub hand_on :
    (h : List ℕ) (k n : ℕ)
    → length h + k ≤ n
    → h ++ up_from (length h) (n - length h) ≡ up_from 0 n
    → h ++ up_from (length h) k ++ up_from (length (h ++ up_from (length h) k)) (n - length (h ++ up_from (length h) k)) ≡ up_from 0 n
hand_on h k n f e =
    let r : n - length h ≡ k + (n - (length h + k)) = omega arith in
    rw (length-append, length-up_from, append_assoc, ← up_from-add, ← r) e

-- ---- bytes moved

-- a byte is moved for each address, as far as the host has bytes
pub moved-long : (d : Direction) (xs host m : List ℕ) → length xs ≤ length host → length (bytes_moved d xs host m) ≡ length xs
moved-long output xs host m h = rw length-map
moved-long input xs host m h = rw length-take (omega arith)
