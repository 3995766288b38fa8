-- Arrays of a fixed length, element by element.
use mathlib.Core.Path.{◌≡◌, ◌∙◌, refl, sym}
use denote.Param.Members.{Mut}
use Prim.Native.Nat.{ℕ}
use Rattle.std.specs.Array.{IsMapOf}
use Rattle.std.specs.Fn.{Called}
use Rattle.std.proofs.lemmas.List.{same_lists, get_or-map, length-map}
use mathlib.Core.List.{List, [], ◌∷◌, map}
use native.Mathlib.Omega.{arith}
use lib.ListN.{length, get_or}

module _ {A B : Type 0} (f : A → B) (d : A) where
  pub map-of-four : (l : List A) → length l ≡ 4 → f (get_or l 0 d) ∷ f (get_or l 1 d) ∷ f (get_or l 2 d) ∷ f (get_or l 3 d) ∷ [] ≡ map f l
  map-of-four [] h = absurd (omega arith)
  map-of-four (a ∷ []) h = absurd (omega arith)
  map-of-four (a ∷ b ∷ []) h = absurd (omega arith)
  map-of-four (a ∷ b ∷ c ∷ []) h = absurd (omega arith)
  map-of-four (a ∷ b ∷ c ∷ e ∷ []) h = refl
  map-of-four (a ∷ b ∷ c ∷ e ∷ g ∷ l) h = absurd (omega arith)

  pub map-of-six : (l : List A) → length l ≡ 6
      → f (get_or l 0 d) ∷ f (get_or l 1 d) ∷ f (get_or l 2 d) ∷ f (get_or l 3 d) ∷ f (get_or l 4 d) ∷ f (get_or l 5 d) ∷ [] ≡ map f l
  map-of-six [] h = absurd (omega arith)
  map-of-six (a ∷ []) h = absurd (omega arith)
  map-of-six (a ∷ b ∷ []) h = absurd (omega arith)
  map-of-six (a ∷ b ∷ c ∷ []) h = absurd (omega arith)
  map-of-six (a ∷ b ∷ c ∷ e ∷ []) h = absurd (omega arith)
  map-of-six (a ∷ b ∷ c ∷ e ∷ g ∷ []) h = absurd (omega arith)
  map-of-six (a ∷ b ∷ c ∷ e ∷ g ∷ i ∷ []) h = refl
  map-of-six (a ∷ b ∷ c ∷ e ∷ g ∷ i ∷ k ∷ l) h = absurd (omega arith)

-- what the array method `map` gave, by what each call gave
pub mapped :
    {F A B : Type 0} {g : Mut F (A × Unit {0}) B} {f : F} {xs : List A} {ys : List B} {n : ℕ} (h : A → B) (d : A)
    → IsMapOf g f xs ys n
    → length xs ≡ n
    → ((x : A) (y : B) (p q : F) → Called g p (x, tt) y q → y ≡ h x)
    → ys ≡ map h xs
mapped {xs = xs} {ys = ys} h d m l each =
    same_lists ys (map h xs) (m.long ∙ sym (length-map xs h ∙ l))
    (λ i e b.
    let c = m.at i d e (omega (arith, m.long)) in
    each _ _ _ _ c.2 ∙ sym (get_or-map h xs i d e (omega (arith, m.long))))
