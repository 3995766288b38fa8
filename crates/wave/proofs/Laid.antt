-- Laws of bytes laid into a buffer: bytes written over a part, and two runs of bytes laid one behind the other.
use mathlib.Core.Path.{◌≡◌, ◌∙◌, refl, sym, ap}
use mathlib.Core.List.{List, ◌++◌, append_assoc}
use Prim.Native.Nat.{ℕ, ◌+◌, ◌-◌, ◌≤◌}
use native.Mathlib.Omega.{arith}
use lib.ListN.{length, take, drop, length-append}
use lib.Seq.{paste, take-length, take-paste, drop-paste, drop-drop}
use borrow.Rule.Slice.PartMut.{put_mid}
use Rattle.wave.specs.Outcome.{laid}

pub laid-pasted : (d : List ℕ) (at : ℕ) (s : List ℕ) → paste d at s (length s) ≡ laid d at s
unfolding laid
laid-pasted d at s = rw (take-length s)

-- s written over the part of its length at `at`
pub laid-part : (d : List ℕ) (at : ℕ) (s : List ℕ) → put_mid at (at + length s - at) d s ≡ laid d at s
unfolding laid
laid-part d at s =
    let k : at + length s - at ≡ length s = omega arith in
    rw (k, drop-drop (length s) at d) (sym (append_assoc (take at d) s (drop (at + length s) d)))

laid_of : (d : List ℕ) (at : ℕ) (s : List ℕ) → laid d at s ≡ take at d ++ s ++ drop (at + length s) d
unfolding laid
laid_of d at s = refl

module _ (d : List ℕ) (at : ℕ) (s : List ℕ) where
  take-laid : at ≤ length d → take (at + length s) (laid d at s) ≡ take at d ++ s
  take-laid h =
      let whole = ap (λ (l : List ℕ). take at d ++ l) (take-length s) in
      rw (← (laid-pasted d at s)) (take-paste d at s (length s) h (omega arith) ∙ whole)

  drop-laid : at ≤ length d → drop (at + length s) (laid d at s) ≡ drop (at + length s) d
  drop-laid h = rw (← (laid-pasted d at s)) (drop-paste d at s (length s) h (omega arith))

  joined : (b : ℕ) (t : List ℕ) → take b (laid d at s) ≡ take at d ++ s → drop (b + length t) (laid d at s) ≡ drop (at + length (s ++ t)) d
      → laid (laid d at s) b t ≡ laid d at (s ++ t)
  joined b t f g = laid_of (laid d at s) b t ∙ rw (f, g, append_assoc (take at d) s t) (sym (laid_of d at (s ++ t)))

  -- t behind s
  pub laid_next : (b : ℕ) (t : List ℕ) → at + length s ≡ b → b ≤ length d → laid (laid d at s) b t ≡ laid d at (s ++ t)
  laid_next b t e h =
      let l : List ℕ = laid d at s in
      let front : take b l ≡ take at d ++ s = rw (← e) (take-laid (omega arith)) in
      let rest : drop b l ≡ drop (at + length s) d = rw (← e) (drop-laid (omega arith)) in
      let far : at + length s + length t ≡ at + length (s ++ t) = rw (length-append s t) (omega arith) in
      let back : drop (b + length t) l ≡ drop (at + length (s ++ t)) d =
      sym (drop-drop (length t) b l)
      ∙ ap (λ (m : List ℕ). drop (length t) m) rest
      ∙ drop-drop (length t) (at + length s) d
      ∙ ap (λ (k : ℕ). drop k d) far in
      joined b t front back
