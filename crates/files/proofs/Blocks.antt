-- A file handed on block by block: no block yet, and one more.
use Rattle.std.proofs.Common.{◌≡◌, ℕ, ◌+◌, List, [], ◌∷◌, ◌++◌, Option, Result, Ok, length}
use Rattle.std.proofs.Common.{refl, sym, ap, subst, ◌∙◌, append-nil, length-append}
use Rattle.std.specs.Borrow.{Bor}
use Rattle.std.specs.Fn.{Mut, CalledAt}
use Rattle.std.specs.Io.KnownBytes.{Consumes}
use Rattle.std.specs.List.{concat}
use Rattle.std.proofs.KnownBytes.{Consumes-nil, Consumes-trans}
use Rattle.std.proofs.lemmas.Fn.{FoldsTo-push}
use Rattle.std.proofs.lemmas.List.Folds.{concat-append}
use Rattle.files.specs.Blocks.{HandedOn}

module _ {F E : Type 0} (take : Mut F (Bor (List ℕ) × Unit {0}) (Result (Unit {0}) E)) where
  pub none_handed : (p : F) (a : Option (List ℕ)) → HandedOn take p p a a 0
  none_handed p a = record { blocks = []; calls = refl; joined = Consumes-nil a; counted = refl }

  pub one_more : (p q u : F) (a b c : Option (List ℕ)) (n m : ℕ) (block : List ℕ) → HandedOn take p q a b n
      → CalledAt take q block (Ok tt) u → Consumes b c block → m ≡ n + length block → HandedOn take p u a c m
  one_more p q u a b c n m block h call read long =
      let joined : concat (h.blocks ++ block ∷ []) ≡ concat h.blocks ++ block =
      concat-append h.blocks (block ∷ []) ∙ ap (λ l. concat h.blocks ++ l) (append-nil block) in
      record {
        blocks = h.blocks ++ block ∷ [];
        calls = FoldsTo-push (λ s block t. CalledAt take s block (Ok tt) t) p h.blocks q block u h.calls call;
        joined = subst (Consumes a c) (sym joined) (Consumes-trans a b c _ _ h.joined read);
        counted = long ∙ ap (λ k. k + length block) h.counted ∙ sym (length-append (concat h.blocks) block) ∙ ap length (sym joined);
      }
