-- A file handed on block by block.
use Rattle.std.specs.Prelude.{◌≡◌, ℕ, List, Option, Result, Ok, length}
use Rattle.std.specs.Borrow.{Bor}
use Rattle.std.specs.Fn.{Mut, CalledAt}
use Rattle.std.specs.Io.KnownBytes.{Consumes}
use Rattle.std.specs.List.{FoldsTo, concat}

-- the calls of `take` from one state to another, one at each block in order, each answering Ok; the blocks joined are what the file gave,
-- n bytes
pub record HandedOn {F E : Type 0} (take : Mut F (Bor (List ℕ) × Unit {0}) (Result (Unit {0}) E)) (first last : F)
    (old new : Option (List ℕ)) (n : ℕ) : Type 0 where
  pub blocks : List (List ℕ)
  pub calls : FoldsTo (λ p block q. CalledAt take p block (Ok tt) q) first blocks last
  pub joined : Consumes old new (concat blocks)
  pub counted : n ≡ length (concat blocks)
