-- At the end nothing more was taken than the block.
use Rattle.std.proofs.Common.{List, ℕ, [], Option, append-nil, subst}
use Rattle.std.specs.Io.KnownBytes.{Consumes}
use Rattle.std.proofs.KnownBytes.{Consumes-trans}
use Rattle.std.proofs.lemmas.Result.{on_ok_weaker}
use Rattle.files.proofs.read_block.Goals as goal

none_more : (a b c : Option (List ℕ)) (read : List ℕ) → Consumes a b read → Consumes b c [] → Consumes a c read
none_more a b c read p q = subst (Consumes a c) (append-nil read) (Consumes-trans a b c read [] p q)

pub returns-then-count-block-clause-bytes : goal.returns-then-count-block-clause-bytes
returns-then-count-block-clause-bytes g c =
    on_ok_weaker c.at_end-sound.result (none_more _ _ _ _ c.read_full-count.ensures.bytes) c.at_end-sound.ensures.none
