-- The reply's bytes, then the used entry over the memory that they leave.
use Rattle.std.proofs.Common.{◌∙◌}
use Rattle.ring.specs.Rules.{completed_of}
use Rattle.ring.proofs.complete.Goals as goal

pub returns : goal.returns
unfolding completed_of
returns c = c.post.ensures ∙ rw c.scatter.ensures
