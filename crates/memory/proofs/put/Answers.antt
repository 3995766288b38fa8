-- Storing at the place is storing at the address.
use Rattle.std.proofs.Common.{◌∙◌}
use Rattle.memory.proofs.Laws.{put-place}
use Rattle.memory.proofs.put.Goals as goal

pub returns : goal.returns
returns g c = c.set.ensures ∙ rw (c.place-at.ensures, put-place)
