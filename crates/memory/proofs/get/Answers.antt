-- Reading at the place is reading at the address.
use Rattle.std.proofs.Common.{◌∙◌}
use Rattle.memory.proofs.Laws.{le-place}
use Rattle.memory.proofs.get.Goals as goal

pub returns : goal.returns
returns g c = c.number.ensures ∙ rw (c.place.ensures, le-place)
