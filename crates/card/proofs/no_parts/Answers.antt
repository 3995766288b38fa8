-- Every part is empty.
use mathlib.Core.Path.{refl}
use Rattle.card.proofs.Keeps.{no-parts-fit}
use Rattle.card.proofs.no_parts.Goals as goal

pub returns : goal.returns
returns c = rw (c.fresh.ensures, c.jack_at_power.ensures) (refl, no-parts-fit)
