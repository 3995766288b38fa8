-- The parts are made one by one; their number was judged with the description, and owning the description tells the
-- lengths of its arrays (`good`: its fields one after the other).
use mathlib.Core.Path.{◌≡◌, refl}
use Rattle.card.proofs.Keeps.{parts-at-power-fit}
use lib.ListN.{length}
use Rattle.card.proofs.parts_at_power.Goals as goal

pub returns : goal.returns
returns c =
    let d = c.args.d in
    let from-jacks = c.well_formed.0.1.1.1.1.1.1 in
    let four-jacks : length d.jacks ≡ 4 = from-jacks.0.1.0.1 in
    let four-maps : length d.maps ≡ 4 = from-jacks.1.0.1.0.1 in
    let six-streams : length d.streams ≡ 6 = from-jacks.1.1.0.1.0.1 in
    rw (c.streams_at_power.ensures, c.jacks_at_power.ensures)
    (refl, parts-at-power-fit d c.requires four-jacks four-maps six-streams)
