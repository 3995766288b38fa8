-- The numbers stand one behind the other, the positions behind them, then zeros. Owning the map tells the length of its
-- positions (`good`: its fields one after the other).
use mathlib.Core.Path.{◌≡◌}
use lib.ListN.{length}
use Rattle.information.proofs.Laws.{map-bytes, length-map_item}
use Rattle.information.proofs.map_item.Goals.{Start}
use Rattle.information.proofs.map_item.Goals as goal

eighteen : (s : Start) → length s.args.map.positions ≡ 18
eighteen s = s.well_formed.0.1.1.1.1.1.0.1.0.1

pub returns : goal.returns
returns c = (
  rw (c.copy.ensures, c.set.ensures) (map-bytes c.args.map (eighteen (goal.at.returns c).Start)),
  length-map_item c.args.map (eighteen (goal.at.returns c).Start),
)
