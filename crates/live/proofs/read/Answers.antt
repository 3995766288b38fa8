-- The register file answers; all else stays.
use mathlib.Core.Path.{refl}
use Rattle.live.specs.Live.{read_live}
use Rattle.live.proofs.Laws.{read_live_lem}
use Rattle.live.proofs.read.Goals as goal

pub returns : goal.returns
unfolding read_live
returns c =
    rw c.read-read.ensures (refl, read_live_lem c.args.live c.requires c.args.offset c.args.width)
