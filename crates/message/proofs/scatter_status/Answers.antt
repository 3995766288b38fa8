-- The eight bytes are written from the last eight on.
use mathlib.Core.Path.{◌∙◌}
use Prim.Native.Nat.{◌-◌}
use lib.ListN.{drop}
use Rattle.ranges.specs.Ranges.{ranges_of, total, places}
use Rattle.message.proofs.Laws.{status-take}
use Rattle.message.proofs.scatter_status.Goals as goal

pub returns : goal.returns
returns c =
    let a = c.args in
    let rs = ranges_of a.list.now a.reply in
    c.scatter.ensures
    ∙ rw (c.last_eight.ensures, c.status_bytes-bytes.ensures, c.requires)
    (status-take a.m.now (drop (total rs - 8) (places rs)) a.code a.latency)
