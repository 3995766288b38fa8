-- The bytes inside memory are copied, and those past its end change nothing.
use Prim.Native.Nat.{◌+◌}
use Rattle.ranges.proofs.Laws.{scatter-place}
use Rattle.ranges.proofs.scatter_run.Goals as goal

pub returns : goal.returns
returns c =
    let a = c.args in
    let at = c.place-at in
    let k = c.min-k in
    rw (scatter-place a.m.now (a.start.0 + a.skip) a.n at.result k.result at.ensures k.ensures a.src.now a.from
    c.requires)
    c.copy.ensures
