-- The bytes inside memory are copied, and zeros stand for those past its end.
use Prim.Native.Nat.{◌+◌}
use Rattle.ranges.proofs.Laws.{gather-place}
use Rattle.ranges.proofs.gather_run.Goals as goal

pub returns : goal.returns
returns c =
    let a = c.args in
    let from = c.place-from in
    let k = c.min-k in
    rw (
      gather-place a.m.now (a.start.0 + a.skip) a.n from.result k.result from.ensures k.ensures a.dst.now a.at,
      ← c.copy.ensures,
    )
    c.clear.ensures
