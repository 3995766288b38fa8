-- Where the first range has four bytes they are the number at its address.
use native.Mathlib.Nat.{add-zero}
use native.Mathlib.Omega.{arith}
use Rattle.ranges.proofs.Laws.{ranges_in-more}
use Rattle.message.proofs.Laws.{id-first}
use Prim.Native.Nat.{◌-◌}
use Rattle.message.proofs.stream_id.Goals as goal

pub returns : goal.returns
returns c =
    let a = c.args in
    let n = a.request.count in
    rw (
      c.get.ensures,
      add-zero,
      ranges_in-more a.list.now a.request.first n (n - 1) (omega arith),
      ← c.range_at-range.ensures,
      id-first a.m.now c.range_at-range.result _ (omega arith),
    )
