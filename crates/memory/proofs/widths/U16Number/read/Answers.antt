-- Two numbers of half the width side by side.
use Rattle.std.proofs.Common.{arith}
use Rattle.memory.proofs.Laws.{le-cat}
use Rattle.memory.proofs.widths.U16Number.read.Goals as goal

pub returns : goal.returns
returns c =
    let a = c.args in
    omega (arith, c.read.ensures, c.read-2.ensures, le-cat 1 1 a.m.now a.at)
