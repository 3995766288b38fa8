-- Two numbers of half the width side by side.
use Rattle.std.proofs.Common.{sym}
use Rattle.memory.proofs.Laws.{put-cat, put-low}
use Rattle.memory.proofs.widths.U32Number.write.Goals as goal

pub returns : goal.returns
returns c =
    let a = c.args in
    rw (c.write-2.ensures, c.write.ensures, put-low 2 a.m.now a.at a.self) (sym (put-cat 2 2 a.m.now a.at a.self))
