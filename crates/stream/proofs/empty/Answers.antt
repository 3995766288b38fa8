-- A Release with no host buffer: what it leaves is put back.
use Rattle.stream.proofs.Lent.{lent-emptied}
use Rattle.stream.proofs.empty.Goals as goal

pub returns : goal.returns
returns c =
    let a = c.args in
    rw c.with_progress.ensures
    (lent-emptied a.direction a.line a.latency a.live a.words.now a.m.now _ _ _ _ c.run-p.result c.run-p.ensures
    c.requires.1)
