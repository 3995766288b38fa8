-- The last range has the last eight bytes; else they are scattered.
use mathlib.Core.Path.{◌∙◌}
use native.Mathlib.Omega.{arith}
use Rattle.message.proofs.Laws.{status-last}
use Rattle.message.proofs.put_status.Goals as goal

pub returns : goal.returns
returns c =
    let a = c.args in
    c.put-2.ensures
    ∙ rw c.put.ensures (status-last a.m.now a.list.now a.reply.first a.reply.count
    c.range_at-last.result a.code a.latency (omega arith) c.range_at-last.ensures (omega arith))
