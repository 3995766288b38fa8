-- Nothing is written to the reply.
use Rattle.event_queue.proofs.Laws.{passed_over}
use Rattle.event_queue.proofs.pass_over.Goals as goal

pub returns : goal.returns
returns c =
    let a = c.args in
    rw (c.post.ensures, c.queue_size-size.ensures)
    (passed_over a.m.now a.page a.completed a.head)
