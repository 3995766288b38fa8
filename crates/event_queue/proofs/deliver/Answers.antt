-- The completion writes the event's bytes to the start of the reply.
use Rattle.event_queue.proofs.Laws.{delivered}
use Rattle.event_queue.proofs.deliver.Goals as goal

pub returns : goal.returns
returns c =
    let a = c.args in
    rw (
      c.complete.ensures,
      c.queue_size-size.ensures,
      c.bytes-bytes.ensures,
    )
    (delivered a.m.now a.page a.completed a.head _ _ _)
