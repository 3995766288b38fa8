-- The queue is that of the small state; its lines stand in its words, or are cleared first.
use Rattle.stream.proofs.Lent.{own-lines, runs_by}
use Rattle.stream.proofs.run.Goals as goal

pub run-requires : goal.run-requires
run-requires c =
    let a = c.args in (
      own-lines a.direction a.latency a.live a.words.now _ _ _ _ c.queue_of-q.ensures
          c.counters_of-counters.ensures c.is_dropped.ensures c.settle.ensures _ c.requires.0 c.requires.1,
      rw c.queue_of-q.ensures c.requires.2,
    )

pub returns : goal.returns
returns c =
    let a = c.args in
    runs_by a.direction a.latency a.live a.words.now _ _ _ _ c.queue_of-q.ensures c.counters_of-counters.ensures
    c.is_dropped.ensures c.settle.ensures a.line a.job _ _ _ _ _ c.run.result c.run.ensures
