-- The taking and the completion are counted, the signal is given where it is asked.
use Rattle.std.proofs.Common.{refl}
use Rattle.registers.proofs.Keeps.{signalled-fit}
use Rattle.event_queue.proofs.counted.Goals.{then-posted, else-posted}
use Rattle.event_queue.proofs.counted.Goals as goal

pub returns : goal.returns
returns c =
    elim c.if-posted.branch [
      | then-posted w ↦ rw (w.result-is, w.signal.ensures, c.plain.ensures, w.if-posted.true)
          (refl, signalled-fit c.args.registers c.requires)
      | else-posted w ↦ rw (w.result-is, c.plain.ensures, w.if-posted.false) (refl, c.requires)
    ]
