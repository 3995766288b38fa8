-- Only the registers change.
use Rattle.std.proofs.Common.{refl}
use Rattle.registers.proofs.Keeps.{broken-fit}
use Rattle.event_queue.proofs.halted.Goals as goal

pub returns : goal.returns
returns c =
    rw (c.break_down.ensures, c.broken_answer.ensures) (refl, broken-fit c.args.registers c.requires)
