-- Eight bytes are four and, 2 ^ 32 times as much, the next four.
use Rattle.latency_tally.proofs.Laws.{le-halves}
use Rattle.latency_tally.proofs.first_number.Goals as goal

pub returns : goal.returns
returns c = rw (c.from.ensures, c.from-2.ensures, c.number.ensures, c.number-2.ensures) (le-halves c.args.s.now 0)
