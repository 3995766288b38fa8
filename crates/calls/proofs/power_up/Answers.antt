-- The board is given; the words of its queues are put beside it.
use Rattle.calls.proofs.Whole.{powered-whole}
use Rattle.calls.proofs.power_up.Goals as goal

pub returns : goal.returns
returns c =
    let a = c.assembled in
    let s = c.args in
    powered-whole s.d _ c.power_up-powered.result a.result c.power_up-powered.ensures a.ensures.0 a.ensures.1
    a.ensures.2 a.ensures.3
