-- The description is lawful, so power-up makes its board.
use Rattle.card.specs.Rules.{powered_of}
use Rattle.live.specs.Live.{powered_board}
use Rattle.access_run.proofs.Laws.{panel-lawful}
use Rattle.access_run.proofs.Session.first.Goals as goal

pub returns : goal.returns
unfolding powered_board powered_of
returns c =
    let p = c.power_up.ensures in
    (rw (c.new.ensures, p.0, c.description.ensures, panel-lawful), p.1.live)
