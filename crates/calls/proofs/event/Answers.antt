-- The small state and the parts are passed; the card is put together again.
use Rattle.calls.proofs.Whole.{event-whole}
use Rattle.calls.proofs.event.Goals as goal

pub returns : goal.returns
returns c =
    let a = c.args in
    rw c.joined.ensures
    (event-whole a.card c.requires _ c.of_card.ensures a.code a.data a.m.now _ c.event-told.result c.event-told.ensures)
