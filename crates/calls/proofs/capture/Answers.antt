-- The small state and the words are lent; the card is put together again.
use Rattle.calls.proofs.Whole.{capture-whole}
use Rattle.calls.proofs.capture.Goals as goal

pub returns : goal.returns
returns c =
    let a = c.args in
    let e =
    capture-whole a.card c.requires _ c.of_card.ensures a.stream a.backlog a.m.now a.host.now _ _ _
    c.capture-told.result c.capture-told.auto.words c.capture-told.ensures.0 in
    rw c.joined.ensures (e.0, e.1, c.capture-told.ensures.1)
