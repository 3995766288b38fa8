-- The small state and the words are lent; the card is put together again.
use Rattle.calls.proofs.Whole.{play-whole}
use Rattle.calls.proofs.play.Goals as goal

pub returns : goal.returns
returns c =
    let a = c.args in
    rw c.joined.ensures
    (play-whole a.card c.requires _ c.of_card.ensures a.stream a.backlog a.m.now a.host.now _ _ _
    c.play-told.result c.play-told.auto.words c.play-told.ensures)
