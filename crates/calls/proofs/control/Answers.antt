-- All pieces are lent; the card is put together again.
use Rattle.calls.proofs.Whole.{control-whole}
use Rattle.calls.proofs.control.Goals as goal

pub returns : goal.returns
returns c =
    let a = c.args in
    rw c.joined.ensures
    (control-whole a.card c.requires _ c.of_card.ensures a.m.now _ _ _ c.control-told.result.live
    c.control-told.result.parts _ _ c.control-told.auto.play_words
    c.control-told.auto.capture_words c.control-told.ensures)
