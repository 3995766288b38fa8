-- The small state is taken from the card, and the card put together again.
use Rattle.calls.proofs.Whole.{write-whole}
use Rattle.calls.proofs.write.Goals as goal

pub returns : goal.returns
returns c =
    rw c.joined.ensures
    (write-whole c.args.card c.requires _ c.of_card.ensures _ _ _ c.write-after.result c.write-after.ensures.0)
