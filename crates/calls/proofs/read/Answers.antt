-- The small state is taken from the card, and the card put together again.
use Rattle.calls.proofs.Whole.{read_whole}
use Rattle.calls.proofs.read.Goals as goal

pub returns : goal.returns
returns c =
    rw c.joined.ensures
    (read_whole c.args.card c.requires _ c.of_card.ensures _ _ c.read-after.result c.read-after.ensures.0)
