-- As many zeros stand below the lowest bit set as its number says.
use Rattle.format_mask.proofs.Laws.{trailing-lowest}
use Rattle.format_mask.proofs.lowest.Goals as goal

pub returns : goal.returns
returns c = trailing-lowest c.args.mask
