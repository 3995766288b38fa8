-- A mask below 2 ^ n has at least 64 - n leading zeros, and one that is not has fewer.
use borrow.Author.Tests.{ne_eqb}
use Rattle.description.proofs.Laws.{zeros-in}
use Rattle.description.proofs.in_bits.Goals as goal

pub returns-then-mask-ne0 : goal.returns-then-mask-ne0
returns-then-mask-ne0 c = rw (ne_eqb _ _ c.if-mask-ne0.true) (zeros-in c.args.n c.args.mask c.ranges.mask.fits c.requires)
