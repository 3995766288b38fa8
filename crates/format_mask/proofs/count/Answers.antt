-- The toolchain's count of a 64-bit number's set bits is that of its bits 0 to 63.
use Rattle.format_mask.proofs.Laws.{ones-set}
use Rattle.format_mask.proofs.count.Goals as goal

pub returns : goal.returns
returns c = ones-set c.args.mask c.ranges.mask.fits
