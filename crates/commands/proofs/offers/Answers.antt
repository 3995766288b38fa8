-- A mask has 64 bits.
use mathlib.Core.Path.{◌∙◌, sym}
use borrow.Author.Tests.{le-ltb}
use Rattle.commands.proofs.Laws.{offers-past}
use Rattle.commands.proofs.offers.Goals as goal

pub returns-else-i-lt64 : goal.returns-else-i-lt64
returns-else-i-lt64 c = le-ltb _ _ c.if-i-lt64.false ∙ sym (offers-past _ _ c.ranges.mask.fits c.if-i-lt64.false)
