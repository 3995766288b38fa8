-- The part of `head` from `at` on is compared byte by byte, as `holds` does.
use Rattle.std.proofs.Common.{◌∙◌}
use Rattle.wave.proofs.Compared.{holds-part}
use Rattle.wave.proofs.holds.Goals as goal

pub returns : goal.returns
returns c = c.eq.ensures ∙ holds-part _ _ _ c.requires
