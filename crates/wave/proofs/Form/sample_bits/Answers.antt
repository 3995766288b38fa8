-- The table's four widths are at most 32.
use Rattle.std.proofs.Common.{◌∙◌, ap}
use Rattle.formats.specs.Widths.{physical_bits}
use Rattle.wave.proofs.Lists.{bits-bound}
use Rattle.wave.proofs.Form.sample_bits.Goals as goal

pub returns : goal.returns
returns c =
    let e = c.from.ensures ∙ c.physical_bits.ensures ∙ ap physical_bits c.listed_format.ensures in
    (e, rw e (bits-bound _))
