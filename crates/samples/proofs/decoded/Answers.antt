-- The table's rule at the code, and the bits of its number.
use Rattle.std.proofs.Common.{◌≡◌, ◌∙◌, ap, get_or, pos, ℤ, w16, SFits, rules}
use Rattle.samples.specs.Values.{bits}
use Rattle.samples.proofs.Machine.{read-bits}
use Rattle.samples.proofs.decoded.Goals as goal

pub returns : goal.returns
returns c =
    let z : ℤ = get_or c.args.table.now c.args.code (pos 0) in
    let f : SFits w16 z = search rules in
    let e : c.cast_unsigned.result ≡ bits z = rw c.from.ensures at c.cast_unsigned.ensures ∙ read-bits z f in
    e ∙ ap bits (c.requires.entry c.args.code c.ranges.code.fits)
