use Rattle.std.proofs.Common.{arith, length-append}
use Rattle.text.proofs.Laws.{kept_put, padded_put, room}
use Rattle.decimal.proofs.Writing.{field-short}
use Rattle.text.proofs.Text.push_number.Goals as goal

pub invariant_of-self : goal.invariant_of-self
invariant_of-self g c = padded_put c.put-self-inside.ensures.0
    (room _ _ _ c.self.view_is c.self.invariant.fits c.self.told (omega (arith, c.requires, field-short c.args.n c.args.end)))
    c.self.invariant

pub returns-clause-value : goal.returns-clause-value
returns-clause-value g c = rw (← c.self.view_is) (kept_put c.put-self-inside.ensures.0
    (room _ _ _ c.self.view_is c.self.invariant.fits c.self.told (omega (arith, c.requires, field-short c.args.n c.args.end))))

pub returns-clause-longer : goal.returns-clause-longer
returns-clause-longer g c =
    let p = kept_put c.put-self-inside.ensures.0
    (room _ _ _ c.self.view_is c.self.invariant.fits c.self.told (omega (arith, c.requires, field-short c.args.n c.args.end))) in
    rw (← c.self.view_is, p, length-append) (omega (arith, field-short c.args.n c.args.end))
