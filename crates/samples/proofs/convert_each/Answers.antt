-- Each turn writes the bits of one more sample, as `written` does (`Going`).
use Rattle.std.proofs.Common.{refl}
use Rattle.samples.proofs.Going.{going-first, going_on, going-last}
use Rattle.samples.proofs.convert_each.Goals as goal

pub loop-i-init : goal.loop-i-init
loop-i-init g c = λ d from h. going-first _ _ _ _

pub loop-i-preserved : goal.loop-i-preserved
loop-i-preserved g c = λ d from h.
    let e = h c.loop-i.i c.index-samples-i.result c.convert.result c.loop-i-test.true c.index-samples-i.is
    (record { shown = _; shows = refl; says = record { met = c.convert.ensures } }) in
    rw c.store.ensures (going_on _ _ _ _ _ _ (c.loop-i.invariant d from h) _ c.loop-i-test.true e)

pub returns : goal.returns
returns g c = λ d from h. going-last _ _ _ _ _ _ (c.loop-i.invariant d from h) c.loop-i-test.false
