-- What is met and answered is what the message comes to.
use Rattle.std.proofs.Common.{◌∙◌}
use Rattle.std.proofs.lemmas.Result.{err_from_is_err_and}
use Rattle.controlq.proofs.attend.Goals as goal

pub returns-in_err-chain : goal.returns-in_err-chain
returns-in_err-chain c =
    let e = err_from_is_err_and c.from_residual.result c.from_residual.ensures.1 in
    rw (e.1, e.2) (c.in_err-chain.ensures c.args.parts)

pub returns-in_err-change : goal.returns-in_err-change
returns-in_err-change c =
    let r = c.from_residual-in_err-change in
    let e = err_from_is_err_and r.result r.ensures.1 in
    let met = c.in_ok-chain.ensures in
    rw (e.1, e.2) (λ pw cw f.
    let n = rw met.0 at (c.in_err-change.ensures pw cw f) in
    (met.2 c.args.parts pw cw ∙ n.0, n.1))
