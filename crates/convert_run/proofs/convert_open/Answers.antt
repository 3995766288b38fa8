-- A length is never answered by 30.
use Rattle.std.proofs.Common.{◌∙◌, sym}
use Rattle.std.proofs.lemmas.Result.{err_from_is_err_and}
use Rattle.convert_run.proofs.Reports.{length-answers}
use Rattle.convert_run.proofs.convert_open.Goals as goal

pub returns-in_err-length : goal.returns-in_err-length
returns-in_err-length c = λ h.
    let p = err_from_is_err_and c.from_residual.result c.from_residual.ensures.1 in
    length-answers _ _ (sym c.in_err-length.ensures.answer ∙ rw (p.1, p.2) at h)
