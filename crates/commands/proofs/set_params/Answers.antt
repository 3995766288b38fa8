-- Each check refuses with BAD_MSG; past all three the stream decides.
use mathlib.Core.Path.{◌∙◌, ap, sym}
use Rattle.rules.specs.Control.{set_params, judged_params, unpadded, sized, periodic}
use Rattle.reply.proofs.Laws.{serves-same}
use Rattle.requests.proofs.Laws.{check-passed, check-failed}
use Rattle.commands.proofs.Laws.{sized-period}
use Rattle.commands.proofs.set_params.Goals as goal

pub returns-in_default : goal.returns-in_default
unfolding set_params judged_params
returns-in_default c =
    let a = c.args in
    rw (← c.number.ensures, check-failed (unpadded c.number.result) c.in_default.ensures)
    (serves-same _ a.pending a.parts _ _ _ _ c.requires.0 c.answer.ensures)

pub returns-in_default-is_sized : goal.returns-in_default-is_sized
unfolding set_params judged_params
returns-in_default-is_sized c =
    let a = c.args in
    rw (
      ← c.number.ensures,
      check-passed (unpadded c.number.result) c.in-Some.ensures,
      ap sized (sym c.params_in-params.ensures) ∙ check-failed _ c.in_default-is_sized.ensures,
    )
    (serves-same _ a.pending a.parts _ _ _ _ c.requires.0 c.answer-in_default-is_sized.ensures)

pub is_periodic-requires : goal.is_periodic-requires
is_periodic-requires c = sized-period c.params_in-params.result (check-passed _ c.in-Some-is_sized.ensures)

pub returns-in_default-is_periodic : goal.returns-in_default-is_periodic
unfolding set_params judged_params
returns-in_default-is_periodic c =
    let a = c.args in
    rw (
      ← c.number.ensures,
      check-passed (unpadded c.number.result) c.in-Some.ensures,
      ap sized (sym c.params_in-params.ensures) ∙ check-passed _ c.in-Some-is_sized.ensures,
      ap periodic (sym c.params_in-params.ensures) ∙ check-failed _ c.in_default-is_periodic.ensures,
    )
    (serves-same _ a.pending a.parts _ _ _ _ c.requires.0 c.answer-in_default-is_periodic.ensures)

pub returns : goal.returns
unfolding set_params judged_params
returns c =
    rw (
      ← c.number.ensures,
      check-passed (unpadded c.number.result) c.in-Some.ensures,
      ap sized (sym c.params_in-params.ensures) ∙ check-passed _ c.in-Some-is_sized.ensures,
      ap periodic (sym c.params_in-params.ensures) ∙ check-passed _ c.in-Some-is_periodic.ensures,
    )
    (rw c.params_in-params.ensures at c.set_offered.ensures)
