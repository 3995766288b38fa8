-- The text is laid at the start of the buffer.
use Rattle.std.proofs.Common.{◌∙◌, arith}
use Rattle.decimal.proofs.Writing.{put_as}
use Rattle.replay_run.proofs.answer.Goals as goal

pub returns : goal.returns
returns c =
    let text = c.as_slice.ensures in
    (put_as (text.value ∙ c.answer_text-text.ensures) c.lay.ensures, omega (arith, c.lay.ensures.behind, text.most))
