-- Three fields, one behind the other.
use Rattle.std.proofs.Common.{arith}
use Rattle.decimal.proofs.Writing.{put_then}
use Rattle.access_run.specs.Answers.{answer_text}
use Rattle.access_run.proofs.put_answer.Goals as goal

pub returns : goal.returns
unfolding answer_text
returns c = (
  put_then (put_then c.put-numbered.ensures.0 c.put-answered.ensures.0) c.put.ensures.0,
  omega (arith, c.put-numbered.ensures.1, c.put-answered.ensures.1, c.put.ensures.1),
)
