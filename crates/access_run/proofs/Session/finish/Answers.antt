-- A line of which a byte came is answered; without one there is no text.
use Rattle.std.proofs.Common.{◌≡◌, ◌≢◌, length, refl, arith, le-ltb, lt-ltb}
use Rattle.decimal.proofs.Writing.{put-none, put_as}
use Rattle.access_run.specs.Session.{rest_text}
use Rattle.access_run.proofs.Laws.{line-answer}
use Rattle.access_run.proofs.Session.finish.Goals as goal

pub returns-then-is_empty : goal.returns-then-is_empty
unfolding rest_text
returns-then-is_empty c =
    let none : length c.args.self.now.line ≡ 0 = c.is_empty.ensures.0 c.if-is_empty.true in
    rw (le-ltb 0 (length c.args.self.now.line) (omega arith)) (put-none _ _, omega arith)

pub returns : goal.returns
unfolding rest_text
returns c =
    let some : length c.args.self.now.line ≢ 0 = λ e. absurd (cc (c.is_empty.ensures.1 e, c.if-is_empty.false)) in
    rw (lt-ltb 0 (length c.args.self.now.line) (omega arith))
    (put_as (line-answer c.args.self.now _ _ _ refl refl c.acted-acted.ensures.0) c.put_answer.ensures.0, c.put_answer.ensures.1)
