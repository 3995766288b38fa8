-- Refused by a check, or the queue is worked and what that leaves is put back.
use mathlib.Core.Path.{refl}
use Rattle.message.specs.declared.Direction.TheVariants.{Input}
use Rattle.pcm.proofs.Lent.{call-refused, call-worked}
use Rattle.pcm.proofs.capture.Goals as goal

pub returns-then-refused-ne0 : goal.returns-then-refused-ne0
returns-then-refused-ne0 c =
    let a = c.args in (
      rw c.untouched.ensures
          (call-refused Input a.id a.backlog a.live a.words.now a.m.now a.host.now _
          c.refusal-refused.ensures.0 c.if-refused-ne0.true),
      refl,
    )

pub returns : goal.returns
returns c =
    let a = c.args in
    let t = c.refusal-refused.ensures.1 c.if-refused-ne0.false in (
      rw c.worked.ensures
          (call-worked Input a.id a.backlog a.live a.words.now a.m.now a.host.now _ c.refusal-refused.ensures.0
          c.if-refused-ne0.false t.0 t.1 _ _ _ c.run-p.result c.run-p.ensures),
      c.run-p.ensures.read refl,
    )
