-- Refused by a check, or the queue is worked and what that leaves is put back.
use mathlib.Core.Path.{◌≡◌}
use Prim.Native.Nat.{◌-◌}
use Rattle.message.specs.declared.Direction.TheVariants.{Output}
use Rattle.pcm.proofs.Lent.{call-refused, call-worked}
use native.Mathlib.Omega.{arith}
use Rattle.pcm.proofs.play.Goals as goal

pub returns-then-refused-ne0 : goal.returns-then-refused-ne0
returns-then-refused-ne0 c =
    let a = c.args in
    rw c.untouched.ensures
    (call-refused Output a.id a.backlog a.live a.words.now a.m.now a.host.now _
    c.refusal-refused.ensures.0 c.if-refused-ne0.true)

pub returns : goal.returns
returns c =
    let a = c.args in
    let t = c.refusal-refused.ensures.1 c.if-refused-ne0.false in
    let line : a.id - 0 ≡ a.id = omega arith in
    rw c.worked.ensures
    (call-worked Output a.id a.backlog a.live a.words.now a.m.now a.host.now _ c.refusal-refused.ensures.0
    c.if-refused-ne0.false t.0 t.1 _ _ _ c.run-p.result (rw line c.run-p.ensures))
