-- The front is one place on.
use native.Mathlib.Omega.{arith}
use Rattle.waiting.proofs.Laws.{heads-leave, heads-none}
use Rattle.waiting.proofs.Line.leave.Goals as goal

pub returns-then-self-eq0 : goal.returns-then-self-eq0
returns-then-self-eq0 c =
    let a = c.args in
    (heads-none _ a.ring.now a.self.start a.self.count c.if-self-eq0.true, c.requires)

pub returns : goal.returns
returns c =
    let placed = c.place_behind.ensures in
    let a = c.args in
    let f = c.requires in (
      rw placed.0 (heads-leave _ a.ring.now a.self.start a.self.count (omega (arith, c.if-self-eq0.false))),
      record { front = placed.1; few = omega (arith, f.few); narrow = f.narrow },
    )
