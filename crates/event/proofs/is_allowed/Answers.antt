-- An event of a jack may be sent where the jack is.
use native.Mathlib.Omega.{arith}
use Rattle.event.specs.Event.{rest_in}
use Rattle.event.proofs.Cards.{jacks-there, allowed-jacks}
use Rattle.event.proofs.is_allowed.Goals as goal

pub returns-in-4096 : goal.returns-in-4096
returns-in-4096 c =
    let a = c.args in
    let e = a.event in
    rw (allowed-jacks (rest_in a.live a.parts) e.code e.«data» (omega arith) (omega arith), jacks-there a.live a.parts c.requires)
