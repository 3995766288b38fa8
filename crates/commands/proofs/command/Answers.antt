-- A stream that is there and a lawful transition are obeyed; else BAD_MSG.
use Rattle.std.specs.Prelude.{Option, None, Some}
use mathlib.Core.Path.{◌≡◌, sym}
use mathlib.Core.Bool.{true}
use Prim.Native.Nat.{ℕ, ◌<◌}
use lib.Dec.{ltb}
use lib.ListN.{get_or}
use Rattle.card.specs.Card.{no_stream}
use Rattle.rules.specs.Control.{word}
use Rattle.rules.specs.Lifecycle.{transition}
use Rattle.reply.proofs.Laws.{serves-same}
use Rattle.requests.proofs.Laws.{found-there, found-absent}
use Rattle.commands.proofs.Laws.{command-absent, command-led}
use Rattle.commands.proofs.command.Goals.{In-Some}
use Rattle.commands.proofs.command.Goals as goal

-- the stream that was found is there, and the one asked for
found : (c : In-Some) → let a = c.args in
    (ltb (word a.request.now 1) a.parts.stream_count ≡ true) × (c.in-Some.i ≡ word a.request.now 1) × (c.in-Some.i < a.parts.stream_count)
found c = found-there _ _ _ _ c.number.ensures c.in-Some.ensures

-- where it is led is where the one asked for is
led : (c : In-Some) (o : Option ℕ) → let a = c.args in
    transition a.asked (get_or a.parts.streams c.in-Some.i no_stream).state ≡ o
    → transition a.asked (get_or a.parts.streams (word a.request.now 1) no_stream).state ≡ o
led c o h = rw (← (found c).1) h

pub returns-in_default : goal.returns-in_default
returns-in_default c =
    let a = c.args in
    rw (command-absent a.parts c.requires a.asked a.request.now (found-absent _ _ _ c.number.ensures c.in_default.ensures))
    (serves-same _ a.pending a.parts _ _ _ _ c.requires c.answer.ensures)

pub returns-in_default-lifecycle : goal.returns-in_default-lifecycle
returns-in_default-lifecycle c =
    let a = c.args in
    let i = (goal.at.returns-in_default-lifecycle c).In-Some in
    rw (command-led a.parts c.requires a.asked a.request.now (found i).0 None (led i None (sym c.in_default-lifecycle.ensures.0)))
    (serves-same _ a.pending a.parts _ _ _ _ c.requires c.answer-in_default-lifecycle.ensures)

pub returns : goal.returns
returns c =
    let a = c.args in
    let i = (goal.at.returns c).In-Some in
    let state = c.in-Some-lifecycle.state in
    rw (
      command-led a.parts c.requires a.asked a.request.now (found i).0 (Some state)
          (led i (Some state) (sym c.in-Some-lifecycle.ensures.0)),
      ← (found i).1,
    )
    c.obey.ensures
