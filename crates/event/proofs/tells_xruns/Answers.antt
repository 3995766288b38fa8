-- A stream that is there is the array's, without parameters after a reset.
use mathlib.Core.Path.{◌≡◌, ◌∙◌, refl, sym}
use mathlib.Core.Bool.{Bool, true, false, cond, not, ◌&&◌}
use Prim.Native.Nat.{◌/◌, ◌%◌}
use borrow.Author.Tests.{lt-ltb, le-ltb, eq-eqb, ne_eqb}
use lib.Dec.{eqb, ltb}
use lib.ListN.{length, get_or}
use Rattle.card.specs.Card.{no_params, no_stream}
use Rattle.card.specs.declared.Params.{Params}
use Rattle.registers.specs.Rules.{has_bit}
use Rattle.rules.specs.Calls.{is_running}
use Rattle.device.specs.Device.{stream_at}
use Rattle.event.specs.Event.{rest_in}
use Rattle.event.proofs.Cards.{streams-there, stream-in}
use Rattle.event.proofs.tells_xruns.Goals.{Else-live-stream, Joined-states-at-eq-RUNNING}
use Rattle.event.proofs.tells_xruns.Goals.{then-states-at-eq-RUNNING, else-states-at-eq-RUNNING}
use Rattle.event.proofs.tells_xruns.Goals as goal

-- a stream has no parameters after a reset
kept : (running fresh : Bool) (v : Params)
    → (running && not fresh && eqb (v.features / 16 % 2) 1) ≡ (running && has_bit (cond fresh no_params v).features 4)
kept true true v = refl
kept true false v = refl
kept false fresh v = refl

-- the rule, of the arrays
told : (c : Else-live-stream) → let a = c.args in
    (eqb (get_or a.live.states a.stream 0) 3 && not a.live.fresh
    && eqb ((get_or a.parts.streams a.stream no_stream).params.features / 16 % 2) 1)
    ≡ (is_running (rest_in a.live a.parts) a.stream && has_bit (stream_at (rest_in a.live a.parts) a.stream).params.features 4)
told c =
    let a = c.args in
    let there : ltb a.stream (length (rest_in a.live a.parts).streams) ≡ true =
    rw (streams-there a.live a.parts c.requires) (lt-ltb _ _ c.if-live-stream.false) in
    rw (there, stream-in a.live a.parts c.requires a.stream c.if-live-stream.false)
    (kept (eqb (get_or a.live.states a.stream 0) 3) a.live.fresh (get_or a.parts.streams a.stream no_stream).params)

-- both tests of the small state
tested : (c : Joined-states-at-eq-RUNNING) → let a = c.args in
    c.if-states-at-eq-RUNNING.value ≡ (eqb (get_or a.live.states a.stream 0) 3 && not a.live.fresh)
tested c = elim c.if-states-at-eq-RUNNING.branch [
  | then-states-at-eq-RUNNING w ↦ rw (eq-eqb _ _ w.if-states-at-eq-RUNNING.true) w.value-is
  | else-states-at-eq-RUNNING w ↦
      rw (ne_eqb _ _ w.if-states-at-eq-RUNNING.false) (w.value-is ∙ ne_eqb _ _ w.if-states-at-eq-RUNNING.false)
]

pub returns-then-live-stream : goal.returns-then-live-stream
returns-then-live-stream c = rw (streams-there c.args.live c.args.parts c.requires, le-ltb _ _ c.if-live-stream.true)

pub returns-then-not-live : goal.returns-then-not-live
returns-then-not-live c =
    let at = goal.at.returns-then-not-live c in
    let t = sym (tested at.Joined-states-at-eq-RUNNING) ∙ c.if-not-live.true in
    rw t at (told at.Else-live-stream)

pub returns-else-not-live : goal.returns-else-not-live
returns-else-not-live c =
    let at = goal.at.returns-else-not-live c in
    let t = sym (tested at.Joined-states-at-eq-RUNNING) ∙ c.if-not-live.false in
    c.if-not-live.false ∙ rw t at (told at.Else-live-stream)
