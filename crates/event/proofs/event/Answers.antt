-- The tests stand in the rule's order; an event that is allowed is sent and recorded.
use mathlib.Core.Path.{◌≡◌, ◌∙◌, sym}
use mathlib.Core.Bool.{true}
use borrow.Author.Tests.{eq-eqb, ne_eqb}
use lib.Dec.{eqb}
use lib.ListN.{length}
use Rattle.live.specs.Live.{card_in}
use Rattle.registers.specs.Rules as registers
use Rattle.rules.specs.Calls.{event_allowed}
use Rattle.event.specs.Event.{rest_in}
use Rattle.event.proofs.Cards.{rest_in_lem, names-jack, event-refused, told_in}
use Rattle.event.proofs.event.Goals.{Else-not-is_allowed, Else-not-is_live}
use Rattle.event.proofs.event.Goals as goal

-- the memory has its length, the card is live, and the event allowed
long : (c : Else-not-is_live) → let a = c.args in eqb (length a.m.now) a.live.ram_len ≡ true
long c = eq-eqb _ _ c.if-m-live.false

lives : (c : Else-not-is_live) → registers.live c.args.live.registers ≡ true
lives c = sym c.is_live.ensures ∙ c.if-not-is_live.false

allowed : (c : Else-not-is_allowed) → let a = c.args in
    event_allowed (rest_in a.live a.parts) a.code a.«data» ≡ true
allowed c = sym c.is_allowed.ensures ∙ c.if-not-is_allowed.false

pub returns-then-m-live : goal.returns-then-m-live
returns-then-m-live c pw cw f =
    let a = c.args in
    rw c.refused.ensures
    (event-refused (card_in a.live a.parts pw cw) a.code a.«data» a.m.now 1 (rw (ne_eqb _ _ c.if-m-live.true)), f)

pub returns-then-not-is_live : goal.returns-then-not-is_live
returns-then-not-is_live c pw cw f =
    let a = c.args in
    rw c.refused-then-not-is_live.ensures (
      event-refused (card_in a.live a.parts pw cw) a.code a.«data» a.m.now 5
          (rw (eq-eqb _ _ c.if-m-live.false, sym c.is_live.ensures ∙ c.if-not-is_live.true)),
      f,
    )

pub returns-then-not-is_allowed : goal.returns-then-not-is_allowed
returns-then-not-is_allowed c pw cw f =
    let a = c.args in
    let no = sym c.is_allowed.ensures ∙ c.if-not-is_allowed.true in
    rw c.refused-then-not-is_allowed.ensures (
      event-refused (card_in a.live a.parts pw cw) a.code a.«data» a.m.now 7
          (rw (
            long (goal.at.returns-then-not-is_allowed c).Else-not-is_live,
            lives (goal.at.returns-then-not-is_allowed c).Else-not-is_live,
            rest_in_lem a.live a.parts pw cw,
            no,
          )),
      f,
    )

pub record_state-requires : goal.record_state-requires
record_state-requires c =
    let a = c.args in
    names-jack a.live a.parts c.requires a.code a.«data» (allowed (goal.at.record_state-requires c).Else-not-is_allowed)

pub returns : goal.returns
returns c pw cw f =
    let a = c.args in
    rw (c.record_state.ensures, c.with_attempt.ensures)
    (told_in a.live a.parts pw cw f a.code a.«data» a.m.now c.send-attempt.new.m c.send-attempt.result
    (long (goal.at.returns c).Else-not-is_live) (lives (goal.at.returns c).Else-not-is_live)
    (rw (rest_in_lem a.live a.parts pw cw) (allowed (goal.at.returns c).Else-not-is_allowed)) c.send-attempt.ensures.0
    c.send-attempt.ensures.1)
