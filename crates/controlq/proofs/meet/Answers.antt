-- The walk's outcome is the rule's; then the reply's side is judged, and the request's.
use Rattle.std.proofs.Common.{◌≡◌, ℕ, List, [], sym, refl, ap, ◌∙◌}
use Rattle.card.specs.declared.Parts.{Parts}
use Rattle.std.specs.Prelude.{Ok}
use Rattle.chain.specs.declared.Chain.{Chain}
use Rattle.chain.specs.Walk.{Outcome, faulted, walk_of, outcome_of}
use Rattle.live.specs.Live.{parts_now, card_in}
use Rattle.meaning.specs.Card.{rest_of}
use Rattle.ranges.specs.Ranges.{no_ranges, ranges_in, ranges_of, places, bytes_at}
use Rattle.registers.specs.Map.{size_of}
use Rattle.ring.specs.Rules.{base_of}
use Rattle.rules.specs.Calls.{Order, indirect}
use Rattle.rules.specs.Control.{status}
use Rattle.rules.specs.Parts.{parts_of}
use Rattle.device.specs.Device.{page_of}
use Rattle.device.specs.Numbers.{control_queue, s_bad_msg}
use Rattle.requests.proofs.Laws.{check-passed, check-failed}
use Rattle.controlq.specs.Control.{served_on, ordered_on, served_chain, walked_at}
use Rattle.controlq.proofs.Laws.{page-in, indirect-in, mute, counted-ends, chain-mute, chain-bad, chain-acted}
use Rattle.controlq.proofs.meet.Goals.{After-walk}
use Rattle.controlq.proofs.meet.Goals as goal

-- the rules' order for a chain that was walked
walked : (c : After-walk) (o : Outcome) → outcome_of c.walk.new.list c.walk.result ≡ o → (p : Parts) (pw cw : List ℕ) → let a = c.args in
    walk_of a.m.now (base_of (page_of (rest_of (card_in a.live p pw cw)) control_queue)) (size_of control_queue) a.head.0
    (indirect (rest_of (card_in a.live p pw cw))) ≡ o
walked c o e p pw cw =
    let a = c.args in
    sym (rw (
      c.address.ensures,
      c.queue_size-size.ensures,
      c.indirect.ensures,
      ← (page-in (card_in a.live p pw cw)),
      ← (indirect-in (card_in a.live p pw cw)),
    ) at c.walk.ensures.outcome) ∙ e

-- the rules' order for a chain that was walked whole
chain-at : (c : After-walk) (g : Chain) → c.walk.result ≡ Ok g → (p : Parts) (pw cw : List ℕ) → let a = c.args in
    walked_at (card_in a.live p pw cw) a.head a.m.now
    ≡ served_chain (card_in a.live p pw cw) a.head (ranges_of c.walk.new.list g.request) (ranges_of c.walk.new.list g.reply) a.m.now
chain-at c g e p pw cw = rw (walked c _ (ap (outcome_of c.walk.new.list) e) p pw cw)

pub returns-in_default : goal.returns-in_default
unfolding ranges_in
returns-in_default c p pw cw f =
    let a = c.args in
    let fault = ap (outcome_of c.walk.new.list) c.in_default.is in
    rw (walked (goal.at.returns-in_default c).After-walk (faulted c.in_default.field-0) fault p pw cw)
    (counted-ends a.live p pw cw f a.head [] no_ranges [] a.m.now _
    c.complete_mute.result (c.complete_mute.ensures ∙ mute a.live a.head [] no_ranges a.m.now))

pub returns-in_default-judge : goal.returns-in_default-judge
returns-in_default-judge c p pw cw f =
    let a = c.args in
    let ws = c.walk.new.list in
    let g = c.in-Ok.chain in
    rw (
      chain-at (goal.at.returns-in_default-judge c).After-walk g c.in-Ok.is p pw cw,
      chain-mute (card_in a.live p pw cw) a.head (ranges_of ws g.request) (ranges_of ws g.reply) a.m.now
          (check-failed _ c.in_default-judge.ensures),
    )
    (counted-ends a.live p pw cw f a.head ws g.reply [] a.m.now _ c.complete_mute-in_default-judge.result
    (c.complete_mute-in_default-judge.ensures ∙ mute a.live a.head ws g.reply a.m.now))

pub returns-in_default-judge-2 : goal.returns-in_default-judge-2
returns-in_default-judge-2 c p pw cw f =
    let a = c.args in
    let ws = c.walk.new.list in
    let g = c.in-Ok.chain in
    rw (
      chain-at (goal.at.returns-in_default-judge-2 c).After-walk g c.in-Ok.is p pw cw,
      chain-bad (card_in a.live p pw cw) a.head (ranges_of ws g.request) (ranges_of ws g.reply) a.m.now
          (check-passed _ c.in-Some.ensures)
          (check-failed _ c.in_default-judge-2.ensures),
    )
    (counted-ends a.live p pw cw f a.head ws g.reply (status s_bad_msg) a.m.now _ c.complete.result
    (rw c.pending_in-pending.ensures at c.complete.ensures))

pub returns : goal.returns
returns c =
    let a = c.args in
    let ws = c.walk.new.list in
    let g = c.in-Ok.chain in (
      refl,
      c.in-Ok.ensures.sound.request,
      λ p pw cw.
          let request = bytes_at a.m.now (places (ranges_of ws g.request)) in
          ap (λ (o : Order). ordered_on (card_in a.live p pw cw) o a.m.now)
          (chain-at (goal.at.returns c).After-walk g c.in-Ok.is p pw cw
          ∙ chain-acted (card_in a.live p pw cw) a.head (ranges_of ws g.request) (ranges_of ws g.reply) a.m.now
          (check-passed _ c.in-Some.ensures) (check-passed _ c.in-Some-judge.ensures) _
          (ap (served_on (card_in a.live p pw cw) (parts_of (parts_now a.live p)) request) c.in-Ok.ensures.sound.reply)),
    )
