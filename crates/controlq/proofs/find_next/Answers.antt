-- The tests stand in the rule's order; then what the queue's check finds decides.
use Rattle.std.specs.Prelude.{Ok, Some}
use Rattle.std.proofs.Common.{◌≡◌, ap, ℕ, true, eqb, List, length, sym, ◌∙◌, eq-eqb, ne_eqb, arith}
use Rattle.card.specs.declared.Parts.{Parts}
use Rattle.line_calls.specs.Calls.{Control}
use Rattle.live.specs.Live.{card_in}
use Rattle.meaning.specs.Card.{step_of}
use Rattle.meaning.specs.Fit.{Fits}
use Rattle.registers.specs.Rules as registers
use Rattle.controlq.specs.Control.{ordered_on, next_order}
use Rattle.controlq.proofs.Laws.{check_in, control-long, control-dead, control-idle, control-none, control-broken, control-next}
use Rattle.controlq.proofs.Laws.{broken-fits, next_head, next-broken, next-at}
use Rattle.controlq.proofs.find_next.Goals.{After-check_queue, After-next_head}
use Rattle.controlq.proofs.find_next.Goals as goal

-- the code's check is the rules', on every card with this small state
found : (c : After-check_queue) (p : Parts) (pw cw : List ℕ) → let a = c.args in
    c.check_queue.result ≡ check_in (card_in a.live p pw cw) a.m.now
found c p pw cw = rw c.queue_size-size.ensures at c.check_queue.ensures

long : (c : After-check_queue) → let a = c.args in eqb (length a.m.now) a.live.ram_len ≡ true
long c = eq-eqb _ _ c.if-m-live.false

lives : (c : After-check_queue) → registers.live c.args.live.registers ≡ true
lives c = sym c.is_live.ensures ∙ c.if-not-is_live.false

-- .. and so is the head that it reads
head-found : (c : After-next_head) (p : Parts) (pw cw : List ℕ) → let a = c.args in
    (f : Fits a.live p pw cw) → c.next_head.result ≡ next_head a.live p pw cw f a.m.now
head-found c p pw cw f = rw c.queue_size-size.ensures at c.next_head.ensures

-- past the check the next head decides
to-next : (c : After-check_queue) (n : ℕ) → c.check_queue.result ≡ Ok (Some n) → (n ≡ 0 → ⊥) → (p : Parts) (pw cw : List ℕ)
    → let a = c.args in step_of (card_in a.live p pw cw) Control a.m.now
    ≡ ordered_on (card_in a.live p pw cw) (next_order (card_in a.live p pw cw) a.m.now) a.m.now
to-next c n e some p pw cw =
    let a = c.args in
    control-next (card_in a.live p pw cw) a.m.now (long c) (lives c) n (sym (found c p pw cw) ∙ e) some

pub returns-then-m-live : goal.returns-then-m-live
returns-then-m-live c p pw cw f =
    let a = c.args in
    (control-long (card_in a.live p pw cw) a.m.now (ne_eqb _ _ c.if-m-live.true), f)

pub returns-then-not-is_live : goal.returns-then-not-is_live
returns-then-not-is_live c p pw cw f =
    let a = c.args in
    let dead = sym c.is_live.ensures ∙ c.if-not-is_live.true in
    (control-dead (card_in a.live p pw cw) a.m.now (eq-eqb _ _ c.if-m-live.false) dead, f)

pub returns-in-Ok-None : goal.returns-in-Ok-None
returns-in-Ok-None c p pw cw f =
    let a = c.args in
    let at = (goal.at.returns-in-Ok-None c).After-check_queue in (
      control-idle (card_in a.live p pw cw) a.m.now (long at) (lives at)
          (sym (found at p pw cw) ∙ c.in-Ok-None.is ∙ ap Ok c.in-Ok-None.field-0-is),
      f,
    )

pub returns-in-Ok-Some-eq0 : goal.returns-in-Ok-Some-eq0
returns-in-Ok-Some-eq0 c p pw cw f =
    let a = c.args in
    let at = (goal.at.returns-in-Ok-Some-eq0 c).After-check_queue in (
      control-none (card_in a.live p pw cw) a.m.now (long at) (lives at) c.in-Ok-Some-eq0.field-0-0
          (sym (found at p pw cw) ∙ c.in-Ok-Some-eq0.is ∙ ap Ok c.in-Ok-Some-eq0.field-0-is)
          (omega arith),
      f,
    )

pub returns-in-Err : goal.returns-in-Err
returns-in-Err c p pw cw f =
    let a = c.args in
    let at = (goal.at.returns-in-Err c).After-check_queue in (
      control-broken (card_in a.live p pw cw) a.m.now (long at) (lives at) _ (sym (found at p pw cw) ∙ c.in-Err.is),
      broken-fits a.live p pw cw f,
    )

pub returns-in-Err-next_head : goal.returns-in-Err-next_head
returns-in-Err-next_head c p pw cw f =
    let a = c.args in
    let at = goal.at.returns-in-Err-next_head c in
    let n = next-broken a.live p pw cw f a.m.now _ (sym (head-found at.After-next_head p pw cw f) ∙ c.in-Err-next_head.is) in
    (to-next at.After-check_queue _ (c.in-Ok-Some.is ∙ ap Ok c.in-Ok-Some.field-0-is) (λ z. omega arith) p pw cw ∙ n.0, n.1)

pub returns-in-Ok : goal.returns-in-Ok
returns-in-Ok c =
    let a = c.args in
    let at = goal.at.returns-in-Ok c in (
      c.if-m-live.false,
      λ p pw cw f.
          to-next at.After-check_queue _ (c.in-Ok-Some.is ∙ ap Ok c.in-Ok-Some.field-0-is) (λ z. omega arith) p pw cw
          ∙ next-at a.live p pw cw f a.m.now _ (sym (head-found at.After-next_head p pw cw f) ∙ c.in-Ok.is),
    )
