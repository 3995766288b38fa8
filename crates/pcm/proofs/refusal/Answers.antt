-- The tests stand in the definition's order.
use mathlib.Core.Path.{◌≡◌, ◌∙◌, refl, sym}
use mathlib.Core.Bool.{Bool, true, false, cond}
use mathlib.Core.List.{List}
use Prim.Native.Nat.{ℕ}
use native.Mathlib.Omega.{arith}
use borrow.Author.Tests.{eq-eqb, ne_eqb}
use lib.Dec.{eqb}
use lib.ListN.{length}
use Rattle.registers.specs.Answers.{done, length_differs, not_live, not_running}
use Rattle.registers.specs.Rules.{live}
use Rattle.live.specs.Live.{card_in}
use Rattle.meaning.specs.Card.{rest_of}
use Rattle.message.specs.Message.{direction_of}
use Rattle.device.specs.Device as rules
use Rattle.line_calls.specs.Calls.{runs_on}
use Rattle.line_calls.specs.Streams.{streams_in}
use Rattle.card.specs.declared.Card.{Card}
use Rattle.pcm.specs.Entry.{refusal_of}
use Rattle.pcm.proofs.refusal.Goals as goal

-- the answer by the three tests
by_tests : (c : Card) (d : rules.Direction) (m : List ℕ) (len id : ℕ) (x y z : Bool) → length m ≡ len → eqb len c.ram_len ≡ x
    → live c.registers ≡ y → runs_on (streams_in c.parts) (rest_of c) d id ≡ z
    → cond x (cond y (cond z done not_running) not_live) length_differs ≡ refusal_of c d id m
unfolding refusal_of rest_of
by_tests c d m len id x y z l e f g = rw (l, e, f, g)

pub returns-then-len-live : goal.returns-then-len-live
returns-then-len-live c =
    let a = c.args in
    let d = direction_of a.direction in (
      λ p pw cw m f l.
          by_tests (card_in a.live p pw cw) d m a.len a.id false _ _ l (ne_eqb _ _ c.if-len-live.true) refl refl,
      λ e. absurd (omega (arith, e)),
    )

pub returns-then-not-is_live : goal.returns-then-not-is_live
returns-then-not-is_live c =
    let a = c.args in
    let d = direction_of a.direction in (
      λ p pw cw m f l.
          by_tests (card_in a.live p pw cw) d m a.len a.id true false _ l (eq-eqb _ _ c.if-len-live.false)
          (sym c.is_live.ensures ∙ c.if-not-is_live.true) refl,
      λ e. absurd (omega (arith, e)),
    )

pub returns-then-is_running : goal.returns-then-is_running
returns-then-is_running c =
    let a = c.args in
    let d = direction_of a.direction in (
      λ p pw cw m f l.
          by_tests (card_in a.live p pw cw) d m a.len a.id true true true l (eq-eqb _ _ c.if-len-live.false)
          (sym c.is_live.ensures ∙ c.if-not-is_live.false)
          (sym (c.is_running.ensures.0 p pw cw f) ∙ c.if-is_running.true),
      λ e. let k = c.is_running.ensures.1 c.if-is_running.true in (c.if-len-live.false, k.0, k.1),
    )

pub returns-else-is_running : goal.returns-else-is_running
returns-else-is_running c =
    let a = c.args in
    let d = direction_of a.direction in (
      λ p pw cw m f l.
          by_tests (card_in a.live p pw cw) d m a.len a.id true true false l (eq-eqb _ _ c.if-len-live.false)
          (sym c.is_live.ensures ∙ c.if-not-is_live.false)
          (sym (c.is_running.ensures.0 p pw cw f) ∙ c.if-is_running.false),
      λ e. absurd (omega (arith, e)),
    )
