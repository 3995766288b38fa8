-- What the line reads as says which part of the state changes, and what is printed.
use Rattle.std.proofs.Common.{◌≡◌, Option, Some, List, ℕ, ◌+◌, ◌%◌, ◌^◌, refl, sym, ap, ◌∙◌, arith}
use Rattle.decimal.proofs.Writing.{put_as, put-none}
use Rattle.replay_line.specs.Line.{line_of}
use Rattle.replay_line.specs.declared.Line.{Line}
use Rattle.replay_run.specs.Session.{world_of, described_world, world_after, text_after, step_world, step_text}
use Rattle.replay_run.specs.declared.State.{State}
use Rattle.replay_run.proofs.Laws.{numbered-as, touched-as, step-as, steps-as}
use Rattle.replay_run.proofs.State.step.Goals as goal

abbrev next : State → State
next st = record { line = (st.line + 1) % 2 ^ 64; len = st.len; powered = st.powered; described = st.described; card = st.card }

-- a line that reads so
reads : {l : Option Line} (st : State) (s ram : List ℕ) → line_of s ≡ l
    → (world_after l s (world_of (next st) ram) ≡ step_world (world_of st ram) s)
    × (text_after l s (world_of (next st) ram) ≡ step_text (world_of st ram) s)
reads st s ram h = step-as (world_of st ram) (world_of (next st) ram) s h (numbered-as st ram _ refl)

pub returns-in-None : goal.returns-in-None
returns-in-None c =
    let a = c.args in
    let d = reads a.self.now a.s.now a.ram.now (sym c.read_line.ensures ∙ c.in-None.is) in
    record {
      world = d.0;
      text = put_as d.1 c.answer.ensures.0;
      room = omega (arith, c.answer.ensures.1, c.answer.auto.out, c.requires.1);
      fit = c.requires.0;
    }

pub returns-in-Some-Skipped : goal.returns-in-Some-Skipped
returns-in-Some-Skipped c =
    let a = c.args in
    let d = reads a.self.now a.s.now a.ram.now (sym c.read_line.ensures ∙ c.in-Some-Skipped.is ∙ ap Some c.in-Some-Skipped.field-0-is) in
    record { world = d.0; text = put_as d.1 (put-none _ 0); room = omega arith; fit = c.requires.0 }

pub returns-in-Some-Described : goal.returns-in-Some-Described
returns-in-Some-Described c =
    let a = c.args in
    let d =
    reads a.self.now a.s.now a.ram.now (sym c.read_line.ensures ∙ c.in-Some-Described.is ∙ ap Some c.in-Some-Described.field-0-is) in
    record {
      world = ap (λ p. described_world p (world_of (next a.self.now) a.ram.now)) c.with_part-self.ensures ∙ d.0;
      text = put_as d.1 (put-none _ 0);
      room = omega arith;
      fit = c.requires.0;
    }

pub returns-in-Some-Power : goal.returns-in-Some-Power
returns-in-Some-Power c =
    let a = c.args in
    let d = reads a.self.now a.s.now a.ram.now (sym c.read_line.ensures ∙ c.in-Some-Power.is ∙ ap Some c.in-Some-Power.field-0-is) in
    steps-as d.0 d.1 c.power.ensures

pub returns-in-Some-Called : goal.returns-in-Some-Called
returns-in-Some-Called c =
    let a = c.args in
    let d = reads a.self.now a.s.now a.ram.now (sym c.read_line.ensures ∙ c.in-Some-Called.is ∙ ap Some c.in-Some-Called.field-0-is) in
    steps-as d.0 d.1 c.call_line.ensures

pub returns-in-Some-Lent : goal.returns-in-Some-Lent
returns-in-Some-Lent c =
    let a = c.args in
    let d = reads a.self.now a.s.now a.ram.now (sym c.read_line.ensures ∙ c.in-Some-Lent.is ∙ ap Some c.in-Some-Lent.field-0-is) in
    let t = c.touch-touched.ensures in
    record {
      world = touched-as (next a.self.now) c.in-Some-Lent.guest a.s.now a.ram.now _ _ t.len t.memory ∙ d.0;
      text = put_as d.1 t.text;
      room = t.room;
      fit = c.requires.0;
    }
