-- What is left of the loop, run on the state now, is the whole loop run on the first state.
use Prim.Native.Nat.{ℕ, ◌+◌, ◌-◌}
use Rattle.line_chains.specs.Queue.{virtqueue_of}
use Rattle.line_work.specs.Work.{job_step}
use Rattle.queue_lines.proofs.Lists.{times_none, times_more}
use Rattle.queue_lines.specs.Rules.{times}
use mathlib.Core.Path.{◌∙◌, sym, ap}
use native.Mathlib.Omega.{arith}
use Rattle.line_work.proofs.Laws.{turn_up, turn-none, aside-both}
use Rattle.line_work.specs.declared.Front.{Front}
use Rattle.line_work.proofs.work_line.Goals as goal

-- a turn for each message in work or in line
abbrev turns : Front → ℕ
turns front = front.flow.message.count + front.line.count

pub returns-then-not-reaches : goal.returns-then-not-reaches
returns-then-not-reaches c =
    let l = c.loop in
    let a = c.args in
    record {
      run = λ lines there. turn-none (virtqueue_of a.q) a.line a.job l.slot l.m l.host l.at lines there (turns c.args.front - l.counter)
          (sym c.reaches.ensures ∙ c.if-not-reaches.true)
          ∙ l.invariant.0 lines there;
      fit = l.invariant.1;
      long = l.invariant.2;
      host-long = l.invariant.3;
      aside = l.invariant.4;
      read = l.invariant.5;
    }

pub loop-preserved : goal.loop-preserved
loop-preserved c =
    let l = c.loop in
    let a = c.args in
    let v = virtqueue_of a.q in
    let e = c.open_front-at.ensures in
    let t = c.work-at.ensures in (
      λ lines there. ap (times (job_step a.job v a.line) (turns c.args.front - (l.counter + 1)))
          (turn_up v a.line a.job l.slot l.m l.host l.at lines there
          c.open_front-at.new.slot c.open_front-at.new.m c.open_front-at.result
          c.work-at.new.m c.work-at.new.host c.work-at.result
          (sym c.reaches.ensures ∙ c.if-not-reaches.false) (e.run l.host) t.run)
          ∙ sym (times_more (job_step a.job v a.line) (turns c.args.front - l.counter) (turns c.args.front - (l.counter + 1)) _
          (omega arith))
          ∙ l.invariant.0 lines there,
      record { flow = rw (e.long, l.invariant.2, l.invariant.3) at t.fit; line = rw e.aside.ring e.line },
      t.long ∙ e.long ∙ l.invariant.2,
      t.host-long ∙ l.invariant.3,
      aside-both _ _ _ l.invariant.4 e.aside,
      λ d. t.read d ∙ l.invariant.5 d,
    )

pub returns : goal.returns
returns c =
    let l = c.loop in
    let a = c.args in
    record {
      run = λ lines there. sym (times_none (job_step a.job (virtqueue_of a.q) a.line) (turns c.args.front - l.counter) _ (omega arith))
          ∙ l.invariant.0 lines there;
      fit = l.invariant.1;
      long = l.invariant.2;
      host-long = l.invariant.3;
      aside = l.invariant.4;
      read = l.invariant.5;
    }
