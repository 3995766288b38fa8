-- Without a message, or out of the host's reach, nothing happens; else the message is moved, and completed where the job is done with it.
use mathlib.Core.Path.{◌≡◌, ◌∙◌, sym, refl}
use mathlib.Core.Bool.{true}
use lib.ListN.{length}
use Rattle.card.specs.Fit.{FitMessage}
use Rattle.message.specs.Message.{virtqueue_in}
use Rattle.flow.specs.Flow.{Busy, reaches_of}
use Rattle.flow.proofs.Laws.{job-idle, job-full, job-later, job-over, one_left, fit-beside}
use Rattle.flow.proofs.work.Goals.{After-move_for-g}
use Rattle.flow.proofs.work.Goals as goal

-- the message was in work, and in reach
in-work : (c : After-move_for-g) → Busy c.args.f
in-work c =
    one_left c.args.f.message.count c.requires.message.one c.if-f-eq0.false

in_reach : (c : After-move_for-g) → let a = c.args in reaches_of a.job a.f.moved (length a.host.now) ≡ true
in_reach c = sym c.reaches.ensures ∙ c.if-not-reaches.false

still-fit : (c : After-move_for-g) → FitMessage (length c.move_for-g.new.m) c.args.list.now c.move_for-g.result.message
still-fit c = let g = c.move_for-g.ensures.steps in rw g.long g.fit.message

pub returns-then-f-eq0 : goal.returns-then-f-eq0
returns-then-f-eq0 c =
    let a = c.args in
    record {
      run = sym (job-idle a.job (virtqueue_in a.q) a.list.now a.m.now a.host.now a.f c.if-f-eq0.true);
      fit = c.requires;
      long = refl;
      host-long = refl;
      read = λ e. refl;
    }

pub returns-then-not-reaches : goal.returns-then-not-reaches
returns-then-not-reaches c =
    let a = c.args in
    record {
      run = sym (job-full a.job (virtqueue_in a.q) a.list.now a.m.now a.host.now a.f
          (sym c.reaches.ensures ∙ c.if-not-reaches.true));
      fit = c.requires;
      long = refl;
      host-long = refl;
      read = λ e. refl;
    }

pub returns-then-not-is_over : goal.returns-then-not-is_over
returns-then-not-is_over c =
    let a = c.args in
    let g = c.move_for-g.ensures in
    record {
      run = job-later a.job (virtqueue_in a.q) a.list.now a.m.now a.host.now a.f
          (in_reach (goal.at.returns-then-not-is_over c).After-move_for-g) (in-work (goal.at.returns-then-not-is_over c).After-move_for-g)
          _ _
          c.move_for-g.result g.steps.run g.busy (still-fit (goal.at.returns-then-not-is_over c).After-move_for-g)
          (sym c.is_over.ensures ∙ c.if-not-is_over.true);
      fit = g.steps.fit;
      long = g.steps.long;
      host-long = g.steps.host-long;
      read = g.steps.read;
    }

pub returns : goal.returns
returns c =
    let a = c.args in
    let g = c.move_for-g.ensures in
    let t = c.end_message.ensures.steps in
    record {
      run = t.run _
          ∙ job-over a.job (virtqueue_in a.q) a.list.now a.m.now a.host.now a.f (in_reach (goal.at.returns c).After-move_for-g)
          (in-work (goal.at.returns c).After-move_for-g) _ _
          c.move_for-g.result g.steps.run g.busy (still-fit (goal.at.returns c).After-move_for-g)
          (sym c.is_over.ensures ∙ c.if-not-is_over.false);
      fit = fit-beside _ _ _ _ c.end_message.result (rw g.steps.long at t.message) t.moved g.steps.fit.inside;
      long = t.long ∙ g.steps.long;
      host-long = g.steps.host-long;
      read = g.steps.read;
    }
