-- Where the call stands, and the head, decide.
use Rattle.std.specs.Prelude.{None}
use Rattle.line_chains.specs.Queue.{virtqueue_of}
use Rattle.queue_lines.specs.Chains.{queue_size}
use Rattle.ring.specs.Rules.{head_of}
use Rattle.std.proofs.Common.{◌≡◌, sym, refl, ◌∙◌}
use Rattle.line_taking.proofs.Laws.{next-none, next-taken, next-broken}
use Rattle.line_taking.proofs.take_next.Goals.{After-next_head}
use Rattle.line_taking.proofs.take_next.Goals as goal

goes : (c : After-next_head) → c.args.p.stop ≡ None
goes c = c.in-None.is

-- the code's head is the rules'
head-found : (c : After-next_head) → let a = c.args in
    c.next_head.result ≡ head_of a.m.now a.q.queue.page (queue_size (virtqueue_of a.q)) a.p.counters.taken
head-found c = rw (← c.queue_size-size.ensures) c.next_head.ensures

pub returns-in_default : goal.returns-in_default
returns-in_default c =
    let a = c.args in
    record {
      run = λ host. next-none (virtqueue_of a.q) a.words.now a.m.now host a.p (rw c.in_default.is);
      fit = c.requires.0;
      moved = refl;
      long = refl;
    }

pub returns-in-Err : goal.returns-in-Err
returns-in-Err c =
    let a = c.args in
    record {
      run = λ host. rw c.halt.ensures
          (next-broken (virtqueue_of a.q) a.words.now a.m.now host a.p (goes (goal.at.returns-in-Err c).After-next_head) _
          (sym (head-found (goal.at.returns-in-Err c).After-next_head) ∙ c.in-Err.is));
      fit = c.requires.0;
      moved = rw c.halt.ensures;
      long = refl;
    }

pub returns-in-Ok : goal.returns-in-Ok
returns-in-Ok c =
    let a = c.args in
    let t = c.take.ensures in
    record {
      run = λ host. t.run host
          ∙ sym (next-taken (virtqueue_of a.q) a.words.now a.m.now host a.p (goes (goal.at.returns-in-Ok c).After-next_head) _
          (sym (head-found (goal.at.returns-in-Ok c).After-next_head) ∙ c.in-Ok.is));
      fit = t.fit;
      moved = t.moved;
      long = t.long;
    }
