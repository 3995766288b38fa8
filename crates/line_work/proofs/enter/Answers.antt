-- The form decides.
use Rattle.line_chains.specs.Queue.{virtqueue_of, refused_of}
use Rattle.message.specs.Message.{taking_in}
use Rattle.ring.specs.Rules.{Completion, completion}
use mathlib.Core.Path.{◌≡◌, ◌∙◌, refl, sym, ap}
use Rattle.line_work.proofs.Laws.{well-only, begun-fit, begun-read, refused-read}
use Rattle.line_work.proofs.enter.Goals as goal

pub returns-then-is_well : goal.returns-then-is_well
returns-then-is_well c =
    let a = c.args in
    let w = well-only a.chain.form (sym c.is_well.ensures ∙ c.if-is_well.true) in
    record {
      run = λ host. rw c.begin.ensures (begun-read (virtqueue_of a.q) a.list.now a.m.now host a.f a.chain w);
      message = rw c.begin.ensures (begun-fit _ _ a.chain a.f w c.requires.1);
      moved = rw c.begin.ensures;
      long = refl;
    }

pub returns : goal.returns
returns c =
    let a = c.args in
    let v = virtqueue_of a.q in
    let t = taking_in a.list.now a.chain in
    let k : Completion = refused_of v a.m.now a.f.counters.completed t in
    let e : completion c.refuse-posted.new.m c.refuse-posted.result ≡ k = c.refuse-posted.ensures in
    let em : c.refuse-posted.new.m ≡ k.memory = ap (λ (x : Completion). x.memory) e in
    let ec : c.refuse-posted.result.completed ≡ k.completed = ap (λ (x : Completion). x.completed) e in
    let ei : c.refuse-posted.result.interrupt ≡ k.interrupt = ap (λ (x : Completion). x.interrupt) e in
    record {
      run = λ host. rw (em, ec, ei)
          (refused-read v a.list.now a.m.now host a.f t c.requires.0 (sym c.is_well.ensures ∙ c.if-is_well.false));
      message = c.requires.2;
      moved = refl;
      long = c.refuse-posted.auto.m;
    }
