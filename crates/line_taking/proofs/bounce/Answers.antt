-- One completion, whose counters and interrupt the progress takes over.
use Rattle.line_chains.specs.Queue.{virtqueue_of, refused_of}
use Rattle.message.specs.Message.{taking_in}
use Rattle.ring.specs.Rules.{Completion, completion}
use Rattle.std.proofs.Common.{◌≡◌, refl, ap}
use Rattle.line_taking.proofs.Laws.{bounced-run}
use Rattle.line_taking.proofs.bounce.Goals as goal

pub returns : goal.returns
returns c =
    let a = c.args in
    let v = virtqueue_of a.q in
    let t = taking_in a.list.now a.chain in
    let k : Completion = refused_of v a.m.now a.p.counters.completed t in
    let e : completion c.refuse-posted.new.m c.refuse-posted.result ≡ k = c.refuse-posted.ensures in
    let em : c.refuse-posted.new.m ≡ k.memory = ap (λ (x : Completion). x.memory) e in
    let ec : c.refuse-posted.result.completed ≡ k.completed = ap (λ (x : Completion). x.completed) e in
    let ei : c.refuse-posted.result.interrupt ≡ k.interrupt = ap (λ (x : Completion). x.interrupt) e in
    record {
      run = λ host. rw (em, ec, ei)
          (bounced-run v a.words.now a.m.now host a.p a.chain.head.0 t);
      fit = c.requires.1;
      moved = refl;
      long = c.refuse-posted.auto.m;
    }
