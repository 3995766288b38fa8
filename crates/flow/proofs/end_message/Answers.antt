-- One completion, whose counters and interrupt the flow takes over.
use Rattle.std.specs.Prelude.{Some}
use mathlib.Core.Path.{◌≡◌, refl, ap}
use Rattle.message.specs.Message.{virtqueue_in, direction_of, answered_of}
use Rattle.ranges.specs.Ranges.{ranges_of}
use Rattle.ring.specs.Rules.{Completion, completion}
use Rattle.card.proofs.Keeps.{no-message-fit}
use Rattle.flow.specs.Flow.{ending_of}
use Rattle.flow.proofs.Laws.{ended-run}
use Rattle.flow.proofs.end_message.Goals as goal

pub returns : goal.returns
returns c =
    let a = c.args in
    let f = a.f in
    let code = c.status_of-code.result in
    let k : Completion =
    answered_of (direction_of a.q.direction) a.m.now a.q.page f.counters.completed f.message.head.0
    (ranges_of a.list.now f.message.reply) (Some code) a.q.latency f.message.done in
    let e : completion c.answer-posted.new.m c.answer-posted.result
    ≡ k = c.answer-posted.ensures in
    let em : c.answer-posted.new.m ≡ k.memory = ap (λ (x : Completion). x.memory) e in
    let ec : c.answer-posted.result.completed ≡ k.completed = ap (λ (x : Completion). x.completed) e in
    let ei : c.answer-posted.result.interrupt ≡ k.interrupt = ap (λ (x : Completion). x.interrupt) e in
    record {
      steps = record {
        run = λ host. rw (c.no_message.ensures, em, ec, ei)
            (ended-run (virtqueue_in a.q) (ending_of a.job) code a.list.now a.m.now host f c.requires.0
            c.status_of-code.ensures);
        message = rw c.no_message.ensures (no-message-fit _ _);
        moved = refl;
        long = c.answer-posted.auto.m;
      };
      free = rw c.no_message.ensures;
    }
