-- What is left to take, run on the state now, is all of it run on the first state.
use Rattle.std.proofs.Common.{◌+◌, ◌-◌, sym, ap, ◌∙◌, arith}
use Rattle.line_chains.specs.Queue.{virtqueue_of}
use Rattle.line_taking.specs.Progress.{run_in}
use Rattle.line_taking.specs.declared.Progress.{Progress}
use Rattle.queue_lines.specs.Claim.{card}
use Rattle.queue_lines.specs.Rules.{taking_run}
use Rattle.line_taking.proofs.Laws.{taking-none, taking-more, one_more}
use Rattle.line_taking.proofs.take_all.Goals as goal

pub loop-preserved : goal.loop-preserved
loop-preserved c =
    let l = c.loop in
    let v = virtqueue_of c.args.q in
    let t = c.take_next-p.ensures in
    let few = one_more v l.words l.m l.p _ _ c.take_next-p.result t in (
      λ host. ap (taking_run (card v) v (c.args.new - (l.counter + 1))) (t.run host)
          ∙ sym (taking-more v (c.args.new - l.counter) (c.args.new - (l.counter + 1)) _ (omega arith)) ∙ l.invariant.0 host,
      rw l.invariant.3 at t.fit,
      omega (arith, few, l.invariant.2),
      t.long ∙ l.invariant.3,
      c.take_next-p.auto.words ∙ l.invariant.4,
      t.moved ∙ l.invariant.5,
      c.take_next-p.auto.list ∙ l.invariant.6,
    )

pub returns : goal.returns
returns c =
    let l = c.loop in
    let a = c.args in
    let v = virtqueue_of a.q in
    record {
      run = λ host. sym (taking-none v (c.args.new - l.counter) _ (omega arith)) ∙ l.invariant.0 host
          ∙ ap (λ x. taking_run (card v) v a.new (run_in v a.words.now x a.m.now host)) c.begin-p.ensures;
      fit = l.invariant.1;
      moved = l.invariant.5 ∙ ap (λ (x : Progress). x.moved) c.begin-p.ensures;
      long = l.invariant.3;
    }
