-- The chain is read into words that no message has.
use Rattle.flow.proofs.Laws.{idle-run, idle-fit}
use Rattle.line_chains.specs.Queue.{virtqueue_of}
use Rattle.line_work.specs.Work.{open_run}
use Rattle.message.specs.Message.{taking_in}
use mathlib.Core.Path.{◌∙◌, ap}
use Rattle.line_work.proofs.Laws.{read-open}
use Rattle.line_work.proofs.read_front.Goals as goal

pub enter-requires : goal.enter-requires
enter-requires c =
    (c.requires.0, c.read-chain.ensures.1, idle-fit c.args.list.now c.read-chain.new.list _ c.args.f.message c.requires.0 c.requires.2)

pub returns : goal.returns
returns c =
    let a = c.args in
    let v = virtqueue_of a.q in
    let ws = c.read-chain.new.list in
    let t = c.enter.ensures in
    record {
      run = λ host. t.run host
          ∙ read-open v ws a.m.now host a.f a.line a.head.0 (taking_in ws c.read-chain.result) c.read-chain.ensures.0
          ∙ ap (open_run v a.line a.head.0) (idle-run ws a.list.now a.f a.m.now host c.requires.0);
      message = t.message;
      moved = t.moved;
      long = t.long;
    }
