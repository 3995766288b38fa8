-- The walk's outcome is the rule's; a whole chain goes by the line that its request names.
use Rattle.std.proofs.Common.{◌∙◌, sym, false}
use Rattle.chain.specs.Walk.{faulted}
use Rattle.line_chains.specs.Queue.{virtqueue_of}
use Rattle.message.proofs.Laws.{no-ranges-fit}
use Rattle.ranges.proofs.Laws.{ranges_of-none}
use Rattle.ranges.specs.Ranges.{ranges_of}
use mathlib.Core.Bool.{false≢true}
use Rattle.line_chains.proofs.Laws.{arrived-by, in-line, at-once, judged-fit}
use Rattle.line_chains.proofs.arrive.Goals as goal

pub returns-in-Err : goal.returns-in-Err
returns-in-Err c =
    let a = c.args in (
      rw (c.unwalked.ensures, ranges_of-none c.walk.new.list)
          (arrived-by (virtqueue_of a.q) a.m.now a.head.0 (faulted c.in-Err.fault) c.in-Err.ensures.0),
      rw c.unwalked.ensures (no-ranges-fit _ _ _ _),
    )

pub returns-in-Some : goal.returns-in-Some
returns-in-Some c =
    let a = c.args in
    let v = virtqueue_of a.q in
    let k = c.in-Ok.chain in
    let list = c.walk.new.list in (
      in-line v a.m.now a.head.0 (ranges_of list k.request) (ranges_of list k.reply) _ (sym c.in-Some.is ∙ c.place_of.ensures)
          ∙ arrived-by v a.m.now a.head.0 _ c.in-Ok.ensures.0,
      tt,
    )

pub returns-in-None : goal.returns-in-None
returns-in-None c =
    let a = c.args in
    let v = virtqueue_of a.q in
    let k = c.in-Ok.chain in
    let list = c.walk.new.list in (
      rw c.form_by.ensures
          (at-once v a.m.now a.head.0 (ranges_of list k.request) (ranges_of list k.reply) (sym c.in-None.is ∙ c.place_of.ensures)
          ∙ arrived-by v a.m.now a.head.0 _ c.in-Ok.ensures.0),
      judged-fit a.m.now list k _ a.head false c.in-Ok.ensures.1 c.form_by.ensures (λ e. absurd (false≢true e)),
    )
