-- The walk's outcome is the rule's; a whole chain is judged, one that can't be walked has no ranges.
use Rattle.std.proofs.Common.{◌∙◌, sym}
use Rattle.chain.specs.Walk.{faulted, whole}
use Rattle.line_chains.specs.Queue.{virtqueue_of}
use Rattle.message.proofs.Laws.{no-ranges-fit}
use Rattle.ranges.proofs.Laws.{ranges_of-none}
use Rattle.ranges.specs.Ranges.{ranges_of}
use mathlib.Core.Bool.{and-eq-true_iff}
use Rattle.line_chains.proofs.Laws.{read_by, of-line, judged-fit}
use Rattle.line_chains.proofs.read.Goals as goal

pub returns-in-Err : goal.returns-in-Err
returns-in-Err c =
    let a = c.args in (
      rw (c.unwalked.ensures, ranges_of-none c.walk.new.list)
          (read_by (virtqueue_of a.q) a.m.now a.head.0 a.line (faulted c.in-Err.fault) c.in-Err.ensures.0),
      rw c.unwalked.ensures (no-ranges-fit _ _ _ _),
    )

pub returns : goal.returns
returns c =
    let a = c.args in
    let g = c.in-Ok.ensures.1 in
    let v = virtqueue_of a.q in
    let k = c.in-Ok.chain in
    let list = c.walk.new.list in
    let i = c.is_of_line-sound in (
      of-line v a.m.now a.head.0 (ranges_of list k.request) (ranges_of list k.reply) a.line _ _ i.result c.form_by.result g.request g.reply
          i.ensures c.form_by.ensures
          ∙ read_by v a.m.now a.head.0 a.line (whole (ranges_of list k.request) (ranges_of list k.reply)) c.in-Ok.ensures.0,
      judged-fit a.m.now list k _ a.head i.result g c.form_by.ensures
          (λ e. ((and-eq-true_iff _ _).0 ((and-eq-true_iff _ _).0 (sym i.ensures ∙ e)).0).0),
    )
