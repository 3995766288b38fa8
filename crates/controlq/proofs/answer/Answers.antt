-- What the request asks decides: refused or informed, the parts are as they were.
use Rattle.std.proofs.Common.{ap, ◌∙◌, Ok}
use Rattle.std.proofs.lemmas.Result.{err_from_is_err_and}
use Rattle.control.specs.Control.{Reads}
use Rattle.live.specs.Live.{parts_now}
use Rattle.line_calls.specs.Calls.{served}
use Rattle.line_calls.specs.Streams.{streams_in, direction_number}
use Rattle.ranges.specs.Ranges.{ranges_of, places, bytes_at}
use Rattle.reply.specs.Reply.{completion_of}
use Rattle.requests.specs.Requests.{Replies}
use Rattle.rules.specs.Control as rules
use Rattle.rules.specs.Parts.{parts_of}
use Rattle.controlq.specs.Control.{pending_in}
use Rattle.controlq.proofs.Laws.{replied-ends}
use Rattle.controlq.proofs.answer.Goals as goal

pub returns-in_err-l : goal.returns-in_err-l
returns-in_err-l c pw cw f =
    let a = c.args in
    let shown = parts_of (parts_now a.live a.parts) in
    let e = err_from_is_err_and c.from_residual.result c.from_residual.ensures.1 in
    let i : Replies a.list.now (pending_in a.live a.message.head a.message.reply) shown
    (served (streams_in a.parts) shown (bytes_at a.m.now (places (ranges_of a.list.now a.request))) a.message.reply.bytes)
    c.in_err-l.field-0.0 a.m.now c.read.new.m =
    rw (← c.pending_in-pending.ensures) (c.in_err-l.ensures (streams_in a.parts) shown a.message.reply.bytes) in
    rw (e.1, e.2, i.same)
    (replied-ends a.live a.parts pw cw f a.message.head a.list.now a.message.reply i.bytes a.m.now _ _ i.completes)

pub returns-in-Informs : goal.returns-in-Informs
returns-in-Informs c pw cw f =
    let a = c.args in
    let shown = parts_of (parts_now a.live a.parts) in
    let pending = pending_in a.live a.message.head a.message.reply in
    let request = bytes_at a.m.now (places (ranges_of a.list.now a.request)) in
    let r : Reads a.list.now c.pending_in-pending.result request c.read.new.bytes a.m.now c.read.new.m (Ok c.in_ok-l.field-0) =
    c.in_ok-l.ensures in
    let t = rw c.in-Informs.is at r in
    let i : Replies a.list.now pending shown
    (rules.inform_by (rules.items_by (direction_number (streams_in a.parts))) shown c.in-Informs.l c.read.new.bytes a.message.reply.bytes)
    c.inform.result c.read.new.m c.inform.new.m =
    rw c.pending_in-pending.ensures at c.inform.ensures in
    rw (t.1 (streams_in a.parts) shown a.message.reply.bytes ∙ i.same)
    (replied-ends a.live a.parts pw cw f a.message.head a.list.now a.message.reply i.bytes a.m.now _
    c.inform.result (i.completes ∙ ap (completion_of a.list.now pending i.bytes) t.0))
