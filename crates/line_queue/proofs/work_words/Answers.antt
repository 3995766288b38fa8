-- The slot of the line is put back; the others stay.
use Rattle.std.proofs.Common.{◌≡◌, ◌+◌, ◌-◌, ◌*◌, ◌≤◌, length, ◌∙◌, arith}
use Rattle.line_chains.specs.Queue.{virtqueue_of}
use Rattle.line_words.proofs.Joins.{between}
use Rattle.line_words.proofs.Lines.{slot-inside}
use Rattle.line_words.proofs.Parts.{slot-long}
use Rattle.line_words.specs.Slots.{slot_words, slot_of}
use Rattle.queue_lines.specs.Chains.{queue_size}
use Rattle.line_queue.proofs.Laws.{gone-line, works-line}
use Rattle.line_queue.proofs.work_words.Goals.{After-slot_words-size}
use Rattle.line_queue.proofs.work_words.Goals as goal

-- the slot lies in the words
inside : (c : After-slot_words-size) → let a = c.args in let size = slot_words (queue_size (virtqueue_of a.q)) in
    size * a.line + size ≤ length a.words.now
inside c = slot-inside (virtqueue_of c.args.q) _ _ _ c.requires.0 c.requires.1

pub returns-in_default : goal.returns-in_default
returns-in_default c =
    let a = c.args in
    gone-line (virtqueue_of a.q) a.line a.job a.words.now a.m.now a.host.now a.p c.requires.0
    c.requires.2 (rw c.in_default.is)

pub work_slot-requires : goal.work_slot-requires
unfolding slot_of
work_slot-requires c =
    let a = c.args in
    let long = slot-long _ _ a.words.now (inside (goal.at.work_slot-requires c).After-slot_words-size) in
    rw (between (c.slot_words-size.result * a.line) c.slot_words-size.result, c.slot_words-size.ensures)
    (rw long (omega arith), c.requires.0.slot a.line c.requires.1, c.requires.2)

pub returns : goal.returns
unfolding slot_of
returns c =
    let a = c.args in
    let v = virtqueue_of a.q in
    let w = c.work_slot in
    let e = between (c.slot_words-size.result * a.line) c.slot_words-size.result in
    let l : length w.new.slot ≡ slot_words (queue_size v) =
    rw (e, c.slot_words-size.ensures) at w.auto.slot
    ∙ slot-long (slot_words (queue_size v)) a.line a.words.now (inside (goal.at.returns c).After-slot_words-size) in
    rw (e, c.slot_words-size.ensures)
    (works-line v a.line a.job a.words.now a.m.now a.host.now a.p c.requires.0 c.requires.1
    c.in-None.is
    w.new.slot _ _ w.result l (rw (e, c.slot_words-size.ensures) at w.ensures))
