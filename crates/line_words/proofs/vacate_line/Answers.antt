-- The slot is put back; the others stay.
use Prim.Native.Nat.{◌+◌, ◌*◌, ◌≤◌}
use lib.ListN.{length}
use mathlib.Core.Path.{◌≡◌, ◌∙◌}
use native.Mathlib.Omega.{arith}
use Rattle.line_chains.specs.Queue.{virtqueue_of}
use Rattle.message.specs.Message.{direction_of}
use Rattle.queue_lines.specs.Chains.{queue_size}
use Rattle.line_words.specs.Slots.{slot_words, slot_of}
use Rattle.line_words.proofs.Clears.{size_in, vacates-by}
use Rattle.line_words.proofs.Joins.{between}
use Rattle.line_words.proofs.Parts.{slot-room, slot-long}
use Rattle.line_words.proofs.vacate_line.Goals.{After-slot_words-size}
use Rattle.line_words.proofs.vacate_line.Goals as goal

-- the slot lies in the words
inside : (c : After-slot_words-size) → let a = c.args in let size = slot_words (queue_size (virtqueue_of a.q)) in
    size * a.line + size ≤ length a.words.now
inside c =
    let a = c.args in
    omega (arith, slot-room (slot_words (queue_size (virtqueue_of a.q))) a.line a.q.streams c.requires.1, c.requires.0)

pub vacate-requires : goal.vacate-requires
unfolding slot_of
vacate-requires c =
    let a = c.args in
    let e = between (c.slot_words-size.result * a.line) c.slot_words-size.result in
    let bounds = size_in (direction_of a.q.queue.direction) in
    rw (e, c.slot_words-size.ensures, slot-long _ _ a.words.now (inside (goal.at.vacate-requires c).After-slot_words-size))
    (omega (arith, bounds.0), omega (arith, bounds.1))

pub returns : goal.returns
unfolding slot_of
returns c =
    let a = c.args in
    let v = virtqueue_of a.q in
    let e = between (c.slot_words-size.result * a.line) c.slot_words-size.result in
    let l : length c.vacate.new.slot ≡ slot_words (queue_size v) =
    rw (e, c.slot_words-size.ensures) at c.vacate.auto.slot
    ∙ slot-long (slot_words (queue_size v)) a.line a.words.now (inside (goal.at.returns c).After-slot_words-size) in
    rw (e, c.slot_words-size.ensures) (vacates-by v a.line a.words.now c.vacate.new.slot
    (inside (goal.at.returns c).After-slot_words-size) l c.vacate.ensures)
