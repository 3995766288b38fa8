-- The slot is put back; the others stay.
use Prim.Native.Nat.{◌-◌, ◌*◌}
use Rattle.line_chains.specs.Queue.{virtqueue_of}
use Rattle.line_words.specs.Slots.{slot_words, slot_of}
use Rattle.queue_lines.specs.Chains.{queue_size}
use lib.ListN.{length}
use mathlib.Core.Path.{◌≡◌, ◌∙◌}
use Rattle.line_words.proofs.Joins.{open-inside, joined_by, between}
use Rattle.line_words.proofs.Parts.{slot-long}
use Rattle.line_words.proofs.join.Goals as goal

pub push-requires : goal.push-requires
unfolding slot_of
push-requires c =
    let a = c.args in
    let e = between (c.slot_words-size.result * a.line) c.slot_words-size.result in
    rw (e, c.slot_words-size.ensures) c.requires.slot

pub returns : goal.returns
unfolding slot_of
returns c =
    let a = c.args in
    let v = virtqueue_of a.q in
    let e = between (c.slot_words-size.result * a.line) c.slot_words-size.result in
    let l : length c.push.new.slot ≡ slot_words (queue_size v) =
    rw (e, c.slot_words-size.ensures) at c.push.auto.slot
    ∙ slot-long (slot_words (queue_size v)) a.line a.words.now (open-inside v a.line a.words.now c.requires) in
    rw (e, c.slot_words-size.ensures) (joined_by v a.line a.words.now c.requires a.head.0 c.push.new.slot l
    (rw (e, c.slot_words-size.ensures) at c.push.ensures))
