-- The number at the ring place, compared with the size.
use Rattle.std.proofs.Common.{◌≡◌, ◌+◌, ◌%◌, ◌∙◌, le-ltb, lt-ltb}
use Rattle.memory.specs.Bytes.{le}
use Rattle.ring.specs.Layout.{ring_place_at}
use Rattle.ring.specs.Rules.{base_of, head_at}
use Rattle.ring.proofs.next_head.Goals.{After-get-number}
use Rattle.ring.proofs.next_head.Goals as goal

number_read : (c : After-get-number) → let a = c.args in c.get-number.result
    ≡ le 2 a.m.now (base_of a.page + ring_place_at a.size (a.taken % a.size))
number_read c = c.get-number.ensures
    ∙ rw (c.address.ensures, c.available_at.ensures, c.ring_place-place.ensures)

pub returns-then-number-size : goal.returns-then-number-size
unfolding head_at
returns-then-number-size c = rw (
  c.of.ensures,
  ← (number_read (goal.at.returns-then-number-size c).After-get-number),
  lt-ltb _ _ c.if-number-size.true,
)

pub returns-else-number-size : goal.returns-else-number-size
unfolding head_at
returns-else-number-size c = rw (← (number_read (goal.at.returns-else-number-size c).After-get-number), le-ltb _ _ c.if-number-size.false)
