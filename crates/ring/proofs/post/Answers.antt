-- Head, length and index are stored one after the other; the flags are read from what they leave.
use Rattle.ring.specs.Rules.{posted_at, interrupts, post_of}
use Rattle.ring.proofs.post.Goals as goal

pub returns : goal.returns
unfolding post_of posted_at interrupts
returns c =
    rw (
      c.get-flags.ensures,
      c.available_at.ensures,
      c.put-3.ensures,
      c.put-2.ensures,
      c.put.ensures,
      c.number.ensures,
      c.ring_place.ensures,
      c.used_at-used.ensures,
      c.address-base.ensures,
    )
