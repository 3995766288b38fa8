-- The bytes in their place are those that were laid there.
use Rattle.wave.proofs.Laid.{laid-part}
use Rattle.wave.proofs.put_bytes.Goals as goal

pub returns : goal.returns
returns c = rw c.copy_from_slice.ensures.after (laid-part c.args.out.now c.args.at c.args.s.now)
