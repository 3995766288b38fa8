-- The first four bytes are gathered into four zeros.
use native.Mathlib.Omega.{arith}
use lib.ListN.{length-map, length-take}
use Rattle.message.proofs.Laws.{le-of-four}
use Rattle.message.proofs.gathered_id.Goals as goal

pub returns : goal.returns
returns c =
    rw (c.number.ensures, c.gather.ensures) (le-of-four _ (rw (length-map, length-take) (omega arith)))
