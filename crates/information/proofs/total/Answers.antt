-- Each list has as many items as there are parts.
use native.Mathlib.Omega.{arith}
use lib.ListN.{length-take}
use Rattle.information.proofs.Laws.{length-pcm_items}
use Rattle.information.proofs.total.Goals as goal

pub returns-in-Streams : goal.returns-in-Streams
returns-in-Streams c =
    let p = c.requires in
    (rw (c.in-Streams.is, length-pcm_items, length-take) (omega arith), omega arith)
