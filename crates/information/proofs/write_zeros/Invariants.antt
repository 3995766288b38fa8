use mathlib.Core.Path.{◌≡◌}
use Prim.Native.Nat.{◌-◌, ◌≤◌}
use lib.ListN.{length, drop, replicate}
use Rattle.ranges.specs.Ranges.{ranges_of, places, put_at}
use Rattle.information.proofs.write_zeros.Given as goal

abbrev pub invariant-loop-at : goal.invariant-loop-at
invariant-loop-at l =
    (length l.m ≡ length l.initial.m) × (l.at ≤ l.end)
    × (put_at l.m (drop l.at (places (ranges_of l.list l.reply))) (replicate (l.end - l.at) 0)
    ≡ put_at l.initial.m (drop l.start (places (ranges_of l.list l.reply))) (replicate l.n 0))

abbrev pub decreases-loop-at : goal.decreases-loop-at
decreases-loop-at l = l.end - l.at
