use Rattle.std.proofs.Common.{◌≡◌, ◌+◌, ◌-◌, ◌≤◌}
use Rattle.ranges.specs.Ranges.{ranges_in, ranges_of, all_inside}
use Rattle.ranges.proofs.all_inside.Given as goal

abbrev pub invariant-loop-i : goal.invariant-loop-i
invariant-loop-i l =
    (l.i ≤ l.i-end) × (l.i-end ≡ l.fn.r.first + l.fn.r.count)
    × (all_inside l.len (ranges_in l.list l.i (l.i-end - l.i)) ≡ all_inside l.len (ranges_of l.list l.fn.r))
