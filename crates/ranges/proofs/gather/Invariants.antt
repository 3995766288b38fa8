use Rattle.std.proofs.Common.{◌≡◌, ◌+◌, ◌-◌, ◌≤◌, length, take, drop}
use lib.Seq.{sets}
use Rattle.ranges.specs.Ranges.{ranges_in, ranges_of, places, bytes_at}
use Rattle.ranges.proofs.gather.Given as goal

abbrev pub invariant-loop-i : goal.invariant-loop-i
invariant-loop-i l =
    (l.d + l.left ≤ length l.dst) × (length l.dst ≡ length l.initial.dst) × (l.i ≤ l.i-end) × (l.i-end ≡ l.fn.r.first + l.fn.r.count)
    × (sets l.dst l.d (bytes_at l.m (take l.left (drop l.skip (places (ranges_in l.list l.i (l.i-end - l.i))))))
    ≡ sets l.initial.dst l.at (bytes_at l.m (take l.n (drop l.offset (places (ranges_of l.list l.fn.r))))))
