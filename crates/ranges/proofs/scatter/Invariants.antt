use Rattle.std.proofs.Common.{◌≡◌, ◌+◌, ◌-◌, ◌≤◌, length, take, drop}
use Rattle.ranges.specs.Ranges.{ranges_in, ranges_of, places, put_at}
use Rattle.ranges.proofs.scatter.Given as goal

abbrev pub invariant-loop-i : goal.invariant-loop-i
invariant-loop-i l =
    (l.f + l.left ≤ length l.src) × (length l.m ≡ length l.initial.m) × (l.i ≤ l.i-end) × (l.i-end ≡ l.fn.r.first + l.fn.r.count)
    × (put_at l.m (take l.left (drop l.skip (places (ranges_in l.list l.i (l.i-end - l.i))))) (drop l.f l.src)
    ≡ put_at l.initial.m (take l.n (drop l.offset (places (ranges_of l.list l.fn.r)))) (drop l.from l.src))
