use Rattle.std.proofs.Common.{◌≡◌, ◌-◌, ◌≤◌, length}
use Rattle.memory.specs.Bytes.{put}
use Rattle.memory.proofs.store_each.Given as goal

abbrev pub invariant-loop-i : goal.invariant-loop-i
invariant-loop-i l =
    (l.at ≤ l.i) × (length l.m ≡ length l.initial.m)
    × (put (l.n - (l.i - l.at)) l.m l.i l.left ≡ put l.n l.initial.m l.at l.v)
