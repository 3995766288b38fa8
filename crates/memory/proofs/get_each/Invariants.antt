use Rattle.std.proofs.Common.{◌≡◌, ◌+◌, ◌-◌, ◌≤◌}
use Rattle.memory.specs.Bytes.{le}
use Rattle.memory.proofs.get_each.Given as goal

abbrev pub invariant-loop-i : goal.invariant-loop-i
invariant-loop-i l = (l.i ≤ l.n) × (l.number ≡ le (l.n - l.i) l.m (l.at + l.i))
