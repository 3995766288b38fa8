use Rattle.std.proofs.Common.{◌≡◌, ◌+◌, ◌-◌, ◌≤◌, length}
use lib.Seq.{sets}
use Rattle.ranges.specs.Ranges.{up_from, bytes_at}
use Rattle.ranges.proofs.copy.Given as goal

abbrev pub invariant-loop-i : goal.invariant-loop-i
invariant-loop-i l =
    (l.i ≤ l.n) × (length l.dst ≡ length l.initial.dst)
    × (sets l.dst (l.at + l.i) (bytes_at l.src (up_from (l.from + l.i) (l.n - l.i)))
    ≡ sets l.initial.dst l.at (bytes_at l.src (up_from l.from l.n)))
