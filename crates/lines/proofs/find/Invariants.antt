use Rattle.std.proofs.Common.{◌≡◌, ◌+◌, ◌≤◌, max, length, drop}
use Rattle.lines.specs.Lines.{span_of}
use Rattle.lines.proofs.find.Given as goal

abbrev pub invariant-loop-i : goal.invariant-loop-i
invariant-loop-i l = (l.i ≤ max l.at (length l.s)) × (l.i + span_of l.byte (drop l.i l.s) ≡ l.at + span_of l.byte (drop l.at l.s))
