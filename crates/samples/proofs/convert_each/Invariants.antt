-- Where each sample becomes its conversion, so many are written.
use Rattle.std.proofs.Common.{ℕ, List, length}
use Rattle.std.specs.Fn.{FnReturnsAt}
use Rattle.samples.specs.Formats.{Coding}
use Rattle.samples.specs.Loops.{Converts}
use Rattle.samples.proofs.Going.{Going}
use Rattle.samples.proofs.convert_each.Given as goal

abbrev pub invariant-loop-i : goal.invariant-loop-i
invariant-loop-i g l =
    (c : Coding) (from : List ℕ) → Converts c from l.samples (FnReturnsAt g.F.Fn l.convert)
    → Going c from (length l.samples) l.initial.to l.to l.i
