use Prim.Native.Nat.{◌-◌, ◌≤◌}
use lib.ListN.{length}
use mathlib.Core.Path.{◌≡◌, ◌∙◌}
use Rattle.line_chains.specs.Queue.{virtqueue_of}
use Rattle.line_words.proofs.Clears.{VacantBelow}
use Rattle.line_words.proofs.clear.Given as goal

abbrev pub invariant-loop-line : goal.invariant-loop-line
invariant-loop-line l =
    (length l.words ≡ length l.initial.words) × (l.line ≤ l.q.streams) × VacantBelow (virtqueue_of l.q) l.line l.words
