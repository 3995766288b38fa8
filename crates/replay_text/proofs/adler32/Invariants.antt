use Rattle.std.proofs.Common.{◌≡◌, ◌<◌, drop}
use mathlib.Core.List.{foldl}
use Rattle.replay_text.specs.Adler.{step}
use Rattle.replay_text.proofs.adler32.Given as goal

abbrev pub invariant-loop-x : goal.invariant-loop-x
invariant-loop-x l = (l.sums.a < 65521) × (l.sums.b < 65521)
    × (foldl step l.sums (drop l.x-index l.s) ≡ foldl step l.initial.sums l.s)
