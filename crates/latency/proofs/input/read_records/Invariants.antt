use mathlib.Core.Path.{◌≡◌}
use Prim.Native.Nat.{◌-◌, ◌%◌}
use lib.ListN.{length}
use Rattle.std.specs.Io.KnownBytes.{Consumes}
use Rattle.latency.specs.Reading.{Behind}
use Rattle.latency.proofs.input.read_records.Given as goal

abbrev pub invariant-loop-input : goal.invariant-loop-input
invariant-loop-input g l = (65536 ≡ length l.buffer) × (b : Behind l.initial.input l.input) × (length b.read % 8 ≡ 0)
    × Consumes (g.R.Read.remaining l.initial.from) (g.R.Read.remaining l.from) b.read

abbrev pub decreases-loop-input : goal.decreases-loop-input
decreases-loop-input g l = 8000009 - l.input.bytes
