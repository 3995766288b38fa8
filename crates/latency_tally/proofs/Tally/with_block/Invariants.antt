-- What the records left make of the tally so far is what all of them make of the first.
use Rattle.std.proofs.Common.{◌≡◌, ◌-◌, ◌*◌, ◌/◌, length}
use mathlib.Core.List.{foldl}
use Rattle.latency_tally.specs.Records.{records}
use Rattle.latency_tally.specs.Tally.{with_record}
use Rattle.latency_tally.proofs.Tally.with_block.Given as goal

abbrev pub invariant-loop-record : goal.invariant-loop-record
invariant-loop-record l =
    foldl with_record l.next (records (length l.block / 8 - l.record-index) l.block (8 * l.record-index))
    ≡ foldl with_record l.fn.self (records (length l.block / 8) l.block 0)
