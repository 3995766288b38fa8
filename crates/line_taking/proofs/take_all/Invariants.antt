use Rattle.std.proofs.Common.{◌≡◌, ℕ, ◌+◌, ◌-◌, ◌≤◌, List, length}
use Rattle.line_chains.specs.Queue.{virtqueue_of}
use Rattle.line_taking.specs.Progress.{run_in}
use Rattle.line_words.specs.Slots.{lines_of, FitSlots}
use Rattle.queue_lines.specs.Chains.{queue_size}
use Rattle.queue_lines.specs.Claim.{card}
use Rattle.queue_lines.specs.Counters.{sum_of, length_of}
use Rattle.queue_lines.specs.Rules.{taking_run}
use Rattle.line_taking.proofs.take_all.Given as goal

abbrev pub invariant-loop : goal.invariant-loop
invariant-loop l =
    let v = virtqueue_of l.q in
    ((host : List ℕ) → taking_run (card v) v (l.new - l.counter) (run_in v l.words l.p l.m host)
    ≡ taking_run (card v) v l.new (run_in v l.initial.words l.initial.p l.initial.m host))
    × FitSlots v (length l.initial.m) l.words
    × (sum_of length_of (lines_of (queue_size v) v.streams l.words) + (l.new - l.counter) ≤ queue_size v)
    × (length l.m ≡ length l.initial.m)
    × (length l.words ≡ length l.initial.words)
    × (l.p.moved ≡ l.initial.p.moved)
    × (length l.list ≡ 68)
