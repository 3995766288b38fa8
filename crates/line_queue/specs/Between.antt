-- What holds of a stream queue with lines between calls.
use Rattle.std.specs.Prelude.{Some, ◌≡◌, ℕ, ◌+◌, ◌-◌, ◌%◌, ◌<◌, ◌≤◌, List}
use Rattle.card.specs.declared.Counters.{Counters}
use Rattle.queue_lines.specs.Chains.{Virtqueue, queue_size}
use Rattle.device.specs.Account.{Each}
use Rattle.device.specs.Device as rules
use Rattle.queue_lines.specs.Counters.{Line, Queue, sum_of, length_of, line_in}
use Rattle.queue_lines.specs.Turn.{Waits}
use Rattle.line_words.specs.Slots.{queue_in, FitSlots}

-- a line: its message in work has a head of the table, and something of its payload waits; the heads behind it are of the table too
pub record FitIn (v : Virtqueue) (l : Line) : Type 0 where
  pub begun : (w : rules.Message) → l.begun ≡ Some w → (w.taking.head < queue_size v) × Waits v.direction w
  pub heads : Each (λ (head : ℕ). head < queue_size v) l.heads

-- as the rules keep it
pub record Between (v : Virtqueue) (q : Queue) : Type 0 where
  pub wraps : q.completed < 65536
  -- in all lines together are as many as were taken and not completed, modulo 65,536
  pub balanced : (q.taken + (65536 - q.completed)) % 65536 ≡ sum_of length_of q.lines
  pub few : sum_of length_of q.lines ≤ queue_size v
  pub line : (i : ℕ) → FitIn v (line_in i q)

-- .. and as words and counters have it, over a memory of `len` bytes
pub record FitLines (v : Virtqueue) (len : ℕ) (ws : List ℕ) (c : Counters) : Type 0 where
  pub slots : FitSlots v len ws
  pub between : Between v (queue_in v ws c)
