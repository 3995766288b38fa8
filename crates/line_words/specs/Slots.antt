-- The words of a stream queue with lines: a slot for each of its streams, and in a slot the chain that is remembered, the marks and the
-- ring of the waiting heads. `queue_in` is the queue of the rules that they stand for, beside its counters.
use Rattle.std.specs.Prelude.{List, map, ℕ, ◌+◌, ◌-◌, ◌*◌, ◌≤◌, ◌<◌, length, take, drop}
use Rattle.ranges.specs.Ranges.{up_from}
use Rattle.card.specs.Fit.{FitMessage}
use Rattle.card.specs.declared.Counters.{Counters}
use Rattle.card.specs.declared.Message.{Message}
use Rattle.marks.specs.Marks as marks
use Rattle.message.specs.Work.{message_of}
use Rattle.waiting.specs.Waiting.{heads_in, FitLine}
use Rattle.waiting.specs.declared.Line as waiting
use Rattle.queue_lines.specs.Chains.{Virtqueue, queue_size}
use Rattle.queue_lines.specs.Counters.{Line, Queue}

-- ---- a slot

-- how many words the slot of a queue of N descriptors has
abbrev pub slot_words : ℕ → ℕ
slot_words N = 79 + N

unfoldable pub slot_of : ℕ → List ℕ → ℕ → List ℕ
slot_of size ws i = take size (drop (size * i) ws)

abbrev pub chain_in : List ℕ → List ℕ
chain_in s = take 68 s

abbrev pub marks_in : List ℕ → List ℕ
marks_in s = take 11 (drop 68 s)

abbrev pub ring_in : List ℕ → List ℕ
ring_in s = take (length s - 79) (drop 79 s)

-- the line of a message in work, with the words of its chain, and of the heads that a ring has
abbrev pub line_with : List ℕ → List ℕ → Message → waiting.Line → Line
line_with chain ring message line = record { begun = message_of chain message; heads = heads_in ring line }

unfoldable pub line_of : List ℕ → Line
line_of s = line_with (chain_in s) (ring_in s) (marks.message_in (marks_in s)) (marks.line_in (marks_in s))

-- what holds of a slot, over a memory of `len` bytes
pub record FitSlot (len : ℕ) (s : List ℕ) : Type 0 where
  pub message : FitMessage len (chain_in s) (marks.message_in (marks_in s))
  pub line : FitLine (length (ring_in s)) (marks.line_in (marks_in s))

-- ---- the queue

unfoldable pub lines_of : ℕ → ℕ → List ℕ → List Line
lines_of N streams ws = map (λ (i : ℕ). line_of (slot_of (slot_words N) ws i)) (up_from 0 streams)

unfoldable pub queue_in : Virtqueue → List ℕ → Counters → Queue
queue_in v ws c = record { taken = c.taken; completed = c.completed; lines = lines_of (queue_size v) v.streams ws }

-- what holds of the words at any time in a call
pub record FitSlots (v : Virtqueue) (len : ℕ) (ws : List ℕ) : Type 0 where
  pub words : slot_words (queue_size v) * v.streams ≤ length ws
  pub slot : (i : ℕ) → i < v.streams → FitSlot len (slot_of (slot_words (queue_size v)) ws i)
