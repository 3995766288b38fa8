-- What a head more makes of a slot and of all words.
use Rattle.std.specs.Prelude.{◌≡◌, List, [], ◌∷◌, ◌++◌, ℕ, ◌*◌, ◌≤◌, ◌<◌, length}
use Rattle.card.specs.declared.Counters.{Counters}
use Rattle.marks.specs.Marks.{line_in}
use Rattle.waiting.specs.Waiting.{FitLine}
use Rattle.device.specs.Device.{one_taken}
use Rattle.queue_lines.specs.Chains.{Virtqueue, queue_size}
use Rattle.queue_lines.specs.Counters.{counters_of}
use Rattle.line_words.specs.Slots.{slot_words, slot_of, marks_in, ring_in, line_of, queue_in, FitSlot, FitSlots}

-- a slot whose line is not full
pub record Roomy (s : List ℕ) : Type 0 where
  pub long : 79 ≤ length s
  pub line : FitLine (length (ring_in s)) (line_in (marks_in s))
  pub room : (line_in (marks_in s)).count < length (ring_in s)

-- a head more in the line of a slot; nothing else is changed
pub record Pushed (head : ℕ) (s s' : List ℕ) : Type 0 where
  pub line : line_of s' ≡ record { begun = (line_of s).begun; heads = (line_of s).heads ++ head ∷ [] }
  pub fit : (len : ℕ) → FitSlot len s → FitSlot len s'

-- a line that can be joined
pub record Open (v : Virtqueue) (i : ℕ) (ws : List ℕ) : Type 0 where
  pub words : slot_words (queue_size v) * v.streams ≤ length ws
  pub there : i < v.streams
  pub slot : Roomy (slot_of (slot_words (queue_size v)) ws i)

-- an entry taken into line i
pub record Joined (v : Virtqueue) (i head : ℕ) (ws ws' : List ℕ) : Type 0 where
  pub queue : (c : Counters) → queue_in v ws' (one_taken c) ≡ (counters_of v.direction v.streams).join i head (queue_in v ws c)
  pub fit : (len : ℕ) → FitSlots v len ws → FitSlots v len ws'
