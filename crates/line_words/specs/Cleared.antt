-- What empties the lines of a queue: "What drops 01's message in work drops the lines."
use Rattle.std.specs.Prelude.{◌≡◌, List, ◌⊎◌, ℕ, ◌<◌, replicate}
use Rattle.queue_lines.specs.Chains.{Virtqueue, queue_size}
use Rattle.queue_lines.specs.Counters.{no_line}
use Rattle.line_words.specs.Slots.{slot_words, slot_of, line_of, lines_of, FitSlot, FitSlots}

-- a slot of an empty line
pub record Vacant (s : List ℕ) : Type 0 where
  pub line : line_of s ≡ no_line
  pub fit : (len : ℕ) → FitSlot len s

-- line i is empty; the slots of the others stay
pub record Vacates (v : Virtqueue) (i : ℕ) (ws ws' : List ℕ) : Type 0 where
  pub here : Vacant (slot_of (slot_words (queue_size v)) ws' i)
  pub others : (j : ℕ) → (j < i) ⊎ (i < j) → slot_of (slot_words (queue_size v)) ws' j ≡ slot_of (slot_words (queue_size v)) ws j

-- every line is empty
pub record Cleared (v : Virtqueue) (ws : List ℕ) : Type 0 where
  pub lines : lines_of (queue_size v) v.streams ws ≡ replicate v.streams no_line
  pub fit : (len : ℕ) → FitSlots v len ws
