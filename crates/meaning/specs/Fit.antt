-- What holds of every card that power-up or an entry left: all that an entry may require of the card given in.
use Rattle.std.specs.Prelude.{◌≡◌, Bool, true, false, List, ℕ, ◌*◌, ◌≤◌, length, get_or}
use Rattle.card.specs.Card.{no_counters}
use Rattle.card.specs.Fit.{FitParts}
use Rattle.card.specs.declared.Card.{Card}
use Rattle.card.specs.declared.Counters.{Counters}
use Rattle.card.specs.declared.Parts.{Parts}
use Rattle.live.specs.Live.{live_of, FitBoard}
use Rattle.live.specs.declared.Board.{Board}
use Rattle.live.specs.declared.Live.{Live}
use Rattle.device.specs.Device.{Direction, output, input, queue_number}
use Rattle.queue_lines.specs.Chains.{Virtqueue, queue_size}
use Rattle.line_words.specs.Slots.{slot_words}
use Rattle.line_queue.specs.Between.{FitLines}
use Rattle.line_calls.specs.Streams.{Streams}
use Rattle.meaning.specs.Card.{shape_of}

-- the words of a queue beside its counters, over a memory of `len` bytes: room for the slot of each stream; unless the lines were dropped,
-- what holds of a queue with lines between calls
pub record FitWords (v : Virtqueue) (len : ℕ) (dropped : Bool) (ws : List ℕ) (c : Counters) : Type 0 where
  pub room : slot_words (queue_size v) * v.streams ≤ length ws
  pub lines : dropped ≡ false → FitLines v len ws c
  -- what drops the lines zeroes the counters
  pub zeroed : dropped ≡ true → c ≡ no_counters

-- ---- of a card in pieces

-- how many streams the small state counts
abbrev pub streams_live : Live → Streams
streams_live l = record { outputs = l.outputs; inputs = l.inputs }

abbrev pub dropped_live : Direction → Live → Bool
dropped_live output l = l.play_dropped
dropped_live input l = l.capture_dropped

abbrev pub counters_live : Direction → Live → Counters
counters_live d l = get_or l.queues (queue_number d) no_counters

-- a stream queue with its words
abbrev pub FitQueue : Direction → Live → List ℕ → Type 0
FitQueue d l ws = FitWords (shape_of d (streams_live l)) l.ram_len (dropped_live d l) ws (counters_live d l)

-- all that a card is made of
pub record Fits (l : Live) (p : Parts) (pw cw : List ℕ) : Type 0 where
  pub board : FitBoard l p
  pub play : FitQueue output l pw
  pub capture : FitQueue input l cw

-- a card whose lines are dropped, whatever its words hold
abbrev pub Ready : Board → Type 0
Ready b = (pw cw : List ℕ) → length pw ≡ 1340 → length cw ≡ 286 → Fits b.live b.parts pw cw

-- ---- of a card as one value

pub record Fit (c : Card) : Type 0 where
  pub parts : FitParts c.parts
  pub fits : Fits (live_of c) c.parts c.play_words c.capture_words
  pub play-words : length c.play_words ≡ 1340
  pub capture-words : length c.capture_words ≡ 286
