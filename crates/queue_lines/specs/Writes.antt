-- What a call writes into guest memory, in order, whatever its direction: the entries of the messages answered at once; then, of the line
-- that is worked or ended, message by message, the bytes recorded (of a capture) and the entry.
use Rattle.std.specs.Prelude.{◌≡◌, List, [], ◌∷◌, ◌++◌, ℕ, suc, ◌+◌, ◌≤◌, ◌<◌, length, drop, set, get_or, cond, ltb}
use Rattle.device.specs.Device.{Direction, output, input, nobody}
use Rattle.device.specs.Histories.{Note, number}
use Rattle.queue_lines.specs.Chains.{Virtqueue, reading_of}
use Rattle.queue_lines.specs.Histories.{Answer, History, line_at}
use Rattle.queue_lines.specs.Turn.{written, entries_written}
use Rattle.queue_lines.specs.Claim.{heads_of}

-- a byte recorded at its address; a used entry
pub data Work : Type 0 where
  recorded : Note → Work
  answered : Answer → Work

abbrev pub answers_in : List Work → List Answer
answers_in [] = []
answers_in (recorded x ∷ ws) = answers_in ws
answers_in (answered a ∷ ws) = a ∷ answers_in ws

abbrev pub records_in : List Work → List Note
records_in [] = []
records_in (recorded x ∷ ws) = x ∷ records_in ws
records_in (answered a ∷ ws) = records_in ws

-- memory once these are written, the first entry being number k
abbrev pub works_written : Virtqueue → ℕ → List Work → List ℕ → List ℕ
works_written v k [] m = m
works_written v k (recorded x ∷ ws) m = works_written v k ws (set m x.from x.byte)
works_written v k (answered a ∷ ws) m = works_written v (k + 1) ws (written v k a m)

-- from message t of the line to message u: bytes are recorded of the message in turn, and its entry ends its turn
abbrev pub InTurn : ℕ → List Work → ℕ → Type 0
InTurn t [] u = t ≡ u
InTurn t (recorded x ∷ ws) u = (x.of ≡ t) × InTurn t ws u
InTurn t (answered a ∷ ws) u = InTurn (suc t) ws u

-- those before message k's turn, the first being in message t's
abbrev pub works_before : ℕ → ℕ → List Work → List Work
works_before t k [] = []
works_before t k (recorded x ∷ ws) = cond (ltb t k) (recorded x ∷ works_before t k ws) []
works_before t k (answered a ∷ ws) = cond (ltb t k) (answered a ∷ works_before (suc t) k ws) []

-- "payload is read when handed on, and for capture written, byte by byte in order, in the call that counts it"
abbrev pub recorded_of : Direction → List Note → List Note
recorded_of output ns = []
recorded_of input ns = ns

-- a call on line i that was lent m and led from history h to history n leaves memory so
pub record Wrote (v : Virtqueue) (i : ℕ) (m : List ℕ) (h n : History) (after : List ℕ) : Type 0 where
  pub bounced : List Answer
  pub works : List Work
  pub memory : after ≡ works_written v (length h.entries + length bounced) works (entries_written v (length h.entries) bounced m)
  -- these are the entries that it added, in order
  pub entries : n.entries ≡ h.entries ++ (bounced ++ answers_in works)
  -- .. and the bytes that it noted, of a capture
  pub records : records_in works ≡ recorded_of v.direction (drop (length (line_at h i).story.notes) (line_at n i).story.notes)
  pub in-turn : InTurn (number (line_at h i).story) works (number (line_at n i).story)
  -- "its chain is read", from the head noted at its taking: as memory was when message k's turn came
  pub read :
      (k : ℕ)
      → length (line_at h i).story.takings ≤ k
      → k < length (line_at n i).story.takings
      → get_or (line_at n i).story.takings k nobody
      ≡ reading_of v i
      (works_written v (length h.entries + length bounced) (works_before (number (line_at h i).story) k works)
      (entries_written v (length h.entries) bounced m))
      (get_or (heads_of (line_at n i).joined) k 0)
