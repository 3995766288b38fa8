-- Any list of calls' parts on one stream queue, refused ones left out: the card and the account run alike over it, and what is claimed of
-- the histories holds after it. `Holds` is the claim; the theorem is `holds` of proofs/Holds.
use Rattle.std.specs.Prelude.{◌≡◌, Bool, List, [], ◌∷◌, ℕ, ◌≤◌}
use Rattle.counts.specs.declared.PageNumber.{PageNumber}
use Rattle.registers.specs.Map.{size_of}
use Rattle.device.specs.Device.{Direction, queue_number, finished, released}
use Rattle.device.specs.Transfer.{Run, begun}
use Rattle.queue_lines.specs.Chains.{Virtqueue}
use Rattle.queue_lines.specs.Claim.{shown_run, queue_of, Good, also}
use Rattle.queue_lines.specs.Counters.{Queue, counters_of}
use Rattle.queue_lines.specs.Histories.{History, histories_of}
use Rattle.queue_lines.specs.Rules.{Ops, transferred, emptied}
use Rattle.queue_lines.specs.Turn.{Book, Turn}

-- how the queue lies in a call, as the guest laid it out, and the latency of the statuses completed in it
pub record Lay : Type 0 where
  pub page : PageNumber
  pub negotiated : Bool
  pub latency : ℕ

-- a call's part on the queue: a reset or base write ("What drops 01's message in work drops the lines."); a transfer of a line, lent memory
-- and the host's buffer; a Release of a line, lent memory
pub data Part : Type 0 where
  clears : Part
  transfers : Lay → ℕ → List ℕ → List ℕ → Part
  releases : Lay → ℕ → List ℕ → Part

-- a queue of this direction, of the streams from `first` on, n of them
module _ (d : Direction) (first n : ℕ) where
  abbrev pub lies : Lay → Virtqueue
  lies lay = record { direction = d; page = lay.page; negotiated = lay.negotiated; latency = lay.latency; first = first; streams = n }

  module _ {Q : Type 0} (ops : Ops Q) where
    unfoldable pub part_of : Part → Q → Run Q
    part_of clears q = begun ops.empty [] []
    part_of (transfers lay i m host) q = transferred ops (lies lay) i q m host
    part_of (releases lay i m) q = emptied ops (lies lay) i q m

    -- what the parts of a list come to, one after the other: all but the queue, and the last queue
    unfoldable pub told_by : Q → List Part → List (Run (Unit {0}))
    told_by q [] = []
    told_by q (p ∷ ps) = shown_run (λ (q : Q). tt) (part_of p q) ∷ told_by (part_of p q).queue ps

    unfoldable pub after : Q → List Part → Q
    after q [] = q
    after q (p ∷ ps) = after (part_of p q).queue ps

    -- the bytes told of each line's transfers since the queue was cleared
    abbrev pub said_by : (ℕ → List ℕ) → Part → Q → ℕ → List ℕ
    said_by said clears q = λ i. []
    said_by said (transfers lay i m host) q = also i said (part_of (transfers lay i m host) q).bytes
    said_by said (releases lay i m) q = said

    unfoldable pub heard : (ℕ → List ℕ) → Q → List Part → ℕ → List ℕ
    heard said q [] = said
    heard said q (p ∷ ps) = heard (said_by said p q) (part_of p q).queue ps

  abbrev pub cards : Ops Queue
  cards = counters_of d n

  abbrev pub accounts : Ops History
  accounts = histories_of d n

  -- what each part does to the histories
  abbrev pub TurnOf : (ℕ → List ℕ) → Part → History → Type 0
  TurnOf said clears h = Unit {0}
  TurnOf said (transfers lay i m host) h =
      Turn (lies lay) i finished said m host h (transferred cards (lies lay) i (queue_of h) m host)
      (transferred accounts (lies lay) i h m host)
  TurnOf said (releases lay i m) h =
      Turn (lies lay) i released said m [] h (emptied cards (lies lay) i (queue_of h) m) (emptied accounts (lies lay) i h m)

  abbrev pub Turns : (ℕ → List ℕ) → List Part → History → Type 0
  Turns said [] h = Unit {0}
  Turns said (p ∷ ps) h = TurnOf said p h × Turns (said_by accounts said p h) ps (part_of accounts p h).queue

  -- nothing was said at the start
  abbrev pub unsaid : ℕ → List ℕ
  unsaid i = []

  pub record Holds (ps : List Part) : Type 0 where
    -- memory, bytes, host buffer, room, stop and interrupt of the card are the account's, of each part
    pub same : told_by cards cards.empty ps ≡ told_by accounts accounts.empty ps
    -- the card's queue is what the account's history stands for
    pub stands : after cards cards.empty ps ≡ queue_of (after accounts accounts.empty ps)
    pub turns : Turns unsaid ps accounts.empty
    -- takings, entries, positions and bytes, of each line
    pub good : Good d n (heard cards unsaid cards.empty ps) (after accounts accounts.empty ps)
    pub book : Book d (after accounts accounts.empty ps)
    -- no more than N messages are in line
    pub within : cards.in_work (after cards cards.empty ps) ≤ size_of (queue_number d)
