-- The P cases of order 8 that are about a stream queue, as one table over the definitions; 01's are in line_calls/specs/Cases.
use Rattle.std.specs.Prelude.{Result, Option, Ok, Err, Some}
use Rattle.std.specs.Prelude.{◌≡◌, List, [], ◌∷◌, Bool, true, false, ◌⊎◌, ℕ, ◌<◌, ◌≤◌, ◌+◌, ◌-◌, length, drop}
use Rattle.counts.specs.declared.PageNumber.{PageNumber}
use Rattle.chain.specs.Walk.{whole, faulted}
use Rattle.chain.specs.declared.Fault.{Fault}
use Rattle.ranges.specs.Ranges.{total, places, put_at, all_inside}
use Rattle.ranges.specs.declared.Range.{Range}
use Rattle.ring.specs.Layout.{end_at}
use Rattle.ring.specs.Rules.{base_of, posted_of}
use Rattle.ring.specs.declared.Cause.{Cause}
use Rattle.device.specs.Device.{output, Form, well_formed, refused, silent, unwalked, Taking}
use Rattle.device.specs.Numbers.{s_io_err}
use Rattle.device.specs.Transfer.{Shows, Run, begun, id_of, status_bytes}
use Rattle.queue_lines.specs.Chains.{Virtqueue, queue_size, walked, in_line, at_once, arrival_of, reading_of}
use Rattle.queue_lines.specs.Counters.{Line, Queue, length_of, counters_of}
use Rattle.queue_lines.specs.Claim.{card}
use Rattle.queue_lines.specs.Rules.{stopped, found, unread, transfer_step, release_step, transferred, emptied}

-- what the check of a play queue of two streams finds with 256 taken, at this available index and with lines of these lengths: in every
-- memory and at every page that shows it
abbrev pub finds : ℕ → ℕ → ℕ → Result (Option ℕ) Cause → Type 0
finds index one two check =
    (m : List ℕ) (page : PageNumber) (negotiated : Bool) (latency completed : ℕ) (a b : Line)
    → Shows m page index
    → length_of a ≡ one
    → length_of b ≡ two
    → found (counters_of output 2) (record {
      direction = output;
      page = page;
      negotiated = negotiated;
      latency = latency;
      first = 0;
      streams = 2;
    })
    (record { taken = 256; completed = completed; lines = a ∷ b ∷ [] }) m
    ≡ check

-- memory now shows a chain at this head that can be answered, whose id is not line i's
pub record Changed (v : Virtqueue) (i : ℕ) (m : List ℕ) (head : ℕ) (request reply : List Range) : Type 0 where
  pub chain : walked v m head ≡ whole request reply
  pub writable : all_inside (length m) reply ≡ true
  pub answerable : 8 ≤ total reply
  pub id : id_of m request ≡ v.first + i → ⊥

-- memory after an IO_ERR with length 8 for that chain
abbrev pub refused_in : Virtqueue → ℕ → List ℕ → ℕ → List Range → List ℕ
refused_in v completed m head reply =
    posted_of (put_at m (drop (total reply - 8) (places reply)) (status_bytes s_io_err v.latency)) (base_of v.page) 256 completed head 8

-- memory shows a chain at this head that can be read: a request of at least 4 bytes inside RAM
pub record Readable (v : Virtqueue) (m : List ℕ) (head : ℕ) (request reply : List Range) : Type 0 where
  pub chain : walked v m head ≡ whole request reply
  pub inside : all_inside (length m) request ≡ true
  pub long : 4 ≤ total request

-- .. or one that is answered at once: "readable bytes outside RAM or under 4, or an id not on this queue"
pub data Unfit (v : Virtqueue) (m : List ℕ) (request : List Range) : Type 0 where
  outside : all_inside (length m) request ≡ false → Unfit v m request
  short : total request < 4 → Unfit v m request
  below : id_of m request < v.first → Unfit v m request
  beyond : v.first + v.streams ≤ id_of m request → Unfit v m request

-- the chain at this head, read with this form
abbrev pub read_as : ℕ → List Range → List Range → Form → Taking
read_as head request reply form = record { head = head; request = request; reply = reply; form = form }

pub record Table : Type 0 where
  -- "Base 0: the queue is idle": nothing is done; nor where its region passes the end of RAM, cause 9
  pub idle :
      (v : Virtqueue) (i : ℕ) (q : Queue) (m host : List ℕ)
      → v.page.0 ≡ 0
      → (transferred (card v) v i q m host ≡ begun q m host) × (emptied (card v) v i q m ≡ begun q m [])
  pub past-ram :
      (v : Virtqueue) (i : ℕ) (q : Queue) (m host : List ℕ)
      → 0 < v.page.0
      → length m < base_of v.page + end_at (queue_size v)
      → (transferred (card v) v i q m host ≡ stopped Cause.Region (begun q m host)) ×
      (emptied (card v) v i q m ≡ stopped Cause.Region (begun q m []))
  -- "the rest join their lines", whatever their reply
  pub joins :
      (v : Virtqueue) (m : List ℕ) (head i : ℕ) (request reply : List Range)
      → Readable v m head request reply
      → id_of m request ≡ v.first + i
      → i < v.streams
      → arrival_of v m head ≡ in_line i
  -- "gets its 01 answer at once": length 0 where the fault is a walk's or the reply outside RAM or under 8, else IO_ERR
  pub walk-fault :
      (v : Virtqueue) (m : List ℕ) (head : ℕ) (f : Fault)
      → walked v m head ≡ faulted f
      → arrival_of v m head ≡ at_once (read_as head [] [] (unwalked f))
  pub bad-refused :
      (v : Virtqueue) (m : List ℕ) (head : ℕ) (request reply : List Range)
      → walked v m head ≡ whole request reply
      → Unfit v m request
      → all_inside (length m) reply ≡ true
      → 8 ≤ total reply
      → arrival_of v m head ≡ at_once (read_as head request reply refused)
  pub bad-silent :
      (v : Virtqueue) (m : List ℕ) (head : ℕ) (request reply : List Range)
      → walked v m head ≡ whole request reply
      → Unfit v m request
      → (all_inside (length m) reply ≡ false) ⊎ (total reply < 8)
      → arrival_of v m head ≡ at_once (read_as head request reply silent)
  -- a play message that is begun: an id that is the line's, a reply of 8 bytes
  pub begins :
      (v : Virtqueue) (m : List ℕ) (head i : ℕ) (request reply : List Range)
      → v.direction ≡ output
      → Readable v m head request reply
      → id_of m request ≡ v.first + i
      → all_inside (length m) reply ≡ true
      → total reply ≡ 8
      → reading_of v i m head ≡ read_as head request reply well_formed
  -- lines of 200 and 56 on two streams, none new: fine; the next entry is 11. With lines of 200 and 55 one more is fine
  pub full : finds 256 200 56 (Ok (Some 0))
  pub one_more : finds 257 200 56 (Err Cause.Entries)
  pub one-fits : finds 257 200 55 (Ok (Some 1))
  -- ids swapped after taking: IO_ERR, whichever line; nothing is moved, and the message goes to no other line
  pub swapped :
      (v : Virtqueue) (i : ℕ) (r : Run Queue) (head : ℕ) (request reply : List Range)
      → v.direction ≡ output
      → (card v).front i r.queue ≡ unread head
      → 0 < r.room
      → Changed v i r.mem head request reply
      → ((transfer_step (card v) v i r).mem ≡ refused_in v r.queue.completed r.mem head reply) ×
      ((transfer_step (card v) v i r).bytes ≡ r.bytes)
  pub swapped-released :
      (v : Virtqueue) (i : ℕ) (r : Run Queue) (head : ℕ) (request reply : List Range)
      → v.direction ≡ output
      → (card v).front i r.queue ≡ unread head
      → Changed v i r.mem head request reply
      → (release_step (card v) v i r).mem ≡ refused_in v r.queue.completed r.mem head reply
