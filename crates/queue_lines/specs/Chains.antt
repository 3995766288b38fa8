-- Order 8: a message of a stream queue as memory shows it: when it is taken, which line it joins, if any; when work on it, or its
-- Release, begins, its chain.
use Rattle.std.specs.Prelude.{Bool, false, cond, ◌&&◌, List, [], ℕ, ◌+◌, ◌-◌, eqb, leb, ltb, length}
use Rattle.counts.specs.declared.PageNumber.{PageNumber}
use Rattle.ranges.specs.Ranges.{total, all_inside}
use Rattle.ranges.specs.declared.Range.{Range}
use Rattle.chain.specs.Walk.{Outcome, whole, faulted, walk_of}
use Rattle.registers.specs.Map.{size_of}
use Rattle.ring.specs.Rules.{base_of}
use Rattle.device.specs.Device.{Direction, queue_number, Form, well_formed, refused, silent, unwalked, Taking}
use Rattle.device.specs.Transfer.{id_of, sized}

-- a stream queue in a call: its direction; its page, and whether indirect tables are negotiated, as the guest laid it out; the latency
-- that the statuses completed in the call carry; the number of its first stream and how many it has ("outputs numbered first"). Line i
-- of the queue is that of stream first + i
pub record Virtqueue : Type 0 where
  pub direction : Direction
  pub page : PageNumber
  pub negotiated : Bool
  pub latency : ℕ
  pub first : ℕ
  pub streams : ℕ

-- its number of descriptors
abbrev pub queue_size : Virtqueue → ℕ
queue_size v = size_of (queue_number v.direction)

-- the chain at this head, as memory has it now
abbrev pub walked : Virtqueue → List ℕ → ℕ → Outcome
walked v m head = walk_of m (base_of v.page) (queue_size v) head v.negotiated

-- "I/O order: walk fault, writable outside RAM, reply under 8: length 0. Then readable outside RAM, wrong stream id, or ..: IO_ERR, length
-- 8. Without these a message is well-formed"; `sound` is what the rest of the order asks
abbrev pub judged : List ℕ → List Range → Bool → Form
judged m reply sound = cond (all_inside (length m) reply && leb 8 (total reply)) (cond sound well_formed refused) silent

-- ---- taking

-- the line of a stream
abbrev pub line_of : Virtqueue → ℕ → ℕ
line_of v id = id - v.first

-- a stream of this queue; "A stream of the other direction counts as absent."
abbrev pub is_on : Virtqueue → ℕ → Bool
is_on v id = leb v.first id && ltb (line_of v id) v.streams

-- what becomes of an entry when it is taken: it joins this line, or is answered at once, its chain as it was read
pub data Arrival : Type 0 where
  in_line : ℕ → Arrival
  at_once : Taking → Arrival

-- "the stream id is read then, a walk fault, readable bytes outside RAM or under 4, or an id not on this queue gets its 01 answer at
-- once; the rest join their lines"
abbrev pub arrival : Virtqueue → List ℕ → ℕ → Outcome → Arrival
arrival v m head (faulted f) = at_once (record { head = head; request = []; reply = []; form = unwalked f })
arrival v m head (whole request reply) =
    cond (all_inside (length m) request && leb 4 (total request) && is_on v (id_of m request)) (in_line (line_of v (id_of m request)))
    (at_once (record { head = head; request = request; reply = reply; form = judged m reply false }))

unfoldable pub arrival_of : Virtqueue → List ℕ → ℕ → Arrival
arrival_of v m head = arrival v m head (walked v m head)

-- ---- beginning

-- "When work on the front of a line, or else its Release, begins, its chain is read and remembered; an id that changed meanwhile is
-- IO_ERR": by 01's I/O order, "wrong stream id" now being any but the line's. This amends 01's "Ranges are remembered when a message is
-- taken"
abbrev pub reading : Virtqueue → ℕ → List ℕ → ℕ → Outcome → Taking
reading v i m head (faulted f) = record { head = head; request = []; reply = []; form = unwalked f }
reading v i m head (whole request reply) =
    record {
      head = head;
      request = request;
      reply = reply;
      form =
          judged m reply
          (all_inside (length m) request && eqb (id_of m request) (v.first + i) && sized v.direction (total request) (total reply));
    }

unfoldable pub reading_of : Virtqueue → ℕ → List ℕ → ℕ → Taking
reading_of v i m head = reading v i m head (walked v m head)
