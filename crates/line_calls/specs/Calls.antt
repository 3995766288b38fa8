-- The calls on a card of several streams, for any way `Q` of keeping the stream queues; at counters they are the card's, at histories the
-- account's. Registers, control messages and events are those of `rules`; of the stream queues the rules of `queue_lines`.
use Rattle.std.specs.Prelude.{Bool, ◌&&◌, List, ℕ}
use Rattle.registers.specs.Answers.{plain}
use Rattle.device.specs.Device.{Direction, output, input, queue_number, Rest, Device, queue_for, page_of, stream_at}
use Rattle.device.specs.Transfer.{Run, Transferred, transferred_by}
use Rattle.rules.specs.Calls.{Step, Pending, Order, indirect, order_by, released_on, untouched, is_running, admitted_if, event_of, step_by}
use Rattle.rules.specs.Calls.{read_step, write_by, ordered_by, ended_on, transfer_step, remembering}
use Rattle.rules.specs.Control.{Parts, Served, items_by, inform_by, served_by}
use Rattle.queue_lines.specs.Chains.{Virtqueue, line_of, is_on}
use Rattle.queue_lines.specs.Parts.{Lay, lies}
use Rattle.queue_lines.specs.Rules.{Ops, transferred, emptied}
use Rattle.line_calls.specs.Streams.{Streams, direction_of, first_of, count_of, direction_number}

-- "Play lends a host buffer, capture lends host bytes; both answer a byte count." "Each play, capture or Release, naming its stream": the
-- number first; then the host's buffer or bytes. Order 5: "The play and capture calls now take the host's backlog in bytes (32 bits)": the
-- last number
pub data Request : Type 0 where
  ReadRegister : ℕ → ℕ → Request
  WriteRegister : ℕ → ℕ → ℕ → Request
  Control : Request
  Play : ℕ → List ℕ → ℕ → Request
  Capture : ℕ → List ℕ → ℕ → Request
  Event : ℕ → ℕ → Request

-- a call: what is asked, and the memory lent to it. "nobody else writes memory during one; between calls the length of memory may change
-- too": each call brings its own
pub record Call : Type 0 where
  pub asked : Request
  pub lent : List ℕ

-- how the queue of a direction lies, in a call whose statuses carry this latency
abbrev pub lay_of : Rest → Direction → ℕ → Lay
lay_of r d latency = record { page = page_of r (queue_number d); negotiated = indirect r; latency = latency }

module _ (n : Streams) where
  abbrev pub virtqueue_of : Rest → Direction → ℕ → Virtqueue
  virtqueue_of r d latency = lies d (first_of n d) (count_of n d) (lay_of r d latency)

  -- the queue of a stream in its Release. Order 5: "A Release carries the backlog of the last such call on that stream since reset that
  -- answered 0, else 0."
  abbrev pub release_queue : ℕ → Rest → Virtqueue
  release_queue id r = virtqueue_of r (direction_of n id) (stream_at r id).backlog

  -- ---- control messages: PCM_INFO tells each stream's direction by its number

  unfoldable pub served : Parts → List ℕ → ℕ → Served
  served p request room = served_by (inform_by (items_by (direction_number n))) p request room

  unfoldable pub order_of : Rest → List ℕ → Order
  order_of r m = order_by served r m

  -- ---- play and capture

  -- "stream absent or not Running"; "A stream of the other direction counts as absent."
  abbrev pub runs_on : Rest → Direction → ℕ → Bool
  runs_on r d id = is_on (virtqueue_of r d 0) id && is_running r id

  module _ {Q : Type 0} (ops : Direction → Ops Q) where
    -- "Play and capture: 1, 5, 6, 9."; "A play or capture works .. its own stream's line only". Order 5: ".. and every status completed in
    -- that call carries it"
    unfoldable pub transferred_of : Direction → ℕ → ℕ → Device Q → List ℕ → List ℕ → Transferred Q
    transferred_of d id backlog b m host =
        let v : Virtqueue = virtqueue_of b.rest d backlog in
        let q : Q = queue_for d b in
        admitted_if (runs_on b.rest d id) b.rest m (λ number. untouched (plain number) b.rest.registers q m)
        (transferred_by (queue_number d) b.rest.registers (transferred (ops d) v (line_of v id) q m host))

    abbrev pub transfer_by : Direction → ℕ → List ℕ → ℕ → Device Q → List ℕ → Step (Device Q)
    transfer_by d id host backlog b m = remembering id backlog (transfer_step d host b (transferred_of d id backlog b m host))

    -- ---- a Release, past its checks: ".. and a Release ends, its own stream's line only"

    unfoldable pub release_by : ℕ → Pending → Device Q → List ℕ → Step (Device Q)
    release_by id p b m =
        let d : Direction = direction_of n id in
        let v : Virtqueue = release_queue id p.rest in
        let e : Run Q = emptied (ops d) v (line_of v id) (queue_for d b) m in
        ended_on d (released_on d id p e.mem e.stop e.signal) e.queue b

    -- ---- a call; "What drops 01's message in work drops the lines.": a reset, and a base write of that queue

    abbrev pub asked : Request → Device Q → List ℕ → Step (Device Q)
    asked (ReadRegister offset width) b m = read_step offset width b m
    asked (WriteRegister offset width v) b m = write_by (λ (d : Direction). (ops d).empty) offset width v b m
    asked Control b m = ordered_by release_by (order_of b.rest m) b m
    asked (Play id host backlog) b m = transfer_by output id host backlog b m
    asked (Capture id host backlog) b m = transfer_by input id host backlog b m
    asked (Event code data') b m = step_by (event_of b.rest code data' m) b

    abbrev pub step : Device Q → Call → Step (Device Q)
    step b c = asked c.asked b c.lent
