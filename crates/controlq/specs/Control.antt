-- The control call in terms of the pieces of the card.
use Rattle.std.specs.Prelude.{◌≡◌, ℕ, Bool, Result, Ok, Err, cond, ◌&&◌, List, [], length, nat_le, nat_lt, slice_index_or, slice_set}
use Rattle.chain.specs.Walk.{whole, walk_of}
use Rattle.chain.specs.declared.Chain.{Chain}
use Rattle.counts.specs.declared.DescriptorNumber.{DescriptorNumber}
use Rattle.ranges.specs.Ranges.{Sound, total, all_inside, ranges_of, places, bytes_at}
use Rattle.ranges.specs.declared.Range.{Range}
use Rattle.ranges.specs.declared.Ranges.{Ranges}
use Rattle.registers.specs.Answers.{done, plain}
use Rattle.registers.specs.Map.{size_of}
use Rattle.registers.specs.Rules.{broken}
use Rattle.ring.specs.Rules.{base_of}
use Rattle.ring.specs.Rules as ring
use Rattle.ring.specs.declared.Posted.{Posted}
use Rattle.card.specs.Card.{no_counters, released_state}
use Rattle.card.specs.declared.Card.{Card}
use Rattle.card.specs.declared.Counters.{Counters}
use Rattle.card.specs.declared.Parts.{Parts}
use Rattle.live.specs.Live.{card_in}
use Rattle.live.specs.Setters.{with_registers, with_states}
use Rattle.live.specs.declared.Live.{Live}
use Rattle.control.specs.Control.{changed_by}
use Rattle.control.specs.declared.Change.{Change}
use Rattle.line_calls.specs.Calls.{Request, served, release_by, release_queue}
use Rattle.line_calls.specs.Claim.{card}
use Rattle.line_calls.specs.Streams.{Streams, streams_in, direction_of}
use Rattle.meaning.specs.Card.{counters_at, rest_of, device_of, step_of, leaves}
use Rattle.meaning.specs.Fit.{Fits}
use Rattle.queue_lines.specs.Chains.{line_of}
use Rattle.queue_lines.specs.Counters.{Queue}
use Rattle.device.specs.Answers.{broken_answer}
use Rattle.rules.specs.Calls as calls
use Rattle.rules.specs.Calls.{Step, Pending, Order, step_by, ordered_by, acted, indirect, read_message_by, control_head_by}
use Rattle.rules.specs.Control as rules
use Rattle.rules.specs.Control.{with_state, with_stream}
use Rattle.rules.specs.Parts.{parts_of}
use Rattle.device.specs.Device.{Device, page_of, stream_at, signalled_if, one_taken}
use Rattle.device.specs.Numbers.{control_queue}
use Rattle.reply.specs.declared.Pending as reply
use Rattle.meaning.specs.Held.{holding_live}
use Rattle.stream.specs.Queue.{Empties}
use Rattle.stream.specs.declared.Emptied.{Emptied}
use Rattle.controlq.specs.declared.ControlAnswer.{ControlAnswer}
use Rattle.controlq.specs.declared.Ending.{Ending}
use Rattle.controlq.specs.declared.Ending.TheVariants.{Untouched, Broke, Completed}
use Rattle.controlq.specs.declared.Changing.{Changing}
use Rattle.controlq.specs.declared.Message.{Message}

-- ---- the steps of reading a message

-- a message of the card that is taken; what is left to do is its reply
abbrev pub pending_of : Card → DescriptorNumber → List Range → Pending
pending_of c head reply = record { rest = rest_of c; head = head.0; reply = reply }

-- the counters of the control queue
abbrev pub counters_in : Live → Counters
counters_in l = slice_index_or l.queues control_queue no_counters

-- .. and what its completion needs
abbrev pub pending_in : Live → DescriptorNumber → Ranges → reply.Pending
pending_in l head ranges =
    record {
      page = slice_index_or l.registers.pages control_queue (record { 0 = 0 });
      completed = (counters_in l).completed;
      head = head;
      reply = ranges;
    }

-- inside RAM, and at least four bytes
abbrev pub side_of : ℕ → List Range → Bool
side_of len rs = all_inside len rs && nat_le 4 (total rs)

-- what a request comes to on this card, and the step of what a message orders
abbrev pub served_on : Card → rules.Parts → List ℕ → ℕ → rules.Served
served_on c p request room = served (streams_in c.parts) p request room

abbrev pub ordered_on : Card → Order → List ℕ → Step (Device Queue)
ordered_on c o m = ordered_by (release_by (streams_in c.parts) (card (streams_in c.parts))) o (device_of c) m

-- the rules' order for a message of these sides
abbrev pub served_chain : Card → DescriptorNumber → List Range → List Range → List ℕ → Order
served_chain c head request reply m = read_message_by (served_on c) (rest_of c) m head.0 (whole request reply)

-- the rules' order for the message at a head, taken
abbrev pub walked_at : Card → DescriptorNumber → List ℕ → Order
walked_at c head m =
    read_message_by (served_on c) (rest_of c) m head.0
    (walk_of m (base_of (page_of (rest_of c) control_queue)) (size_of control_queue) head.0 (indirect (rest_of c)))

-- the rules' order for the next message
abbrev pub next_order : Card → List ℕ → Order
next_order c m =
    control_head_by (served_on c) (rest_of c) m
    (ring.head_of m (page_of (rest_of c) control_queue) (size_of control_queue) (counters_at c control_queue).taken)

-- ---- what is left

-- a result that leaves the stream queues of a card as they are
abbrev pub ends_on : Card → calls.Result → Step (Device Queue)
ends_on c o = step_by o (device_of c)

-- one message more taken, or completed
abbrev pub taken_live : Live → Live
taken_live l = holding_live control_queue l.registers (one_taken (counters_in l)) l

abbrev pub counted_live : Posted → Live → Live
counted_live p l =
    holding_live control_queue (signalled_if p.interrupt l.registers)
    (record { taken = (counters_in l).taken; completed = p.completed }) l

-- the answer of a call, with what its end changes
abbrev pub finish_of : Ending → Live → Parts → ControlAnswer
finish_of (Untouched number) l p = record { answer = plain number; count = 0; live = l; parts = p }
finish_of (Broke queue cause) l p =
    record { answer = broken_answer queue cause; count = 0; live = with_registers (broken l.registers) l; parts = p }
finish_of (Completed posted) l p = record { answer = plain done; count = 1; live = counted_live posted l; parts = p }

-- what an answer tells, over the words of the chains and memory, is what this step leaves; and all is fit
abbrev pub Ends : Step (Device Queue) → ControlAnswer → List ℕ → List ℕ → List ℕ → Type 0
Ends s r pw cw m =
    (s ≡ leaves (card_in r.live r.parts pw cw) r.answer r.count [] [] m) × Fits r.live r.parts pw cw

-- ---- the steps of the call

-- a message that is taken; what is left to do is its reply
abbrev pub asks_in : Card → List ℕ → Message → Pending
asks_in c ws message = pending_of c message.head (ranges_of ws message.reply)

-- the step of the rules for the message at a head, taken
abbrev pub walked_step : Card → DescriptorNumber → List ℕ → Step (Device Queue)
walked_step c head m = ordered_on c (walked_at c head m) m

-- .. for one of this request and this reply
abbrev pub served_step : Card → List ℕ → Ranges → Message → List ℕ → Step (Device Queue)
served_step c ws request message m =
    ordered_on c
    (acted (served_on c (parts_of c.parts) (bytes_at m (places (ranges_of ws request))) message.reply.bytes) (asks_in c ws message) m) m

-- .. for a request that may change the parts, by its first bytes
abbrev pub change_step : Change → Card → List ℕ → Message → List ℕ → List ℕ → Step (Device Queue)
change_step change c ws message bs m =
    ordered_on c (acted (changed_by change (parts_of c.parts) bs) (asks_in c ws message) m) m

-- every card with this small state: what the checks of a call and the next head make of it
abbrev pub Finds : Live → List ℕ → Result DescriptorNumber Ending → Type 0
Finds l m (Err ending) =
    (p : Parts) (pw cw : List ℕ) → Fits l p pw cw → Ends (step_of (card_in l p pw cw) Request.Control m) (finish_of ending l p) pw cw m
Finds l m (Ok head) =
    (length m ≡ l.ram_len)
    × ((p : Parts) (pw cw : List ℕ) → Fits l p pw cw
    → step_of (card_in l p pw cw) Request.Control m ≡ walked_step (card_in (taken_live l) p pw cw) head m)

-- .. and the walk of a message that is taken
abbrev pub Meets : Live → DescriptorNumber → List ℕ → List ℕ → List ℕ → Result Chain Posted → Type 0
Meets l head m ws m' (Err posted) =
    (p : Parts) (pw cw : List ℕ) → Fits l p pw cw → Ends (walked_step (card_in l p pw cw) head m) (finish_of (Completed posted) l p) pw cw
    m'
Meets l head m ws m' (Ok chain) =
    (m' ≡ m) × Sound ws chain.request
    × ((p : Parts) (pw cw : List ℕ)
    → walked_step (card_in l p pw cw) head m
    ≡ served_step (card_in l p pw cw) ws chain.request (record { head = head; reply = chain.reply }) m)

-- a step is what a message comes to
abbrev pub Comes
    : Step (Device Queue) → Live → Parts → List ℕ → List ℕ → List ℕ → Message → List ℕ → List ℕ → Result Change Posted → Type 0
Comes s l p pw cw ws message bs m (Err posted) = Ends s (finish_of (Completed posted) l p) pw cw m
Comes s l p pw cw ws message bs m (Ok change) =
    (s ≡ change_step change (card_in l p pw cw) ws message bs m) × (length m ≡ l.ram_len)

-- every card with this small state and these parts: what its message comes to
abbrev pub Answers : Live → Parts → List ℕ → Ranges → Message → List ℕ → List ℕ → List ℕ → Result Change Posted → Type 0
Answers l p ws request message m bs m' r =
    (pw cw : List ℕ) → Fits l p pw cw → Comes (served_step (card_in l p pw cw) ws request message m) l p pw cw ws message bs m' r

-- .. and the message at a head, taken
abbrev pub Attends : Live → Parts → DescriptorNumber → List ℕ → List ℕ → List ℕ → List ℕ → Result Changing Posted → Type 0
Attends l p head m ws bs m' (Err posted) =
    (pw cw : List ℕ) → Fits l p pw cw → Ends (walked_step (card_in l p pw cw) head m) (finish_of (Completed posted) l p) pw cw m'
Attends l p head m ws bs m' (Ok left) =
    (pw cw : List ℕ)
    → Fits l p pw cw
    → Comes (walked_step (card_in l p pw cw) head m) l p pw cw ws left.message bs m' (Ok left.change)

-- ---- a Release

-- a stream's line emptied with statuses of the backlog that the stream remembers: ".. and a Release ends, its own stream's line only"
abbrev pub EmptiesLine : ℕ → Card → List ℕ → List ℕ → Emptied → Card → Type 0
EmptiesLine id c m m' r after =
    let n : Streams = streams_in c.parts in
    Empties (direction_of n id) (line_of (release_queue n id (rest_of c)) id) (stream_at (rest_of c) id).backlog c m m' r.stop r.signal
    after

-- .. in every card with this small state and these words
abbrev pub EmptiesFor : ℕ → Live → List ℕ → List ℕ → List ℕ → List ℕ → List ℕ → List ℕ → Emptied → Type 0
EmptiesFor id l pw cw m pw' cw' m' r =
    (p : Parts)
    → Fits l p pw cw
    → EmptiesLine id (card_in l p pw cw) m m' r (card_in r.live p pw' cw') × Fits r.live p pw' cw'

-- "the stream Released"
abbrev pub marked_of : ℕ → Device Queue → Device Queue
marked_of id b =
    record {
      rest = with_stream b.rest id (with_state released_state (stream_at b.rest id));
      play = b.play;
      capture = b.capture;
    }

-- .. in the small state
abbrev pub released_live : ℕ → Live → Live
released_live id l = with_states (slice_set l.states id released_state) l

abbrev pub marked_live : ℕ → Live → Live
marked_live id l = cond (nat_lt id l.config.streams) (released_live id l) l
