-- What the five kinds of call are made of, each from the state, its arguments and the memory lent to it to the answer, the count, the next
-- state and memory; for any way `Q` of keeping the stream queues. Registers, control messages and events are here; what a play, a capture
-- or a Release does to its stream's queue is queue_lines', and the calls are line_calls'.
use Rattle.std.specs.Prelude.{Option, Result as Found, Ok, Err, Some, None}
use Rattle.counts.specs.declared.DescriptorNumber.{DescriptorNumber}
use Rattle.std.specs.Prelude.{Bool, true, false, cond, ◌&&◌, ◌||◌, List, [], ◌++◌, map, ℕ, zero, suc, eqb, leb, ltb, length, get_or, set}
use Rattle.std.proofs.lemmas.List.Edits.{sets}
use Rattle.chain.specs.Walk.{Outcome, whole, faulted, walk_of}
use Rattle.ranges.specs.Ranges.{total, places, bytes_at, put_at, all_inside}
use Rattle.ranges.specs.declared.Range.{Range}
use Rattle.registers.specs.Answers.{done, length_differs, not_live, not_running, event_not_allowed, no_event_buffer, no_queue, plain}
use Rattle.registers.specs.Map.{size_of}
use Rattle.registers.specs.Rules.{read_of, write_of, live, broken, has_bit, indirect_negotiated}
use Rattle.registers.specs.declared.Config.{Config}
use Rattle.registers.specs.declared.Effect.{Effect}
use Rattle.registers.specs.declared.Effect.TheVariants.{Nothing, Reset, Based, Rung}
use Rattle.registers.specs.declared.Read.{Read}
use Rattle.registers.specs.declared.Registers.{Registers}
use Rattle.registers.specs.declared.Written.{Written}
use Rattle.registers.specs.declared.answers.Answer.{Answer}
use Rattle.ring.specs.Rules.{base_of, check_of, head_of, posted_of, interrupts}
use Rattle.ring.specs.declared.Cause.{Cause}
use Rattle.card.specs.Card.{no_counters, running_state, released_state}
use Rattle.card.specs.Rules.{jack_reset, stream_reset, rung_of}
use Rattle.card.specs.declared.Jack.{Jack}
use Rattle.device.specs.Answers.{broken_answer, by_stop}
use Rattle.rules.specs.Control.{Parts, Served, Reply, Release, parts_in, with_parts, status, no_jack, with_state, with_backlog}
use Rattle.rules.specs.Control.{with_stream}
use Rattle.device.specs.Device.{Direction, output, input, queue_number, Rest, Device}
use Rattle.device.specs.Device.{with_queue, with_registers, with_jacks, with_control, with_event, page_of, stream_at, signalled_if}
use Rattle.device.specs.Device.{one_taken}
use Rattle.device.specs.Device.{one_completed, bytes_of}
use Rattle.device.specs.Numbers.{control_queue, event_queue, jack_connected, jack_disconnected, pcm_xrun, s_ok, s_bad_msg}
use Rattle.device.specs.Transfer.{Transferred}

-- ---- calls, and what their callers are told

-- "count": messages completed for control, bytes for play and capture; "bytes" are those a play handed on or a capture consumed;
-- "host" is the host buffer after a play
pub record Told : Type 0 where
  pub answer : Answer
  pub value : ℕ
  pub rung : ℕ
  pub count : ℕ
  pub bytes : List ℕ
  pub host : List ℕ
  pub memory : List ℕ

pub record Step (S : Type 0) : Type 0 where
  pub state : S
  pub told : Told

-- what a call does to all but the stream queues
pub record Result : Type 0 where
  pub rest : Rest
  pub answer : Answer
  pub count : ℕ
  pub mem : List ℕ

-- "nothing changed"; "Answers 1 to 8 count 0."
abbrev pub refused_with : ℕ → Rest → List ℕ → Result
refused_with number r m = record { rest = r; answer = plain number; count = 0; mem = m }

-- a queue is broken: "earlier writes .. stand ..; NEEDS_RESET and ISR bit 1 set"
abbrev pub broke : ℕ → Cause → Rest → List ℕ → Result
broke queue cause r m =
    record { rest = with_registers (broken r.registers) r; answer = broken_answer queue cause; count = 0; mem = m }

-- "1 RAM length differs from power-up", "5 device not live"
abbrev pub admitted : {A : Type 0} → Rest → List ℕ → (ℕ → A) → A → A
admitted r m refuse go = cond (eqb (length m) r.ram) (cond (live r.registers) go (refuse not_live)) (refuse length_differs)

-- "without bit 28 negotiated": as the guest features have it
abbrev pub indirect : Rest → Bool
indirect r = indirect_negotiated r.registers

-- ---- registers

abbrev pub config_of : Rest → Config
config_of r = record { jacks = length r.jacks; streams = length r.streams; chmaps = length r.maps }

-- a reset and a base write, but for the stream queues and the registers
abbrev pub reset_rest : Rest → Rest
reset_rest r =
    record {
      ram = r.ram;
      registers = r.registers;
      jacks = map jack_reset r.jacks;
      maps = r.maps;
      streams = map stream_reset r.streams;
      control = no_counters;
      event = no_counters;
    }

abbrev pub based_rest : ℕ → Rest → Rest
based_rest q r =
    record {
      ram = r.ram;
      registers = r.registers;
      jacks = r.jacks;
      maps = r.maps;
      streams = r.streams;
      control = cond (eqb q 0) no_counters r.control;
      event = cond (eqb q 1) no_counters r.event;
    }

abbrev pub affected_rest : Effect → Rest → Rest
affected_rest Nothing r = r
affected_rest Reset r = reset_rest r
affected_rest (Based q) r = based_rest q r
affected_rest (Rung q) r = r

-- the queue of a direction is cleared "at each reset and at each base write" of it
abbrev pub clears_queue : Direction → Effect → Bool
clears_queue d Nothing = false
clears_queue d Reset = true
clears_queue d (Based q) = eqb q (queue_number d)
clears_queue d (Rung q) = false

-- ---- control: "One per call"

-- a control message taken: what is left to do is its reply
pub record Pending : Type 0 where
  pub rest : Rest
  pub head : ℕ
  pub reply : List Range

pub data Order : Type 0 where
  Done : Result → Order
  ReleaseFirst : ℕ → Pending → Order

-- the reply is written, the message completed: "the answer counts those completed, 0 or 1"
unfoldable pub replied : Pending → List ℕ → List ℕ → Result
replied p bytes m =
    let base = base_of (page_of p.rest control_queue) in
    let after = posted_of (put_at m (places p.reply) bytes) base (size_of control_queue) p.rest.control.completed p.head
    (length bytes) in
    record {
      rest =
          with_registers (signalled_if (interrupts after base (size_of control_queue)) p.rest.registers)
          (with_control (one_completed p.rest.control) p.rest);
      answer = plain done;
      count = 1;
      mem = after;
    }

abbrev pub with_rest : Rest → Pending → Pending
with_rest r p = record { rest = r; head = p.head; reply = p.reply }

abbrev pub acted : Served → Pending → List ℕ → Order
acted (Reply parts bytes) p m = Done (replied (with_rest (with_parts parts p.rest) p) bytes m)
acted (Release id) p m = ReleaseFirst id p

-- by what a request comes to
module _ (serve : Parts → List ℕ → ℕ → Served) where
  -- "Walk fault, writable range outside RAM, or reply under 4 bytes: length 0, nothing written. Then readable outside RAM or
  -- request under 4: BAD_MSG."
  abbrev pub read_message_by : Rest → List ℕ → ℕ → Outcome → Order
  read_message_by r m head (faulted f) = Done (replied (record { rest = r; head = head; reply = [] }) [] m)
  read_message_by r m head (whole request reply) =
      let p : Pending = record { rest = r; head = head; reply = reply } in
      cond (all_inside (length m) reply && leb 4 (total reply))
      (cond (all_inside (length m) request && leb 4 (total request))
      (acted (serve (parts_in r) (bytes_at m (places request)) (total reply)) p m)
      (Done (replied p (status s_bad_msg) m)))
      (Done (replied p [] m))

  abbrev pub control_head_by : Rest → List ℕ → Found DescriptorNumber Cause → Order
  control_head_by r m (Ok n) =
      read_message_by (with_control (one_taken r.control) r) m n.0
      (walk_of m (base_of (page_of r control_queue)) (size_of control_queue) n.0 (indirect r))
  control_head_by r m (Err cause) = Done (broke control_queue cause r m)

  -- "Base 0: the queue is idle; control, play and capture then answer 0, count 0."; so does a control call where nothing is new
  abbrev pub control_found_by : Rest → List ℕ → Found (Option ℕ) Cause → Order
  control_found_by r m (Ok None) = Done (refused_with done r m)
  control_found_by r m (Err cause) = Done (broke control_queue cause r m)
  control_found_by r m (Ok (Some zero)) = Done (refused_with done r m)
  control_found_by r m (Ok (Some (suc n))) = control_head_by r m
      (head_of m (page_of r control_queue) (size_of control_queue) r.control.taken)

  -- "Control: 1, 5, 9."
  abbrev pub order_by : Rest → List ℕ → Order
  order_by r m =
      admitted r m (λ answer. Done (refused_with answer r m))
      (control_found_by r m (check_of m (page_of r control_queue) (size_of control_queue) r.control.taken 0))

-- ---- a Release, past its checks: the stream's queue, then the reply

-- ".. then replies." "If the queue breaks, the control message stays taken, uncompleted, and the stream keeps its state."
abbrev pub released_on : Direction → ℕ → Pending → List ℕ → Option Cause → Bool → Result
released_on d id p m stop signal =
    let r : Rest = with_registers (signalled_if signal p.rest.registers) p.rest in
    by_stop stop (replied (with_rest (with_stream r id (with_state released_state (stream_at r id))) p) (status s_ok) m)
    (λ cause. broke (queue_number d) cause r m)

-- ---- play and capture

abbrev pub untouched : {Q : Type 0} → Answer → Registers → Q → List ℕ → Transferred Q
untouched answer g q m = record { queue = q; registers = g; answer = answer; bytes = []; mem = m }

-- "stream absent or not Running"
abbrev pub is_running : Rest → ℕ → Bool
is_running r id = ltb id (length r.streams) && eqb (stream_at r id).state running_state

-- .. behind 1 and 5
abbrev pub admitted_if : {A : Type 0} → Bool → Rest → List ℕ → (ℕ → A) → A → A
admitted_if runs r m refuse go = admitted r m refuse (cond runs go (refuse not_running))

-- ---- events

-- "Jack ones need the jack ..; XRUN needs the stream Running with that feature selected; other kinds are answer 7."
unfoldable pub event_allowed : Rest → ℕ → ℕ → Bool
event_allowed r code data' =
    cond (eqb code jack_connected || eqb code jack_disconnected) (ltb data' (length r.jacks))
    (eqb code pcm_xrun && is_running r data' && has_bit (stream_at r data').params.features 4)

abbrev pub with_connected : ℕ → Jack → Jack
with_connected v j = record { info = j.info; defconf = j.defconf; connected = v }

-- ".. and record its state unless 1, 5 or 7 is answered"
unfoldable pub recorded : Rest → ℕ → ℕ → Rest
recorded r code data' =
    cond (eqb code jack_connected) (with_jacks (set r.jacks data' (with_connected 1 (get_or r.jacks data' no_jack))) r)
    (cond (eqb code jack_disconnected) (with_jacks (set r.jacks data' (with_connected 0 (get_or r.jacks data' no_jack))) r) r)

-- "its code and data, two le32"
abbrev pub event_bytes : ℕ → ℕ → List ℕ
event_bytes code data' = bytes_of 4 code ++ bytes_of 4 data'

-- a chain of the event queue completed with these bytes in its reply
unfoldable pub event_posted : Rest → List ℕ → ℕ → List Range → List ℕ → Result
event_posted r m head reply bytes =
    let base = base_of (page_of r event_queue) in
    let after = posted_of (put_at m (places reply) bytes) base (size_of event_queue) r.event.completed head (length bytes) in
    record {
      rest =
          with_registers (signalled_if (interrupts after base (size_of event_queue)) r.registers)
          (with_event (one_completed (one_taken r.event)) r);
      answer = plain done;
      count = 0;
      mem = after;
    }

-- "A chain with readable bytes, a walk fault, a range outside RAM or reply under 8"
abbrev pub event_room : List ℕ → Outcome → Option (List Range)
event_room m (faulted f) = None
event_room m (whole request reply) =
    cond (eqb (total request) 0 && all_inside (length m) request && all_inside (length m) reply && leb 8 (total reply)) (Some reply) None

-- one entry tried: the event is delivered or can't be, or the next entry is tried
pub data Tried : Type 0 where
  Ended : Result → Tried
  Further : Result → Tried

-- what sending an event came to, and how many new entries are left
pub record Sent : Type 0 where
  pub result : Result
  pub left : ℕ

module _ (code data' : ℕ) where
  -- ".. completes with length 0 and the next is tried"
  abbrev pub event_chain : Rest → List ℕ → ℕ → Option (List Range) → Tried
  event_chain r m head (Some reply) = Ended (event_posted r m head reply (event_bytes code data'))
  event_chain r m head None = Further (event_posted r m head [] [])

  abbrev pub event_head : Rest → List ℕ → Found DescriptorNumber Cause → Tried
  event_head r m (Err cause) = Ended (broke event_queue cause r m)
  event_head r m (Ok n) =
      event_chain r m n.0 (event_room m (walk_of m (base_of (page_of r event_queue)) (size_of event_queue) n.0 (indirect r)))

  unfoldable pub tried : Rest → List ℕ → Tried
  tried r m = event_head r m (head_of m (page_of r event_queue) (size_of event_queue) r.event.taken)

  -- with so many entries left after the one that was tried
  abbrev pub onward : Tried → ℕ → (Rest → List ℕ → Sent) → Sent
  onward (Ended o) left go = record { result = o; left = left }
  onward (Further o) left go = go o.rest o.mem

  unfoldable pub event_run : ℕ → Rest → List ℕ → Sent
  event_run zero r m = record { result = refused_with no_event_buffer r m; left = 0 }
  event_run (suc k) r m = onward (tried r m) k (event_run k)

-- "An idle queue is answer 8."
abbrev pub event_found : ℕ → ℕ → Rest → List ℕ → Found (Option ℕ) Cause → Sent
event_found code data' r m (Ok None) = record { result = refused_with no_event_buffer r m; left = 0 }
event_found code data' r m (Err cause) = record { result = broke event_queue cause r m; left = 0 }
event_found code data' r m (Ok (Some n)) = event_run code data' n r m

-- "Event: 1, 5, 7, then 8 or 9." Answer 8 leaves "jack state recorded; bad chains completed".
unfoldable pub event_of : Rest → ℕ → ℕ → List ℕ → Result
event_of r code data' m =
    admitted r m (λ answer. refused_with answer r m)
    (cond (event_allowed r code data')
    (event_found code data' (recorded r code data') m
    (check_of m (page_of r event_queue) (size_of event_queue) r.event.taken 0)).result
    (refused_with event_not_allowed r m))

-- ---- a call

abbrev pub told_all : Answer → ℕ → ℕ → ℕ → List ℕ → List ℕ → List ℕ → Told
told_all answer value rung count bytes host mem =
    record { answer = answer; value = value; rung = rung; count = count; bytes = bytes; host = host; memory = mem }

-- nothing rung
abbrev pub nothing_rung : ℕ
nothing_rung = no_queue

-- a result that leaves the stream queues as they are
abbrev pub step_by : {Q : Type 0} → Result → Device Q → Step (Device Q)
step_by o b =
    record {
      state = record { rest = o.rest; play = b.play; capture = b.capture };
      told = told_all o.answer 0 nothing_rung o.count [] [] o.mem;
    }

unfoldable pub read_step : {Q : Type 0} → ℕ → ℕ → Device Q → List ℕ → Step (Device Q)
read_step offset width b m =
    let r : Read = read_of b.rest.registers (config_of b.rest) offset width in
    record {
      state = record { rest = with_registers r.registers b.rest; play = b.play; capture = b.capture };
      told = told_all (plain r.answer) r.value nothing_rung 0 [] [] m;
    }

-- a Release past its checks, once its stream's queue is emptied
abbrev pub ended_on : {Q : Type 0} → Direction → Result → Q → Device Q → Step (Device Q)
ended_on d o q b =
    record {
      state = with_queue d o.rest q b;
      told = told_all o.answer 0 nothing_rung o.count [] [] o.mem;
    }

-- "Host bytes past the count keep their value."
abbrev pub host_after : Direction → List ℕ → List ℕ → List ℕ
host_after output host bytes = sets host 0 bytes
host_after input host bytes = []

unfoldable pub transfer_step : {Q : Type 0} → Direction → List ℕ → Device Q → Transferred Q → Step (Device Q)
transfer_step d host b t =
    record {
      state = with_queue d (with_registers t.registers b.rest) t.queue b;
      told = told_all t.answer 0 nothing_rung (length t.bytes) t.bytes (host_after d host t.bytes) t.mem;
    }

-- order 5: the stream remembers the backlog of a call "that answered 0"
abbrev pub remembered_if : Bool → ℕ → ℕ → Rest → Rest
remembered_if answered id backlog r = cond answered (with_stream r id (with_backlog backlog (stream_at r id))) r

unfoldable pub remembering : {Q : Type 0} → ℕ → ℕ → Step (Device Q) → Step (Device Q)
remembering id backlog s =
    record {
      state =
          record {
            rest = remembered_if (eqb s.told.answer.number done) id backlog s.state.rest;
            play = s.state.play;
            capture = s.state.capture;
          };
      told = s.told;
    }

-- a write, where a queue that it clears is this
abbrev pub write_by : {Q : Type 0} → (Direction → Q) → ℕ → ℕ → ℕ → Device Q → List ℕ → Step (Device Q)
write_by empty offset width v b m =
    let w : Written = write_of b.rest.registers offset width v in
    record {
      state =
          record {
            rest = affected_rest w.effect (with_registers w.registers b.rest);
            play = cond (clears_queue output w.effect) (empty output) b.play;
            capture = cond (clears_queue input w.effect) (empty input) b.capture;
          };
      told = told_all (plain w.answer) 0 (rung_of w.effect) 0 [] [] m;
    }

-- a control message, by what a Release does
abbrev pub ordered_by : {Q : Type 0} → (ℕ → Pending → Device Q → List ℕ → Step (Device Q)) → Order → Device Q → List ℕ → Step (Device Q)
ordered_by release (Done o) b m = step_by o b
ordered_by release (ReleaseFirst id p) b m = release id p b m
