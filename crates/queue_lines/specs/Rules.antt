-- Order 8, with 01, Play, capture, events: the rules of a stream queue in a call: taking all new entries, then working the line of one
-- stream, or ending it by a Release; for either direction and for any way `Q` of keeping the queue.
use Rattle.std.specs.Prelude.{Option, Result, Ok, Err, Some, None}
use Rattle.counts.specs.declared.DescriptorNumber.{DescriptorNumber}
use Rattle.std.specs.Prelude.{cond, ◌||◌, List, [], ◌++◌, ℕ, zero, suc, ◌+◌, ◌-◌, ltb, length, take, drop}
use Rattle.ring.specs.Rules.{base_of, index_of, found_of, head_at, posted_at, interrupts}
use Rattle.ring.specs.declared.Cause.{Cause}
use Rattle.device.specs.Answers.{going}
use Rattle.device.specs.Device.{Taking, Ending, finished, released, ill_formed, Message}
use Rattle.device.specs.Transfer.{Run, begun, is_nil, is_well, payload_of, status_of, status_in_reply, used_length, memory_moved}
use Rattle.device.specs.Transfer.{bytes_moved}
use Rattle.queue_lines.specs.Chains.{Virtqueue, queue_size, Arrival, in_line, at_once, arrival_of, reading_of}

-- the one loop: a step, so many times
unfoldable pub times : {S : Type 0} → (S → S) → ℕ → S → S
times step zero s = s
times step (suc k) s = times step k (step s)

-- ---- what the rules ask of a stream queue

-- the front of a line: none; a message not read since it was taken, at this head; or one that is begun, with its remembered chain
pub data Front : Type 0 where
  vacant : Front
  unread : ℕ → Front
  working : Message → Front

-- lines are named by their numbers
pub record Ops (Q : Type 0) : Type 0 where
  pub empty : Q
  pub new : Q → ℕ → ℕ  -- new entries, at this available index
  pub place : Q → ℕ  -- the ring place of the next head
  pub used_place : Q → ℕ  -- the ring place of the next used element
  pub used_index : Q → ℕ  -- the used index after it
  pub in_work : Q → ℕ  -- how many messages are in line, in all lines
  pub queued : ℕ → Q → ℕ  -- .. in this line
  pub front : ℕ → Q → Front
  pub join : ℕ → ℕ → Q → Q  -- an entry is taken: this line gets this head
  pub bounce : Taking → ℕ → Q → Q  -- .. or is answered at once, with this latency
  pub begin : ℕ → Taking → Q → Q  -- the front of a line is read
  pub hand : ℕ → List ℕ → List ℕ → Q → Q  -- of the front that is begun: the bytes moved, and their addresses
  pub complete : ℕ → Ending → ℕ → Q → Q  -- .. it is completed, with this latency

abbrev pub with_queue : {Q : Type 0} → Q → Run Q → Run Q
with_queue q r =
    record { queue = q; mem = r.mem; bytes = r.bytes; host = r.host; room = r.room; stop = r.stop; signal = r.signal }

abbrev pub stopped : {Q : Type 0} → Cause → Run Q → Run Q
stopped cause r =
    record { queue = r.queue; mem = r.mem; bytes = r.bytes; host = r.host; room = r.room; stop = Some cause; signal = r.signal }

-- a message of which nothing was moved yet, and one of which so many bytes more were
abbrev pub fresh : Taking → Message
fresh t = record { taking = t; done = 0 }

abbrev pub onward : ℕ → Message → Message
onward n w = record { taking = w.taking; done = w.done + n }

module _ {Q : Type 0} (ops : Ops Q) (v : Virtqueue) where
  -- "Completing writes, in order: reply bytes, used element .., then as used index ..". "Then available flags are read". `after` is the
  -- queue then
  unfoldable pub posted : Ending → Message → Q → Run Q → Run Q
  posted e w after r =
      let t : Taking = w.taking in
      let status : Option ℕ = status_of v.direction e t.form in
      let mem : List ℕ =
      posted_at (status_in_reply status v.latency t.reply r.mem) (base_of v.page) (queue_size v) (ops.used_place r.queue)
      (ops.used_index r.queue) t.head (used_length v.direction status w.done) in
      record {
        queue = after;
        mem = mem;
        bytes = r.bytes;
        host = r.host;
        room = r.room;
        stop = r.stop;
        signal = r.signal || interrupts mem (base_of v.page) (queue_size v);
      }

  -- ---- "Each play, capture or Release, naming its stream, first takes all new entries"

  abbrev pub taken : ℕ → Arrival → Run Q → Run Q
  taken head (in_line i) r = with_queue (ops.join i head r.queue) r
  taken head (at_once t) r = posted ill_formed (fresh t) (ops.bounce t v.latency r.queue) r

  -- "when met, a head is ≥ N (that entry is not taken)": it "ends either, untaken; what the call added before it stands"
  abbrev pub met : Result DescriptorNumber Cause → Run Q → Run Q
  met (Ok n) r = taken n.0 (arrival_of v r.mem n.0) r
  met (Err cause) r = stopped cause r

  -- the next new entry, unless the queue broke
  unfoldable pub next : Run Q → Run Q
  next r = cond (going r.stop) (met (head_at r.mem v.page (queue_size v) (ops.place r.queue)) r) r

  -- ---- the front of a line: "When work on the front of a line, or else its Release, begins, its chain is read and remembered"

  unfoldable pub completed : ℕ → Ending → Message → Run Q → Run Q
  completed i e w r = posted e w (ops.complete i e v.latency r.queue) r

  -- an ill-formed message is completed at once; `go` is what is done with one that is begun
  unfoldable pub opened : ℕ → (Message → Run Q → Run Q) → Taking → Run Q → Run Q
  opened i go t r =
      let u : Run Q = with_queue (ops.begin i t r.queue) r in
      cond (is_well t.form) (go (fresh t) u) (completed i ill_formed (fresh t) u)

  abbrev pub on_front : ℕ → (Message → Run Q → Run Q) → Front → Run Q → Run Q
  on_front i go vacant r = r
  on_front i go (unread head) r = opened i go (reading_of v i r.mem head) r
  on_front i go (working w) r = go w r

  -- ---- a transfer: "While host room (or bytes) is left and a message is in work ..: work it."

  -- the addresses of the payload that wait
  abbrev pub left_of : Message → List ℕ
  left_of w = drop w.done (payload_of v.direction w.taking)

  unfoldable pub moved : ℕ → List ℕ → Run Q → Run Q
  moved i xs r =
      let bytes : List ℕ = bytes_moved v.direction xs r.host r.mem in
      record {
        queue = ops.hand i bytes xs r.queue;
        mem = memory_moved v.direction xs r.host r.mem;
        bytes = r.bytes ++ bytes;
        host = drop (length xs) r.host;
        room = r.room - length xs;
        stop = r.stop;
        signal = r.signal;
      }

  -- as far as there is room. "A finished message completes at once."
  unfoldable pub worked : ℕ → Message → Run Q → Run Q
  worked i w r =
      let xs : List ℕ = take r.room (left_of w) in
      cond (is_nil (drop r.room (left_of w))) (completed i finished (onward (length xs) w) (moved i xs r)) (moved i xs r)

  unfoldable pub transfer_step : ℕ → Run Q → Run Q
  transfer_step i r = cond (ltb 0 r.room) (on_front i (worked i) (ops.front i r.queue) r) r

  -- ---- a Release: "completes its message in work, then takes and completes all entries there", by order 8 those of its own line; that of
  -- an output "gives the message in work, then each new well-formed one, an IO_ERR entry". "Ill-formed messages get their own answer."

  unfoldable pub release_step : ℕ → Run Q → Run Q
  release_step i r = on_front i (completed i released) (ops.front i r.queue) r

  -- ---- "A play or capture works, and a Release ends, its own stream's line only", once all entries are taken; not where the queue broke

  abbrev pub line_run : ℕ → (Run Q → Run Q) → Run Q → Run Q
  line_run i step r = cond (going r.stop) (times step (ops.queued i r.queue) r) r

  unfoldable pub taking_run : ℕ → Run Q → Run Q
  taking_run new r = times next new r

  unfoldable pub transfer_run : ℕ → ℕ → Run Q → Run Q
  transfer_run i new r = line_run i (transfer_step i) (taking_run new r)

  unfoldable pub release_run : ℕ → ℕ → Run Q → Run Q
  release_run i new r = line_run i (release_step i) (taking_run new r)

  -- ---- a call's part on the queue

  -- "New entries = index − taken, modulo 65,536 .. new plus in work exceeds N"; "the overrun rule counts all of a queue as in work". "The
  -- available index is read once per call (for a Release, once more on the stream's queue), before that queue's writes.": in memory as
  -- the call's part finds it
  abbrev pub found : Q → List ℕ → Result (Option ℕ) Cause
  found q m = found_of m v.page (queue_size v) (ops.new q (index_of m v.page (queue_size v))) (ops.in_work q)

  -- on an idle or a broken queue nothing is done: "idle: nothing pending", "On an idle queue neither adds anything"
  abbrev pub on_found : (ℕ → Run Q → Run Q) → Run Q → Result (Option ℕ) Cause → Run Q
  on_found run r (Ok None) = r
  on_found run r (Err cause) = stopped cause r
  on_found run r (Ok (Some n)) = run n r

  -- a play or capture of the stream of line i, that lends `host`; and its Release
  unfoldable pub transferred : ℕ → Q → List ℕ → List ℕ → Run Q
  transferred i q m host = on_found (transfer_run i) (begun q m host) (found q m)

  unfoldable pub emptied : ℕ → Q → List ℕ → Run Q
  emptied i q m = on_found (release_run i) (begun q m []) (found q m)
