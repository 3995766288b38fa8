-- 01, Play, capture, events: a message of a stream queue, what its completion answers, and the steps of a queue seen at one line: moving
-- and completing its message in work; for either direction and for any way `Q` of keeping the queue. The rules of a whole queue are
-- `queue_lines`'.
use Rattle.std.specs.Prelude.{Option, Some, None}
use Rattle.ring.specs.declared.Cause.{Cause}
use Rattle.std.specs.Prelude.{◌≡◌, Bool, true, false, cond, ◌&&◌, ◌||◌, not, List, [], ◌∷◌, ◌++◌, ℕ, ◌+◌, ◌-◌, ◌≤◌, ◌<◌, eqb, leb, ltb}
use Rattle.std.specs.Prelude.{length, take, drop}
use Rattle.counts.specs.declared.PageNumber.{PageNumber}
use Rattle.memory.specs.Bytes.{le}
use Rattle.ranges.specs.Ranges.{total, places, bytes_at, put_at}
use Rattle.ranges.specs.declared.Range.{Range}
use Rattle.registers.specs.Map.{size_of}
use Rattle.registers.specs.declared.Registers.{Registers}
use Rattle.registers.specs.declared.answers.Answer.{Answer}
use Rattle.ring.specs.Layout.{end_at}
use Rattle.ring.specs.Rules.{base_of, index_of, posted_at, interrupts}
use Rattle.device.specs.Answers.{answer_by, broken_by}
use Rattle.device.specs.Device.{Direction, output, input, Virtqueue, queue_size, Form, well_formed, refused, silent}
use Rattle.device.specs.Device.{unwalked, Taking, Ending, finished, released, ill_formed, bytes_of, signalled_if}
use Rattle.device.specs.Numbers.{play_queue, s_ok, s_io_err}

-- ---- a message as memory shows it: "I/O order"

-- "wrong stream id": the request's first four bytes
abbrev pub id_of : List ℕ → List Range → ℕ
id_of m request = le 4 (bytes_at m (take 4 (places request))) 0

-- "play request under 4 or reply not 8; capture request not 4"
abbrev pub sized : Direction → ℕ → ℕ → Bool
sized output request reply = leb 4 request && eqb reply 8
sized input request reply = eqb request 4

abbrev pub is_well : Form → Bool
is_well well_formed = true
is_well refused = false
is_well silent = false
is_well (unwalked f) = false

-- "its payload is the request past 4 bytes, for capture the reply before its last 8"; an ill-formed message has none
abbrev pub payload_places : Direction → Taking → List ℕ
payload_places output t = drop 4 (places t.request)
payload_places input t = take (total t.reply - 8) (places t.reply)

unfoldable pub payload_of : Direction → Taking → List ℕ
payload_of d t = cond (is_well t.form) (payload_places d t) []

-- ---- what a completion answers

-- the status: "Finished: OK"; a Release gives "Output: IO_ERR .. Input: OK"; "Ill-formed messages get their own
-- answer"
abbrev pub status_of : Direction → Ending → Form → Option ℕ
status_of d finished f = Some s_ok
status_of output released f = Some s_io_err
status_of input released f = Some s_ok
status_of d ill_formed well_formed = None
status_of d ill_formed refused = Some s_io_err
status_of d ill_formed silent = None
status_of d ill_formed (unwalked f) = None

-- "Status (code, latency ..) is the last 8 reply bytes.", for a capture too: never right behind the recorded bytes
abbrev pub status_bytes : ℕ → ℕ → List ℕ
status_bytes code latency = bytes_of 4 code ++ bytes_of 4 latency

abbrev pub status_in_reply : Option ℕ → ℕ → List Range → List ℕ → List ℕ
status_in_reply None latency reply m = m
status_in_reply (Some code) latency reply m = put_at m (drop (total reply - 8) (places reply)) (status_bytes code latency)

-- "length 8 for play, 8 + recorded for capture"
abbrev pub used_length : Direction → Option ℕ → ℕ → ℕ
used_length d None done = 0
used_length output (Some code) done = 8
used_length input (Some code) done = 8 + done

-- ---- what the steps ask of a queue, seen at one line

pub record Ops (Q : Type 0) : Type 0 where
  pub used_place : Q → ℕ  -- the ring place of the next used element
  pub used_index : Q → ℕ  -- the used index after it
  pub idle : Q → Bool  -- no message is in work
  pub work : Q → Taking  -- the message in work
  pub done : Q → ℕ  -- how many bytes of its payload were moved
  pub left : Q → List ℕ  -- the addresses of those that wait
  pub hand : List ℕ → List ℕ → Q → Q  -- the bytes moved, and their addresses
  pub complete : Ending → ℕ → Q → Q  -- with this latency

-- a queue within a call: memory now, the bytes moved, host bytes and host room left, whether the queue broke, an interrupt wanted
pub record Run (Q : Type 0) : Type 0 where
  pub queue : Q
  pub mem : List ℕ
  pub bytes : List ℕ
  pub host : List ℕ
  pub room : ℕ
  pub stop : Option Cause
  pub signal : Bool

abbrev pub begun : {Q : Type 0} → Q → List ℕ → List ℕ → Run Q
begun q m host = record { queue = q; mem = m; bytes = []; host = host; room = length host; stop = None; signal = false }

abbrev pub is_nil : List ℕ → Bool
is_nil [] = true
is_nil (x ∷ xs) = false

-- "payload is read when handed on, and for capture written, byte by byte in order, in the call that counts it"
abbrev pub memory_moved : Direction → List ℕ → List ℕ → List ℕ → List ℕ
memory_moved output xs host m = m
memory_moved input xs host m = put_at m xs host

abbrev pub bytes_moved : Direction → List ℕ → List ℕ → List ℕ → List ℕ
bytes_moved output xs host m = bytes_at m xs
bytes_moved input xs host m = take (length xs) host

module _ {Q : Type 0} (ops : Ops Q) (v : Virtqueue) where
  -- "Completing writes, in order: reply bytes, used element .., then as used index ..". "Then available flags are read"
  unfoldable pub completed : Ending → Run Q → Run Q
  completed e r =
      let t : Taking = ops.work r.queue in
      let status : Option ℕ = status_of v.direction e t.form in
      let after : List ℕ =
      posted_at (status_in_reply status v.latency t.reply r.mem) (base_of v.page) (queue_size v) (ops.used_place r.queue)
      (ops.used_index r.queue) t.head (used_length v.direction status (ops.done r.queue)) in
      record {
        queue = ops.complete e v.latency r.queue;
        mem = after;
        bytes = r.bytes;
        host = r.host;
        room = r.room;
        stop = r.stop;
        signal = r.signal || interrupts after (base_of v.page) (queue_size v);
      }

  unfoldable pub moved : Run Q → Run Q
  moved r =
      let xs : List ℕ = take r.room (ops.left r.queue) in
      record {
        queue = ops.hand (bytes_moved v.direction xs r.host r.mem) xs r.queue;
        mem = memory_moved v.direction xs r.host r.mem;
        bytes = r.bytes ++ bytes_moved v.direction xs r.host r.mem;
        host = drop (length xs) r.host;
        room = r.room - length xs;
        stop = r.stop;
        signal = r.signal;
      }

  -- "A finished message completes at once."
  abbrev pub settled : Run Q → Run Q
  settled r = cond (is_nil (ops.left r.queue)) (completed finished r) r

  -- while room is left the message in work is worked; a Release ends it
  abbrev pub worked : Run Q → Run Q
  worked r = cond (ltb 0 r.room && not (ops.idle r.queue)) (settled (moved r)) r

  abbrev pub given_up : Run Q → Run Q
  given_up r = cond (ops.idle r.queue) r (completed released r)

-- ---- what a call made of a queue

-- what a transfer made of a queue and the registers
pub record Transferred (Q : Type 0) : Type 0 where
  pub queue : Q
  pub registers : Registers
  pub answer : Answer
  pub bytes : List ℕ
  pub mem : List ℕ

-- .. on this queue: "earlier writes and handed bytes stand and are counted" where it broke
abbrev pub transferred_by : {Q : Type 0} → ℕ → Registers → Run Q → Transferred Q
transferred_by queue g r =
    record {
      queue = r.queue;
      registers = broken_by r.stop (signalled_if r.signal g);
      answer = answer_by queue r.stop;
      bytes = r.bytes;
      mem = r.mem;
    }

-- ---- a queue as memory shows it

-- the play queue is based at this page, all of it inside memory, and its available index reads so
pub record Shows (m : List ℕ) (page : PageNumber) (index : ℕ) : Type 0 where
  pub based : 0 < page.0
  pub inside : base_of page + end_at (size_of play_queue) ≤ length m
  pub reads : index_of m page (size_of play_queue) ≡ index
