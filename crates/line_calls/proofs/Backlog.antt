-- Order 5: the backlog that a stream remembers is that of its last transfer since reset that answered 0.
use mathlib.Core.Path.{◌≡◌, refl}
use mathlib.Core.Bool.{and-eq-true_iff}
use mathlib.Core.List.{List, map}
use Prim.Native.Nat.{ℕ, ◌+◌, ◌<◌}
use lib.ListN.{length}
use Rattle.description.specs.declared.Description.{Description}
use Rattle.card.specs.declared.Jack.{Jack}
use Rattle.card.specs.declared.Stream.{Stream}
use Rattle.device.specs.Device.{Direction, output, input, queue_number, Device, queue_for, stream_at}
use Rattle.device.specs.Transfer.{transferred_by}
use Rattle.rules.specs.Backlog.{moved_backlog}
use Rattle.rules.specs.Calls.{Pending, ReleaseFirst, is_running, read_step}
use Rattle.rules.specs.Control.{items_by}
use Rattle.rules.proofs.Along.{last_word}
use Rattle.rules.proofs.Backlog.{word, closed-words, same_word, running-there, done-admitted, moved_word, written-word, fresh-word}
use Rattle.rules.proofs.Closed.{Closed, RestKept, OrderKept, order-kept, ended-kept, ordered-kept, event-kept}
use Rattle.queue_lines.specs.Chains.{Virtqueue, line_of, is_on}
use Rattle.queue_lines.specs.Rules.{Ops, transferred, emptied}
use Rattle.line_calls.specs.Backlog.{backlog_after, Remembers}
use Rattle.line_calls.specs.Calls.{Request, ReadRegister, WriteRegister, Control, Play, Capture, Event, Call, virtqueue_of}
use Rattle.line_calls.specs.Calls.{release_queue, served, order_of, runs_on, transferred_of, transfer_by, release_by, asked, step}
use Rattle.line_calls.specs.Claim.{start}
use Rattle.line_calls.specs.Streams.{Streams, direction_of, direction_number}

module _ (n : Streams) {Q : Type 0} (ops : Direction → Ops Q) where
  -- ---- what a control message keeps of streams and jacks

  release-kept : (P : List Stream → List Jack → Type 0) (closed : Closed P) (b : Device Q) (m : List ℕ) (id : ℕ) (p : Pending)
      → OrderKept P closed (ReleaseFirst id p)
      → RestKept P closed (release_by n ops id p b m).state.rest
  unfolding release_by
  release-kept P closed b m id p k =
      let d : Direction = direction_of n id in
      let v : Virtqueue = release_queue n id p.rest in
      let e = emptied (ops d) v (line_of v id) (queue_for d b) m in
      ended-kept P closed d id p e.mem e.stop e.signal e.queue b k

  pub control-kept : (P : List Stream → List Jack → Type 0) (closed : Closed P) (b : Device Q) (m : List ℕ) → RestKept P closed b.rest
      → RestKept P closed (asked n ops Control b m).state.rest
  unfolding order_of served
  control-kept P closed b m k =
      ordered-kept P closed (release_by n ops) b m (release-kept P closed b m) (order_of n b.rest m)
      (order-kept P closed (items_by (direction_number n)) b.rest m k)

  -- ---- every call

  transfer_by-word : (d : Direction) (stream : ℕ) (host : List ℕ) (backlog : ℕ) (b : Device Q) (m : List ℕ) (id : ℕ)
      → let s = transfer_by n ops d stream host backlog b m in
      (stream_at s.state.rest id).backlog ≡ moved_backlog id stream backlog s.told (stream_at b.rest id).backlog
  unfolding transferred_of
  transfer_by-word d stream host backlog b m id =
      let v : Virtqueue = virtqueue_of n b.rest d backlog in
      let q : Q = queue_for d b in
      moved_word d stream host backlog b (transferred_of n ops d stream backlog b m host) id
      (done-admitted (runs_on n b.rest d stream) b.rest q m
      (transferred_by (queue_number d) b.rest.registers (transferred (ops d) v (line_of v stream) q m host))
      (λ t. stream < length b.rest.streams)
      (λ e a.
      running-there b.rest stream ((and-eq-true_iff (is_on (virtqueue_of n b.rest d 0) stream) (is_running b.rest stream)).0 e).1))

  asked-word : (q : Request) (b : Device Q) (m : List ℕ) (id : ℕ)
      → (stream_at (asked n ops q b m).state.rest id).backlog
      ≡ backlog_after id q (asked n ops q b m).told (stream_at b.rest id).backlog
  unfolding read_step
  asked-word (ReadRegister offset width) b m id = refl
  asked-word (WriteRegister offset width v) b m id = written-word b.rest offset width v id
  asked-word Control b m id =
      same_word (asked n ops Control b m).state.rest.streams b.rest.streams id
      (control-kept _ (closed-words (map word b.rest.streams)) b m refl)
  asked-word (Play stream host backlog) b m id = transfer_by-word output stream host backlog b m id
  asked-word (Capture stream host backlog) b m id = transfer_by-word input stream host backlog b m id
  asked-word (Event code data') b m id =
      same_word (asked n ops (Event code data') b m).state.rest.streams b.rest.streams id
      (event-kept _ (closed-words (map word b.rest.streams)) code data' b.rest m refl).is

  pub remembers : (d : Description) (len : ℕ) → Remembers n ops d len
  remembers d len cs id =
      last_word (step n ops) (λ (b : Device Q). (stream_at b.rest id).backlog) (λ (c : Call). backlog_after id c.asked)
      (λ b c. asked-word c.asked b c.lent id) (start n ops d len) 0 cs
      (fresh-word (d.output_count + d.input_count) d.streams id)
