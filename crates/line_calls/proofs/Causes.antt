-- Order 6: an answer is 9, 11 or 12 exactly where a live device comes to need a reset, for every call from every state, and names the
-- queue there and only there.
use mathlib.Core.Path.{◌≡◌, refl}
use mathlib.Core.Bool.{true}
use mathlib.Core.List.{List}
use Prim.Native.Nat.{ℕ}
use Rattle.registers.specs.Rules.{live}
use Rattle.device.specs.Device.{Direction, output, input, queue_number, Device, queue_for}
use Rattle.device.specs.Transfer.{Run, transferred_by}
use Rattle.rules.specs.Calls.{Pending}
use Rattle.rules.specs.Causes.{Split}
use Rattle.rules.proofs.Causes.{admitted-split, run-split, ended-split, control-split, moved-split, read-call, write-call, event-split}
use Rattle.queue_lines.specs.Chains.{Virtqueue, line_of}
use Rattle.queue_lines.specs.Rules.{Ops, transferred, emptied}
use Rattle.line_calls.specs.Calls.{Request, ReadRegister, WriteRegister, Control, Play, Capture, Event, Call, virtqueue_of}
use Rattle.line_calls.specs.Calls.{release_queue, served, order_of, runs_on, transferred_of, transfer_by, release_by, asked, step}
use Rattle.line_calls.specs.Causes.{queue_met, UnchangedOn}
use Rattle.line_calls.specs.Streams.{Streams, direction_of}
use Rattle.ring.specs.declared.Cause.{Cause}

module _ (n : Streams) {Q : Type 0} (ops : Direction → Ops Q) (b : Device Q) (m : List ℕ) where
  release-split : (id : ℕ) (p : Pending) → live b.rest.registers ≡ true → p.rest.registers.status ≡ b.rest.registers.status
      → let s = release_by n ops id p b m in
      Split b.rest.registers s.state.rest.registers (queue_number (direction_of n id)) s.told.answer
  unfolding release_by
  release-split id p l h =
      let d : Direction = direction_of n id in
      let v : Virtqueue = release_queue n id p.rest in
      let e : Run Q = emptied (ops d) v (line_of v id) (queue_for d b) m in
      ended-split b l d id p h e.mem e.stop e.signal e.queue

  transfer-split : (d : Direction) (id : ℕ) (host : List ℕ) (backlog : ℕ)
      → let s = transfer_by n ops d id host backlog b m in
      Split b.rest.registers s.state.rest.registers (queue_number d) s.told.answer
  unfolding transferred_of
  transfer-split d id host backlog =
      let v : Virtqueue = virtqueue_of n b.rest d backlog in
      let r : Run Q = transferred (ops d) v (line_of v id) (queue_for d b) m host in
      moved-split b d id host backlog (transferred_of n ops d id backlog b m host)
      (admitted-split d (runs_on n b.rest d id) b.rest (queue_for d b) m (transferred_by (queue_number d) b.rest.registers r)
      (run-split d b.rest.registers r))

  asked-split : (q : Request)
      → Split b.rest.registers (asked n ops q b m).state.rest.registers (queue_met n q b.rest m) (asked n ops q b m).told.answer
  unfolding order_of
  asked-split (ReadRegister offset width) = read-call b offset width m
  asked-split (WriteRegister offset width v) = write-call b (λ (d : Direction). (ops d).empty) offset width v m
  asked-split Control = control-split b (served n) (direction_of n) (release_by n ops) m release-split
  asked-split (Play id host backlog) = transfer-split output id host backlog
  asked-split (Capture id host backlog) = transfer-split input id host backlog
  asked-split (Event code data') = event-split b.rest code data' m

-- an answer is 9, 11 or 12 exactly where the base answered 9
pub split :
    (n : Streams) {Q : Type 0} (ops : Direction → Ops Q) (b : Device Q) (c : Call)
    → Split b.rest.registers (step n ops b c).state.rest.registers (queue_met n c.asked b.rest c.lent)
    (step n ops b c).told.answer
split n ops b c = asked-split n ops b c.lent c.asked

pub unchanged : {Q : Type 0} (ops : Ops Q) (c c' : Cause) → UnchangedOn ops c c'
unchanged ops c c' =
    record {
      releases = λ d id p m signal. refl;
      checks = λ v run r. (refl, refl);
      heads = λ v r. (refl, refl);
      transfers = λ queue g r. refl;
    }
