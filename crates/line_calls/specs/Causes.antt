-- Order 6 on a card of several streams: the queue that a broken call names. What holds of each call's answer is `Split` of
-- rules/specs/Causes; the theorem is `split` of proofs/Causes.
use Rattle.std.specs.Prelude.{Err, Some}
use Rattle.std.specs.Prelude.{List, ℕ, ◌≡◌, Bool}
use Rattle.registers.specs.Answers.{no_queue}
use Rattle.device.specs.Device.{output, input, queue_number, Rest, Direction}
use Rattle.device.specs.Numbers.{event_queue}
use Rattle.rules.specs.Causes.{order_queue_by, answering, transferring}
use Rattle.line_calls.specs.Calls.{Request, ReadRegister, WriteRegister, Control, Play, Capture, Event, order_of}
use Rattle.line_calls.specs.Streams.{Streams, direction_of}
use Rattle.registers.specs.declared.Registers.{Registers}
use Rattle.ring.specs.declared.Cause.{Cause}
use Rattle.device.specs.Answers.{broken_answer}
use Rattle.device.specs.Transfer.{Run, transferred_by}
use Rattle.rules.specs.Calls.{Pending, released_on}
use Rattle.queue_lines.specs.Chains.{Virtqueue}
use Rattle.queue_lines.specs.Rules.{Ops, met, on_found, stopped}

abbrev pub queue_met : Streams → Request → Rest → List ℕ → ℕ
queue_met n (ReadRegister offset width) r m = no_queue
queue_met n (WriteRegister offset width v) r m = no_queue
queue_met n Control r m = order_queue_by (direction_of n) (order_of n r m)
queue_met n (Play id host backlog) r m = queue_number output
queue_met n (Capture id host backlog) r m = queue_number input
queue_met n (Event code data') r m = event_queue

-- ---- "what they leave is unchanged"

-- whichever of two causes stopped a call, it leaves the same; only its answer is the cause's. Of control and events that is `Unchanged` of
-- rules/specs/Causes
pub record UnchangedOn {Q : Type 0} (ops : Ops Q) (c c' : Cause) : Type 0 where
  -- a Release, by the queue of its stream
  pub releases :
      (d : Direction) (id : ℕ) (p : Pending) (m : List ℕ) (signal : Bool)
      → released_on d id p m (Some c) signal
      ≡ answering (broken_answer (queue_number d) c) (released_on d id p m (Some c') signal)
  -- play and capture, at the check and at a head
  pub checks :
      (v : Virtqueue) (run : ℕ → Run Q → Run Q) (r : Run Q)
      → (on_found ops v run r (Err c) ≡ stopped c r) × (on_found ops v run r (Err c') ≡ stopped c' r)
  pub heads : (v : Virtqueue) (r : Run Q) → (met ops v (Err c) r ≡ stopped c r) × (met ops v (Err c') r ≡ stopped c' r)
  pub transfers :
      (queue : ℕ) (g : Registers) (r : Run Q)
      → transferred_by queue g (stopped c r) ≡ transferring (broken_answer queue c) (transferred_by queue g (stopped c' r))
