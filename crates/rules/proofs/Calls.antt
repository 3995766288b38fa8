-- What a call makes of a device is the same over two ways of keeping the stream queues, one shown as the other. Of the rest of the card
-- nothing is opened.
use mathlib.Core.Path.{◌≡◌, refl}
use mathlib.Core.Bool.{Bool, cond}
use mathlib.Core.List.{List}
use Prim.Native.Nat.{ℕ}
use Rattle.registers.specs.Rules.{write_of}
use Rattle.device.specs.Device.{Direction, output, input, Rest, Device, queue_for, with_queue, with_registers}
use Rattle.device.specs.Transfer.{Transferred}
use Rattle.rules.specs.Calls.{Step, Result, clears_queue, remembering, transfer_step, ended_on, write_by}
use Rattle.rules.specs.Claim.{shown_as}
use Rattle.device.proofs.Cases.{map-cond}

unfoldable pub low_transferred : {H Q : Type 0} → (H → Q) → Transferred H → Transferred Q
low_transferred f t =
    record { queue = f t.queue; registers = t.registers; answer = t.answer; bytes = t.bytes; mem = t.mem }

unfoldable pub low : {H Q : Type 0} → (H → Q) → Step (Device H) → Step (Device Q)
low f s = record { state = shown_as f s.state; told = s.told }

module _ {H Q : Type 0} (f : H → Q) (b : Device H) where
  -- the queue of a direction, shown
  pub shown-queue : (d : Direction) → queue_for d (shown_as f b) ≡ f (queue_for d b)
  shown-queue output = refl
  shown-queue input = refl

  shown-with : (d : Direction) (r : Rest) (q : H) → with_queue d r (f q) (shown_as f b) ≡ shown_as f (with_queue d r q b)
  shown-with output r q = refl
  shown-with input r q = refl

  pub ended_on-same : (d : Direction) (o : Result) (q : H) → ended_on d o (f q) (shown_as f b) ≡ low f (ended_on d o q b)
  unfolding low
  ended_on-same d o q = rw (shown-with d o.rest q)

  pub transfer_step-same :
      (d : Direction) (host : List ℕ) (t : Transferred H)
      → transfer_step d host (shown_as f b) (low_transferred f t) ≡ low f (transfer_step d host b t)
  unfolding transfer_step low_transferred low
  transfer_step-same d host t = rw (shown-with d (with_registers t.registers b.rest) t.queue)

  -- a cleared queue, or the queue as it was
  module _ (one : Direction → H) (other : Direction → Q) (alike : (d : Direction) → other d ≡ f (one d)) where
    cleared-same : (d : Direction) (x : Bool) (q : H) → cond x (other d) (f q) ≡ f (cond x (one d) q)
    cleared-same d x q = map-cond f x {x = one d} {y = q} (λ e. alike d) (λ e. refl)

    pub write_by-same : (offset width v : ℕ) (m : List ℕ)
        → write_by other offset width v (shown_as f b) m ≡ low f (write_by one offset width v b m)
    unfolding low
    write_by-same offset width v m =
        let e = (write_of b.rest.registers offset width v).effect in
        rw (cleared-same output (clears_queue output e) b.play, cleared-same input (clears_queue input e) b.capture)

pub remembering-same : {H Q : Type 0} (f : H → Q) (id backlog : ℕ) (s : Step (Device H))
    → remembering id backlog (low f s) ≡ low f (remembering id backlog s)
unfolding remembering low
remembering-same f id backlog s = refl
