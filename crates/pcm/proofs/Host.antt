-- The host buffer after a transfer: the bytes moved in front, the rest as it was.
use Rattle.std.specs.Prelude.{Result, Option, Ok, Err, Some, None}
use Rattle.ring.specs.declared.Cause.{Cause}
use Rattle.counts.specs.declared.DescriptorNumber.{DescriptorNumber}
use mathlib.Core.Path.{◌≡◌}
use mathlib.Core.List.{List}
use Prim.Native.Nat.{ℕ, ◌≤◌}
use native.Mathlib.Nat.{zero-add}
use native.Mathlib.Omega.{arith}
use lib.Dec.{ltb}
use lib.ListN.{length, take, drop, length-take, take-append-drop}
use lib.Seq.{sets, sets-eq}
use Rattle.registers.proofs.Keeps.{by_cond}
use Rattle.ring.specs.Rules.{head_at}
use Rattle.device.specs.Answers.{going}
use Rattle.device.specs.Device.{Message, Taking, Ending, finished, ill_formed}
use Rattle.device.specs.Transfer.{Run, begun, is_nil, is_well}
use Rattle.queue_lines.specs.Chains.{Virtqueue, queue_size, Arrival, in_line, at_once, arrival_of, reading_of}
use Rattle.queue_lines.specs.Rules.{Ops, Front, vacant, unread, working, fresh, onward, taken, met, next, completed, opened, on_front}
use Rattle.queue_lines.specs.Rules.{with_queue, left_of, moved, worked, transfer_step, taking_run, transfer_run, found, on_found}
use Rattle.queue_lines.specs.Rules.{transferred}
use Rattle.queue_lines.proofs.Host.{Past, begun-past, queue-past, stopped-past, posted-past, moved-past}
use Rattle.queue_lines.proofs.Lists.{times-keeps}

pub host-after : (host₀ host : List ℕ) (n : ℕ) → n ≤ length host₀ → length host ≡ length host₀ → drop n host ≡ drop n host₀
    → sets host₀ 0 (take n host) ≡ host
host-after host₀ host n h l e =
    let k : length (take n host) ≡ n = rw length-take (omega arith) in
    rw (sets-eq (take n host) host₀ 0 (rw k (omega arith)), k, zero-add, ← e) (take-append-drop n host)

-- ---- the rules leave the buffer past the bytes as it was

module _ {Q : Type 0} (ops : Ops Q) (v : Virtqueue) (host : List ℕ) where
  abbrev Rests : Run Q → Type 0
  Rests s = Past host s

  taken-past : (head : ℕ) (a : Arrival) (s : Run Q) → Rests s → Rests (taken ops v head a s)
  taken-past head (in_line i) s p = queue-past host (ops.join i head s.queue) s p
  taken-past head (at_once t) s p = posted-past host ops v ill_formed (fresh t) (ops.bounce t v.latency s.queue) s p

  met-past : (h : Result DescriptorNumber Cause) (s : Run Q) → Rests s → Rests (met ops v h s)
  met-past (Ok n) s p = taken-past n.0 (arrival_of v s.mem n.0) s p
  met-past (Err cause) s p = stopped-past host cause s p

  next_past : (s : Run Q) → Rests s → Rests (next ops v s)
  unfolding next
  next_past s p =
      by_cond Rests (going s.stop) (λ e. met-past (head_at s.mem v.page (queue_size v) (ops.place s.queue)) s p) (λ e. p)

  module _ (i : ℕ) where
    completed-past : (e : Ending) (w : Message) (s : Run Q) → Rests s → Rests (completed ops v i e w s)
    unfolding completed
    completed-past e w s p = posted-past host ops v e w (ops.complete i e v.latency s.queue) s p

    worked-past : (w : Message) (s : Run Q) → Rests s → Rests (worked ops v i w s)
    unfolding worked
    worked-past w s p =
        let left = left_of ops v w in
        let after = moved-past host ops v i left s p in
        by_cond Rests (is_nil (drop s.room left))
        (λ e. completed-past finished (onward (length (take s.room left)) w) (moved ops v i (take s.room left) s) after) (λ e. after)

    opened-past : (t : Taking) (s : Run Q) → Rests s → Rests (opened ops v i (worked ops v i) t s)
    unfolding opened
    opened-past t s p =
        let u = with_queue (ops.begin i t s.queue) s in
        let q = queue-past host (ops.begin i t s.queue) s p in
        by_cond Rests (is_well t.form) (λ e. worked-past (fresh t) u q) (λ e. completed-past ill_formed (fresh t) u q)

    front-past : (x : Front) (s : Run Q) → Rests s → Rests (on_front ops v i (worked ops v i) x s)
    front-past vacant s p = p
    front-past (unread head) s p = opened-past (reading_of v i s.mem head) s p
    front-past (working w) s p = worked-past w s p

    step_past : (s : Run Q) → Rests s → Rests (transfer_step ops v i s)
    unfolding transfer_step
    step_past s p = by_cond Rests (ltb 0 s.room) (λ e. front-past (ops.front i s.queue) s p) (λ e. p)

    run_past : (n : ℕ) (s : Run Q) → Rests s → Rests (transfer_run ops v i n s)
    unfolding transfer_run taking_run
    run_past n s p =
        let u = taking_run ops v n s in
        let q = times-keeps Rests (next ops v) next_past n s p in
        by_cond Rests (going u.stop) (λ e. times-keeps Rests (transfer_step ops v i) step_past (ops.queued i u.queue) u q) (λ e. q)

    found-past : (k : Result (Option ℕ) Cause) (s : Run Q) → Rests s → Rests (on_found ops v (transfer_run ops v i) s k)
    found-past (Ok None) s p = p
    found-past (Err cause) s p = stopped-past host cause s p
    found-past (Ok (Some n)) s p = run_past n s p

    pub transferred-past : (q : Q) (m : List ℕ) → Past host (transferred ops v i q m host)
    unfolding transferred
    transferred-past q m = found-past (found ops v q m) (begun q m host) (begun-past host q m)
