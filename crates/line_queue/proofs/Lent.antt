-- A Release does the same whatever host is lent, and leaves it as it is.
use Rattle.std.specs.Prelude.{Result, Option, Ok, Err, Some, None}
use Rattle.ring.specs.declared.Cause.{Cause}
use Rattle.counts.specs.declared.DescriptorNumber.{DescriptorNumber}
use Rattle.std.proofs.Common.{◌≡◌, ℕ, List, refl, ap, ◌∙◌}
use Rattle.ring.specs.Rules.{head_at}
use Rattle.device.specs.Answers.{going}
use Rattle.device.specs.Device.{Taking, released}
use Rattle.device.specs.Transfer.{Run, is_well}
use Rattle.device.proofs.Cases.{map-cond}
use Rattle.queue_lines.specs.Chains.{Virtqueue, queue_size, Arrival, in_line, at_once, arrival_of, reading_of}
use Rattle.queue_lines.specs.Claim.{card}
use Rattle.queue_lines.specs.Counters.{Queue}
use Rattle.queue_lines.specs.Rules.{Front, vacant, unread, working, posted, taken, met, next, completed, opened, on_front}
use Rattle.queue_lines.specs.Rules.{release_step, line_run, taking_run, release_run, on_found}
use Rattle.queue_lines.proofs.Lists.{times-alike}
use Rattle.line_queue.specs.Runs.{lent}

module _ (v : Virtqueue) (host : List ℕ) where
  taken-lent : (head : ℕ) (a : Arrival) (r : Run Queue) → taken (card v) v head a (lent host r) ≡ lent host (taken (card v) v head a r)
  unfolding posted
  taken-lent head (in_line j) r = refl
  taken-lent head (at_once t) r = refl

  met-lent : (h : Result DescriptorNumber Cause) (r : Run Queue) → met (card v) v h (lent host r) ≡ lent host (met (card v) v h r)
  met-lent (Ok n) r = taken-lent n.0 (arrival_of v r.mem n.0) r
  met-lent (Err cause) r = refl

  next-lent : (r : Run Queue) → next (card v) v (lent host r) ≡ lent host (next (card v) v r)
  unfolding next
  next-lent r =
      map-cond (lent host) (going r.stop)
      (λ e. met-lent (head_at r.mem v.page (queue_size v) ((card v).place r.queue)) r) (λ e. refl)

  taking-lent : (n : ℕ) (r : Run Queue) → taking_run (card v) v n (lent host r) ≡ lent host (taking_run (card v) v n r)
  unfolding taking_run
  taking-lent n r = times-alike (lent host) (λ s. Unit) (next (card v) v) (next (card v) v) (λ s p. next-lent s) (λ s p. tt) n r tt

  module _ (i : ℕ) where
    opened-lent : (t : Taking) (r : Run Queue)
        → opened (card v) v i (completed (card v) v i released) t (lent host r)
        ≡ lent host (opened (card v) v i (completed (card v) v i released) t r)
    unfolding opened completed posted
    opened-lent t r = map-cond (lent host) (is_well t.form) (λ e. refl) (λ e. refl)

    front-lent : (f : Front) (r : Run Queue)
        → on_front (card v) v i (completed (card v) v i released) f (lent host r)
        ≡ lent host (on_front (card v) v i (completed (card v) v i released) f r)
    unfolding completed posted
    front-lent vacant r = refl
    front-lent (unread head) r = opened-lent (reading_of v i r.mem head) r
    front-lent (working w) r = refl

    step-lent : (r : Run Queue) → release_step (card v) v i (lent host r) ≡ lent host (release_step (card v) v i r)
    unfolding release_step
    step-lent r = front-lent ((card v).front i r.queue) r

    line-lent : (r : Run Queue)
        → line_run (card v) v i (release_step (card v) v i) (lent host r) ≡ lent host (line_run (card v) v i (release_step (card v) v i) r)
    line-lent r =
        map-cond (lent host) (going r.stop)
        (λ e. times-alike (lent host) (λ s. Unit) (release_step (card v) v i) (release_step (card v) v i) (λ s p. step-lent s) (λ s p. tt)
        ((card v).queued i r.queue) r tt)
        (λ e. refl)

    release-lent : (n : ℕ) (r : Run Queue) → release_run (card v) v i n (lent host r) ≡ lent host (release_run (card v) v i n r)
    unfolding release_run
    release-lent n r = ap (line_run (card v) v i (release_step (card v) v i)) (taking-lent n r) ∙ line-lent (taking_run (card v) v n r)

    pub found-lent : (k : Result (Option ℕ) Cause) (r : Run Queue)
        → on_found (card v) v (release_run (card v) v i) (lent host r) k ≡ lent host (on_found (card v) v (release_run (card v) v i) r k)
    found-lent (Ok None) r = refl
    found-lent (Err cause) r = refl
    found-lent (Ok (Some n)) r = release-lent n r
