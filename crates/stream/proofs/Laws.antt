-- A stream queue of the small state and of its cards, in the rules' terms; a card after a job on it.
use mathlib.Core.Path.{◌≡◌, refl, ap, ◌∙◌}
use mathlib.Core.List.{List}
use Prim.Native.Nat.{ℕ, ◌≤◌, ◌<◌}
use native.Mathlib.Omega.{arith}
use lib.Seq.{get_or-set_same, get_or-set_other}
use Rattle.card.specs.Card.{no_counters, no_stream}
use Rattle.card.specs.declared.Parts.{Parts}
use Rattle.live.specs.Live.{parts_now, stream_at, card_in, FitBoard}
use Rattle.live.specs.declared.Live.{Live}
use Rattle.live.proofs.Streams.{stream-now}
use Rattle.registers.specs.declared.Config.{Config}
use Rattle.message.specs.Message.{direction_of}
use Rattle.message.specs.declared.Direction.{Direction}
use Rattle.message.specs.declared.Direction.TheVariants.{Output, Input}
use Rattle.device.specs.Device as rules
use Rattle.rules.proofs.Parts.{stream_at_lem, stream-past}
use Rattle.queue_lines.specs.Counters.{Queue}
use Rattle.line_words.specs.Slots.{queue_in}
use Rattle.line_taking.specs.declared.Progress.{Progress}
use Rattle.line_calls.specs.Calls.{virtqueue_of}
use Rattle.line_calls.specs.Streams.{streams_in}
use Rattle.meaning.specs.Card.{queue_with, rest_of, device_of}
use Rattle.meaning.specs.Fit.{dropped_live, counters_live}
use Rattle.meaning.proofs.Streams.{rest-stream}
use Rattle.stream.specs.Queue.{virtqueue_in, progress_live, card_with}

-- ---- where it is

module _ (l : Live) (p : Parts) (ws other : List ℕ) (f : FitBoard l p) (latency : ℕ) where
  -- the queue as the guest laid it out
  pub virtqueue-in : (d : Direction) → let c = card_with d l p ws other in
      virtqueue_of (streams_in c.parts) (rest_of c) (direction_of d) latency ≡ virtqueue_in l d latency
  unfolding rest_of
  virtqueue-in Output = rw f.outputs
  virtqueue-in Input = rw (f.outputs, f.inputs)

  -- the rules' queue is counters and words
  pub queue-in : (d : Direction) → rules.queue_for (direction_of d) (device_of (card_with d l p ws other))
      ≡ queue_with (virtqueue_in l d latency) (dropped_live (direction_of d) l) ws (counters_live (direction_of d) l)
  unfolding device_of queue_with queue_in
  queue-in Output = rw f.outputs
  queue-in Input = rw f.inputs

  -- ---- after a job

  module _ (r : Progress) (ws' : List ℕ) where
    -- a card after a job stands for the device with another queue
    pub progressed : (d : Direction) → let c = card_with d l p ws other in
        device_of (card_with d (progress_live d r l) p ws' other)
        ≡ rules.with_queue (direction_of d) (rest_of c) (queue_in (virtqueue_in l d latency) ws' r.counters) (device_of c)
    unfolding device_of rest_of queue_with queue_in
    progressed Output =
        rw (
          get_or-set_same l.queues 2 r.counters no_counters (omega (arith, f.live.four)),
          get_or-set_other l.queues 2 0 r.counters no_counters (λ e. omega arith),
          get_or-set_other l.queues 2 1 r.counters no_counters (λ e. omega arith),
          get_or-set_other l.queues 2 3 r.counters no_counters (λ e. omega arith),
          f.outputs,
        )
    progressed Input =
        rw (
          get_or-set_same l.queues 3 r.counters no_counters (omega (arith, f.live.four)),
          get_or-set_other l.queues 3 0 r.counters no_counters (λ e. omega arith),
          get_or-set_other l.queues 3 1 r.counters no_counters (λ e. omega arith),
          get_or-set_other l.queues 3 2 r.counters no_counters (λ e. omega arith),
          f.inputs,
        )

-- ---- a stream

module _ (l : Live) (p : Parts) (pw cw : List ℕ) (f : FitBoard l p) (i : ℕ) where
  abbrev counted : l.config.streams ≡ p.stream_count
  counted = ap (λ (c : Config). c.streams) f.counts

  pub stream-there : i < l.config.streams → rules.stream_at (rest_of (card_in l p pw cw)) i ≡ stream_at l p i
  stream-there h =
      rest-stream (card_in l p pw cw) i
      ∙ stream_at_lem (parts_now l p) i (omega (arith, counted))
      ∙ stream-now l p i (omega (arith, counted, f.parts.streams))

  pub stream-absent : l.config.streams ≤ i → rules.stream_at (rest_of (card_in l p pw cw)) i ≡ no_stream
  stream-absent h = rest-stream (card_in l p pw cw) i ∙ stream-past (parts_now l p) i (omega (arith, counted))

-- ---- the queue of a device

module _ (d : rules.Direction) (r : rules.Rest) (q : Queue) (b : rules.Device Queue) where
  pub queue-for-with : rules.queue_for d (rules.with_queue d r q b) ≡ q
  queue-for-with = by d where
    by : (e : rules.Direction) → rules.queue_for e (rules.with_queue e r q b) ≡ q
    by rules.output = refl
    by rules.input = refl

  pub rest-with : (rules.with_queue d r q b).rest ≡ r
  rest-with = by d where
    by : (e : rules.Direction) → (rules.with_queue e r q b).rest ≡ r
    by rules.output = refl
    by rules.input = refl
