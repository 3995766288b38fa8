-- A RELEASE past its checks, in the rules' terms, once its stream's line is emptied: what is left to do starts from the card after.
use Rattle.std.specs.Prelude.{Option}
use Rattle.ring.specs.declared.Cause.{Cause}
use mathlib.Core.Path.{◌≡◌, ◌∙◌, sym, ap}
use mathlib.Core.Bool.{Bool}
use mathlib.Core.List.{List}
use Prim.Native.Nat.{ℕ, ◌-◌}
use Rattle.card.specs.declared.Card.{Card}
use Rattle.device.specs.Device as rules
use Rattle.device.specs.Transfer.{Run}
use Rattle.rules.specs.Calls.{Pending, Result, Step, released_on, ended_on, step_by, with_rest}
use Rattle.queue_lines.specs.Chains.{Virtqueue, line_of}
use Rattle.queue_lines.specs.Counters.{Queue}
use Rattle.queue_lines.specs.Rules.{emptied}
use Rattle.line_calls.specs.Calls.{virtqueue_of, release_by}
use Rattle.line_calls.specs.Claim.{card}
use Rattle.line_calls.specs.Streams.{Streams, streams_in, direction_of, first_of}
use Rattle.meaning.specs.Card.{rest_of, device_of}
use Rattle.stream.specs.Queue.{emptied_in, Empties}
use Rattle.stream.proofs.Laws.{rest-with}

module _ (c n : Card) (m m' : List ℕ) (stop : Option Cause) (signal : Bool) where
  -- all but the stream queues stays
  rest-kept : (d : rules.Direction) (line latency : ℕ) → Empties d line latency c m m' stop signal n → rest_of n ≡ rest_of c
  unfolding device_of
  rest-kept d line latency e =
      ap (λ (b : rules.Device Queue). b.rest) e.device
      ∙ rest-with d (rest_of c) (rules.queue_for d (device_of n)) (device_of c)

  module _ (id : ℕ) (p : Pending) (same : p.rest ≡ rest_of c) where
    abbrev streams : Streams
    streams = streams_in c.parts

    -- the latency of its statuses
    abbrev carried : ℕ
    carried = (rules.stream_at (rest_of c) id).backlog

    -- what is left to do
    abbrev pub answered : rules.Direction → Result
    answered d = released_on d id (with_rest (rest_of n) p) m' stop signal

    -- with its queue put back, the device is the card's after
    put_back : (d : rules.Direction) (line : ℕ) (x : rules.Rest)
        → Empties d line carried c m m' stop signal n
        → rules.with_queue d x (rules.queue_for d (device_of n)) (device_of c)
        ≡ record { rest = x; play = (device_of n).play; capture = (device_of n).capture }
    put_back rules.output line x e = rw (ap (λ (b : rules.Device Queue). b.capture) e.device)
    put_back rules.input line x e = rw (ap (λ (b : rules.Device Queue). b.play) e.device)

    -- the rules' Release, by the direction of its stream, all but the stream queues, and what the emptying of its line told
    abbrev told : rules.Direction → List ℕ → Option Cause → Bool → Queue → Step (rules.Device Queue)
    told d mem stops signals q = ended_on d (released_on d id p mem stops signals) q (device_of c)

    abbrev ended : rules.Direction → rules.Rest → Step (rules.Device Queue)
    ended d r =
        let v : Virtqueue = virtqueue_of streams r d (rules.stream_at r id).backlog in
        let e : Run Queue = emptied (card streams d) v (line_of v id) (rules.queue_for d (device_of c)) m in
        told d e.mem e.stop e.signal e.queue

    pub released-ordered : (d : rules.Direction)
        → direction_of streams id ≡ d
        → Empties d (id - first_of streams d) carried c m m' stop signal n
        → release_by streams (card streams) id p (device_of c) m ≡ step_by (answered d) (device_of n)
    unfolding release_by
    released-ordered d h e =
        let line = id - first_of streams d in
        let r : Run Queue = emptied_in d line carried c m in
        let back : p ≡ with_rest (rest_of n) p = ap (λ v. with_rest v p) (same ∙ sym (rest-kept d line carried e)) in
        ap (λ (x : rules.Direction). ended x p.rest) h
        ∙ ap (ended d) same
        ∙ ap (λ x. told d x r.stop r.signal r.queue) e.memory
        ∙ ap (λ x. told d m' x r.signal r.queue) e.stops
        ∙ ap (λ x. told d m' stop x r.queue) e.signals
        ∙ ap (told d m' stop signal) e.queue
        ∙ ap (λ (x : rules.Device Queue). record { state = x; told = (told d m' stop signal (rules.queue_for d (device_of n))).told })
        (put_back d line (released_on d id p m' stop signal).rest e)
        ∙ ap (λ (x : Pending). step_by (released_on d id x m' stop signal) (device_of n)) back
