-- A card in pieces that sends an event: its jacks and streams, a connection recorded, what sending changed; and the event call by
-- its tests.
use mathlib.Core.Path.{◌≡◌, ◌∙◌, refl, sym, ap}
use mathlib.Core.Bool.{Bool, true, false, true≢false, cond, ◌||◌}
use mathlib.Core.List.{List, [], map}
use Prim.Native.Nat.{ℕ, ◌<◌, ◌≤◌}
use native.Mathlib.Omega.{arith}
use borrow.Author.Tests.{ltb-true, eqb-true, eqb-false, eq-eqb}
use lib.Dec.{eqb, ltb}
use lib.ListN.{length, get_or, set, length-take, get_or-map}
use lib.Seq.{take-set-lt, get_or-take}
use Rattle.registers.specs.Answers.{length_differs, not_live, event_not_allowed, plain}
use Rattle.registers.specs.Fit.{FitRegisters}
use Rattle.registers.specs.Rules as registers
use Rattle.registers.specs.declared.Config.{Config}
use Rattle.card.proofs.Setters.{fit-with-jack}
use Rattle.card.specs.Card.{no_counters}
use Rattle.card.specs.Setters.{with_parts}
use Rattle.card.specs.declared.Card.{Card}
use Rattle.card.specs.declared.Jack.{Jack}
use Rattle.card.specs.declared.Parts.{Parts}
use Rattle.live.proofs.Streams.{stream-now}
use Rattle.live.specs.Live as pieces
use Rattle.live.specs.Live.{jack_now, parts_now, card_in, FitBoard}
use Rattle.live.specs.declared.Live.{Live}
use Rattle.meaning.proofs.Streams.{rest-stream}
use Rattle.meaning.specs.Card.{rest_of, device_of, step_of, leaves}
use Rattle.meaning.specs.Fit.{Fits}
use Rattle.queue_lines.specs.Counters.{Queue}
use Rattle.queue_lines.proofs.Lists.{map-set}
use Rattle.rules.proofs.Parts.{stream_at_lem}
use Rattle.line_calls.specs.Calls.{Event}
use Rattle.rules.specs.Calls.{Result, Step, step_by, refused_with, with_connected, admitted, event_allowed, recorded, event_of}
use Rattle.rules.specs.Control.{no_jack}
use Rattle.device.specs.Device.{Rest, Device, with_jacks, stream_at}
use Rattle.device.specs.Numbers.{jack_connected, jack_disconnected, pcm_xrun, event_queue}
use Rattle.meaning.proofs.Held.{held-device, held_fits}
use Rattle.meaning.specs.Held.{holding_live}
use Rattle.event_queue.specs.Attempts as queue
use Rattle.event_queue.specs.Attempts.{sent_in, sent_of}
use Rattle.event_queue.specs.declared.Attempt.{Attempt}
use Rattle.event.specs.Event.{rest_in, NamesJack, connected_at, recorded_in}

abbrev with_rest : Rest → Device Queue → Device Queue
with_rest r d = record { rest = r; play = d.play; capture = d.capture }

-- ---- jacks and streams

module _ (l : Live) (p : Parts) (f : FitBoard l p) where
  pub jacks-there : length (rest_in l p).jacks ≡ l.config.jacks
  unfolding rest_of
  jacks-there =
      let counted : l.config.jacks ≡ p.jack_count = ap (λ (c : Config). c.jacks) f.counts in
      rw length-take (omega (arith, counted, f.parts.jacks, f.parts.four-jacks))

  abbrev streams-counted : l.config.streams ≡ p.stream_count
  streams-counted = ap (λ (c : Config). c.streams) f.counts

  pub streams-there : length (rest_in l p).streams ≡ l.config.streams
  unfolding rest_of
  streams-there = rw length-take (omega (arith, streams-counted, f.parts.streams))

  pub stream-below : (i : ℕ) → i < l.config.streams → i < 6
  stream-below i h = omega (arith, streams-counted, f.parts.streams)

  pub stream-in : (i : ℕ) → i < l.config.streams → stream_at (rest_in l p) i ≡ pieces.stream_at l p i
  stream-in i h =
      rest-stream (card_in l p [] []) i
      ∙ stream_at_lem (parts_now l p) i (omega (arith, streams-counted))
      ∙ stream-now l p i (stream-below i h)

-- ---- what is recorded

-- an event of a jack is allowed where the jack is
allowed-jack : (r : Rest) (code i : ℕ) → (eqb code jack_connected || eqb code jack_disconnected) ≡ true → event_allowed r code i ≡ true
    → i < length r.jacks
unfolding event_allowed
allowed-jack r code i t h = ltb-true _ _ (rw t at h)

-- .. and only there
jacks-by : (r : Rest) (code i : ℕ) → 4096 ≤ code → code < 4098 → (t : Bool) → eqb code 4096 ≡ t
    → event_allowed r code i ≡ ltb i (length r.jacks)
unfolding event_allowed
jacks-by r code i a b true e = rw e
jacks-by r code i a b false e = rw (e, eq-eqb code 4097 (omega (arith, eqb-false code 4096 e)))

pub allowed-jacks : (r : Rest) (code i : ℕ) → 4096 ≤ code → code < 4098 → event_allowed r code i ≡ ltb i (length r.jacks)
allowed-jacks r code i a b = jacks-by r code i a b (eqb code 4096) refl

-- what is allowed and no XRUN is an event of a jack
of-jack : (t u w : Bool) → cond t u w ≡ true → w ≡ false → t ≡ true
of-jack true u w h e = refl
of-jack false u true h e = absurd (true≢false e)
of-jack false u false h e = absurd (true≢false (sym h))

allowed-code : (r : Rest) (code i : ℕ) → event_allowed r code i ≡ true → eqb code pcm_xrun ≡ false
    → (eqb code jack_connected || eqb code jack_disconnected) ≡ true
unfolding event_allowed
allowed-code r code i h e = of-jack (eqb code jack_connected || eqb code jack_disconnected) (ltb i (length r.jacks)) _ h (rw e)

-- it records the connection of its code
abbrev jacks_with : ℕ → ℕ → Rest → Rest
jacks_with i v r = with_jacks (set r.jacks i (with_connected v (get_or r.jacks i no_jack))) r

of_code : (b b' : Bool) (i : ℕ) (r : Rest) → (b || b') ≡ true
    → cond b (jacks_with i 1 r) (cond b' (jacks_with i 0 r) r) ≡ jacks_with i (cond b 1 0) r
of_code true b' i r h = refl
of_code false true i r h = refl
of_code false false i r h = absurd (true≢false (sym h))

recorded-jack : (r : Rest) (code i : ℕ) → (eqb code jack_connected || eqb code jack_disconnected) ≡ true
    → recorded r code i ≡ jacks_with i (cond (eqb code jack_connected) 1 0) r
unfolding recorded
recorded-jack r code i h = of_code (eqb code jack_connected) (eqb code jack_disconnected) i r h

recorded-xrun : (r : Rest) (code i : ℕ) → eqb code pcm_xrun ≡ true → recorded r code i ≡ r
unfolding recorded
recorded-xrun r code i h = rw (eqb-true code pcm_xrun h)

pub names-jack : (l : Live) (p : Parts) → FitBoard l p → (code i : ℕ) → event_allowed (rest_in l p) code i ≡ true → NamesJack code i
unfolding rest_of
names-jack l p f code i h e =
    let k = rw length-take at (allowed-jack (rest_in l p) code i (allowed-code (rest_in l p) code i h e) h) in
    omega (arith, f.parts.jacks)

-- in the parts: a connection is recorded whether a reset came or not
jack-now : (b : Bool) (l : List Jack) (i : ℕ) → get_or (map (jack_now b) l) i no_jack ≡ jack_now b (get_or l i no_jack)
jack-now true l i = get_or-map (jack_now true) l i no_jack
jack-now false l i = get_or-map (jack_now false) l i no_jack

connected-now : (l : Live) (p : Parts) (i v : ℕ) → parts_now l (connected_at i v p) ≡ connected_at i v (parts_now l p)
connected-now l p i v =
    rw (map-set (jack_now l.fresh) p.jacks i (with_connected v (get_or p.jacks i no_jack)), jack-now l.fresh p.jacks i)

module _ (l : Live) (p : Parts) (pw cw : List ℕ) (f : Fits l p pw cw) where
  abbrev before : Card
  before = card_in l p pw cw

  module _ (i v : ℕ) where
    connected-device : i < p.jack_count
        → device_of (card_in l (connected_at i v p) pw cw) ≡ with_rest (jacks_with i v (rest_of before)) (device_of before)
    unfolding rest_of device_of
    connected-device h =
        ap (λ (q : Parts). device_of (with_parts q before)) (connected-now l p i v)
        ∙ rw (
          take-set-lt p.jack_count (parts_now l p).jacks i _ h,
          get_or-take p.jack_count (parts_now l p).jacks i no_jack h,
        )

    connected-board : FitBoard l (connected_at i v p)
    connected-board =
        record {
          live = f.board.live;
          parts = rw (connected-now l p i v) (fit-with-jack (parts_now l p) i _ f.board.parts);
          counts = f.board.counts;
          outputs = f.board.outputs;
          inputs = f.board.inputs;
        }

    connected-fits : Fits l (connected_at i v p) pw cw
    connected-fits =
        record {
          board = connected-board;
          play = f.play;
          capture = f.capture;
        }

  jack-below : (i : ℕ) → i < length (rest_of before).jacks → i < p.jack_count
  unfolding rest_of
  jack-below i h = let k = rw length-take at h in omega arith

  -- the card in which an event is recorded
  module _ (code i : ℕ) (h : event_allowed (rest_of before) code i ≡ true) where
    recorded-by : (b : Bool) → eqb code pcm_xrun ≡ b
        → (device_of (card_in l (recorded_in code i p) pw cw) ≡ with_rest (recorded (rest_of before) code i) (device_of before))
        × Fits l (recorded_in code i p) pw cw
    unfolding device_of
    recorded-by true e = rw (recorded-xrun (rest_of before) code i e, e) (refl, f)
    recorded-by false e =
        let t = allowed-code (rest_of before) code i h e in
        let v : ℕ = cond (eqb code jack_connected) 1 0 in
        let there = allowed-jack (rest_of before) code i t h in
        rw (recorded-jack (rest_of before) code i t, e) (connected-device i v (jack-below i there), connected-fits i v)

    pub recorded-in : (device_of (card_in l (recorded_in code i p) pw cw) ≡ with_rest (recorded (rest_of before) code i) (device_of before))
        × Fits l (recorded_in code i p) pw cw
    recorded-in = recorded-by (eqb code pcm_xrun) refl

-- ---- the call

-- the words of the queues are no part of the rest
pub rest_in_lem : (l : Live) (p : Parts) (pw cw : List ℕ) → rest_of (card_in l p pw cw) ≡ rest_in l p
unfolding rest_of
rest_in_lem l p pw cw = refl

-- what is recorded leaves the registers and the event queue as they are
kept : (b b' : Bool) (j j' : List Jack) (r : Rest)
    → let s : Rest = cond b (with_jacks j r) (cond b' (with_jacks j' r) r) in (s.registers ≡ r.registers) × (s.event ≡ r.event)
kept true b' j j' r = (refl, refl)
kept false true j j' r = (refl, refl)
kept false false j j' r = (refl, refl)

recorded-keeps : (r : Rest) (code data' : ℕ) → ((recorded r code data').registers ≡ r.registers) × ((recorded r code data').event ≡ r.event)
unfolding recorded
recorded-keeps r code data' = kept (eqb code jack_connected) (eqb code jack_disconnected) _ _ r

-- the call by its tests
tested : (r : Rest) (code data' : ℕ) (m : List ℕ)
    → event_of r code data' m
    ≡ admitted r m (λ answer. refused_with answer r m)
    (cond (event_allowed r code data') (sent_of code data' (recorded r code data') m).result (refused_with event_not_allowed r m))
unfolding event_of
tested r code data' m = rw ((recorded-keeps r code data').0, (recorded-keeps r code data').1)

module _ (c : Card) (code data' : ℕ) (m : List ℕ) where
  abbrev pub by_tests : Result
  by_tests =
      cond (eqb (length m) c.ram_len)
      (cond (registers.live c.registers)
      (cond (event_allowed (rest_of c) code data') (sent_of code data' (recorded (rest_of c) code data') m).result
      (refused_with event_not_allowed (rest_of c) m))
      (refused_with not_live (rest_of c) m))
      (refused_with length_differs (rest_of c) m)

  event-by : event_of (rest_of c) code data' m ≡ by_tests
  unfolding rest_of
  event-by = tested (rest_of c) code data' m

  pub event-refused : (number : ℕ) → by_tests ≡ refused_with number (rest_of c) m
      → step_of c (Event code data') m ≡ leaves c (plain number) 0 [] [] m
  unfolding device_of
  event-refused number h = rw (event-by ∙ h)

  -- an event that is sent, from the card `n` in which it is recorded
  event-sent : (n : Card) (o : Step (Device Queue)) → by_tests ≡ (sent_of code data' (recorded (rest_of c) code data') m).result
      → device_of n ≡ with_rest (recorded (rest_of c) code data') (device_of c)
      → step_by (sent_of code data' (rest_of n) m).result (device_of n) ≡ o
      → step_of c (Event code data') m ≡ o
  unfolding device_of
  event-sent n o h d x =
      rw (event-by ∙ h) (ap (λ (v : Device Queue). step_by (sent_of code data' v.rest m).result v) (sym d) ∙ x)

-- what sending changed is put back
sent-leaves : (l : Live) (p : Parts) (pw cw : List ℕ) → Fits l p pw cw → (a : Attempt) (code i : ℕ) (m after : List ℕ)
    → let n = card_in l p pw cw in
    sent_of code i (queue.holding l.registers (get_or l.queues event_queue no_counters) (rest_of n)) m ≡ sent_in (rest_of n) a after
    → step_by (sent_of code i (rest_of n) m).result (device_of n)
    ≡ leaves (card_in (holding_live event_queue a.registers a.counters l) p pw cw) a.answer 0 [] [] after
unfolding rest_of
sent-leaves l p pw cw f a code i m after h =
    rw (h, held-device (card_in l p pw cw) f.board.live.four a.registers a.counters event_queue (omega arith))

module _ (l : Live) (p : Parts) (pw cw : List ℕ) (f : Fits l p pw cw) (code i : ℕ) (m after : List ℕ) (a : Attempt) where
  abbrev card : Card
  card = card_in l p pw cw

  abbrev sent_live : Live
  sent_live = holding_live event_queue a.registers a.counters l

  pub told_in : eqb (length m) l.ram_len ≡ true
      → registers.live l.registers ≡ true
      → event_allowed (rest_of card) code i ≡ true
      → ((r : Rest) → sent_of code i (queue.holding l.registers (get_or l.queues event_queue no_counters) r) m ≡ sent_in r a after)
      → FitRegisters a.registers
      → (step_of card (Event code i) m ≡ leaves (card_in sent_live (recorded_in code i p) pw cw) a.answer 0 [] [] after)
      × Fits sent_live (recorded_in code i p) pw cw
  told_in long lives h sends g =
      let k = recorded-in l p pw cw f code i h in
      let n : Parts = recorded_in code i p in (
        event-sent card code i m (card_in l n pw cw) _ (rw (long, lives, h)) k.0
            (sent-leaves l n pw cw k.1 a code i m after (sends (rest_of (card_in l n pw cw)))),
        held_fits l n pw cw k.1 a.registers a.counters g event_queue (omega arith),
      )
