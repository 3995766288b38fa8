-- What the entries' decisions mean for the rules: the checks, and the streams.
use mathlib.Core.Path.{◌≡◌, refl, sym, ap, ◌∙◌}
use mathlib.Core.List.{List}
use mathlib.Core.Logic.{◌≢◌}
use mathlib.Core.Bool.{Bool, true, false, cond, ◌&&◌, and-eq-true_iff}
use Prim.Native.Nat.{ℕ, ◌-◌, ◌≤◌, ◌<◌}
use native.Mathlib.Omega.{arith}
use lib.Dec.{eqb, leb}
use lib.ListN.{length, get_or}
use borrow.Author.Tests.{lt-ltb, le-ltb, leb-true, ltb-true}
use lib.Seq.{length-take-le}
use Rattle.registers.specs.Answers.{done, length_differs, not_live, not_running, plain}
use Rattle.registers.specs.Rules.{live}
use Rattle.registers.specs.declared.Config.{Config}
use Rattle.card.specs.Card.{running_state}
use Rattle.card.specs.declared.Card.{Card}
use Rattle.card.specs.declared.Parts.{Parts}
use Rattle.live.specs.Live.{parts_now, card_in, FitBoard}
use Rattle.live.specs.declared.Live.{Live}
use Rattle.device.specs.Device as rules
use Rattle.device.specs.Transfer.{Transferred, transferred_by}
use Rattle.rules.specs.Calls.{untouched, is_running}
use Rattle.queue_lines.specs.Chains.{Virtqueue, line_of, is_on}
use Rattle.queue_lines.specs.Counters.{Queue}
use Rattle.queue_lines.specs.Rules.{transferred}
use Rattle.line_calls.specs.Calls.{virtqueue_of, runs_on, transferred_of}
use Rattle.line_calls.specs.Claim.{card}
use Rattle.line_calls.specs.Streams.{Streams, streams_in, first_of, count_of}
use Rattle.meaning.specs.Card.{shape_of, rest_of, device_of}
use Rattle.meaning.specs.Fit.{streams_live}
use Rattle.meaning.proofs.Fits.{streams-live}
use Rattle.stream.proofs.Laws.{stream-there}
use Rattle.pcm.specs.Entry.{on_live, refusal_of}

-- ---- the checks 1, 5, 6

module _ (c : Card) (d : rules.Direction) (id backlog : ℕ) (m host : List ℕ) where
  abbrev streams : Streams
  streams = streams_in c.parts

  abbrev rest : rules.Rest
  rest = rest_of c

  abbrev own : Queue
  own = rules.queue_for d (device_of c)

  abbrev v : Virtqueue
  v = virtqueue_of streams rest d backlog

  -- refused, and passed
  abbrev refused : ℕ → Transferred Queue
  refused a = untouched (plain a) rest.registers own m

  abbrev pub passed : Transferred Queue
  passed = transferred_by (rules.queue_number d) rest.registers (transferred (card streams d) v (line_of v id) own m host)

  -- the checks by their tests
  abbrev by_tests : Bool → Bool → Bool → ℕ
  by_tests long is_live running = cond long (cond is_live (cond running done not_running) not_live) length_differs

  abbrev outcome_by : Bool → Bool → Bool → Transferred Queue
  outcome_by long is_live running =
      cond long (cond is_live (cond running passed (refused not_running)) (refused not_live)) (refused length_differs)

  abbrev told : Transferred Queue
  told = transferred_of streams (card streams) d id backlog (device_of c) m host

  pub refused-transfer : (a : ℕ) → refusal_of c d id m ≡ a → (a ≡ 0 → ⊥) → told ≡ refused a
  unfolding refusal_of transferred_of device_of
  refused-transfer a h n = by (eqb (length m) rest.ram) (live rest.registers) (runs_on streams rest d id) h where
    by : (x y z : Bool) → by_tests x y z ≡ a → outcome_by x y z ≡ refused a
    by true true true e = absurd (n (sym e))
    by true true false e = rw (← e)
    by true false z e = rw (← e)
    by false y z e = rw (← e)

  pub passed-transfer : refusal_of c d id m ≡ 0 → told ≡ passed
  unfolding refusal_of transferred_of device_of
  passed-transfer h = by (eqb (length m) rest.ram) (live rest.registers) (runs_on streams rest d id) h where
    by : (x y z : Bool) → by_tests x y z ≡ 0 → outcome_by x y z ≡ passed
    by true true true e = refl
    by true true false e = absurd (omega arith)
    by true false z e = absurd (omega arith)
    by false y z e = absurd (omega arith)

-- ---- streams

-- the last of six
pub sixth : (i : ℕ) → i < 6 → i ≢ 0 → i ≢ 1 → i ≢ 2 → i ≢ 3 → i ≢ 4 → i ≡ 5
sixth i h a b c d e = omega arith

-- a stream of a direction has a line
pub has-line : (l : Live) (d : rules.Direction) (id : ℕ) → on_live l d id ≡ true
    → (first_of (streams_live l) d ≤ id) × (id - first_of (streams_live l) d < count_of (streams_live l) d)
has-line l d id h =
    let b = (and-eq-true_iff (leb (first_of (streams_live l) d) id) _).0 h in
    (leb-true _ _ b.0, ltb-true _ _ b.1)

and_none : (a b : Bool) → b ≡ false → (a && b) ≡ false
and_none true b e = e
and_none false b e = refl

module _ (l : Live) (p : Parts) (pw cw : List ℕ) (f : FitBoard l p) (d : rules.Direction) (id : ℕ) where
  abbrev held : Card
  held = card_in l p pw cw

  abbrev counted : l.config.streams ≡ p.stream_count
  counted = ap (λ (c : Config). c.streams) f.counts

  listed : length (rest_of held).streams ≡ l.config.streams
  unfolding rest_of
  listed = length-take-le p.stream_count (parts_now l p).streams (omega (arith, f.parts.streams)) ∙ sym counted

  running-past : l.config.streams ≤ id → is_running (rest_of held) id ≡ false
  running-past h = rw (listed, le-ltb id l.config.streams h)

  running-at : id < l.config.streams → is_running (rest_of held) id ≡ eqb (get_or l.states id 0) running_state
  running-at h = rw (listed, lt-ltb id l.config.streams h, stream-there l p pw cw f id h)

  -- as the small state counts them
  on-card : is_on (virtqueue_of (streams_in held.parts) (rest_of held) d 0) id ≡ on_live l d id
  on-card = ap (λ (n : Streams). is_on (shape_of d n) id) (sym (streams-live l p f))

  there-at : on_live l d id ≡ true → id < l.config.streams
  there-at h = by d (has-line l d id h) where
    by : (e : rules.Direction) → (first_of (streams_live l) e ≤ id) × (id - first_of (streams_live l) e < count_of (streams_live l) e)
        → id < l.config.streams
    by rules.output b = omega (arith, counted, f.outputs, f.parts.some, b.1)
    by rules.input b = omega (arith, counted, f.outputs, f.inputs, f.parts.some, b.0, b.1)

  abbrev runs : Bool
  runs = runs_on (streams_in held.parts) (rest_of held) d id

  pub runs_past : 6 ≤ id → runs ≡ false
  runs_past h =
      and_none (is_on (virtqueue_of (streams_in held.parts) (rest_of held) d 0) id) _
      (running-past (omega (arith, counted, f.parts.streams)))

  pub runs-off : on_live l d id ≡ false → runs ≡ false
  runs-off h = rw (on-card ∙ h)

  pub runs-at : on_live l d id ≡ true → runs ≡ eqb (get_or l.states id 0) running_state
  runs-at h = rw (on-card ∙ h) (running-at (there-at h))
