-- A list of calls, each doing what `call` promises, tells and leaves what the rules' card and the account do, by induction: the account
-- follows each call (`step_same`), and its histories stay good (`step_keeps`), so that the card keeps its streams.
use mathlib.Core.Path.{◌≡◌, refl, sym, ap, subst, ◌∙◌}
use mathlib.Core.Bool.{Bool, true, false}
use mathlib.Core.List.{List, ◌∷◌}
use Prim.Native.Nat.{ℕ}
use native.Mathlib.Omega.{arith}
use lib.ListN.{length, length-map}
use Rattle.description.specs.Lawful.{lawful}
use Rattle.description.specs.declared.Description.{Description}
use Rattle.registers.specs.Answers.{done}
use Rattle.card.specs.Rules.{powered_of}
use Rattle.card.specs.declared.Card.{Card}
use Rattle.card.specs.declared.Powered.{Powered}
use Rattle.meaning.specs.Card.{device_of}
use Rattle.meaning.proofs.Steps.{power-start, power-streams}
use Rattle.meaning.proofs.Streams.{same_numbers, streams-shown}
use Rattle.rules.specs.Calls.{Told, Step}
use Rattle.rules.specs.Claim.{shown_as}
use Rattle.rules.proofs.Calls.{low}
use Rattle.device.specs.Device.{Direction, output, input, Device}
use Rattle.queue_lines.specs.Claim.{queue_of}
use Rattle.queue_lines.specs.Counters.{Queue}
use Rattle.queue_lines.specs.Histories.{History}
use Rattle.line_calls.specs.Calls.{Call, step}
use Rattle.line_calls.specs.Claim.{card, account, start, told_by, after}
use Rattle.line_calls.specs.Streams.{Streams, streams_of, streams_in}
use Rattle.line_calls.proofs.Calls.{Kepts, then, step_same, step_keeps}
use Rattle.line_calls.proofs.Theorem.{unsaid, start-kept, start-shown, holds}
use Rattle.calls.specs.Calls.{Powers, Does}
use Rattle.calls.specs.Demand3.{EachCard}
use Rattle.calls.specs.Tied.{Runs, none, next, Tied}
use Rattle.calls.proofs.Whole.{powered-device, powered-parts}

-- ---- how many streams the account has

lines-shown : (h : History) → length (queue_of h).lines ≡ length h.lines
unfolding queue_of
lines-shown h = rw length-map

-- ---- one call

module _ (n : Streams) where
  -- the account keeps up with the card
  record Going (w : Direction → ℕ → List ℕ) (b : Device History) (c : Card) : Type 0 where
    kept : Kepts n w b
    shown : device_of c ≡ shown_as queue_of b
    streams : streams_in c.parts ≡ n

  module _ (w : Direction → ℕ → List ℕ) (b : Device History) (c a : Card) (k : Call) (t : Told) (i : Going w b c) (d : Does c k t a) where
    both : low queue_of (step n (account n) b k) ≡ record { state = device_of a; told = t }
    both = sym (step_same n w b k i.kept) ∙ (rw (i.shown, i.streams) at d.says)

    told_is : t ≡ (step n (account n) b k).told
    unfolding low
    told_is = ap (λ (s : Step (Device Queue)). s.told) (sym both)

    stands : device_of a ≡ shown_as queue_of (step n (account n) b k).state
    unfolding low
    stands = ap (λ (s : Step (Device Queue)). s.state) (sym both)

    outputs-kept : (streams_in a.parts).outputs ≡ n.outputs
    outputs-kept =
        ap (λ (k : Streams). k.outputs) (sym (streams-shown a)) ∙ ap (λ (s : Device Queue). length s.play.lines) stands
        ∙ lines-shown (step n (account n) b k).state.play
        ∙ (step_keeps n w b k i.kept output).good.lines

    inputs-kept : (streams_in a.parts).inputs ≡ n.inputs
    inputs-kept =
        ap (λ (k : Streams). k.inputs) (sym (streams-shown a)) ∙ ap (λ (s : Device Queue). length s.capture.lines) stands
        ∙ lines-shown (step n (account n) b k).state.capture
        ∙ (step_keeps n w b k i.kept input).good.lines

    going_on : Going (then n w b k) (step n (account n) b k).state a
    going_on =
        record {
          kept = step_keeps n w b k i.kept;
          shown = stands;
          streams = same_numbers (streams_in a.parts) n outputs-kept inputs-kept;
        }

  -- ---- any calls

  -- what holds after them
  record Went (b : Device History) (ks : List Call) (ts : List Told) (last : Card) : Type 0 where
    told : ts ≡ told_by n (account n) b ks
    shown : device_of last ≡ shown_as queue_of (after n (account n) b ks)
    streams : streams_in last.parts ≡ n

  went :
      (w : Direction → ℕ → List ℕ) (b : Device History) (c last : Card) (ks : List Call) (ts : List Told)
      → Runs c ks ts last
      → Going w b c
      → Went b ks ts last
  went w b c _ _ _ none i = record { told = refl; shown = i.shown; streams = i.streams }
  went w b c last _ _ (next {n = a} {k = k} {t = t} {ks = ks} {ts = ts} d r) i =
      let o = went (then n w b k) (step n (account n) b k).state a last ks ts r (going_on w b c a k t i d) in
      record {
        told = ap (λ (x : Told). x ∷ ts) (told_is w b c a k t i d) ∙ ap (λ (l : List Told). (step n (account n) b k).told ∷ l) o.told;
        shown = o.shown;
        streams = o.streams;
      }

  -- the card's step from what the account stands for
  low-state : (w : Direction → ℕ → List ℕ) (b : Device History) (k : Call) → Kepts n w b
      → (step n (card n) (shown_as queue_of b) k).state ≡ shown_as queue_of (step n (account n) b k).state
  unfolding low
  low-state w b k kept = ap (λ (s : Step (Device Queue)). s.state) (step_same n w b k kept)

  each-card :
      (w : Direction → ℕ → List ℕ) (b : Device History) (c last : Card) (ks : List Call) (ts : List Told) (r : Runs c ks ts last)
      → Going w b c
      → EachCard n r (shown_as queue_of b)
  each-card w b c _ _ _ none i = tt
  each-card w b c last _ _ (next {n = a} {k = k} {t = t} {ks = ks} {ts = ts} d r) i =
      rw (low-state w b k i.kept) (
        stands w b c a k t i d,
        each-card (then n w b k) (step n (account n) b k).state a last ks ts r (going_on w b c a k t i d),
      )

-- ---- from power-up

-- only a lawful description is answered 0
pub powered-lawful : (d : Description) (len : ℕ) → (powered_of d len).answer ≡ done → lawful d ≡ true
unfolding powered_of
powered-lawful d len e = go (lawful d) refl
  where
    go : (b : Bool) → lawful d ≡ b → lawful d ≡ true
    go true q = q
    go false q = absurd (omega (arith, rw q at e))

-- `p` is what `power_up(d, len)` returns: `is` is its contract, and `ok` that it gave a card
module _ (d : Description) (len : ℕ) (p : Powered) (is : Powers d len p) (ok : p.answer ≡ done)
    (ks : List Call) (ts : List Told) (last : Card) (r : Runs p.card ks ts last) where
  abbrev n : Streams
  n = streams_of d

  described : lawful d ≡ true
  described = powered-lawful d len (sym is.answer ∙ ok)

  first-going : Going n (unsaid n) (start n (account n) d len) p.card
  first-going =
      record {
        kept = start-kept n d len;
        shown = powered-device d len p is ∙ power-start d len described ∙ sym (start-shown n d len);
        streams = ap streams_in (powered-parts d len p is) ∙ power-streams d len described;
      }

  pub tied : Tied d len ks ts last
  tied =
      let o = went n (unsaid n) (start n (account n) d len) p.card last ks ts r first-going in
      let h = holds d len ks in
      record {
        told = o.told ∙ sym h.same;
        account-told = o.told;
        state = o.shown ∙ sym h.stands;
        stands = o.shown;
        streams = o.streams;
      }

  pub each_left : EachCard n r (start n (card n) d len)
  each_left =
      subst (EachCard n r) (start-shown n d len)
      (each-card n (unsaid n) (start n (account n) d len) p.card last ks ts r first-going)
