-- Power-up and the register entries of the card are the rules' start and steps.
use mathlib.Core.Path.{◌≡◌, refl, sym, ap}
use mathlib.Core.List.{List, []}
use mathlib.Core.Bool.{true, cond}
use Prim.Native.Nat.{ℕ, zero, suc, ◌+◌, ◌-◌, ◌<◌}
use native.Mathlib.Omega.{arith}
use lib.ListN.{length, get_or, set, take}
use lib.Seq.{length-take-le, get_or-set_same, get_or-set_other}
use Rattle.description.specs.Lawful.{lawful}
use Rattle.description.specs.declared.Description.{Description}
use Rattle.ranges.proofs.Laws.{map-take}
use Rattle.registers.specs.Answers.{plain}
use Rattle.registers.specs.Rules.{write_of}
use Rattle.registers.specs.declared.Effect.{Effect}
use Rattle.registers.specs.declared.Effect.TheVariants.{Nothing, Reset, Based, Rung}
use Rattle.registers.proofs.Queues.{queue_named, queue-named}
use Rattle.card.specs.Card.{no_counters}
use Rattle.card.specs.Fit.{FitParts}
use Rattle.card.specs.Setters.{with_registers}
use Rattle.card.specs.Rules.{powered_of, read_card, write_card, affected, reset_card, based_card, rung_of, jack_reset, stream_reset}
use Rattle.card.specs.declared.Card.{Card}
use Rattle.rules.specs.Calls.{told_all, nothing_rung, read_step, affected_rest, clears_queue}
use Rattle.device.specs.Device as rules
use Rattle.queue_lines.specs.Counters.{Queue}
use Rattle.line_calls.specs.Calls.{ReadRegister, WriteRegister}
use Rattle.line_calls.specs.Claim.{card, start}
use Rattle.line_calls.specs.Streams.{streams_of, streams_in}
use Rattle.meaning.specs.Card.{queue_with, counters_at, rest_of, device_of, step_of}

-- ---- power-up

-- as many inputs as were described
inputs-left : (a b : ℕ) → a + b - a ≡ b
inputs-left a b = omega arith

pub power-start : (d : Description) (len : ℕ) → lawful d ≡ true
    → device_of (powered_of d len).card ≡ start (streams_of d) (card (streams_of d)) d len
unfolding device_of rest_of powered_of queue_with
power-start d len h = rw (h, inputs-left d.output_count d.input_count)

pub power-streams : (d : Description) (len : ℕ) → lawful d ≡ true → streams_in (powered_of d len).card.parts ≡ streams_of d
unfolding powered_of
power-streams d len h = rw (h, inputs-left d.output_count d.input_count)

-- ---- reads

module _ (c : Card) (f : FitParts c.parts) where
  -- the counts are those of the lists
  jacks-counted : length (take c.parts.jack_count c.parts.jacks) ≡ c.parts.jack_count
  jacks-counted = length-take-le c.parts.jack_count c.parts.jacks (omega (arith, f.jacks, f.four-jacks))

  streams-counted : length (take c.parts.stream_count c.parts.streams) ≡ c.parts.stream_count
  streams-counted = length-take-le c.parts.stream_count c.parts.streams (omega (arith, f.streams, f.six-streams))

  maps-counted : length (take c.parts.map_count c.parts.maps) ≡ c.parts.map_count
  maps-counted = length-take-le c.parts.map_count c.parts.maps (omega (arith, f.maps, f.four-maps))

  pub read-step : (offset width : ℕ) (m : List ℕ) → step_of c (ReadRegister offset width) m
      ≡ record {
        state = device_of (read_card c offset width).card;
        told = told_all (plain (read_card c offset width).answer) (read_card c offset width).value nothing_rung 0 [] [] m;
      }
  unfolding read_step read_card device_of rest_of
  read-step offset width m = rw (jacks-counted, streams-counted, maps-counted)

-- ---- writes

-- the counters of a queue that was given a base, and of the others
zeroed : (c : Card) (q : ℕ) → length c.queues ≡ 4 → q < 4 → get_or (set c.queues q no_counters) q no_counters ≡ no_counters
zeroed c q four h = get_or-set_same c.queues q no_counters no_counters (omega arith)

kept : (c : Card) (q i : ℕ) → (i ≡ q → ⊥) → get_or (set c.queues q no_counters) i no_counters ≡ counters_at c i
kept c q i n = get_or-set_other c.queues q i no_counters no_counters n

-- what an effect makes of the card it makes of what the card stands for
affected-rest : (e : Effect) (c : Card) → length c.queues ≡ 4 → queue_named e < 4
    → device_of (affected e c)
    ≡ record {
      rest = affected_rest e (rest_of c);
      play = cond (clears_queue rules.output e) (card (streams_in c.parts) rules.output).empty (device_of c).play;
      capture = cond (clears_queue rules.input e) (card (streams_in c.parts) rules.input).empty (device_of c).capture;
    }
unfolding device_of rest_of reset_card based_card queue_with
affected-rest Nothing c four h = refl
affected-rest Reset c four h = rw (map-take jack_reset, map-take stream_reset)
affected-rest (Based zero) c four h =
    rw (zeroed c 0 four (omega arith), kept c 0 1 (λ e. omega arith), kept c 0 2 (λ e. omega arith), kept c 0 3 (λ e. omega arith))
affected-rest (Based (suc zero)) c four h =
    rw (zeroed c 1 four (omega arith), kept c 1 0 (λ e. omega arith), kept c 1 2 (λ e. omega arith), kept c 1 3 (λ e. omega arith))
affected-rest (Based (suc (suc zero))) c four h =
    rw (zeroed c 2 four (omega arith), kept c 2 0 (λ e. omega arith), kept c 2 1 (λ e. omega arith), kept c 2 3 (λ e. omega arith))
affected-rest (Based (suc (suc (suc zero)))) c four h =
    rw (zeroed c 3 four (omega arith), kept c 3 0 (λ e. omega arith), kept c 3 1 (λ e. omega arith), kept c 3 2 (λ e. omega arith))
affected-rest (Based (suc (suc (suc (suc q))))) c four h = absurd (omega arith)
affected-rest (Rung q) c four h = refl

pub write_step : (c : Card) → length c.queues ≡ 4 → (offset width v : ℕ) (m : List ℕ) → step_of c (WriteRegister offset width v) m
    ≡ record {
      state = device_of (write_card c offset width v).card;
      told = told_all (plain (write_card c offset width v).answer) 0 (write_card c offset width v).rung 0 [] [] m;
    }
unfolding write_card device_of rest_of
write_step c four offset width v m =
    let w = write_of c.registers offset width v in
    ap
    (λ (d : rules.Device Queue).
    record { state = d; told = told_all (plain w.answer) 0 (rung_of w.effect) 0 [] [] m })
    (sym (affected-rest w.effect (with_registers w.registers c) four (queue-named c.registers v offset width)))
