-- Lists of calls from power-up, refused ones included, for any way of keeping the stream queues: what each told, the last state, what is
-- gathered on the way; and a device kept one way, shown as one kept another. The claim that the card and the account run alike over any
-- list is line_calls/specs/Claim's.
use Rattle.std.specs.Prelude.{Bool, cond, List, [], ◌∷◌, map, ℕ, ◌+◌, take}
use Rattle.description.specs.declared.Description.{Description}
use Rattle.registers.specs.Rules.{power_on}
use Rattle.card.specs.Card.{no_counters, jack_at_power, fresh_stream}
use Rattle.rules.specs.Calls.{Told, Step}
use Rattle.device.specs.Device.{Direction, output, input, Rest, Device}

-- ---- lists of calls

-- the state that power-up gives, of what power-up is given
abbrev pub rest_at_power : Description → ℕ → Rest
rest_at_power d len =
    record {
      ram = len;
      registers = power_on;
      jacks = take d.jack_count (map jack_at_power d.jacks);
      maps = take d.map_count d.maps;
      streams = take (d.output_count + d.input_count) (map fresh_stream d.streams);
      control = no_counters;
      event = no_counters;
    }

-- .. with these queues
abbrev pub start_by : {Q : Type 0} → (Direction → Q) → Description → ℕ → Device Q
start_by empty d len = record { rest = rest_at_power d len; play = empty output; capture = empty input }

-- the calls of a list, one after the other: what each told, and the last state
module _ {S C : Type 0} (step : S → C → Step S) where
  abbrev pub told_along : S → List C → List Told
  told_along b [] = []
  told_along b (c ∷ cs) = (step b c).told ∷ told_along (step b c).state cs

  abbrev pub after_along : S → List C → S
  after_along b [] = b
  after_along b (c ∷ cs) = after_along (step b c).state cs

  -- what is gathered of the calls since the last that clears
  abbrev pub gathered_along : {A : Type 0} → (S → C → Bool) → A → (A → C → Told → A) → A → S → List C → A
  gathered_along clears nothing more w b [] = w
  gathered_along clears nothing more w b (c ∷ cs) =
      gathered_along clears nothing more (cond (clears b c) nothing (more w c (step b c).told)) (step b c).state cs

-- ---- two ways of keeping the queues

-- a device kept one way, shown as one kept the other
abbrev pub shown_as : {H Q : Type 0} → (H → Q) → Device H → Device Q
shown_as f b = record { rest = b.rest; play = f b.play; capture = f b.capture }
