-- Order 8: the streams of a card, "one to four output and up to two input streams, outputs numbered first". How many there are is fixed at
-- power-up.
use Rattle.std.specs.Prelude.{Bool, cond, ℕ, ◌-◌, ltb}
use Rattle.card.specs.declared.Parts.{Parts}
use Rattle.description.specs.Lawful as description
use Rattle.description.specs.declared.Description.{Description}
use Rattle.device.specs.Device.{Direction, output, input}

pub record Streams : Type 0 where
  pub outputs : ℕ
  pub inputs : ℕ

abbrev pub streams_of : Description → Streams
streams_of d = record { outputs = d.output_count; inputs = d.input_count }

-- those of a card with these parts
abbrev pub streams_in : Parts → Streams
streams_in p = record { outputs = p.output_count; inputs = p.stream_count - p.output_count }

-- "Refusals: answer 10 for stream lists outside the new numbers."
abbrev pub lawful_streams : Streams → Bool
lawful_streams n = description.lawful_streams n.outputs n.inputs

-- the direction of a stream
abbrev pub direction_of : Streams → ℕ → Direction
direction_of n id = cond (ltb id n.outputs) output input

-- the first stream of a direction, and how many there are
abbrev pub first_of : Streams → Direction → ℕ
first_of n output = 0
first_of n input = n.outputs

abbrev pub count_of : Streams → Direction → ℕ
count_of n output = n.outputs
count_of n input = n.inputs

-- the number of a stream's direction in PCM_INFO (0 for outputs)
abbrev pub direction_number : Streams → ℕ → ℕ
direction_number n id = cond (ltb id n.outputs) 0 1
