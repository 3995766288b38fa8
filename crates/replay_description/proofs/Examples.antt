-- Streams in the order of their lines: the outputs first, then the inputs.
use mathlib.Core.Path.{◌≡◌, refl}
use mathlib.Core.List.{[], ◌∷◌}
use Prim.Native.Nat.{ℕ}
use Rattle.description.specs.Lawful.{no_stream}
use Rattle.description.specs.Nothing.{nothing_described}
use Rattle.description.specs.declared.Description.{Description}
use Rattle.description.specs.declared.StreamInfo.{StreamInfo}
use Rattle.replay_description.specs.Parts.{with_output, with_input}

abbrev stream : ℕ → StreamInfo
stream n = record { nid = n; features = 0; formats = 32; rates = 128; channels_min = 1; channels_max = 2 }

-- in 1, out 2, in 3, out 4, out 5
abbrev mixed : Description
mixed = with_output (with_output (with_input (with_output (with_input nothing_described (stream 1)) (stream 2)) (stream 3)) (stream 4))
    (stream 5)

pub outputs-first :
    (mixed.streams ≡ stream 2 ∷ stream 4 ∷ stream 5 ∷ stream 1 ∷ stream 3 ∷ no_stream ∷ [])
    × (mixed.output_count ≡ 3)
    × (mixed.input_count ≡ 2)
unfolding with_output with_input
outputs-first = (refl, refl, refl)
