-- The streams that the rules see of a card are those of its parts, and its lines show how many they are.
use mathlib.Core.Path.{◌≡◌, refl, ap, ◌∙◌}
use mathlib.Core.Bool.{Bool, true, false}
use mathlib.Core.List.{List}
use Prim.Native.Nat.{ℕ}
use lib.ListN.{length, length-map, length-replicate}
use Rattle.ranges.proofs.Laws.{length-up_from}
use Rattle.card.specs.declared.Card.{Card}
use Rattle.card.specs.declared.Counters.{Counters}
use Rattle.device.specs.Device.{stream_at}
use Rattle.rules.specs.Control as control
use Rattle.rules.specs.Parts.{parts_of}
use Rattle.queue_lines.specs.Chains.{Virtqueue}
use Rattle.line_words.specs.Slots.{lines_of, queue_in}
use Rattle.line_calls.specs.Streams.{Streams, streams_in}
use Rattle.meaning.specs.Card.{queue_with, rest_of, device_of, streams_shown}

pub rest-stream : (c : Card) (i : ℕ) → stream_at (rest_of c) i ≡ control.stream_in (parts_of c.parts) i
unfolding rest_of
rest-stream c i = refl

-- ---- how many there are

lines-counted : (v : Virtqueue) (dropped : Bool) (ws : List ℕ) (c : Counters) → length (queue_with v dropped ws c).lines ≡ v.streams
unfolding queue_with queue_in lines_of
lines-counted v true ws c = rw length-replicate
lines-counted v false ws c = rw (length-map, length-up_from)

outputs-are : (c : Card) → length (device_of c).play.lines ≡ (streams_in c.parts).outputs
unfolding device_of
outputs-are c = lines-counted _ c.play_dropped c.play_words _

inputs_are : (c : Card) → length (device_of c).capture.lines ≡ (streams_in c.parts).inputs
unfolding device_of
inputs_are c = lines-counted _ c.capture_dropped c.capture_words _

pub same_numbers : (a b : Streams) → a.outputs ≡ b.outputs → a.inputs ≡ b.inputs → a ≡ b
same_numbers a b e f =
    ap (λ (x : ℕ). record { outputs = x; inputs = a.inputs }) e ∙ ap (λ (x : ℕ). record { outputs = b.outputs; inputs = x }) f

pub streams-shown : (c : Card) → streams_shown (device_of c) ≡ streams_in c.parts
streams-shown c = same_numbers (streams_shown (device_of c)) (streams_in c.parts) (outputs-are c) (inputs_are c)
