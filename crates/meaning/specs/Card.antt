-- What a card stands for in the rules: its stream queues with counters and lines, and all the rest.
use Rattle.std.specs.Prelude.{Bool, false, cond, List, ℕ, length, take, get_or, replicate}
use Rattle.registers.specs.declared.answers.Answer.{Answer}
use Rattle.card.specs.Card.{no_counters}
use Rattle.card.specs.declared.Card.{Card}
use Rattle.card.specs.declared.Counters.{Counters}
use Rattle.device.specs.Device.{Direction, output, input, Rest, Device}
use Rattle.device.specs.Numbers.{control_queue, event_queue, play_queue, capture_queue}
use Rattle.rules.specs.Calls.{Step, told_all, nothing_rung}
use Rattle.queue_lines.specs.Chains.{Virtqueue}
use Rattle.queue_lines.specs.Counters.{Queue, no_line}
use Rattle.queue_lines.specs.Parts.{lies}
use Rattle.line_words.specs.Slots.{queue_in}
use Rattle.line_calls.specs.Calls.{Request, step}
use Rattle.line_calls.specs.Claim.{card}
use Rattle.line_calls.specs.Streams.{Streams, streams_in, first_of, count_of}

-- the counters of a queue
abbrev pub counters_at : Card → ℕ → Counters
counters_at c q = get_or c.queues q no_counters

-- ---- the stream queues

-- a queue by its streams alone: where the guest laid it out plays no part in what its words stand for
abbrev pub shape_of : Direction → Streams → Virtqueue
shape_of d n = lies d (first_of n d) (count_of n d) (record { page = record { 0 = 0 }; negotiated = false; latency = 0 })

-- no message in any line
abbrev pub no_lines : Virtqueue → Counters → Queue
no_lines v c = record { taken = c.taken; completed = c.completed; lines = replicate v.streams no_line }

-- the queue of words and counters. "What drops 01's message in work drops the lines.": whatever its words then hold
unfoldable pub queue_with : Virtqueue → Bool → List ℕ → Counters → Queue
queue_with v dropped ws c = cond dropped (no_lines v c) (queue_in v ws c)

-- ---- the whole card

-- all but the stream queues
unfoldable pub rest_of : Card → Rest
rest_of c =
    record {
      ram = c.ram_len;
      registers = c.registers;
      jacks = take c.parts.jack_count c.parts.jacks;
      maps = take c.parts.map_count c.parts.maps;
      streams = take c.parts.stream_count c.parts.streams;
      control = counters_at c control_queue;
      event = counters_at c event_queue;
    }

unfoldable pub device_of : Card → Device Queue
device_of c =
    let n : Streams = streams_in c.parts in
    record {
      rest = rest_of c;
      play = queue_with (shape_of output n) c.play_dropped c.play_words (counters_at c play_queue);
      capture = queue_with (shape_of input n) c.capture_dropped c.capture_words (counters_at c capture_queue);
    }

-- how many streams a device has: a line for each
abbrev pub streams_shown : Device Queue → Streams
streams_shown b = record { outputs = length b.play.lines; inputs = length b.capture.lines }

-- ---- entries of the card

-- the rules' step for a call on this card, with this memory lent
abbrev pub step_of : Card → Request → List ℕ → Step (Device Queue)
step_of c q m = step (streams_in c.parts) (card (streams_in c.parts)) (device_of c) (record { asked = q; lent = m })

-- what an entry leaves and tells: the card, the answer, the count, the bytes moved, the host buffer and memory
abbrev pub leaves : Card → Answer → ℕ → List ℕ → List ℕ → List ℕ → Step (Device Queue)
leaves c answer count bytes host m = record { state = device_of c; told = told_all answer 0 nothing_rung count bytes host m }
