-- 01, The card at power-up and Registers: what power-up and the register entries do to the whole card.
use Rattle.std.specs.Prelude.{map, true, cond, ◌||◌, ℕ, eqb, set, replicate}
use Rattle.description.specs.declared.Description.{Description}
use Rattle.description.specs.Lawful.{lawful}
use Rattle.registers.specs.Answers.{done, bad_description}
use Rattle.registers.specs.Rules.{read_of, write_of}
use Rattle.registers.specs.declared.Effect.{Effect}
use Rattle.registers.specs.declared.Effect.TheVariants.{Nothing, Reset, Based, Rung}
use Rattle.registers.specs.declared.Read.{Read}
use Rattle.registers.specs.declared.Written.{Written}
use Rattle.card.specs.Card.{card_of, parts_at_power, no_parts, no_counters, fresh_stream, config_of}
use Rattle.card.specs.Setters.{with_registers}
use Rattle.card.specs.declared.Card.{Card}
use Rattle.card.specs.declared.Jack.{Jack}
use Rattle.card.specs.declared.Parts.{Parts}
use Rattle.card.specs.declared.Powered.{Powered}
use Rattle.card.specs.declared.ReadAnswer.{ReadAnswer}
use Rattle.card.specs.declared.Stream.{Stream}
use Rattle.card.specs.declared.WriteAnswer.{WriteAnswer}

-- ---- power-up: "Otherwise answer 10", "no device": the card beside that answer has no part and no memory

unfoldable pub powered_of : Description → ℕ → Powered
powered_of d len =
    cond (lawful d) (record { answer = done; card = card_of (parts_at_power d) len })
    (record { answer = bad_description; card = card_of no_parts 0 })

-- ---- a read

unfoldable pub read_card : Card → ℕ → ℕ → ReadAnswer
read_card c offset width =
    let r : Read = read_of c.registers (config_of c) offset width in
    record { answer = r.answer; value = r.value; card = with_registers r.registers c }

-- ---- a write, and what it means for the rest of the card

-- "remaps undone; connected stays"
abbrev pub jack_reset : Jack → Jack
jack_reset j = record { info = j.info; defconf = j.info.defconf; connected = j.connected }

abbrev pub stream_reset : Stream → Stream
stream_reset s = fresh_stream s.info

abbrev pub parts_reset : Parts → Parts
parts_reset p =
    record {
      jack_count = p.jack_count;
      map_count = p.map_count;
      stream_count = p.stream_count;
      output_count = p.output_count;
      jacks = map jack_reset p.jacks;
      maps = p.maps;
      streams = map stream_reset p.streams;
    }

-- "counters and messages in work are cleared, streams are Fresh, remaps undone"; order 8: "What drops 01's message in work drops the
-- lines."
unfoldable pub reset_card : Card → Card
reset_card c =
    record {
      ram_len = c.ram_len;
      registers = c.registers;
      queues = replicate 4 no_counters;
      parts = parts_reset c.parts;
      play_dropped = true;
      capture_dropped = true;
      play_words = c.play_words;
      capture_words = c.capture_words;
    }

-- a base write: "zero that queue's counters and drop its message in work", so its lines
unfoldable pub based_card : ℕ → Card → Card
based_card q c =
    record {
      ram_len = c.ram_len;
      registers = c.registers;
      queues = set c.queues q no_counters;
      parts = c.parts;
      play_dropped = eqb q 2 || c.play_dropped;
      capture_dropped = eqb q 3 || c.capture_dropped;
      play_words = c.play_words;
      capture_words = c.capture_words;
    }

abbrev pub affected : Effect → Card → Card
affected Nothing c = c
affected Reset c = reset_card c
affected (Based q) c = based_card q c
affected (Rung q) c = c

-- the queue rung, or 255 for none
abbrev pub rung_of : Effect → ℕ
rung_of Nothing = 255
rung_of Reset = 255
rung_of (Based q) = 255
rung_of (Rung q) = q

unfoldable pub write_card : Card → ℕ → ℕ → ℕ → WriteAnswer
write_card c offset width v =
    let w : Written = write_of c.registers offset width v in
    record { answer = w.answer; rung = rung_of w.effect; card = affected w.effect (with_registers w.registers c) }
