-- A card with one of its fields replaced, and its parts with one of them replaced.
use Rattle.std.specs.Prelude.{ℕ, set}
use Rattle.registers.specs.declared.Registers.{Registers}
use Rattle.card.specs.declared.Card.{Card}
use Rattle.card.specs.declared.Counters.{Counters}
use Rattle.card.specs.declared.Jack.{Jack}
use Rattle.card.specs.declared.Parts.{Parts}
use Rattle.card.specs.declared.Stream.{Stream}

abbrev pub with_registers : Registers → Card → Card
with_registers r c =
    record {
      ram_len = c.ram_len;
      registers = r;
      queues = c.queues;
      parts = c.parts;
      play_dropped = c.play_dropped;
      capture_dropped = c.capture_dropped;
      play_words = c.play_words;
      capture_words = c.capture_words;
    }

-- the counters of a queue
abbrev pub with_counters : ℕ → Counters → Card → Card
with_counters q v c =
    record {
      ram_len = c.ram_len;
      registers = c.registers;
      queues = set c.queues q v;
      parts = c.parts;
      play_dropped = c.play_dropped;
      capture_dropped = c.capture_dropped;
      play_words = c.play_words;
      capture_words = c.capture_words;
    }

abbrev pub with_parts : Parts → Card → Card
with_parts p c =
    record {
      ram_len = c.ram_len;
      registers = c.registers;
      queues = c.queues;
      parts = p;
      play_dropped = c.play_dropped;
      capture_dropped = c.capture_dropped;
      play_words = c.play_words;
      capture_words = c.capture_words;
    }

-- ---- parts: what control requests and jack events change

abbrev pub with_jack_at : ℕ → Jack → Parts → Parts
with_jack_at i j p =
    record {
      jack_count = p.jack_count;
      map_count = p.map_count;
      stream_count = p.stream_count;
      output_count = p.output_count;
      jacks = set p.jacks i j;
      maps = p.maps;
      streams = p.streams;
    }

abbrev pub with_stream_at : ℕ → Stream → Parts → Parts
with_stream_at i s p =
    record {
      jack_count = p.jack_count;
      map_count = p.map_count;
      stream_count = p.stream_count;
      output_count = p.output_count;
      jacks = p.jacks;
      maps = p.maps;
      streams = set p.streams i s;
    }
