-- The card's state and its parts.
use Rattle.std.specs.Prelude.{true, map, ℕ, ◌+◌, replicate}
use Rattle.description.specs.declared.Description.{Description}
use Rattle.description.specs.declared.JackInfo.{JackInfo}
use Rattle.description.specs.declared.MapInfo.{MapInfo}
use Rattle.description.specs.declared.StreamInfo.{StreamInfo}
use Rattle.ranges.specs.Ranges.{no_ranges}
use Rattle.registers.specs.declared.Config.{Config}
use Rattle.registers.specs.Rules.{power_on}
use Rattle.card.specs.declared.Card.{Card}
use Rattle.card.specs.declared.Counters.{Counters}
use Rattle.card.specs.declared.Jack.{Jack}
use Rattle.card.specs.declared.Message.{Message}
use Rattle.card.specs.declared.Params.{Params}
use Rattle.card.specs.declared.Parts.{Parts}
use Rattle.card.specs.declared.Stream.{Stream}

-- ---- parts at power-up

abbrev pub no_counters : Counters
no_counters = record { taken = 0; completed = 0 }

abbrev pub no_message : Message
no_message = record { count = 0; head = record { 0 = 0 }; done = 0; request = no_ranges; reply = no_ranges }

abbrev pub no_params : Params
no_params = record { buffer_bytes = 0; period_bytes = 0; features = 0; channels = 0; format = 0; rate = 0 }

-- the numbers of a stream's states
abbrev pub fresh_state : ℕ
fresh_state = 0

abbrev pub set_state : ℕ
set_state = 1

abbrev pub prepared_state : ℕ
prepared_state = 2

abbrev pub running_state : ℕ
running_state = 3

abbrev pub stopped_state : ℕ
stopped_state = 4

abbrev pub released_state : ℕ
released_state = 5

abbrev pub fresh_stream : StreamInfo → Stream
fresh_stream i = record { info = i; state = fresh_state; params = no_params; backlog = 0 }

abbrev pub jack_at_power : JackInfo → Jack
jack_at_power i = record { info = i; defconf = i.defconf; connected = i.connected }

-- what stands past the end of a list
abbrev pub no_stream : Stream
no_stream = fresh_stream (record { nid = 0; features = 0; formats = 0; rates = 0; channels_min = 0; channels_max = 0 })

abbrev pub no_jack_info : JackInfo
no_jack_info = record { nid = 0; features = 0; defconf = 0; caps = 0; connected = 0 }

abbrev pub no_map_info : MapInfo
no_map_info = record { nid = 0; direction = 0; channels = 0; positions = replicate 18 0 }

-- ---- the whole

abbrev pub parts_at_power : Description → Parts
parts_at_power d =
    record {
      jack_count = d.jack_count;
      map_count = d.map_count;
      stream_count = d.output_count + d.input_count;
      output_count = d.output_count;
      jacks = map jack_at_power d.jacks;
      maps = d.maps;
      streams = map fresh_stream d.streams;
    }

-- a card of these parts, as at power-up: no line has a message, whatever the words hold
abbrev pub card_of : Parts → ℕ → Card
card_of p len =
    record {
      ram_len = len;
      registers = power_on;
      queues = replicate 4 no_counters;
      parts = p;
      play_dropped = true;
      capture_dropped = true;
      play_words = replicate 1340 0;
      capture_words = replicate 286 0;
    }

-- no part at all
abbrev pub no_parts : Parts
no_parts =
    record {
      jack_count = 0;
      map_count = 0;
      stream_count = 0;
      output_count = 0;
      jacks = replicate 4 (jack_at_power no_jack_info);
      maps = replicate 4 no_map_info;
      streams = replicate 6 no_stream;
    }

abbrev pub config_of : Card → Config
config_of c = record { jacks = c.parts.jack_count; streams = c.parts.stream_count; chmaps = c.parts.map_count }
