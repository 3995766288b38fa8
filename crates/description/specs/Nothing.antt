-- Nothing described: no part of any kind, zeros in the places where parts would stand.
use Rattle.std.specs.Prelude.{replicate}
use Rattle.description.specs.Lawful.{no_jack, no_stream}
use Rattle.description.specs.declared.Description.{Description}
use Rattle.description.specs.declared.MapInfo.{MapInfo}

abbrev pub zero_map : MapInfo
zero_map = record { nid = 0; direction = 0; channels = 0; positions = replicate 18 0 }

abbrev pub nothing_described : Description
nothing_described =
    record {
      jack_count = 0;
      map_count = 0;
      output_count = 0;
      input_count = 0;
      jacks = replicate 4 no_jack;
      maps = replicate 4 zero_map;
      streams = replicate 6 no_stream;
    }
