-- The described parts of a card as the rules have them.
use Rattle.std.specs.Prelude.{take}
use Rattle.card.specs.declared.Parts.{Parts}
use Rattle.rules.specs.Control as control

-- the first so many of each array
abbrev pub parts_of : Parts → control.Parts
parts_of p =
    record {
      jacks = take p.jack_count p.jacks;
      maps = take p.map_count p.maps;
      streams = take p.stream_count p.streams;
    }
