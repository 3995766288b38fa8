-- "One more jack", "one more channel map"; order 8: "`out` and `in` may come several times, each one more stream: outputs are numbered
-- first, in the order of their lines, then inputs". "More than four jacks or maps are counted, and the card's description carries the
-- count."
use Rattle.std.specs.Prelude.{List, cond, ◌&&◌, ℕ, ◌+◌, leb, ltb, get_or, set, replicate, drop}
use Rattle.description.specs.Lawful.{no_stream}
use Rattle.description.specs.declared.Description.{Description}
use Rattle.description.specs.declared.JackInfo.{JackInfo}
use Rattle.description.specs.declared.MapInfo.{MapInfo}
use Rattle.description.specs.declared.StreamInfo.{StreamInfo}
use Rattle.replay_field.specs.Hex.{bytes_of_hex, poured}
use Rattle.replay_line.specs.declared.Part.{Part}
use Rattle.replay_line.specs.declared.Part.TheVariants.{Jack, Map, Output, Input}

-- counts of jacks, maps, outputs and inputs, and the parts
abbrev pub describes : ℕ → ℕ → ℕ → ℕ → List JackInfo → List MapInfo → List StreamInfo → Description
describes j m o i js ms ss =
    record { jack_count = j; map_count = m; output_count = o; input_count = i; jacks = js; maps = ms; streams = ss }

-- one more, as far as 32 bits count
abbrev pub next_count : ℕ → ℕ
next_count n = cond (ltb n 4294967295) (n + 1) n

-- the first four are kept
unfoldable pub with_jack : Description → JackInfo → Description
with_jack d info =
    describes (next_count d.jack_count) d.map_count d.output_count d.input_count
    (cond (ltb d.jack_count 4) (set d.jacks d.jack_count info) d.jacks) d.maps d.streams

unfoldable pub with_map : Description → MapInfo → Description
with_map d map =
    describes d.jack_count (next_count d.map_count) d.output_count d.input_count
    d.jacks (cond (ltb d.map_count 4) (set d.maps d.map_count map) d.maps) d.streams

-- "POSITIONS is HEX of exactly 18 bytes", which stands at `at` in the line
unfoldable pub map_at : List ℕ → ℕ → ℕ → ℕ → ℕ → MapInfo
map_at s nid direction channels at =
    record { nid = nid; direction = direction; channels = channels; positions = poured (bytes_of_hex (drop at s)) (replicate 18 0) 0 }

-- a stream put at i, the two from there on moved up by one
abbrev pub put_before : ℕ → StreamInfo → List StreamInfo → List StreamInfo
put_before i info l = set (set (set l (i + 2) (get_or l (i + 1) no_stream)) (i + 1) (get_or l i no_stream)) i info

-- behind the outputs and before the inputs; the first four are kept
unfoldable pub with_output : Description → StreamInfo → Description
with_output d info =
    describes d.jack_count d.map_count (next_count d.output_count) d.input_count
    d.jacks d.maps (cond (ltb d.output_count 4) (put_before d.output_count info d.streams) d.streams)

-- behind all streams; the first two are kept
unfoldable pub with_input : Description → StreamInfo → Description
with_input d info =
    describes d.jack_count d.map_count d.output_count (next_count d.input_count)
    d.jacks d.maps
    (cond (leb d.output_count 4 && ltb d.input_count 2) (set d.streams (d.output_count + d.input_count) info)
    d.streams)

-- one more part, described by the line s
abbrev pub with_part : Description → Part → List ℕ → Description
with_part d (Jack info) s = with_jack d info
with_part d (Map nid direction channels at) s = with_map d (map_at s nid direction channels at)
with_part d (Output info) s = with_output d info
with_part d (Input info) s = with_input d info
