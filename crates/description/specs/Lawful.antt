-- 01, The card at power-up: what the description must be; "Otherwise answer 10."
use Rattle.std.specs.Prelude.{List, [], ◌∷◌, Bool, true, cond, ◌&&◌, ◌||◌, not, ℕ, suc, ◌+◌, ◌^◌, eqb, leb, ltb, take}
use Rattle.std.specs.List.{list_all}
use Rattle.description.specs.declared.JackInfo.{JackInfo}
use Rattle.description.specs.declared.MapInfo.{MapInfo}
use Rattle.description.specs.declared.StreamInfo.{StreamInfo}
use Rattle.description.specs.declared.Description.{Description}

-- what stands past the end of a list
abbrev pub no_jack : JackInfo
no_jack = record { nid = 0; features = 0; defconf = 0; caps = 0; connected = 0 }

abbrev pub no_map : MapInfo
no_map = record { nid = 0; direction = 0; channels = 0; positions = [] }

abbrev pub no_stream : StreamInfo
no_stream = record { nid = 0; features = 0; formats = 0; rates = 0; channels_min = 0; channels_max = 0 }

-- "formats is not 0 and has no bit above 24; rates is not 0 and has no bit above 13": not 0, and no bit at n or above
abbrev pub in_bits : ℕ → ℕ → Bool
in_bits mask n = not (eqb mask 0) && ltb mask (2 ^ n)

-- "1 ≤ channels_min ≤ channels_max ≤ 18"
abbrev pub lawful_channels : ℕ → ℕ → Bool
lawful_channels min max = leb 1 min && leb min max && leb max 18

-- "features is 0 or 16 (EVT_XRUNS)"
unfoldable pub lawful_stream : StreamInfo → Bool
lawful_stream s =
    in_bits s.formats 25 && in_bits s.rates 14 && lawful_channels s.channels_min s.channels_max
    && (eqb s.features 0 || eqb s.features 16)

-- "Jack features is 0 or 1, connected 0 or 1."; "hda_fn_nid, defconf and caps are free 32-bit numbers."
unfoldable pub lawful_jack : JackInfo → Bool
lawful_jack j = leb j.features 1 && leb j.connected 1

-- "positions 0 to 36, and zeros after its last channel"
abbrev pub lawful_position : ℕ → ℕ → ℕ → Bool
lawful_position channels i position = cond (ltb i channels) (leb position 36) (eqb position 0)

unfoldable pub lawful_positions : ℕ → ℕ → List ℕ → Bool
lawful_positions channels i [] = true
lawful_positions channels i (p ∷ ps) = lawful_position channels i p && lawful_positions channels (suc i) ps

-- "A map has direction 0 or 1, 1 to 18 channels, .."
unfoldable pub lawful_map : MapInfo → Bool
lawful_map m = leb m.direction 1 && leb 1 m.channels && leb m.channels 18 && lawful_positions m.channels 0 m.positions

-- order 8: "one to four output and up to two input streams, outputs numbered first"; "Refusals: answer 10 for stream lists outside the new
-- numbers."
abbrev pub lawful_streams : ℕ → ℕ → Bool
lawful_streams outputs inputs = leb 1 outputs && leb outputs 4 && leb inputs 2

-- "0 to 4 jacks, 0 to 4 channel maps", and the streams of order 8
unfoldable pub lawful_counts : Description → Bool
lawful_counts d = leb d.jack_count 4 && leb d.map_count 4 && lawful_streams d.output_count d.input_count

unfoldable pub lawful : Description → Bool
lawful d =
    lawful_counts d && list_all lawful_jack (take d.jack_count d.jacks) && list_all lawful_map (take d.map_count d.maps)
    && list_all lawful_stream (take (d.output_count + d.input_count) d.streams)
