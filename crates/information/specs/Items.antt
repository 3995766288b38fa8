-- The items of a listing.
use Rattle.std.specs.Prelude.{List, [], ◌++◌, ℕ, replicate}
use Rattle.card.specs.declared.Jack.{Jack}
use Rattle.card.specs.declared.Parts.{Parts}
use Rattle.description.specs.declared.MapInfo.{MapInfo}
use Rattle.line_calls.specs.Streams.{streams_in, direction_number}
use Rattle.rules.specs.Control.{jack_item, map_item, items_by}
use Rattle.rules.specs.Parts.{parts_of}
use Rattle.rules.specs.declared.Listing.{Listing}

-- the items of a listing of these parts: PCM_INFO tells each stream's direction by its number
abbrev pub items_in : Listing → Parts → List (List ℕ)
items_in l p = items_by (direction_number (streams_in p)) l (parts_of p)

-- .. where there are so many outputs; how many inputs there are plays no part
abbrev pub direction_in : ℕ → ℕ → ℕ
direction_in outputs number = direction_number (record { outputs = outputs; inputs = 0 }) number

-- an item, then zeros to the length of the longest
abbrev pub jack_bytes : Jack → List ℕ
jack_bytes j = jack_item j ++ replicate 8 0

abbrev pub map_bytes : MapInfo → List ℕ
map_bytes m = map_item m ++ replicate 8 0

-- what stands past the end of an array of maps
abbrev pub empty_map : MapInfo
empty_map = record { nid = 0; direction = 0; channels = 0; positions = [] }
