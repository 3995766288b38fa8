-- Lines and what they read as: one of each form, and lines on each side of the rules.
use mathlib.Core.Path.{◌≡◌, refl}
use mathlib.Core.List.{[], ◌∷◌}
use Rattle.std.proofs.Common.{Option, Some, None}
use Prim.Native.String.{String}
use Rattle.decimal.specs.Read.{is_digit, digits, number_at, field_at}
use Rattle.lines.specs.Lines.{span_of}
use Rattle.replay_field.specs.Number.{pair_at, size_at}
use Rattle.replay_field.specs.Hex.{is_hex_digit, every_hex_digit, is_hex, hex_at, nibble, bytes_of_hex}
use Rattle.replay_field.specs.Word.{bytes, begins}
use Rattle.replay_line.specs.Line.{
  jack_form,
  map_form,
  stream_form,
  power_form,
  read_form,
  write_form,
  control_form,
  play_form,
  captured_form,
  capture_form,
  event_form,
  store_form,
  fill_form,
  ram_form,
  dump_form,
  guest_line,
  call_line,
  part_line,
  line_of,
}
use Rattle.replay_line.specs.declared.Line.{Line}
use Rattle.replay_line.specs.declared.Line.TheVariants.{Skipped, Described, Power, Called, Lent}
use Rattle.replay_line.specs.declared.Part.TheVariants.{Jack, Map, Output, Input}
use Rattle.replay_line.specs.declared.Call.TheVariants.{Read, Write, Control, Play, Capture, Event}
use Rattle.replay_line.specs.declared.Guest.TheVariants.{Store, Fill, Ram, Dump}

abbrev reads : String → Option Line
reads s = line_of (bytes s)

-- one of each form
pub forms :
    (reads "" ≡ Some Skipped)
    × (reads "# power 0" ≡ Some Skipped)
    × (reads "jack 1 2 3 4 5" ≡ Some (Described (Jack (record { nid = 1; features = 2; defconf = 3; caps = 4; connected = 5 }))))
    × (reads "map 1 2 3 000102030405060708090a0b0c0d0e0f1011" ≡ Some (Described (Map 1 2 3 10)))
    × (reads "out 1 2 3 4 5 6"
    ≡ Some (Described (Output (record { nid = 1; features = 2; formats = 3; rates = 4; channels_min = 5; channels_max = 6 }))))
    × (reads "in 1 2 3 4 5 6"
    ≡ Some (Described (Input (record { nid = 1; features = 2; formats = 3; rates = 4; channels_min = 5; channels_max = 6 }))))
    × (reads "power 1048576" ≡ Some (Power 1048576))
    × (reads "r 18 1" ≡ Some (Called (Read 18 1)))
    × (reads "w 18 1 11" ≡ Some (Called (Write 18 1 11)))
    × (reads "control" ≡ Some (Called Control))
    × (reads "play 3 65536 960" ≡ Some (Called (Play 3 65536 960)))
    × (reads "capture 4 0aff 4294967295" ≡ Some (Called (Capture 4 10 14 4294967295)))
    × (reads "capture 4294967295 - 0" ≡ Some (Called (Capture 4294967295 19 20 0)))
    × (reads "event 4352 0" ≡ Some (Called (Event 4352 0)))
    × (reads "m 16 00ff" ≡ Some (Lent (Store (record { 0 = 16 }) 5)))
    × (reads "f 18446744073709551615 18446744073709551615 255"
    ≡ Some (Lent (Fill (record { 0 = 18446744073709551615 }) 18446744073709551615 255)))
    × (reads "ram 0" ≡ Some (Lent (Ram 0)))
    × (reads "d 0 65536" ≡ Some (Lent (Dump (record { 0 = 0 }) 65536)))
unfolding is_digit digits number_at field_at pair_at is_hex_digit every_hex_digit is_hex hex_at begins size_at span_of
    jack_form map_form stream_form power_form read_form write_form control_form play_form captured_form capture_form event_form
    store_form fill_form ram_form dump_form guest_line call_line part_line line_of
forms = (refl, refl, refl, refl, refl, refl, refl, refl, refl, refl, refl, refl, refl, refl, refl, refl, refl, refl)

-- a word too many or too few, spaces, numbers too long or too great, HEX that is none
pub unreadable :
    (reads "r 18 1 1" ≡ None)
    × (reads "w 18 1" ≡ None)
    × (reads "r 18  1" ≡ None)
    × (reads "r 18 1 " ≡ None)
    × (reads " r 18 1" ≡ None)
    × (reads "ram" ≡ None)
    × (reads "control " ≡ None)
    × (reads "r 000000000000000000018 1" ≡ None)
    × (reads "r 4294967296 1" ≡ None)
    × (reads "f 0 18446744073709551616 0" ≡ None)
    × (reads "f 0 0 256" ≡ None)
    × (reads "power 1048577" ≡ None)
    × (reads "play 0 65537 0" ≡ None)
    × (reads "play 0 8" ≡ None)
    × (reads "play 0 8 4294967296" ≡ None)
    × (reads "play 4294967296 8 0" ≡ None)
    × (reads "d 0 65537" ≡ None)
    × (reads "capture" ≡ None)
    × (reads "capture 1" ≡ None)
    × (reads "capture 1  0" ≡ None)
    × (reads "capture 1 0 0" ≡ None)
    × (reads "capture 1 0A 0" ≡ None)
    × (reads "capture 1 0a" ≡ None)
    × (reads "capture 1 0a 0 0" ≡ None)
    × (reads "m 0 00 " ≡ None)
    × (reads "map 1 2 3 -" ≡ None)
unfolding is_digit digits number_at field_at pair_at is_hex_digit every_hex_digit is_hex hex_at begins size_at span_of
    jack_form map_form stream_form power_form read_form write_form control_form play_form captured_form capture_form event_form
    store_form fill_form ram_form dump_form guest_line call_line part_line line_of
unreadable = (
  refl,
  refl,
  refl,
  refl,
  refl,
  refl,
  refl,
  refl,
  refl,
  refl,
  refl,
  refl,
  refl,
  refl,
  refl,
  refl,
  refl,
  refl,
  refl,
  refl,
  refl,
  refl,
  refl,
  refl,
  refl,
  refl,
)

pub bytes-of-hex : (bytes_of_hex (bytes "00ff1a") ≡ 0 ∷ 255 ∷ 26 ∷ []) × (bytes_of_hex (bytes "-") ≡ [])
unfolding nibble bytes_of_hex
bytes-of-hex = (refl, refl)
