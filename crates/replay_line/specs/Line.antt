-- A line of the script, without its line feed: a command word and its fields, single spaces between them, nothing
-- before and nothing behind. "A line starting with `#` and an empty line are skipped."
use Rattle.std.specs.Prelude.{List, Option, Some, None, Bool, true, false, cond, ℕ, ◌+◌, eqb, ltb, length, get_or, take, drop}
use Rattle.description.specs.declared.StreamInfo.{StreamInfo}
use Rattle.decimal.specs.Read.{by_number}
use Rattle.lines.specs.Lines.{span_of}
use Rattle.replay_field.specs.Number.{field_at, pair_at, by_pair, size_at}
use Rattle.replay_field.specs.Hex.{hex_at, by_hex}
use Rattle.replay_field.specs.Word.{bytes, begins}
use Rattle.replay_line.specs.declared.Line.{Line}
use Rattle.replay_line.specs.declared.Line.TheVariants.{Skipped, Described, Power, Called, Lent}
use Rattle.replay_line.specs.declared.Part.TheVariants.{Jack, Map, Output, Input}
use Rattle.replay_line.specs.declared.Call.TheVariants.{Read, Write, Control, Play, Capture, Event}
use Rattle.replay_line.specs.declared.Guest.TheVariants.{Store, Fill, Ram, Dump}

-- ---- fields: `then` says what the line is by what stands there and the place behind it

-- numbers of 8, 32 and 64 bits
abbrev pub max8 : ℕ
max8 = 255

abbrev pub max32 : ℕ
max32 = 4294967295

abbrev pub max64 : ℕ
max64 = 18446744073709551615

abbrev pub field : List ℕ → ℕ → ℕ → (ℕ → ℕ → Option Line) → Option Line
field s at max then = by_number (field_at s at max) then None

abbrev pub pair : List ℕ → ℕ → ℕ → (ℕ → ℕ → ℕ → Option Line) → Option Line
pair s at max then = by_pair (pair_at s at max) then None

abbrev pub hex : List ℕ → ℕ → (ℕ → ℕ → Option Line) → Option Line
hex s at then = by_hex (hex_at s at) then None

-- "a word too many" can't be read
abbrev pub at_end : List ℕ → ℕ → Line → Option Line
at_end s at line = cond (ltb at (length s)) None (Some line)

abbrev pub by_size : Option ℕ → (ℕ → Option Line) → Option Line
by_size (Some n) then = then n
by_size None then = None

-- ---- the forms

-- jack NID FEATURES DEFCONF CAPS CONNECTED
unfoldable pub jack_form : List ℕ → Option Line
jack_form s =
    pair s 4 max32 (λ nid features a.
    pair s a max32 (λ defconf caps b.
    field s b max8 (λ connected end.
    at_end s end (Described (Jack (record { nid = nid; features = features; defconf = defconf; caps = caps; connected = connected }))))))

-- map NID DIRECTION CHANNELS POSITIONS: "POSITIONS is HEX of exactly 18 bytes"
unfoldable pub map_form : List ℕ → Option Line
map_form s =
    field s 3 max32 (λ nid a.
    pair s a max8 (λ direction channels b.
    hex s b (λ place count. cond (eqb count 18) (Some (Described (Map nid direction channels place))) None)))

-- out, in NID FEATURES FORMATS RATES MIN MAX
unfoldable pub stream_form : List ℕ → ℕ → Bool → Option Line
stream_form s at input =
    pair s at max32 (λ nid features a.
    pair s a max64 (λ formats rates b.
    pair s b max8 (λ min max end.
    let info : StreamInfo =
    record { nid = nid; features = features; formats = formats; rates = rates; channels_min = min; channels_max = max } in
    at_end s end (Described (cond input (Input info) (Output info))))))

-- power LEN: "at most 1,048,576"
unfoldable pub power_form : List ℕ → Option Line
power_form s = by_size (size_at s 5 1048576) (λ n. Some (Power n))

-- r OFF W
unfoldable pub read_form : List ℕ → Option Line
read_form s = pair s 1 max32 (λ offset width end. at_end s end (Called (Read offset width)))

-- w OFF W VAL
unfoldable pub write_form : List ℕ → Option Line
write_form s = pair s 1 max32 (λ offset width a. field s a max32 (λ value end. at_end s end (Called (Write offset width value))))

-- control
unfoldable pub control_form : List ℕ → Option Line
control_form s = at_end s 7 (Called Control)

-- play STREAM N BACKLOG: "STREAM fits 32 bits"; "at most 65,536"; "BACKLOG fits 32 bits"
unfoldable pub play_form : List ℕ → Option Line
play_form s =
    field s 4 max32 (λ stream a.
    field s a 65536 (λ n b.
    field s b max32 (λ backlog end.
    at_end s end (Called (Play stream n backlog)))))

-- the place behind the word at `at`: the next space, or the end
abbrev pub word_end : List ℕ → ℕ → ℕ
word_end s at = at + span_of 32 (drop at s)

-- what a stream captures, HEX BACKLOG from `at` on: "at most 65,536"
unfoldable pub captured_form : List ℕ → ℕ → ℕ → Option Line
captured_form s stream at =
    cond (ltb (length s) (word_end s (at + 1))) None
    (hex (take (word_end s (at + 1)) s) at (λ place count.
    cond (ltb 65536 count) None
    (field s (word_end s (at + 1)) max32 (λ backlog end.
    at_end s end (Called (Capture stream place (word_end s (at + 1)) backlog))))))

-- capture STREAM HEX BACKLOG
unfoldable pub capture_form : List ℕ → Option Line
capture_form s = field s 7 max32 (λ stream at. captured_form s stream at)

-- event CODE DATA
unfoldable pub event_form : List ℕ → Option Line
event_form s = pair s 5 max32 (λ code info end. at_end s end (Called (Event code info)))

-- m ADDR HEX
unfoldable pub store_form : List ℕ → Option Line
store_form s = field s 1 max64 (λ address a. hex s a (λ place count. Some (Lent (Store (record { 0 = address }) place))))

-- f ADDR LEN BYTE
unfoldable pub fill_form : List ℕ → Option Line
fill_form s = pair s 1 max64 (λ address count a. field s a max8
    (λ byte end. at_end s end (Lent (Fill (record { 0 = address }) count byte))))

-- ram LEN: "at most 1,048,576"
unfoldable pub ram_form : List ℕ → Option Line
ram_form s = by_size (size_at s 3 1048576) (λ n. Some (Lent (Ram n)))

-- d ADDR LEN: "at most 65,536"
unfoldable pub dump_form : List ℕ → Option Line
dump_form s = field s 1 max64 (λ address a. by_size (size_at s a 65536) (λ n. Some (Lent (Dump (record { 0 = address }) n))))

-- ---- the line, by its command word

unfoldable pub guest_line : List ℕ → Option Line
guest_line s =
    cond (begins (bytes "m ") s) (store_form s)
    (cond (begins (bytes "f ") s) (fill_form s)
    (cond (begins (bytes "ram ") s) (ram_form s)
    (cond (begins (bytes "d ") s) (dump_form s) None)))

unfoldable pub call_line : List ℕ → Option Line
call_line s =
    cond (begins (bytes "r ") s) (read_form s)
    (cond (begins (bytes "w ") s) (write_form s)
    (cond (begins (bytes "control") s) (control_form s)
    (cond (begins (bytes "play ") s) (play_form s)
    (cond (begins (bytes "capture ") s) (capture_form s)
    (cond (begins (bytes "event ") s) (event_form s) (guest_line s))))))

unfoldable pub part_line : List ℕ → Option Line
part_line s =
    cond (begins (bytes "jack ") s) (jack_form s)
    (cond (begins (bytes "map ") s) (map_form s)
    (cond (begins (bytes "out ") s) (stream_form s 3 false)
    (cond (begins (bytes "in ") s) (stream_form s 2 true)
    (cond (begins (bytes "power ") s) (power_form s) (call_line s)))))

-- 35 is `#`
unfoldable pub line_of : List ℕ → Option Line
line_of s = cond (eqb (length s) 0) (Some Skipped) (cond (eqb (get_or s 0 0) 35) (Some Skipped) (part_line s))
