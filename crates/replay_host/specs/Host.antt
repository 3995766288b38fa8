-- The host buffer that a line of the script lends.
use Rattle.std.specs.Prelude.{List, ℕ, ◌-◌, ◌/◌, min, length, take, drop, replicate}
use Rattle.replay_field.specs.Hex.{bytes_of_hex, poured}
use Rattle.replay_line.specs.declared.Call.{Call}
use Rattle.replay_line.specs.declared.Call.TheVariants.{Read, Write, Control, Play, Capture, Event}

-- "a host buffer of N bytes (at most 65,536), each 238 before the call"
unfoldable pub host_buffer : List ℕ
host_buffer = replicate 65536 238

abbrev pub host_bytes : ℕ → List ℕ
host_bytes n = take (min n (length host_buffer)) host_buffer

-- the bytes of the HEX that a text ends with, from `at` on, in the host buffer, and how many they are
abbrev pub hex_filled : List ℕ → ℕ → List ℕ → List ℕ
hex_filled t at host = poured (bytes_of_hex (drop at t)) host 0

abbrev pub hex_count : List ℕ → ℕ → ℕ → ℕ
hex_count t at len = min ((length t - at) / 2) len

-- a line up to the place behind its HEX
abbrev pub up_to : List ℕ → ℕ → List ℕ
up_to s behind = take (min behind (length s)) s

-- "these host bytes (at most 65,536)": the bytes of the line's HEX, which starts at `at` and ends before `behind`
abbrev pub captured_bytes : List ℕ → ℕ → ℕ → List ℕ
captured_bytes s at behind = take (hex_count (up_to s behind) at (length host_buffer)) (hex_filled (up_to s behind) at host_buffer)

-- ---- what a call lends: the host buffer as its line leaves it, and how many of its bytes

abbrev pub host_filled : Call → List ℕ → List ℕ → List ℕ
host_filled (Read offset width) s host = host
host_filled (Write offset width v) s host = host
host_filled Control s host = host
host_filled (Play stream n backlog) s host = host
host_filled (Capture stream at behind backlog) s host = hex_filled (up_to s behind) at host
host_filled (Event code info) s host = host

abbrev pub host_count : Call → List ℕ → ℕ → ℕ
host_count (Read offset width) s len = 0
host_count (Write offset width v) s len = 0
host_count Control s len = 0
host_count (Play stream n backlog) s len = min n len
host_count (Capture stream at behind backlog) s len = hex_count (up_to s behind) at len
host_count (Event code info) s len = 0
