-- What a call of the script asks of the card, with the host buffer that its line lends.
use Rattle.std.specs.Prelude.{List, ℕ}
use Rattle.calls.specs.declared.Request.{Request}
use Rattle.calls.specs.declared.Request.TheVariants as asks
use Rattle.line_calls.specs.Calls as rules
use Rattle.replay_host.specs.Host.{host_bytes, captured_bytes}
use Rattle.replay_line.specs.declared.Call.{Call}
use Rattle.replay_line.specs.declared.Call.TheVariants.{Read, Write, Control, Play, Capture, Event}

-- what a line s asks: a play lends a host buffer of N bytes, a capture the bytes of its HEX
abbrev pub asked_by : Call → List ℕ → rules.Request
asked_by (Read offset width) s = rules.ReadRegister offset width
asked_by (Write offset width v) s = rules.WriteRegister offset width v
asked_by Control s = rules.Control
asked_by (Play stream n backlog) s = rules.Play stream (host_bytes n) backlog
asked_by (Capture stream at behind backlog) s = rules.Capture stream (captured_bytes s at behind) backlog
asked_by (Event code info) s = rules.Event code info

-- .. without the host buffer
abbrev pub made_by : Call → Request
made_by (Read offset width) = asks.Read offset width
made_by (Write offset width v) = asks.Write offset width v
made_by Control = asks.Control
made_by (Play stream n backlog) = asks.Play stream backlog
made_by (Capture stream at behind backlog) = asks.Capture stream backlog
made_by (Event code info) = asks.Event code info
