-- Order 5 on a card of several streams: the backlog that each stream remembers, told by the calls and their answers alone. The theorem is
-- `remembers` of proofs/Backlog; `release_queue` carries it.
use Rattle.std.specs.Prelude.{◌≡◌, List, ℕ}
use Rattle.description.specs.declared.Description.{Description}
use Rattle.device.specs.Device.{Direction, stream_at}
use Rattle.rules.specs.Backlog.{written_backlog, moved_backlog, last_along}
use Rattle.rules.specs.Calls.{Told}
use Rattle.queue_lines.specs.Rules.{Ops}
use Rattle.line_calls.specs.Calls.{Request, ReadRegister, WriteRegister, Control, Play, Capture, Event, Call}
use Rattle.line_calls.specs.Claim.{start, told_by, after}
use Rattle.line_calls.specs.Streams.{Streams}

-- of stream `id` after a call, where it was k before: "such call" is a play or a capture of that stream
abbrev pub backlog_after : ℕ → Request → Told → ℕ → ℕ
backlog_after id (ReadRegister offset width) t k = k
backlog_after id (WriteRegister offset width v) t k = written_backlog offset width v k
backlog_after id Control t k = k
backlog_after id (Play stream host backlog) t k = moved_backlog id stream backlog t k
backlog_after id (Capture stream host backlog) t k = moved_backlog id stream backlog t k
backlog_after id (Event code data') t k = k

-- .. after calls that told so
abbrev pub last_backlog : ℕ → ℕ → List Call → List Told → ℕ
last_backlog id k cs ts = last_along (λ (c : Call). backlog_after id c.asked) k cs ts

-- from power-up on, where it is 0
abbrev pub Remembers : (n : Streams) {Q : Type 0} → (Direction → Ops Q) → Description → ℕ → Type 0
Remembers n ops d len =
    (cs : List Call) (id : ℕ)
    → (stream_at (after n ops (start n ops d len) cs).rest id).backlog ≡ last_backlog id 0 cs (told_by n ops (start n ops d len) cs)
