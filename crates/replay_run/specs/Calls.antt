-- A call of a script by the rules: the step that is asked of the device, and what is printed of what the step tells.
use Rattle.std.specs.Prelude.{ℕ, List}
use Rattle.replay_call.specs.Shown.{irq_in}
use Rattle.replay_text.specs.Adler.{adler}
use Rattle.replay_text.specs.Text.{register_bytes, call_bytes, play_bytes}
use Rattle.rules.specs.Calls.{Step}
use Rattle.device.specs.Device.{Device}
use Rattle.queue_lines.specs.Counters.{Queue}
use Rattle.line_calls.specs.Calls.{Request, ReadRegister, WriteRegister, Control, Play, Capture, Event, step}
use Rattle.line_calls.specs.Claim.{card}
use Rattle.meaning.specs.Card.{streams_shown}

-- the rules' step for a call on this device, with this memory lent
abbrev pub step_in : Device Queue → Request → List ℕ → Step (Device Queue)
step_in d q m = step (streams_shown d) (card (streams_shown d)) d (record { asked = q; lent = m })

-- "r, w: LINE ANSWER VALUE RUNG IRQ"; "control, event, capture: LINE ANSWER COUNT IRQ SUM QUEUE", and "play" with HOST before QUEUE
abbrev pub register_printed : ℕ → Step (Device Queue) → List ℕ
register_printed line s = register_bytes line s.told.answer.number s.told.value s.told.rung (irq_in s.state)

abbrev pub call_printed : ℕ → Step (Device Queue) → List ℕ
call_printed line s =
    call_bytes line s.told.answer.number s.told.count (irq_in s.state) (adler s.told.memory) s.told.answer.queue

abbrev pub play_printed : ℕ → Step (Device Queue) → List ℕ
play_printed line s =
    play_bytes line s.told.answer.number s.told.count (irq_in s.state) (adler s.told.memory) (adler s.told.host)
    s.told.answer.queue

abbrev pub printed : Request → ℕ → Step (Device Queue) → List ℕ
printed (ReadRegister offset width) = register_printed
printed (WriteRegister offset width v) = register_printed
printed Control = call_printed
printed (Play stream host backlog) = play_printed
printed (Capture stream host backlog) = call_printed
printed (Event code info) = call_printed
