-- What a call prints and leaves, by the rules' step for it.
use Rattle.std.specs.Prelude.{◌≡◌, cond, List, ℕ}
use Rattle.card.specs.declared.Card.{Card}
use Rattle.meaning.specs.Card.{device_of, step_of}
use Rattle.meaning.specs.Fit.{Fit}
use Rattle.registers.specs.Rules.{raised}
use Rattle.replay_text.specs.Adler.{adler}
use Rattle.replay_text.specs.Text.{register_bytes, call_bytes, play_bytes}
use Rattle.rules.specs.Calls.{Told, Step}
use Rattle.device.specs.Device.{Device}
use Rattle.queue_lines.specs.Counters.{Queue}
use Rattle.line_calls.specs.Calls.{Request, ReadRegister, WriteRegister, Control, Play, Capture, Event}
use Rattle.replay_call.specs.declared.Shown.{Shown}

-- "IRQ 1 while the interrupt line is raised after the call, else 0"
abbrev pub irq_of : Card → ℕ
irq_of c = cond (raised c.registers) 1 0

abbrev pub irq_in : Device Queue → ℕ
irq_in d = cond (raised d.rest.registers) 1 0

-- ---- the text, of the line's number, IRQ and what was told

-- "LINE ANSWER VALUE RUNG IRQ: VALUE 0 for a write; RUNG the queue that a NOTIFY rang"
abbrev pub register_told : ℕ → ℕ → Told → List ℕ
register_told line irq t = register_bytes line t.answer.number t.value t.rung irq

-- "LINE ANSWER COUNT IRQ SUM QUEUE: SUM is the Adler-32 checksum of the memory lent, after the call"; QUEUE the queue that the answer names
abbrev pub call_told : ℕ → ℕ → Told → List ℕ
call_told line irq t = call_bytes line t.answer.number t.count irq (adler t.memory) t.answer.queue

-- "HOST is the Adler-32 checksum of the whole host buffer after the call"
abbrev pub play_told : ℕ → ℕ → Told → List ℕ
play_told line irq t = play_bytes line t.answer.number t.count irq (adler t.memory) (adler t.host) t.answer.queue

abbrev pub text_for : Request → ℕ → ℕ → Told → List ℕ
text_for (ReadRegister offset width) = register_told
text_for (WriteRegister offset width v) = register_told
text_for Control = call_told
text_for (Play stream host backlog) = play_told
text_for (Capture stream host backlog) = call_told
text_for (Event code info) = call_told

-- .. of the rules' step
abbrev pub shown_for : Request → ℕ → Step (Device Queue) → List ℕ
shown_for q line s = text_for q line (irq_in s.state) s.told

-- ---- the device and the memory after a call: as the rules have them, and of a card

pub record Left : Type 0 where
  pub device : Device Queue
  pub memory : List ℕ

abbrev pub left_by : Step (Device Queue) → Left
left_by s = record { device = s.state; memory = s.told.memory }

abbrev pub left : Card → List ℕ → Left
left c m = record { device = device_of c; memory = m }

-- ---- what is promised of a call on the card c, which the line-th line makes: q is asked, and m is the memory lent, m' after it

pub record Shows (c : Card) (line : ℕ) (q : Request) (m m' : List ℕ) (r : Shown) : Type 0 where
  pub text : r.text ≡ shown_for q line (step_of c q m)
  pub leaves : left_by (step_of c q m) ≡ left r.card m'
  pub fit : Fit r.card
