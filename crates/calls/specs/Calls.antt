-- Any call of the monitor in the rules' terms: what is asked, what is told, and what is promised of one call.
use Rattle.std.specs.Prelude.{◌≡◌, Bool, true, false, cond, List, [], ℕ, take}
use Rattle.registers.specs.declared.answers.Answer.{Answer}
use Rattle.card.specs.Rules.{powered_of}
use Rattle.card.specs.declared.Card.{Card}
use Rattle.card.specs.declared.Powered.{Powered}
use Rattle.description.specs.declared.Description.{Description}
use Rattle.live.specs.Live.{board_of, powered_board}
use Rattle.meaning.specs.Card.{device_of, step_of}
use Rattle.rules.specs.Calls.{Told, told_all, nothing_rung}
use Rattle.line_calls.specs.Calls as rules
use Rattle.calls.specs.declared.Outcome.{Outcome}
use Rattle.calls.specs.declared.Request.{Request}
use Rattle.calls.specs.declared.Request.TheVariants.{Read, Write, Control, Play, Capture, Event}

-- what is asked: a play is lent the host buffer, a capture the host bytes
abbrev pub request_of : Request → List ℕ → rules.Request
request_of (Read offset width) host = rules.ReadRegister offset width
request_of (Write offset width v) host = rules.WriteRegister offset width v
request_of Control host = rules.Control
request_of (Play stream backlog) host = rules.Play stream host backlog
request_of (Capture stream backlog) host = rules.Capture stream host backlog
request_of (Event code data') host = rules.Event code data'

-- .. and the memory lent
abbrev pub call_of : Request → List ℕ → List ℕ → rules.Call
call_of q host m = record { asked = request_of q host; lent = m }

abbrev pub is_play : Request → Bool
is_play (Read offset width) = false
is_play (Write offset width v) = false
is_play Control = false
is_play (Play stream backlog) = true
is_play (Capture stream backlog) = false
is_play (Event code data') = false

-- a play or a capture
abbrev pub is_transfer : Request → Bool
is_transfer (Read offset width) = false
is_transfer (Write offset width v) = false
is_transfer Control = false
is_transfer (Play stream backlog) = true
is_transfer (Capture stream backlog) = true
is_transfer (Event code data') = false

-- what is told, of the host buffer and memory after the call: the bytes moved are the first `count` of the host's
abbrev pub told_of : Request → Outcome → List ℕ → List ℕ → Told
told_of q r host m =
    told_all r.answer r.value r.rung r.count (cond (is_transfer q) (take r.count host) []) (cond (is_play q) host []) m

-- the host buffer after the call, of before and after: a play alone changes it
abbrev pub host_of : Request → List ℕ → List ℕ → List ℕ
host_of q before after = cond (is_play q) after before

-- the outcome of a call on a queue: no value, nothing rung
abbrev pub queue_outcome : Answer → ℕ → Card → Outcome
queue_outcome answer count c = record { answer = answer; value = 0; rung = nothing_rung; count = count; card = c }

-- what is promised of power-up: the answer, and the card but for the words of its queues, which stand for nothing yet
pub record Powers (d : Description) (len : ℕ) (r : Powered) : Type 0 where
  pub answer : r.answer ≡ (powered_of d len).answer
  pub board : board_of r.card ≡ (powered_board d len).board

-- what is promised of one call: all that is told (answer, value, queue rung, count, bytes, host buffer, memory) and the card after it are
-- the rules'
pub record Does (c : Card) (k : rules.Call) (t : Told) (n : Card) : Type 0 where
  pub says : step_of c k.asked k.lent ≡ record { state = device_of n; told = t }
