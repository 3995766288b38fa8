-- What the play and capture entries decide and leave, in terms of the small state and of the cards that it may stand in.
use Rattle.std.specs.Prelude.{◌≡◌, Bool, true, cond, List, [], ℕ, ◌<◌, eqb, length, get_or, take, set}
use Rattle.registers.specs.Answers.{done, plain}
use Rattle.registers.specs.declared.Registers.{Registers}
use Rattle.card.specs.Card.{no_stream}
use Rattle.card.specs.Setters.{with_parts, with_stream_at}
use Rattle.card.specs.declared.Card.{Card}
use Rattle.card.specs.declared.Parts.{Parts}
use Rattle.live.specs.Live.{card_in}
use Rattle.live.specs.Setters as live
use Rattle.live.specs.declared.Live.{Live}
use Rattle.meaning.specs.Card.{shape_of, rest_of, device_of, step_of, leaves}
use Rattle.meaning.specs.Fit.{streams_live, Fits}
use Rattle.message.specs.Message.{direction_of}
use Rattle.message.specs.declared.Direction.{Direction}
use Rattle.device.specs.Answers.{answer_by, broken_by}
use Rattle.device.specs.Device as rules
use Rattle.rules.specs.Calls.{Step, admitted_if, transfer_step}
use Rattle.rules.specs.Control.{with_backlog}
use Rattle.queue_lines.specs.Chains.{is_on}
use Rattle.queue_lines.specs.Counters.{Queue}
use Rattle.line_calls.specs.Account.{transfer_of}
use Rattle.line_calls.specs.Calls.{runs_on, transferred_of}
use Rattle.line_calls.specs.Claim.{card}
use Rattle.line_calls.specs.Streams.{streams_in}
use Rattle.line_taking.specs.declared.Progress.{Progress}
use Rattle.stream.specs.Queue.{progress_live, card_with, FitsWith}
use Rattle.pcm.specs.declared.TransferAnswer.{TransferAnswer}

-- the host buffer that a call of this direction tells of: a play's
abbrev pub buffer_of : rules.Direction → List ℕ → List ℕ
buffer_of rules.output host = host
buffer_of rules.input host = []

-- ---- the checks

-- the answer that refuses a call of a direction on a stream, or 0
unfoldable pub refusal_of : Card → rules.Direction → ℕ → List ℕ → ℕ
refusal_of c d id m = admitted_if (runs_on (streams_in c.parts) (rest_of c) d id) (rest_of c) m (λ number. number) done

-- in every card with this small state
abbrev pub RunsFor : Live → rules.Direction → ℕ → Bool → Type 0
RunsFor l d id b =
    (p : Parts) (pw cw : List ℕ) → Fits l p pw cw → b ≡ runs_on (streams_in (card_in l p pw cw).parts) (rest_of (card_in l p pw cw)) d id

abbrev pub RefusesOn : Live → rules.Direction → ℕ → ℕ → ℕ → Type 0
RefusesOn l d len id number =
    (p : Parts) (pw cw m : List ℕ) → Fits l p pw cw → length m ≡ len → number ≡ refusal_of (card_in l p pw cw) d id m

-- a stream of this direction, as the small state counts them
abbrev pub on_live : Live → rules.Direction → ℕ → Bool
on_live l d id = is_on (shape_of d (streams_live l)) id

-- the stream of a call that is not refused is one of the six, and has a line; memory then has the length of RAM
abbrev pub PassesFor : Live → rules.Direction → ℕ → Bool → Type 0
PassesFor l d id b = b ≡ true → (id < 6) × (on_live l d id ≡ true)

abbrev pub PassesOn : Live → rules.Direction → ℕ → ℕ → ℕ → Type 0
PassesOn l d len id number = number ≡ done → (len ≡ l.ram_len) × (id < 6) × (on_live l d id ≡ true)

-- ---- what is left

-- registers after a job: "bit 0 clear sets ISR bit 0", and NEEDS_RESET with ISR bit 1 where the queue broke
abbrev pub registers_after : Progress → Registers → Registers
registers_after f g = broken_by f.stop (rules.signalled_if f.signal g)

abbrev pub worked_live : Direction → Progress → Live → Live
worked_live d f l = progress_live d f (live.with_registers (registers_after f l.registers) l)

-- the answer where nothing was done, and after a job
abbrev pub untouched_by : ℕ → Live → TransferAnswer
untouched_by number l = record { answer = plain number; count = 0; live = l }

abbrev pub worked_answer : Direction → Progress → Live → TransferAnswer
worked_answer d f l = record { answer = answer_by (rules.queue_number (direction_of d)) f.stop; count = f.moved; live = worked_live d f l }

-- ---- the backlog

-- a transfer of a stream before it remembers the backlog
abbrev pub moved_by : rules.Direction → ℕ → ℕ → Card → List ℕ → List ℕ → Step (rules.Device Queue)
moved_by d id backlog c host m =
    transfer_step d host (device_of c) (transferred_of (streams_in c.parts) (card (streams_in c.parts)) d id backlog (device_of c) m host)

-- a card whose stream remembers this backlog, and the small state of it
abbrev pub with_backlog_at : ℕ → ℕ → Card → Card
with_backlog_at id backlog c = with_parts (with_stream_at id (with_backlog backlog (get_or c.parts.streams id no_stream)) c.parts) c

-- .. where the call answered 0
abbrev pub remembered_by : ℕ → ℕ → TransferAnswer → TransferAnswer
remembered_by id backlog t =
    record {
      answer = t.answer;
      count = t.count;
      live = live.with_backlogs (cond (eqb t.answer.number done) (set t.live.backlogs id backlog) t.live.backlogs) t.live;
    }

-- ---- the calls, of every card with this small state and these words of the queue, whatever its parts and the other queue's words are:
-- memory and host buffer before; words, memory and host buffer after, and what is answered

abbrev pub LeavesOn : Direction → Step (rules.Device Queue) → Parts → List ℕ → List ℕ → List ℕ → List ℕ → TransferAnswer → Type 0
LeavesOn d s p other ws' m' host' r =
    (s ≡ leaves (card_with d r.live p ws' other) r.answer r.count (take r.count host') (buffer_of (direction_of d) host') m')
    × FitsWith d r.live p ws' other

-- before the stream remembers the backlog
abbrev pub MovesOn : Direction → ℕ → ℕ → Live → List ℕ → List ℕ → List ℕ → List ℕ → List ℕ → List ℕ → TransferAnswer → Type 0
MovesOn d id backlog l ws m host ws' m' host' r =
    (p : Parts) (other : List ℕ)
    → FitsWith d l p ws other
    → LeavesOn d (moved_by (direction_of d) id backlog (card_with d l p ws other) host m) p other ws' m' host' r

-- the whole call
abbrev pub TransfersOn : Direction → ℕ → ℕ → Live → List ℕ → List ℕ → List ℕ → List ℕ → List ℕ → List ℕ → TransferAnswer → Type 0
TransfersOn d id backlog l ws m host ws' m' host' r =
    (p : Parts) (other : List ℕ)
    → FitsWith d l p ws other
    → LeavesOn d (step_of (card_with d l p ws other) (transfer_of (direction_of d) id host backlog) m) p other ws' m' host' r
