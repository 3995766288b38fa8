-- What a call on a queue answers, its fields side by side, and back; the calls over pieces of a card.
use Rattle.std.specs.Prelude.{◌≡◌, List, [], ℕ}
use Rattle.card.specs.declared.Card.{Card}
use Rattle.live.specs.Live.{card_in}
use Rattle.live.specs.declared.Board.{Board}
use Rattle.meaning.specs.Card.{step_of, leaves}
use Rattle.meaning.specs.Fit.{Fits}
use Rattle.pcm.specs.declared.TransferAnswer.{TransferAnswer}
use Rattle.registers.specs.declared.answers.Answer.{Answer}
use Rattle.line_calls.specs.Calls.{Control}
use Rattle.event.specs.Event.{TellsOn}
use Rattle.event.specs.declared.EventAnswer.{EventAnswer}
use Rattle.entries.specs.declared.BoardAnswer.{BoardAnswer}
use Rattle.entries.specs.declared.LiveAnswer.{LiveAnswer}

-- the answer again
abbrev pub transfer_in : LiveAnswer → TransferAnswer
transfer_in r = record { answer = record { number = r.answer; queue = r.queue }; count = r.count; live = r.live }

abbrev pub answered : BoardAnswer → Answer
answered r = record { number = r.answer; queue = r.queue }

-- the card of a board and words
abbrev pub card_on : Board → List ℕ → List ℕ → Card
card_on b pw cw = card_in b.live b.parts pw cw

-- the control call
abbrev pub ControlsOn : Board → List ℕ → List ℕ → List ℕ → List ℕ → List ℕ → List ℕ → BoardAnswer → Type 0
ControlsOn b pw cw m pw' cw' m' r =
    (step_of (card_on b pw cw) Control m ≡ leaves (card_on r.board pw' cw') (answered r) r.count [] [] m')
    × Fits r.board.live r.board.parts pw' cw'

-- the event call, which counts 0
abbrev pub event_in : BoardAnswer → EventAnswer
event_in r = record { answer = answered r; live = r.board.live; parts = r.board.parts }

abbrev pub EventsOn : Board → ℕ → ℕ → List ℕ → List ℕ → BoardAnswer → Type 0
EventsOn b code data' m m' r = TellsOn code data' b.live b.parts m m' (event_in r) × (r.count ≡ 0)
