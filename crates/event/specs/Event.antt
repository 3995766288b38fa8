-- 01, Play, capture, events, third paragraph: what an event changes of a card that is lent in pieces.
use Rattle.std.specs.Prelude.{◌≡◌, false, cond, List, [], ℕ, ◌<◌, eqb, get_or}
use Rattle.registers.specs.Answers.{plain}
use Rattle.card.specs.Setters.{with_jack_at}
use Rattle.card.specs.declared.Parts.{Parts}
use Rattle.live.specs.Live.{card_in}
use Rattle.live.specs.declared.Live.{Live}
use Rattle.meaning.specs.Card.{rest_of, step_of, leaves}
use Rattle.meaning.specs.Fit.{Fits}
use Rattle.rules.specs.Calls.{with_connected}
use Rattle.rules.specs.Control.{no_jack}
use Rattle.device.specs.Device.{Rest}
use Rattle.device.specs.Numbers.{jack_connected, pcm_xrun}
use Rattle.line_calls.specs.Calls.{Event}
use Rattle.event.specs.declared.EventAnswer.{EventAnswer}

-- the rules' rest, of which the words of the queues are no part
abbrev pub rest_in : Live → Parts → Rest
rest_in l p = rest_of (card_in l p [] [])

-- ---- what is recorded

-- an event of a jack names one for which there is room
abbrev pub NamesJack : ℕ → ℕ → Type 0
NamesJack code i = eqb code pcm_xrun ≡ false → i < 4

abbrev pub connected_at : ℕ → ℕ → Parts → Parts
connected_at i v p = with_jack_at i (with_connected v (get_or p.jacks i no_jack)) p

-- a jack's connection, or nothing
abbrev pub recorded_in : ℕ → ℕ → Parts → Parts
recorded_in code i p = cond (eqb code pcm_xrun) p (connected_at i (cond (eqb code jack_connected) 1 0) p)

-- ---- the call

-- a call that a check refuses
abbrev pub refused_by : ℕ → Live → Parts → EventAnswer
refused_by number l p = record { answer = plain number; live = l; parts = p }

-- the rules' event, on every card with this small state and these parts, whatever the words of its queues are
abbrev pub TellsOn : ℕ → ℕ → Live → Parts → List ℕ → List ℕ → EventAnswer → Type 0
TellsOn code data' l p m m' r =
    (pw cw : List ℕ)
    → Fits l p pw cw
    → (step_of (card_in l p pw cw) (Event code data') m ≡ leaves (card_in r.live r.parts pw cw) r.answer 0 [] [] m')
    × Fits r.live r.parts pw cw
