-- Each entry that C calls does what demand 3 is proved of: what its contract says of the pieces of a card, memory and host buffer is a step
-- of a list of calls (`Does`) on the card that the pieces stand for, so `demand-3` holds of any list of calls through the header. Power-up
-- leaves pieces of a card from which such a list starts.
use mathlib.Core.Path.{◌≡◌, ◌∙◌, refl, sym, ap}
use mathlib.Core.List.{List, []}
use Prim.Native.Nat.{ℕ}
use lib.ListN.{length, take}
use Rattle.card.specs.Rules.{read_card, write_card}
use Rattle.card.specs.declared.Card.{Card}
use Rattle.card.specs.declared.Parts.{Parts}
use Rattle.card.specs.declared.ReadAnswer.{ReadAnswer}
use Rattle.card.specs.declared.WriteAnswer.{WriteAnswer}
use Rattle.live.proofs.Laws.{read-in, write-in}
use Rattle.description.specs.declared.Description.{Description}
use Rattle.live.specs.Live.{card_in, read_live, write_live, powered_board}
use Rattle.live.specs.declared.Board.{Board}
use Rattle.live.specs.declared.Live.{Live}
use Rattle.live.specs.declared.LiveRead.{LiveRead}
use Rattle.live.specs.declared.LiveWrite.{LiveWrite}
use Rattle.live.specs.declared.PoweredBoard.{PoweredBoard}
use Rattle.meaning.specs.Card.{device_of}
use Rattle.meaning.specs.Fit.{Fits, Ready}
use Rattle.meaning.proofs.Fits.{read_fits, write-fits}
use Rattle.meaning.proofs.Steps.{read-step, write_step}
use Rattle.message.specs.declared.Direction.TheVariants.{Output, Input}
use Rattle.rules.specs.Calls.{Step, told_all, nothing_rung}
use Rattle.queue_lines.specs.Counters.{Queue}
use Rattle.line_calls.specs.Calls.{ReadRegister, WriteRegister, Control, Play, Capture, Event}
use Rattle.registers.specs.Answers.{plain}
use Rattle.device.specs.Device as rules
use Rattle.pcm.specs.Entry.{TransfersOn}
use Rattle.pcm.specs.declared.TransferAnswer.{TransferAnswer}
use Rattle.entries.specs.Entries.{ControlsOn, EventsOn, answered, card_on}
use Rattle.entries.specs.declared.BoardAnswer.{BoardAnswer}
use Rattle.calls.specs.Calls.{Powers, Does}
use Rattle.calls.proofs.Whole.{powered-whole}

-- ---- power-up

-- the card of what power-up leaves and any words is one that `demand-3` starts from, and the pieces fit; their streams are an array of six
pub power-up-powers :
    (d : Description) (len answer : ℕ) (b : Board) (pw cw : List ℕ)
    → ◌≡◌ {A = PoweredBoard} (record { answer = answer; board = b }) (powered_board d len)
    → Ready b
    → length b.parts.streams ≡ 6
    → length pw ≡ 1340
    → length cw ≡ 286
    → Powers d len (record { answer = answer; card = card_on b pw cw }) × Fits b.live b.parts pw cw
power-up-powers d len answer b pw cw e ready six h k =
    let fits = ready pw cw h k in
    ((powered-whole d len (record { answer = answer; board = b }) (card_on b pw cw) (e, fits.board) refl h k six).0, fits)

-- ---- register accesses

-- what is left and told by a register access
abbrev after : List ℕ → Card → ℕ → ℕ → ℕ → Step (rules.Device Queue)
after m d answer value rung = record { state = device_of d; told = told_all (plain answer) value rung 0 [] [] m }

module _ (l n : Live) (p : Parts) (pw cw m : List ℕ) (f : Fits l p pw cw) where
  abbrev before : Card
  before = card_in l p pw cw

  pub read-does : (offset width answer value : ℕ)
      → ◌≡◌ {A = LiveRead} (record { answer = answer; value = value; live = n }) (read_live l offset width)
      → Does before (record { asked = ReadRegister offset width; lent = m }) (told_all (plain answer) value nothing_rung 0 [] [] m)
      (card_in n p pw cw)
      × Fits n p pw cw
  read-does offset width answer value e =
      let k : ◌≡◌ {A = ReadAnswer} (read_card before offset width) (record { answer = answer; value = value; card = card_in n p pw cw }) =
      read-in l p pw cw f.board.counts offset width
      ∙ sym (ap (λ (r : LiveRead). record { answer = r.answer; value = r.value; card = card_in r.live p pw cw }) e) in
      let fits : Fits n p pw cw = rw (ap (λ (r : LiveRead). r.live) e) (read_fits l p pw cw f offset width) in (
        record {
          says =
              read-step before f.board.parts offset width m
              ∙ ap (λ (r : ReadAnswer). after m r.card r.answer r.value nothing_rung) k;
        },
        fits,
      )

  pub write-does : (offset width v answer rung : ℕ)
      → ◌≡◌ {A = LiveWrite} (record { answer = answer; rung = rung; live = n }) (write_live l offset width v)
      → Does before (record { asked = WriteRegister offset width v; lent = m }) (told_all (plain answer) 0 rung 0 [] [] m)
      (card_in n p pw cw)
      × Fits n p pw cw
  write-does offset width v answer rung e =
      let k : ◌≡◌ {A = WriteAnswer} (write_card before offset width v) (record { answer = answer; rung = rung; card = card_in n p pw cw }) =
      write-in p pw cw l offset width v
      ∙ sym (ap (λ (r : LiveWrite). record { answer = r.answer; rung = r.rung; card = card_in r.live p pw cw }) e) in
      let fits : Fits n p pw cw = rw (ap (λ (r : LiveWrite). r.live) e) (write-fits l p pw cw f offset width v) in (
        record {
          says =
              write_step before f.board.live.four offset width v m
              ∙ ap (λ (r : WriteAnswer). after m r.card r.answer 0 r.rung) k;
        },
        fits,
      )

-- ---- calls on queues

module _ (l : Live) (p : Parts) (pw cw m m' : List ℕ) (f : Fits l p pw cw) where
  pub play-does : (id backlog : ℕ) (host pw' host' : List ℕ) (r : TransferAnswer)
      → TransfersOn Output id backlog l pw m host pw' m' host' r
      → Does (card_in l p pw cw) (record { asked = Play id host backlog; lent = m })
      (told_all r.answer 0 nothing_rung r.count (take r.count host') host' m') (card_in r.live p pw' cw)
      × Fits r.live p pw' cw
  play-does id backlog host pw' host' r h = let e = h p cw f in (record { says = e.0 }, e.1)

  pub capture-does : (id backlog : ℕ) (host cw' : List ℕ) (r : TransferAnswer)
      → TransfersOn Input id backlog l cw m host cw' m' host r
      → Does (card_in l p pw cw) (record { asked = Capture id host backlog; lent = m })
      (told_all r.answer 0 nothing_rung r.count (take r.count host) [] m') (card_in r.live p pw cw')
      × Fits r.live p pw cw'
  capture-does id backlog host cw' r h = let e = h p pw f in (record { says = e.0 }, e.1)

module _ (b : Board) (pw cw m m' : List ℕ) (r : BoardAnswer) where
  pub control-does : (pw' cw' : List ℕ)
      → ControlsOn b pw cw m pw' cw' m' r
      → Does (card_on b pw cw) (record { asked = Control; lent = m }) (told_all (answered r) 0 nothing_rung r.count [] [] m')
      (card_on r.board pw' cw')
      × Fits r.board.live r.board.parts pw' cw'
  control-does pw' cw' e = (record { says = e.0 }, e.1)

  pub event-does : (code data' : ℕ)
      → Fits b.live b.parts pw cw
      → EventsOn b code data' m m' r
      → Does (card_on b pw cw) (record { asked = Event code data'; lent = m }) (told_all (answered r) 0 nothing_rung r.count [] [] m')
      (card_on r.board pw cw)
      × Fits r.board.live r.board.parts pw cw
  event-does code data' f h =
      let e = h.0 pw cw f in
      (rw h.1 (record { says = e.0 }), e.1)
