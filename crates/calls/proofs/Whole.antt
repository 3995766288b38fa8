-- The calls on a card that is passed as one: it is taken into its pieces, which are lent, and put together again.
use mathlib.Core.Path.{◌≡◌, sym, ap, ◌∙◌}
use mathlib.Core.Bool.{true}
use mathlib.Core.List.{List, []}
use Prim.Native.Nat.{ℕ}
use lib.ListN.{length, take, get_or}
use Rattle.card.specs.declared.Card.{Card}
use Rattle.card.specs.Card.{no_counters}
use Rattle.card.specs.Rules.{powered_of, read_card, write_card}
use Rattle.card.specs.declared.Parts.{Parts}
use Rattle.card.specs.declared.Powered.{Powered}
use Rattle.card.specs.declared.ReadAnswer.{ReadAnswer}
use Rattle.card.specs.declared.WriteAnswer.{WriteAnswer}
use Rattle.description.specs.declared.Description.{Description}
use Rattle.live.proofs.Laws as laws
use Rattle.live.specs.Live.{card_in, live_of, read_live, write_live, board_of, powered_board, FitBoard}
use Rattle.live.specs.declared.Board.{Board}
use Rattle.live.specs.declared.LiveRead.{LiveRead}
use Rattle.live.specs.declared.LiveWrite.{LiveWrite}
use Rattle.live.specs.declared.PoweredBoard.{PoweredBoard}
use Rattle.live.specs.declared.Live.{Live}
use Rattle.registers.specs.declared.answers.Answer.{Answer}
use Rattle.meaning.proofs.Fits.{whole-card, fits-card, read_fits, write-fits, powered-ready}
use Rattle.meaning.specs.Card.{shape_of, no_lines, queue_with, rest_of, device_of, step_of, leaves}
use Rattle.meaning.specs.Fit.{Fits, Fit}
use Rattle.message.specs.declared.Direction.TheVariants.{Output, Input}
use Rattle.device.specs.Device.{output, input, Device}
use Rattle.device.specs.Numbers.{control_queue, event_queue, play_queue, capture_queue}
use Rattle.queue_lines.specs.Counters.{Queue}
use Rattle.line_calls.specs.Streams.{Streams, streams_in}
use Rattle.line_calls.specs.Calls.{Play, Capture, Control, Event}
use Rattle.event.specs.Event.{TellsOn}
use Rattle.event.specs.declared.EventAnswer.{EventAnswer}
use Rattle.pcm.specs.Entry.{TransfersOn}
use Rattle.pcm.specs.declared.TransferAnswer.{TransferAnswer}
use Rattle.stream.specs.Queue.{FitOwn}
use Rattle.calls.specs.Calls.{Powers}

module _ (c : Card) (f : Fit c) where
  -- what a queue needs of the card's pieces, and an event
  pub play-own : FitOwn Output (live_of c) c.play_words
  play-own = (f.fits.board.live, f.fits.play)

  pub capture-own : FitOwn Input (live_of c) c.capture_words
  capture-own = (f.fits.board.live, f.fits.capture)

  pub board : FitBoard (live_of c) c.parts
  board = f.fits.board

  -- the small state that was passed is the card's
  module _ (l : Live) (is : l ≡ live_of c) where
    module _ (id backlog : ℕ) (m host ws' m' host' : List ℕ) (t : TransferAnswer) where
      pub play-whole : length ws' ≡ length c.play_words → TransfersOn Output id backlog l c.play_words m host ws' m' host' t
          → let n = card_in t.live c.parts ws' c.capture_words in
          (step_of c (Play id host backlog) m ≡ leaves n t.answer t.count (take t.count host') host' m') × Fit n
      play-whole k h =
          let e = (rw is at h) c.parts c.capture_words f.fits in
          (rw (whole-card c f) at e.0, fits-card _ _ _ _ e.1 (k ∙ f.play-words) f.capture-words)

      pub capture-whole : length ws' ≡ length c.capture_words
          → TransfersOn Input id backlog l c.capture_words m host ws' m' host' t
          → let n = card_in t.live c.parts c.play_words ws' in
          (step_of c (Capture id host backlog) m ≡ leaves n t.answer t.count (take t.count host') [] m') × Fit n
      capture-whole k h =
          let e = (rw is at h) c.parts c.play_words f.fits in
          (rw (whole-card c f) at e.0, fits-card _ _ _ _ e.1 f.play-words (k ∙ f.capture-words))

    pub event-whole : (code data' : ℕ) (m m' : List ℕ) (t : EventAnswer) → TellsOn code data' l c.parts m m' t
        → let n = card_in t.live t.parts c.play_words c.capture_words in
        (step_of c (Event code data') m ≡ leaves n t.answer 0 [] [] m') × Fit n
    event-whole code data' m m' t h =
        let e = (rw is at h) c.play_words c.capture_words f.fits in
        (rw (whole-card c f) at e.0, fits-card _ _ _ _ e.1 f.play-words f.capture-words)

    pub control-whole : (m m' pw' cw' : List ℕ) (n : Live) (p : Parts) (a : Answer) (count : ℕ)
        → length pw' ≡ length c.play_words
        → length cw' ≡ length c.capture_words
        → (step_of (card_in l c.parts c.play_words c.capture_words) Control m ≡ leaves (card_in n p pw' cw') a count [] [] m')
        × Fits n p pw' cw'
        → (step_of c Control m ≡ leaves (card_in n p pw' cw') a count [] [] m') × Fit (card_in n p pw' cw')
    control-whole m m' pw' cw' n p a count kp kc h =
        (rw (whole-card c f) at (rw is at h.0), fits-card n p pw' cw' h.1 (kp ∙ f.play-words) (kc ∙ f.capture-words))

  -- ---- registers

  pub read_whole : (l : Live) → l ≡ live_of c → (offset width : ℕ) (r : LiveRead) → r ≡ read_live l offset width
      → let n = card_in r.live c.parts c.play_words c.capture_words in
      (◌≡◌ {A = ReadAnswer} (record { answer = r.answer; value = r.value; card = n }) (read_card c offset width)) × Fit n
  read_whole l is offset width r e = (
    rw (e, is) (laws.read_whole c f.parts.six-streams offset width),
    rw (e, is) (fits-card _ _ _ _ (read_fits (live_of c) c.parts _ _ f.fits offset width) f.play-words f.capture-words),
  )

  pub write-whole : (l : Live) → l ≡ live_of c → (offset width v : ℕ) (r : LiveWrite) → r ≡ write_live l offset width v
      → let n = card_in r.live c.parts c.play_words c.capture_words in
      (◌≡◌ {A = WriteAnswer} (record { answer = r.answer; rung = r.rung; card = n }) (write_card c offset width v)) × Fit n
  write-whole l is offset width v r e = (
    rw (e, is) (laws.write-whole c f.parts.six-streams offset width v),
    rw (e, is) (fits-card _ _ _ _ (write-fits (live_of c) c.parts _ _ f.fits offset width v) f.play-words f.capture-words),
  )

-- ---- power-up

pub powered-whole : (d : Description) (len : ℕ) (r : PoweredBoard) (c : Card)
    → (r ≡ powered_board d len) × FitBoard r.board.live r.board.parts
    → c ≡ card_in r.board.live r.board.parts c.play_words c.capture_words
    → length c.play_words ≡ 1340
    → length c.capture_words ≡ 286
    → length r.board.parts.streams ≡ 6
    → Powers d len (record { answer = r.answer; card = c }) × Fit c
unfolding powered_board
powered-whole d len r c (e, f) is h k six =
    let pw = c.play_words in
    let cw = c.capture_words in
    let b : Board = (powered_board d len).board in
    let fits : Fits r.board.live r.board.parts pw cw = rw e (powered-ready d len (rw e at f) pw cw h k) in
    let same : c ≡ card_in b.live b.parts pw cw = rw e at is in
    let again : card_in b.live b.parts pw cw ≡ worded pw cw (powered_of d len).card =
    laws.whole (worded pw cw (powered_of d len).card) (rw e at six) in (
      record { answer = ap (λ (x : PoweredBoard). x.answer) e; board = ap board_of same ∙ ap board_of again },
      rw is (fits-card _ _ pw cw fits h k),
    )
  where
    -- with other words
    worded : List ℕ → List ℕ → Card → Card
    worded pw cw x =
        record {
          ram_len = x.ram_len;
          registers = x.registers;
          queues = x.queues;
          parts = x.parts;
          play_dropped = x.play_dropped;
          capture_dropped = x.capture_dropped;
          play_words = pw;
          capture_words = cw;
        }

-- what the card stands for then, whatever its words hold
module _ (d : Description) (len : ℕ) (r : Powered) (is : Powers d len r) where
  abbrev device_on : Board → Device Queue
  device_on b =
      let n : Streams = streams_in b.parts in
      record {
        rest =
            record {
              ram = b.live.ram_len;
              registers = b.live.registers;
              jacks = take b.parts.jack_count b.parts.jacks;
              maps = take b.parts.map_count b.parts.maps;
              streams = take b.parts.stream_count b.parts.streams;
              control = get_or b.live.queues control_queue no_counters;
              event = get_or b.live.queues event_queue no_counters;
            };
        play = no_lines (shape_of output n) (get_or b.live.queues play_queue no_counters);
        capture = no_lines (shape_of input n) (get_or b.live.queues capture_queue no_counters);
      }

  dropped-device : (c : Card) → c.play_dropped ≡ true → c.capture_dropped ≡ true → device_of c ≡ device_on (board_of c)
  unfolding device_of rest_of queue_with
  dropped-device c p q = rw (p, q)

  pub powered-device : device_of r.card ≡ device_of (powered_of d len).card
  unfolding powered_board
  powered-device =
      let dropped = laws.powered-dropped d len in
      let same : board_of r.card ≡ board_of (powered_of d len).card = is.board in
      dropped-device r.card (ap (λ (b : Board). b.live.play_dropped) same ∙ dropped.0)
      (ap (λ (b : Board). b.live.capture_dropped) same ∙ dropped.1)
      ∙ ap device_on same
      ∙ sym (dropped-device (powered_of d len).card dropped.0 dropped.1)

  pub powered-parts : r.card.parts ≡ (powered_of d len).card.parts
  unfolding powered_board
  powered-parts = ap (λ (b : Board). b.parts) is.board
