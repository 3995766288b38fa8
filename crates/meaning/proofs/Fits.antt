-- What holds of a card in pieces and of one passed whole; it holds of what power-up gives, and again after a register access.
use mathlib.Core.Path.{◌≡◌, refl}
use mathlib.Core.Bool.{Bool, true, false, true≢false}
use mathlib.Core.List.{List}
use Prim.Native.Nat.{ℕ, zero, suc, ◌-◌, ◌*◌, ◌≤◌, ◌<◌}
use native.Mathlib.Omega.{arith}
use lib.ListN.{length, get_or, set, replicate}
use lib.Seq.{get_or-set_same, get_or-set_other}
use Rattle.description.specs.declared.Description.{Description}
use Rattle.registers.specs.Map.{size_of}
use Rattle.registers.specs.Rules.{write_of}
use Rattle.registers.specs.declared.Effect.{Effect}
use Rattle.registers.specs.declared.Effect.TheVariants.{Nothing, Reset, Based, Rung}
use Rattle.registers.proofs.Queues.{queue_named, queue-named}
use Rattle.card.specs.Card.{no_counters}
use Rattle.card.specs.declared.Card.{Card}
use Rattle.card.specs.declared.Counters.{Counters}
use Rattle.card.specs.declared.Parts.{Parts}
use Rattle.live.proofs.Laws.{whole, card-board, read-board, write-board, powered-dropped}
use Rattle.live.specs.Live.{card_in, live_of, read_live, write_live, affected_live, reset_live, based_live, powered_board, FitBoard}
use Rattle.live.specs.Setters.{with_registers}
use Rattle.live.specs.declared.Live.{Live}
use Rattle.device.specs.Device.{Direction, output, input}
use Rattle.queue_lines.specs.Chains.{queue_size}
use Rattle.line_words.specs.Slots.{slot_words}
use Rattle.line_calls.specs.Streams.{Streams, streams_in, count_of}
use Rattle.meaning.specs.Card.{shape_of}
use Rattle.meaning.specs.Fit.{FitWords, streams_live, counters_live, FitQueue, Fits, Ready, Fit}

-- ---- the streams are those of the parts

pub streams-live : (l : Live) (p : Parts) → FitBoard l p → streams_live l ≡ streams_in p
streams-live l p f = rw (f.outputs, f.inputs)

pub same-streams : (d : Direction) (len : ℕ) (dropped : Bool) (ws : List ℕ) (c : Counters) (n k : Streams) → n ≡ k
    → FitWords (shape_of d n) len dropped ws c
    → FitWords (shape_of d k) len dropped ws c
same-streams d len dropped ws c n k e f = rw (← e) f

-- ---- a card passed whole

pub whole-card : (c : Card) → Fit c → card_in (live_of c) c.parts c.play_words c.capture_words ≡ c
whole-card c f = whole c f.parts.six-streams

module _ (l : Live) (p : Parts) (pw cw : List ℕ) (f : Fits l p pw cw) where
  pub fits-card : length pw ≡ 1340 → length cw ≡ 286 → Fit (card_in l p pw cw)
  fits-card h k =
      let c : Card = card_in l p pw cw in
      let same = streams-live l p f.board in
      record {
        parts = f.board.parts;
        fits =
            record {
              board = card-board c f.board.live.registers f.board.live.four f.board.parts;
              play =
                  same-streams output l.ram_len l.play_dropped pw (counters_live output l) (streams_live l) (streams_in p) same
                  f.play;
              capture =
                  same-streams input l.ram_len l.capture_dropped cw (counters_live input l) (streams_live l) (streams_in p) same
                  f.capture;
            };
        play-words = h;
        capture-words = k;
      }

-- ---- reads and writes

-- words whose lines are dropped, beside counters that are zero
dropped-fit : (d : Direction) (l : Live) (ws : List ℕ) (c : Counters)
    → slot_words (queue_size (shape_of d (streams_live l))) * count_of (streams_live l) d ≤ length ws
    → c ≡ no_counters
    → FitWords (shape_of d (streams_live l)) l.ram_len true ws c
dropped-fit d l ws c r z = record { room = r; lines = λ e. absurd (true≢false e); zeroed = λ e. z }

pub read_fits : (l : Live) (p : Parts) (pw cw : List ℕ) → Fits l p pw cw → (offset width : ℕ) → Fits (read_live l offset width).live p pw cw
unfolding read_live
read_fits l p pw cw f offset width =
    record { board = read-board l p f.board offset width; play = f.play; capture = f.capture }

-- what an effect leaves of a queue: one that drops its lines zeroes its counters
module _ (l : Live) (ws : List ℕ) (four : length l.queues ≡ 4) where
  set_here : (q : ℕ) → q < 4 → get_or (set l.queues q no_counters) q no_counters ≡ no_counters
  set_here q h = get_or-set_same l.queues q no_counters no_counters (omega arith)

  set_there : (q i : ℕ) → (i ≡ q → ⊥) → get_or (set l.queues q no_counters) i no_counters ≡ get_or l.queues i no_counters
  set_there q i n = get_or-set_other l.queues q i no_counters no_counters n

  based-queue : (d : Direction) (q : ℕ) → q < 4 → FitQueue d l ws → FitQueue d (based_live q l) ws
  unfolding based_live
  based-queue output zero h f = rw (set_there 0 2 (λ e. omega arith)) f
  based-queue output (suc zero) h f = rw (set_there 1 2 (λ e. omega arith)) f
  based-queue output (suc (suc zero)) h f = dropped-fit output l ws _ f.room (set_here 2 (omega arith))
  based-queue output (suc (suc (suc zero))) h f = rw (set_there 3 2 (λ e. omega arith)) f
  based-queue output (suc (suc (suc (suc q)))) h f = absurd (omega arith)
  based-queue input zero h f = rw (set_there 0 3 (λ e. omega arith)) f
  based-queue input (suc zero) h f = rw (set_there 1 3 (λ e. omega arith)) f
  based-queue input (suc (suc zero)) h f = rw (set_there 2 3 (λ e. omega arith)) f
  based-queue input (suc (suc (suc zero))) h f = dropped-fit input l ws _ f.room (set_here 3 (omega arith))
  based-queue input (suc (suc (suc (suc q)))) h f = absurd (omega arith)

  reset-queue : (d : Direction) → FitQueue d l ws → FitQueue d (reset_live l) ws
  unfolding reset_live
  reset-queue output f = dropped-fit output l ws _ f.room refl
  reset-queue input f = dropped-fit input l ws _ f.room refl

  affected-queue : (d : Direction) (e : Effect) → queue_named e < 4 → FitQueue d l ws → FitQueue d (affected_live e l) ws
  affected-queue d Nothing h f = f
  affected-queue d Reset h f = reset-queue d f
  affected-queue d (Based q) h f = based-queue d q h f
  affected-queue d (Rung q) h f = f

pub write-fits : (l : Live) (p : Parts) (pw cw : List ℕ) → Fits l p pw cw → (offset width v : ℕ)
    → Fits (write_live l offset width v).live p pw cw
unfolding write_live
write-fits l p pw cw f offset width v =
    let w = write_of l.registers offset width v in
    let n = with_registers w.registers l in
    let named = queue-named l.registers v offset width in
    record {
      board = write-board l p f.board offset width v;
      play = affected-queue n pw f.board.live.four output w.effect named f.play;
      capture = affected-queue n cw f.board.live.four input w.effect named f.capture;
    }

-- ---- power-up

-- the lines are dropped, and the words have room for those of all streams
pub ready : (l : Live) (p : Parts)
    → FitBoard l p
    → (l.play_dropped ≡ true) × (l.capture_dropped ≡ true) × (l.queues ≡ replicate 4 no_counters)
    → (pw cw : List ℕ)
    → length pw ≡ 1340
    → length cw ≡ 286
    → Fits l p pw cw
unfolding size_of
ready l p f (a, b, q) pw cw h k =
    let fits = f.parts in
    let few : l.outputs ≤ 4 = rw f.outputs fits.outputs in
    let ins : l.inputs ≤ 2 = rw f.inputs (omega (arith, fits.inputs)) in
    record {
      board = f;
      play = rw (a, q) (dropped-fit output l pw _ (omega arith) refl);
      capture = rw (b, q) (dropped-fit input l cw _ (omega arith) refl);
    }

pub powered-ready : (d : Description) (len : ℕ)
    → FitBoard (powered_board d len).board.live (powered_board d len).board.parts
    → Ready (powered_board d len).board
powered-ready d len f pw cw h k = ready _ _ f (powered-dropped d len) pw cw h k
