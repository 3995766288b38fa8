-- What the words of a queue stand for, and what holds of them, goes by its direction and its streams alone.
use mathlib.Core.Path.{◌≡◌, refl, sym}
use mathlib.Core.Bool.{Bool, true, false, true≢false}
use mathlib.Core.List.{List}
use Prim.Native.Nat.{ℕ}
use Rattle.card.specs.declared.Counters.{Counters}
use Rattle.device.specs.Device.{Direction}
use Rattle.queue_lines.specs.Parts.{Lay, lies}
use Rattle.line_words.specs.Slots.{queue_in}
use Rattle.line_queue.specs.Between.{FitLines}
use Rattle.meaning.specs.Card.{queue_with}
use Rattle.meaning.specs.Fit.{FitWords}

-- wherever the guest laid it out
module _ (d : Direction) (first n : ℕ) (a b : Lay) (ws : List ℕ) (c : Counters) where
  pub relaid : (len : ℕ) → FitLines (lies d first n a) len ws c → FitLines (lies d first n b) len ws c
  unfolding queue_in
  relaid len f =
      record {
        slots = record { words = f.slots.words; slot = f.slots.slot };
        between =
            record {
              wraps = f.between.wraps;
              balanced = f.between.balanced;
              few = f.between.few;
              line = λ i. record { begun = (f.between.line i).begun; heads = (f.between.line i).heads };
            };
      }

  pub queue-relaid : (dropped : Bool) → queue_with (lies d first n a) dropped ws c ≡ queue_with (lies d first n b) dropped ws c
  unfolding queue_with queue_in
  queue-relaid dropped = refl

  pub words-relaid : (len : ℕ) (dropped : Bool)
      → FitWords (lies d first n a) len dropped ws c → FitWords (lies d first n b) len dropped ws c
  words-relaid len dropped f = record { room = f.room; lines = λ e. relaid len (f.lines e); zeroed = f.zeroed }

  -- words in which the lines stand
  pub words-kept : (len : ℕ) → FitLines (lies d first n a) len ws c → FitWords (lies d first n b) len false ws c
  words-kept len f = record { room = f.slots.words; lines = λ e. relaid len f; zeroed = λ e. absurd (true≢false (sym e)) }
