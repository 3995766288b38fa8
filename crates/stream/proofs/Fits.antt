-- Registers, and cards after a job, are fit.
use Rattle.std.specs.Prelude.{Option, Some, None}
use Rattle.ring.specs.declared.Cause.{Cause}
use mathlib.Core.Bool.{Bool, true, false}
use mathlib.Core.List.{List}
use Prim.Native.Nat.{ℕ}
use native.Mathlib.Omega.{arith}
use lib.Seq.{get_or-set_same, get_or-set_other}
use Rattle.registers.specs.Fit.{FitRegisters}
use Rattle.registers.specs.declared.Registers.{Registers}
use Rattle.registers.proofs.Keeps.{signalled-fit, broken-fit}
use Rattle.card.specs.Card.{no_counters}
use Rattle.card.specs.declared.Parts.{Parts}
use Rattle.live.specs.Live.{FitBoard}
use Rattle.live.specs.Setters.{with_counters}
use Rattle.live.specs.declared.Live.{Live}
use Rattle.live.proofs.Laws.{board-with-counters, board-play-kept, board-capture-kept}
use Rattle.message.specs.declared.Direction.{Direction}
use Rattle.message.specs.declared.Direction.TheVariants.{Output, Input}
use Rattle.device.specs.Answers.{broken_by}
use Rattle.device.specs.Device.{output, input, signalled_if}
use Rattle.line_queue.specs.Between.{FitLines}
use Rattle.line_taking.specs.declared.Progress.{Progress}
use Rattle.meaning.proofs.Words.{words-kept}
use Rattle.stream.specs.Queue.{virtqueue_in, progress_live, FitsWith, FitOwn}

pub signal-fit : (b : Bool) (g : Registers) → FitRegisters g → FitRegisters (signalled_if b g)
signal-fit true g f = signalled-fit g f
signal-fit false g f = f

pub broken-by-fit : (s : Option Cause) (g : Registers) → FitRegisters g → FitRegisters (broken_by s g)
broken-by-fit None g f = f
broken-by-fit (Some cause) g f = broken-fit g f

-- ---- all that a card is made of, with the words of a direction's queue

module _ (l : Live) (p : Parts) (ws other : List ℕ) where
  pub board-with : (d : Direction) → FitsWith d l p ws other → FitBoard l p
  board-with Output f = f.board
  board-with Input f = f.board

  pub own-fit : (d : Direction) → FitsWith d l p ws other → FitOwn d l ws
  own-fit Output f = (f.board.live, f.play)
  own-fit Input f = (f.board.live, f.capture)

  -- after a job
  module _ (latency : ℕ) (r : Progress) (ws' : List ℕ) where
    pub progressed-fits : (d : Direction)
        → FitsWith d l p ws other
        → FitLines (virtqueue_in l d latency) l.ram_len ws' r.counters
        → FitsWith d (progress_live d r l) p ws' other
    progressed-fits Output f k =
        record {
          board = board-play-kept (with_counters 2 r.counters l) p (board-with-counters l p f.board 2 r.counters);
          play =
              rw (get_or-set_same l.queues 2 r.counters no_counters (omega (arith, f.board.live.four)))
              (words-kept output _ _ _ _ ws' r.counters l.ram_len k);
          capture = rw (get_or-set_other l.queues 2 3 r.counters no_counters (λ e. omega arith)) f.capture;
        }
    progressed-fits Input f k =
        record {
          board = board-capture-kept (with_counters 3 r.counters l) p (board-with-counters l p f.board 3 r.counters);
          play = rw (get_or-set_other l.queues 3 2 r.counters no_counters (λ e. omega arith)) f.play;
          capture =
              rw (get_or-set_same l.queues 3 r.counters no_counters (omega (arith, f.board.live.four)))
              (words-kept input _ _ _ _ ws' r.counters l.ram_len k);
        }
