-- Order 8's calls by computation, on a card of two outputs and an input, all Running: the guest offers five chains, of streams 0, 1, 0, 7
-- and 1. A play of stream 0 takes them all and plays a part of the first; a play of stream 2, which is the input, is refused; one of
-- stream 1 plays its own two; a reset drops what is left.
use mathlib.Core.Path.{◌≡◌, refl}
use mathlib.Core.List.{List, [], ◌∷◌, map}
use Prim.Native.Nat.{ℕ}
use Rattle.card.specs.Card.{no_counters}
use Rattle.card.specs.declared.Stream.{Stream}
use Rattle.device.specs.Device.{output, input, Device}
use Rattle.queue_lines.specs.Counters.{Queue}
use Rattle.line_calls.specs.Calls.{Request, WriteRegister, Play}
use Rattle.line_calls.specs.Claim.{card}
use Rattle.line_calls.specs.Streams.{Streams}
use Rattle.line_calls.specs.Table.{streams}
use Rattle.examples.proofs.Blocks.{Ran, words, stream, registers, waits, runs}
use Rattle.examples.proofs.Lines.{lent, half, zeros, statuses}

-- two outputs and an input
abbrev pub three : Streams
three = streams 2 1

abbrev pub talking : Device Queue
talking =
    record {
      rest =
          record {
            ram = 10760;
            registers = registers 15 0 (0 ∷ 0 ∷ 1 ∷ 0 ∷ []);
            jacks = [];
            maps = [];
            streams = stream 3 0 ∷ stream 3 0 ∷ stream 3 0 ∷ [];
            control = no_counters;
            event = no_counters;
          };
      play = (card three output).empty;
      capture = (card three input).empty;
    }

abbrev pub after : List Request → Ran Queue
after qs = runs three (card three) talking (lent 0 1 0 5) qs

-- streams 0, 2 and 1, with room for 2, 4 and 4 bytes
abbrev pub three-plays : Ran Queue
three-plays = after (Play 0 (zeros 2) 480 ∷ Play 2 (zeros 4) 720 ∷ Play 1 (zeros 4) 960 ∷ [])

-- what calls told and left: the play queue, the backlogs that the streams remember, the replies
pub record Left : Type 0 where
  pub answers : List ℕ
  pub counts : List ℕ
  pub play : Queue
  pub backlogs : List ℕ
  pub replies : List ℕ

abbrev pub left : Ran Queue → Left
left r =
    record {
      answers = r.answers;
      counts = r.counts;
      play = r.state.play;
      backlogs = map (λ (s : Stream). s.backlog) r.state.rest.streams;
      replies = statuses r.memory;
    }

-- the input is no stream of a play; the play of stream 1 leaves stream 0's line as it was; each stream's statuses carry, and each stream
-- remembers, its own backlog
pub plays-apart :
    left three-plays
    ≡ record {
      answers = 0 ∷ 6 ∷ 0 ∷ [];
      counts = 2 ∷ 0 ∷ 3 ∷ [];
      play = record { taken = 5; completed = 3; lines = half ∷ waits [] ∷ [] };
      backlogs = 480 ∷ 960 ∷ 0 ∷ [];
      replies = words (0 ∷ 0 ∷ 32768 ∷ 960 ∷ 0 ∷ 0 ∷ 32771 ∷ 480 ∷ 32768 ∷ 960 ∷ []);
    }
unfolding runs
plays-apart = refl

-- "Reset drops all lines"
pub reset-drops : (after (Play 0 (zeros 2) 480 ∷ WriteRegister 18 1 0 ∷ [])).state.play ≡ (card three output).empty
unfolding runs
reset-drops = refl
