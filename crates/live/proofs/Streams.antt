-- The streams of a small state and parts, one by one; a board with other backlogs or states of its streams.
use mathlib.Core.Path.{◌≡◌, refl}
use mathlib.Core.List.{List}
use Prim.Native.Nat.{ℕ, zero, suc, ◌≤◌, ◌<◌}
use native.Mathlib.Omega.{arith}
use lib.ListN.{length, get_or}
use Rattle.card.specs.Card.{no_stream}
use Rattle.card.specs.declared.Parts.{Parts}
use Rattle.card.specs.declared.Stream.{Stream}
use Rattle.live.specs.Live.{stream_of, stream_at, streams_now, parts_now, FitBoard}
use Rattle.live.specs.Setters.{with_states, with_backlogs}
use Rattle.live.specs.declared.Live.{Live}

pub stream-now : (l : Live) (p : Parts) (i : ℕ) → i < 6 → get_or (parts_now l p).streams i no_stream ≡ stream_at l p i
stream-now l p zero h = refl
stream-now l p (suc zero) h = refl
stream-now l p (suc (suc zero)) h = refl
stream-now l p (suc (suc (suc zero))) h = refl
stream-now l p (suc (suc (suc (suc zero)))) h = refl
stream-now l p (suc (suc (suc (suc (suc zero))))) h = refl
stream-now l p (suc (suc (suc (suc (suc (suc i)))))) h = absurd (omega arith)

-- what holds of each of them, and of none, holds wherever one looks
streams-have : (P : Stream → Type 0) (l : Live) (s : List Stream) → P no_stream → ((i : ℕ) → i < 6 → P (stream_of l s i))
    → (i : ℕ) → P (get_or (streams_now l s) i no_stream)
streams-have P l s n h zero = h 0 (omega arith)
streams-have P l s n h (suc zero) = h 1 (omega arith)
streams-have P l s n h (suc (suc zero)) = h 2 (omega arith)
streams-have P l s n h (suc (suc (suc zero))) = h 3 (omega arith)
streams-have P l s n h (suc (suc (suc (suc zero)))) = h 4 (omega arith)
streams-have P l s n h (suc (suc (suc (suc (suc zero))))) = h 5 (omega arith)
streams-have P l s n h (suc (suc (suc (suc (suc (suc i)))))) = n

module _ (l : Live) (p : Parts) (f : FitBoard l p) where
  pub state-bound : (i : ℕ) → i < 6 → get_or l.states i 0 ≤ 5
  state-bound i h = rw (stream-now l p i h) at (f.parts.states i)

  pub board-with-states : (v : List ℕ) → length v ≡ 6 → ((i : ℕ) → i < 6 → get_or v i 0 ≤ 5) → FitBoard (with_states v l) p
  board-with-states v n b =
      record {
        live = record { registers = f.live.registers; four = f.live.four; states = n; backlogs = f.live.backlogs };
        parts =
            record {
              jacks = f.parts.jacks;
              maps = f.parts.maps;
              streams = f.parts.streams;
              outputs = f.parts.outputs;
              some = f.parts.some;
              inputs = f.parts.inputs;
              four-jacks = f.parts.four-jacks;
              four-maps = f.parts.four-maps;
              six-streams = refl;
              states = streams-have (λ s. s.state ≤ 5) (with_states v l) p.streams (omega arith) b;
            };
        counts = f.counts;
        outputs = f.outputs;
        inputs = f.inputs;
      }

  pub board-with-backlogs : (v : List ℕ) → length v ≡ 6 → FitBoard (with_backlogs v l) p
  board-with-backlogs v n =
      record {
        live = record { registers = f.live.registers; four = f.live.four; states = f.live.states; backlogs = n };
        parts =
            record {
              jacks = f.parts.jacks;
              maps = f.parts.maps;
              streams = f.parts.streams;
              outputs = f.parts.outputs;
              some = f.parts.some;
              inputs = f.parts.inputs;
              four-jacks = f.parts.four-jacks;
              four-maps = f.parts.four-maps;
              six-streams = refl;
              states = streams-have (λ s. s.state ≤ 5) (with_backlogs v l) p.streams (omega arith) state-bound;
            };
        counts = f.counts;
        outputs = f.outputs;
        inputs = f.inputs;
      }
