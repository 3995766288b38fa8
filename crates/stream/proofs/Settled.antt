-- Words whose lines were dropped, once they are cleared, and those of which nothing was dropped: the lines stand in them.
use Rattle.std.specs.Prelude.{None}
use mathlib.Core.Path.{◌≡◌, refl, ap}
use mathlib.Core.Bool.{Bool, true, false}
use mathlib.Core.List.{List}
use Prim.Native.Nat.{ℕ, zero, suc}
use native.Mathlib.Omega.{arith}
use lib.ListN.{get_or, replicate}
use Rattle.card.specs.Card.{no_counters}
use Rattle.card.specs.declared.Counters.{Counters}
use Rattle.device.specs.Device as device
use Rattle.queue_lines.specs.Chains.{Virtqueue}
use Rattle.queue_lines.specs.Counters.{no_line, sum_of, length_of, if_begun}
use Rattle.line_words.specs.Slots.{queue_in}
use Rattle.line_queue.specs.Between.{FitIn, Between, FitLines}
use Rattle.meaning.specs.Card.{no_lines, queue_with}
use Rattle.meaning.specs.Fit.{FitWords}
use Rattle.stream.specs.Queue.{Settles}

-- ---- a queue with nobody in line

none-counted : (n : ℕ) → sum_of length_of (replicate n no_line) ≡ 0
unfolding sum_of
none-counted zero = refl
none-counted (suc n) = omega (arith, none-counted n)

none-at : (n i : ℕ) → get_or (replicate n no_line) i no_line ≡ no_line
none-at zero i = refl
none-at (suc n) zero = refl
none-at (suc n) (suc i) = none-at n i

nobody-in : (v : Virtqueue) → FitIn v no_line
nobody-in v =
    record {
      begun = λ w e. let z : ◌≡◌ {A = ℕ} 0 1 = ap if_begun e in absurd (omega (arith, z));
      heads = tt;
    }

none_between : (v : Virtqueue) → Between v (no_lines v no_counters)
none_between v =
    let None = none-counted v.streams in
    record {
      wraps = omega arith;
      balanced = rw None;
      few = rw None (omega arith);
      line = λ i. rw (none-at v.streams i) (nobody-in v);
    }

-- ---- the words

module _ (v : Virtqueue) (ws ws' : List ℕ) (c : Counters) where
  pub settled-queue : (dropped : Bool) → Settles v dropped ws ws' → queue_in v ws' c ≡ queue_with v dropped ws c
  unfolding queue_with queue_in
  settled-queue true s = rw (s.cleared refl).lines
  settled-queue false s = rw (s.kept refl)

  pub settled-fit : (len : ℕ) (dropped : Bool) → FitWords v len dropped ws c → Settles v dropped ws ws' → FitLines v len ws' c
  unfolding queue_with
  settled-fit len true f s =
      record {
        slots = (s.cleared refl).fit len;
        between = rw (settled-queue true s, f.zeroed refl) (none_between v);
      }
  settled-fit len false f s = rw (s.kept refl) (f.lines refl)
