-- Lines that are empty: one more, and all.
use mathlib.Core.Path.{◌≡◌, refl}
use mathlib.Core.Bool.{Bool, true, false}
use mathlib.Core.List.{List, map}
use mathlib.Core.Logic.{inl}
use Prim.Native.Nat.{ℕ, zero, suc, ◌+◌, ◌-◌, ◌*◌, ◌≤◌, ◌<◌}
use native.Mathlib.Omega.{arith}
use borrow.Author.Tests.{ltb-true, ltb-false}
use lib.Dec.{ltb}
use lib.ListN.{length, replicate}
use Rattle.card.specs.Card.{no_message}
use Rattle.card.proofs.Keeps.{no-message-fit}
use Rattle.marks.specs.Marks.{message_in, line_in}
use Rattle.ranges.specs.Ranges.{up_from}
use Rattle.registers.specs.Map.{size_of}
use Rattle.device.specs.Device.{Direction, output, input, queue_number}
use Rattle.waiting.specs.Waiting.{heads_from}
use Rattle.queue_lines.specs.Chains.{Virtqueue, queue_size}
use Rattle.line_words.specs.Cleared.{Vacant, Vacates, Cleared}
use Rattle.line_words.specs.Slots.{slot_words, slot_of, chain_in, marks_in, ring_in, line_of, lines_of}
use Rattle.line_words.proofs.Parts.{with_slot, slot-here, slot-other, part-long}

-- a queue has descriptors, their number is one of 16 bits
pub size_in : (d : Direction) → (0 < size_of (queue_number d)) × (size_of (queue_number d) ≤ 65535)
unfolding size_of
size_in output = (omega arith, omega arith)
size_in input = (omega arith, omega arith)

-- by its marks
pub vacant-by : (s : List ℕ) → 79 < length s → length s ≤ 79 + 65535 → message_in (marks_in s) ≡ no_message
    → line_in (marks_in s) ≡ record { start = 0; count = 0 } → Vacant s
unfolding line_of heads_from
vacant-by s long short k l =
    let size : length (ring_in s) ≡ length s - 79 = part-long 79 (length s - 79) s (omega arith) in
    record {
      line = rw (k, l);
      fit = λ len.
          record {
            message = rw k (no-message-fit len (chain_in s));
            line = rw l (record { front = omega (arith, size); few = omega arith; narrow = omega (arith, size) });
          };
    }

-- in all words
pub vacates-by : (v : Virtqueue) (i : ℕ) (ws ys : List ℕ) → slot_words (queue_size v) * i + slot_words (queue_size v) ≤ length ws
    → length ys ≡ slot_words (queue_size v) → Vacant ys → Vacates v i ws (with_slot (slot_words (queue_size v)) i ws ys)
vacates-by v i ws ys room l e =
    let size = slot_words (queue_size v) in
    record { here = rw (slot-here size i ws ys room l) e; others = slot-other size i ws ys room l }

-- the first i lines are empty
pub VacantBelow : Virtqueue → ℕ → List ℕ → Type 0
VacantBelow v i ws = (j : ℕ) → j < i → Vacant (slot_of (slot_words (queue_size v)) ws j)

pub none_below : (v : Virtqueue) (ws : List ℕ) → VacantBelow v 0 ws
unfolding VacantBelow
none_below v ws j h = absurd (omega arith)

pub one_more : (v : Virtqueue) (i : ℕ) (ws ws' : List ℕ) → VacantBelow v i ws → Vacates v i ws ws' → VacantBelow v (i + 1) ws'
unfolding VacantBelow
one_more v i ws ws' below w j h = by (ltb j i) refl where
  by : (b : Bool) → ltb j i ≡ b → Vacant (slot_of (slot_words (queue_size v)) ws' j)
  by true e = let l = ltb-true j i e in rw (w.others j (inl l)) (below j l)
  by false e = let same : j ≡ i = omega (arith, ltb-false j i e) in rw same w.here

map-none : {A : Type 0} (f : ℕ → A) (d : A) (a n : ℕ) → ((j : ℕ) → j < a + n → f j ≡ d) → map f (up_from a n) ≡ replicate n d
unfolding up_from
map-none f d a zero h = refl
map-none f d a (suc n) h = rw (h a (omega arith), map-none f d (a + 1) n (λ j l. h j (omega arith)))

pub all-vacant : (v : Virtqueue) (ws : List ℕ) → slot_words (queue_size v) * v.streams ≤ length ws → VacantBelow v v.streams ws
    → Cleared v ws
unfolding VacantBelow lines_of
all-vacant v ws room below =
    record {
      lines =
          map-none (λ (j : ℕ). line_of (slot_of (slot_words (queue_size v)) ws j)) _ 0 v.streams (λ j l. (below j (omega arith)).line);
      fit = λ len. record { words = room; slot = λ i h. (below i h).fit len };
    }
