-- The lines of a queue, by the slots of its words.
use mathlib.Core.Path.{◌≡◌, ◌∙◌, refl, ap}
use mathlib.Core.Bool.{Bool, true, false}
use mathlib.Core.List.{List, map}
use mathlib.Core.Logic.{◌⊎◌, inl, inr}
use Prim.Native.Nat.{ℕ, zero, suc, ◌+◌, ◌-◌, ◌*◌, ◌≤◌, ◌<◌}
use native.Mathlib.Omega.{arith}
use borrow.Author.Tests.{ltb-true, ltb-false}
use lib.Dec.{ltb}
use lib.ListN.{length, get_or, set, length-map}
use Rattle.ranges.specs.Ranges.{up_from}
use Rattle.ranges.proofs.Laws.{length-up_from}
use Rattle.queue_lines.specs.Chains.{Virtqueue, queue_size}
use Rattle.queue_lines.specs.Counters.{no_line}
use Rattle.line_words.specs.Slots.{slot_words, slot_of, line_of, lines_of, FitSlot, FitSlots}
use Rattle.line_words.proofs.Parts.{with_slot, slot-here, slot-other, slot-room, put-long}

-- ---- a list of what a function gives for each number

module _ {A : Type 0} (f g : ℕ → A) where
  map_same : (a n : ℕ) → ((j : ℕ) → a ≤ j → g j ≡ f j) → map g (up_from a n) ≡ map f (up_from a n)
  unfolding up_from
  map_same a zero h = refl
  map_same a (suc n) h = rw (h a (omega arith), map_same (a + 1) n (λ j l. h j (omega arith)))

  map-one : (a n i p : ℕ) → p ≡ a + i → ((j : ℕ) → (j < p) ⊎ (p < j) → g j ≡ f j)
      → map g (up_from a n) ≡ set (map f (up_from a n)) i (g p)
  unfolding up_from
  map-one a zero i p e h = refl
  map-one a (suc n) zero p e h =
      let here : p ≡ a = omega arith in
      rw (map_same (a + 1) n (λ j l. h j (inr (omega arith))), here)
  map-one a (suc n) (suc i) p e h = rw (h a (inl (omega arith)), map-one (a + 1) n i p (omega arith) h)

map_at : {A : Type 0} (f : ℕ → A) (d : A) (a n i p : ℕ) → p ≡ a + i → i < n → get_or (map f (up_from a n)) i d ≡ f p
unfolding up_from
map_at f d a zero i p e h = absurd (omega arith)
map_at f d a (suc n) zero p e h = let here : p ≡ a = omega arith in rw here
map_at f d a (suc n) (suc i) p e h = map_at f d (a + 1) n i p (omega arith) (omega arith)

-- ---- lines

module _ (N n : ℕ) (ws : List ℕ) where
  pub lines_long : length (lines_of N n ws) ≡ n
  unfolding lines_of
  lines_long = length-map (up_from 0 n) _ ∙ length-up_from 0 n

  pub line_at : (i : ℕ) → i < n → get_or (lines_of N n ws) i no_line ≡ line_of (slot_of (slot_words N) ws i)
  unfolding lines_of
  line_at i h = map_at (λ (j : ℕ). line_of (slot_of (slot_words N) ws j)) no_line 0 n i i (omega arith) h

  -- another slot is another line
  pub line_set : (i : ℕ) (ys : List ℕ) → slot_words N * i + slot_words N ≤ length ws → length ys ≡ slot_words N
      → lines_of N n (with_slot (slot_words N) i ws ys) ≡ set (lines_of N n ws) i (line_of ys)
  unfolding lines_of
  line_set i ys room l =
      map-one (λ (j : ℕ). line_of (slot_of (slot_words N) ws j))
      (λ (j : ℕ). line_of (slot_of (slot_words N) (with_slot (slot_words N) i ws ys) j))
      0 n i i (omega arith) (λ j o. ap line_of (slot-other (slot_words N) i ws ys room l j o))
      ∙ ap (λ z. set (map (λ (j : ℕ). line_of (slot_of (slot_words N) ws j)) (up_from 0 n)) i (line_of z))
      (slot-here (slot_words N) i ws ys room l)

-- ---- what holds of the slots

module _ (v : Virtqueue) (len i : ℕ) (ws : List ℕ) (fit : FitSlots v len ws) (there : i < v.streams) where
  abbrev size : ℕ
  size = slot_words (queue_size v)

  pub slot-inside : size * i + size ≤ length ws
  slot-inside = let e = slot-room size i v.streams there in omega (arith, e, fit.words)

  -- with another fit slot
  pub slots-fit : (ys : List ℕ) → length ys ≡ size → FitSlot len ys → FitSlots v len (with_slot size i ws ys)
  slots-fit ys l f =
      record {
        words = rw (put-long (size * i) size ws ys slot-inside l) fit.words;
        slot = λ j h. by j h (ltb j i) refl (ltb i j) refl;
      }
    where
      by : (j : ℕ) → j < v.streams → (b : Bool) → ltb j i ≡ b → (c : Bool) → ltb i j ≡ c
          → FitSlot len (slot_of size (with_slot size i ws ys) j)
      by j h true e c k = rw (slot-other size i ws ys slot-inside l j (inl (ltb-true j i e))) (fit.slot j h)
      by j h false e true k = rw (slot-other size i ws ys slot-inside l j (inr (ltb-true i j k))) (fit.slot j h)
      by j h false e false k =
          let same : j ≡ i = omega (arith, ltb-false j i e, ltb-false i j k) in
          rw (same, slot-here size i ws ys slot-inside l) f
