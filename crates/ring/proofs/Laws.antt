-- Ring facts, each once over N, the number of descriptors: where the parts lie, the counters, and what reads back after a completion.
use Rattle.std.specs.Prelude.{Ok, Err, Some}
use Rattle.std.proofs.Common.{◌≡◌, ℕ, ◌+◌, ◌-◌, ◌*◌, ◌%◌, ◌^◌, ◌<◌, ◌≤◌, Bool, true, false, not, ltb, leb, List, length, refl, ◌∙◌, inl}
use Rattle.std.proofs.Common.{inr, mod-lt, arith, le-ltb, lt-ltb, ne_eqb, leb-false, leb-true}
use native.Mathlib.Nat.{mod-mod_of_dvd, dvd_of_mod-eq-zero, mul-mod_right}
use Rattle.counts.specs.declared.PageNumber.{PageNumber}
use Rattle.counts.specs.declared.DescriptorNumber.{DescriptorNumber}
use Rattle.memory.specs.Bytes.{le, inside_of}
use Rattle.memory.proofs.Laws.{length-put, le-put, le-put-other}
use Rattle.ranges.specs.declared.Range.{Range}
use Rattle.ranges.proofs.Laws.{length-put_at}
use Rattle.ring.specs.Layout.{used_at, end_at, available_flags_at, available_index_at, ring_place_at, used_index_at, used_head_at}
use Rattle.ring.specs.Layout.{used_length_at}
use Rattle.ring.specs.Rules.{new_of, entries_of, next_of, posted_at, posted_of, post_of, completed_of}
use Rattle.ring.specs.declared.Cause.{Cause}

-- ---- the layout

-- 01's numbers
pub layout-of-64 : (used_at 64 ≡ 1156) × (end_at 64 ≡ 1672)
layout-of-64 = (refl, refl)

pub layout-of-256 : (used_at 256 ≡ 4612) × (end_at 256 ≡ 6664)
layout-of-256 = (refl, refl)

-- "rounded up to 4": the next multiple of 4
pub used-rounded-up : (N : ℕ) → (used_at N % 4 ≡ 0) × (16 * N + 4 + 2 * N ≤ used_at N) × (used_at N < 16 * N + 4 + 2 * N + 4)
used-rounded-up N = (omega arith, omega arith, omega arith)

-- table, available ring and used ring follow one another, and so do what they hold; all of it lies inside the region
module _ (N i : ℕ) (h : i < N) where
  pub descriptor-before-available : 16 * i + 16 ≤ available_flags_at N
  descriptor-before-available = omega arith

  pub available-index-before-place : available_index_at N + 2 ≤ ring_place_at N i
  available-index-before-place = omega arith

  pub ring-place-before-used : ring_place_at N i + 2 ≤ used_at N
  ring-place-before-used = omega arith

  pub used-index-before-element : used_index_at N + 2 ≤ used_head_at N i
  used-index-before-element = omega arith

  pub inside-region : (16 * i + 16 ≤ end_at N) × (ring_place_at N i + 2 ≤ end_at N) × (used_head_at N i + 8 ≤ end_at N)
  inside-region = (omega arith, omega arith, omega arith)

-- ---- the counters

-- 01, Numbers on each side
pub new-over-the-wrap : (new_of 0 65535 ≡ 1) × (new_of 4 65530 ≡ 10)
new-over-the-wrap = (refl, refl)

-- an entry taken is one new entry less
pub new-next : (i t : ℕ) → i < 65536 → t < 65536 → 0 < new_of i t → new_of i ((t + 1) % 65536) ≡ new_of i t - 1
new-next i t a b h = omega arith

-- where N divides 65,536, a counter that wraps goes on at the next place
pub place-over-the-wrap : (N k n : ℕ) → 65536 ≡ N * k → n % 65536 % N ≡ n % N
place-over-the-wrap N k n h = mod-mod_of_dvd N n (dvd_of_mod-eq-zero N (rw h (mul-mod_right N k)))

-- 01, Numbers on each side: play, taken 10, none and one in work
pub play-none-in-work : (entries_of 256 (new_of 266 10) 0 ≡ Ok (Some 256)) × (entries_of 256 (new_of 267 10) 0 ≡ Err Cause.Entries)
play-none-in-work = (refl, refl)

pub play-one-in-work : (entries_of 256 (new_of 265 10) 1 ≡ Ok (Some 255)) × (entries_of 256 (new_of 266 10) 1 ≡ Err Cause.Entries)
play-one-in-work = (refl, refl)

-- ---- the region

-- a range that has a byte passes the end exactly where it does not lie inside
pub past_the_end : (len at n : ℕ) → 0 < n → ltb len (at + n) ≡ not (inside_of len at n)
past_the_end len at n h = rw (ne_eqb n 0 (λ e. omega arith)) (by (leb (at + n) len) refl) where
  by : (b : Bool) → leb (at + n) len ≡ b → ltb len (at + n) ≡ not (leb (at + n) len)
  by true e = rw (e, le-ltb len (at + n) (leb-true (at + n) len e))
  by false e = rw (e, lt-ltb len (at + n) (omega (arith, leb-false (at + n) len e)))

-- ---- memory after a used entry

module _ (m : List ℕ) (base N completed head len : ℕ) where
  pub length-posted : length (posted_of m base N completed head len) ≡ length m
  unfolding posted_at
  length-posted = rw (length-put 2, length-put 4, length-put 4)

  abbrev element_at : ℕ
  element_at = base + used_head_at N (completed % N)

  abbrev length_at : ℕ
  length_at = base + used_length_at N (completed % N)

  abbrev index_at : ℕ
  index_at = base + used_index_at N

  -- "Used flags are never written", nor is anything before them
  pub posted-before-index : (k a : ℕ) → a + k ≤ base + used_index_at N → le k (posted_of m base N completed head len) a ≡ le k m a
  unfolding posted_at
  posted-before-index k a h =
      le-put-other 2 k _ index_at _ a (inl h)
      ∙ le-put-other 4 k _ length_at _ a (inl (omega arith))
      ∙ le-put-other 4 k _ element_at _ a (inl (omega arith))

  -- where the region lies inside memory, what was written reads back
  module _ (some : 0 < N) (inside : base + end_at N ≤ length m) where
    pub used-index-reads : le 2 (posted_of m base N completed head len) (base + used_index_at N) ≡ next_of completed
    unfolding posted_at
    used-index-reads = le-put 2 _ index_at (next_of completed) (rw (length-put 4, length-put 4) (omega arith)) (omega arith)

    pub used-head-reads : head < 2 ^ 32 → le 4 (posted_of m base N completed head len) (base + used_head_at N (completed % N)) ≡ head
    unfolding posted_at
    used-head-reads h =
        le-put-other 2 4 _ index_at _ element_at (inr (omega arith))
        ∙ le-put-other 4 4 _ length_at _ element_at (inl (omega arith))
        ∙ le-put 4 _ element_at head (omega (arith, mod-lt completed some)) h

    pub used-length-reads : len < 2 ^ 32 → le 4 (posted_of m base N completed head len) (base + used_length_at N (completed % N)) ≡ len
    unfolding posted_at
    used-length-reads h =
        le-put-other 2 4 _ index_at _ length_at (inr (omega arith))
        ∙ le-put 4 _ length_at len (rw (length-put 4) (omega (arith, mod-lt completed some))) h

-- the length of memory never changes
pub length-completed :
    (m : List ℕ) (page : PageNumber) (N completed : ℕ) (head : DescriptorNumber) (len : ℕ) (reply : List Range) (offset : ℕ)
    (bytes : List ℕ) (n : ℕ)
    → length (completed_of m page N completed head len reply offset bytes n).memory ≡ length m
unfolding completed_of post_of
length-completed m page N completed head len reply offset bytes n = rw (length-posted, length-put_at)
