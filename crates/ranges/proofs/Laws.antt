-- Laws of joined ranges: lengths, one range more, how a part of the joined bytes splits at a range's border, and what lies
-- past the end of memory or of a buffer.
use borrow.Rule.Slice.PartMut.{put_mid}
use Rattle.std.proofs.lemmas.List.Edits.{sets-eq}
use Rattle.std.proofs.lemmas.Slice.{put_mid-paste}
use mathlib.Core.Path.{◌≡◌, refl, sym, ◌∙◌, ap}
use mathlib.Core.List.{List, [], ◌∷◌, ◌++◌, map, append_assoc, map-append}
use Prim.Native.Nat.{ℕ, zero, suc, ◌+◌, ◌-◌, ◌*◌, ◌≤◌, ◌<◌, min}
use native.Mathlib.Numerals.{add-one}
use native.Mathlib.Nat.{add-zero, zero-add, suc-add, sub-zero}
use native.Mathlib.Omega.{arith}
use lib.ListN.{length, get_or, set, take, drop, replicate, length-append, length-drop, length-set, length-map, get_or-eq_default}
use lib.Seq.{take-length, sets, set_out, drop-cons, take-nil, drop-nil, drop-drop, get_or-set_same, get_or-set_other}
use Rattle.ranges.specs.declared.Range.{Range}
use Rattle.ranges.specs.Ranges.{no_ranges, range_in, put_range, ranges_in, ranges_of, total, Sound, up_from, places, bytes_at, put_at}

-- ---- lengths and joins

pub length-up_from : (a n : ℕ) → length (up_from a n) ≡ n
unfolding up_from
length-up_from a zero = refl
length-up_from a (suc n) = rw (length-up_from (a + 1) n)

pub total-append : (xs ys : List Range) → total (xs ++ ys) ≡ total xs + total ys
unfolding total
total-append [] ys = omega arith
total-append (r ∷ rs) ys = rw (total-append rs ys) (omega arith)

pub places-append : (xs ys : List Range) → places (xs ++ ys) ≡ places xs ++ places ys
unfolding places
places-append [] ys = refl
places-append (r ∷ rs) ys = rw (places-append rs ys, append_assoc)

pub length-places : (rs : List Range) → length (places rs) ≡ total rs
unfolding places total
length-places [] = refl
length-places (r ∷ rs) = rw (length-append, length-up_from, length-places rs)

pub length-put_at : (m as' bs : List ℕ) → length (put_at m as' bs) ≡ length m
unfolding put_at
length-put_at m [] bs = refl
length-put_at m (a ∷ as') [] = refl
length-put_at m (a ∷ as') (b ∷ bs) = rw (length-put_at (set m a b) as' bs, length-set)

-- ---- ranges in a list of words

pub ranges_in-none : (ws : List ℕ) (i k : ℕ) → k ≡ 0 → ranges_in ws i k ≡ []
unfolding ranges_in
ranges_in-none ws i k h = rw h

pub ranges_in-more : (ws : List ℕ) (i n k : ℕ) → n ≡ k + 1 → ranges_in ws i n ≡ range_in ws i ∷ ranges_in ws (i + 1) k
unfolding ranges_in
ranges_in-more ws i n k h = rw (h, add-one k)

pub ranges_of-none : (ws : List ℕ) → ranges_of ws no_ranges ≡ []
ranges_of-none ws = ranges_in-none ws 0 0 refl

pub sound_none : (ws : List ℕ) → Sound ws no_ranges
unfolding total
sound_none ws = rw (ranges_of-none ws)

pub length-ranges_in : (ws : List ℕ) (i k : ℕ) → length (ranges_in ws i k) ≡ k
unfolding ranges_in
length-ranges_in ws i zero = refl
length-ranges_in ws i (suc k) = rw (length-ranges_in ws (i + 1) k)

pub length-put_range : (ws : List ℕ) (n : ℕ) (x : Range) → length (put_range ws n x) ≡ length ws
unfolding put_range
length-put_range ws n x = rw (length-set, length-set)

module _ (ws : List ℕ) (n : ℕ) (x : Range) where
  range-before : (i : ℕ) → i < n → range_in (put_range ws n x) i ≡ range_in ws i
  unfolding range_in put_range
  range-before i h =
      rw (
        get_or-set_other (set ws (2 * n) x.at.0) (2 * n + 1) (2 * i) x.len 0 (λ e. omega arith),
        get_or-set_other ws (2 * n) (2 * i) x.at.0 0 (λ e. omega arith),
        get_or-set_other (set ws (2 * n) x.at.0) (2 * n + 1) (2 * i + 1) x.len 0 (λ e. omega arith),
        get_or-set_other ws (2 * n) (2 * i + 1) x.at.0 0 (λ e. omega arith),
      )

  range-put : 2 * n + 1 < length ws → range_in (put_range ws n x) n ≡ x
  unfolding range_in put_range
  range-put h =
      rw (
        get_or-set_other (set ws (2 * n) x.at.0) (2 * n + 1) (2 * n) x.len 0 (λ e. omega arith),
        get_or-set_same ws (2 * n) x.at.0 0 (omega arith),
        get_or-set_same (set ws (2 * n) x.at.0) (2 * n + 1) x.len 0 (simp length-set (omega arith)),
      )

  -- a range put behind them leaves them as they are
  pub ranges_in-before : (k i : ℕ) → i + k ≤ n → ranges_in (put_range ws n x) i k ≡ ranges_in ws i k
  unfolding ranges_in
  ranges_in-before zero i h = refl
  ranges_in-before (suc k) i h = rw (range-before i (omega arith), ranges_in-before k (i + 1) (omega arith))

  -- right behind them it is one more
  pub ranges_in-snoc : (k i : ℕ) → i + k ≡ n → 2 * n + 1 < length ws → ranges_in (put_range ws n x) i (k + 1) ≡ ranges_in ws i k ++ (x ∷ [])
  unfolding ranges_in
  ranges_in-snoc zero i h room = let e : i ≡ n = omega arith in rw (e, range-put room)
  ranges_in-snoc (suc k) i h room =
      rw (
        ranges_in-more (put_range ws n x) i (suc k + 1) (k + 1) (omega arith),
        range-before i (omega arith),
        ranges_in-snoc k (i + 1) (omega arith) room,
      )

-- ---- parts of lists

module _ {A : Type 0} where
  pub take-append : (n : ℕ) (xs ys : List A) → take n (xs ++ ys) ≡ take n xs ++ take (n - length xs) ys
  take-append zero xs ys = let e : 0 - length xs ≡ 0 = omega arith in rw e
  take-append (suc n) [] ys = rw sub-zero
  take-append (suc n) (x ∷ xs) ys =
      let e : suc n - suc (length xs) ≡ n - length xs = omega arith in
      rw (e, take-append n xs ys)

  pub drop-append : (n : ℕ) (xs ys : List A) → drop n (xs ++ ys) ≡ drop n xs ++ drop (n - length xs) ys
  drop-append zero xs ys = let e : 0 - length xs ≡ 0 = omega arith in rw e
  drop-append (suc n) [] ys = rw sub-zero
  drop-append (suc n) (x ∷ xs) ys =
      let e : suc n - suc (length xs) ≡ n - length xs = omega arith in
      rw (e, drop-append n xs ys)

  pub take_min : (n k : ℕ) (xs : List A) → take (min n k) xs ≡ take k (take n xs)
  take_min n k [] = simp take-nil
  take_min zero k (x ∷ xs) = let e : min 0 k ≡ 0 = omega arith in rw (e, take-nil)
  take_min (suc n) zero (x ∷ xs) = let e : min (suc n) 0 ≡ 0 = omega arith in rw e
  take_min (suc n) (suc k) (x ∷ xs) = let e : min (suc n) (suc k) ≡ suc (min n k) = omega arith in rw (e, take_min n k xs)

  pub sets-append : (xs ys l : List A) (i : ℕ) → sets l i (xs ++ ys) ≡ sets (sets l i xs) (i + length xs) ys
  sets-append [] ys l i = rw add-zero
  sets-append (x ∷ xs) ys l i =
      let e : i + suc (length xs) ≡ suc i + length xs = omega arith in
      rw (sets-append xs ys (set l i x) (suc i), e)

  pub sets-past : (vs l : List A) (i : ℕ) → length l ≤ i → sets l i vs ≡ l
  sets-past [] l i h = refl
  sets-past (v ∷ vs) l i h = rw (set_out l i v h, sets-past vs l (suc i) (omega arith))

  -- what would go past the end may be left out
  pub sets-take : (k : ℕ) (vs l : List A) (i : ℕ) → length l ≤ i + k → sets l i (take k vs) ≡ sets l i vs
  sets-take k [] l i h = rw take-nil
  sets-take zero (v ∷ vs) l i h = sym (sets-past (v ∷ vs) l i (omega arith))
  sets-take (suc k) (v ∷ vs) l i h = sets-take k vs (set l i v) (suc i) (simp length-set (omega arith))

  pub map-take : {B : Type 0} (f : A → B) (k : ℕ) (xs : List A) → map f (take k xs) ≡ take k (map f xs)
  map-take f zero xs = refl
  map-take f (suc k) [] = refl
  map-take f (suc k) (x ∷ xs) = rw (map-take f k xs)

-- ---- addresses in a row

pub up_from-add : (a k n : ℕ) → up_from a (k + n) ≡ up_from a k ++ up_from (a + k) n
unfolding up_from
up_from-add a zero n = rw (zero-add, add-zero)
up_from-add a (suc k) n =
    let e : a + suc k ≡ a + 1 + k = omega arith in
    rw (suc-add, up_from-add (a + 1) k n, e)

-- the bytes at addresses in a row are a part of memory
pub bytes_at-up_from : (m : List ℕ) (a n : ℕ) → a + n ≤ length m → bytes_at m (up_from a n) ≡ take n (drop a m)
unfolding up_from
bytes_at-up_from m a zero h = refl
bytes_at-up_from m a (suc n) h = rw (bytes_at-up_from m (a + 1) n (omega arith), drop-cons m a 0 (omega arith), add-one)

pub take-up_from : (n a len : ℕ) → take n (up_from a len) ≡ up_from a (min len n)
unfolding up_from
take-up_from zero a len = let e : min len 0 ≡ 0 = omega arith in rw e
take-up_from (suc n) a zero = let e : min 0 (suc n) ≡ 0 = omega arith in rw e
take-up_from (suc n) a (suc len) = let e : min (suc len) (suc n) ≡ suc (min len n) = omega arith in rw (e, take-up_from n (a + 1) len)

pub drop-up_from : (n a len : ℕ) → drop n (up_from a len) ≡ up_from (a + min n len) (len - min n len)
unfolding up_from
drop-up_from zero a len = let e : min 0 len ≡ 0 = omega arith in rw (e, add-zero, sub-zero)
drop-up_from (suc n) a zero = let e : 0 - min (suc n) 0 ≡ 0 = omega arith in rw e
drop-up_from (suc n) a (suc len) =
    let e : a + min (suc n) (suc len) ≡ a + 1 + min n len = omega arith in
    let f : suc len - min (suc n) (suc len) ≡ len - min n len = omega arith in
    rw (e, f, drop-up_from n (a + 1) len)

-- no address at all is the same from anywhere
up_from-start : (n a b : ℕ) → (0 < n → a ≡ b) → up_from a n ≡ up_from b n
unfolding up_from
up_from-start zero a b h = refl
up_from-start (suc n) a b h = let e : a ≡ b = h (omega arith) in rw e

-- ---- the joined bytes, range by range

sub-min-left : (x y : ℕ) → x - min x y ≡ x - y
sub-min-left x y = omega arith

sub-min-right : (x y : ℕ) → y - min x y ≡ y - x
sub-min-right x y = omega arith

-- with `skip` addresses passed over and at most `left` taken: those of the first range, then those of the ranges behind it
split-first :
    (a len skip left : ℕ) (behind : List ℕ)
    → take left (drop skip (up_from a len ++ behind))
    ≡ up_from (a + min skip len) (min (len - min skip len) left)
    ++ take (left - min (len - min skip len) left) (drop (skip - min skip len) behind)
split-first a len skip left behind =
    let gone = min skip len in
    rw (
      drop-append,
      take-append,
      drop-up_from,
      take-up_from,
      length-up_from a len,
      length-up_from (a + gone) (len - gone),
      sub-min-right (len - gone) left,
      sub-min-left skip len,
    )

module _ (x : Range) (rest : List Range) (skip left gone k : ℕ) (g : gone ≡ min skip x.len) (h : k ≡ min (x.len - gone) left) where
  pub places-next :
      take left (drop skip (places (x ∷ rest)))
      ≡ up_from (x.at.0 + gone) k ++ take (left - k) (drop (skip - gone) (places rest))
  unfolding places
  places-next = rw (h, g, split-first)

-- a range that is passed over whole
pub places-skip : (x : Range) (rest : List Range) (skip left : ℕ) → x.len ≤ skip
    → take left (drop skip (places (x ∷ rest))) ≡ take left (drop (skip - x.len) (places rest))
unfolding up_from
places-skip x rest skip left h = places-next x rest skip left x.len 0 (omega arith) (omega arith) ∙ rw sub-zero

-- a range of which so many bytes are taken
pub places-within : (x : Range) (rest : List Range) (skip left k : ℕ) → skip < x.len → k ≡ min (x.len - skip) left
    → take left (drop skip (places (x ∷ rest))) ≡ up_from (x.at.0 + skip) k ++ take (left - k) (places rest)
places-within x rest skip left k h e =
    let none : skip - skip ≡ 0 = omega arith in
    places-next x rest skip left skip k (omega arith) e ∙ rw none

pub places-none : (skip left : ℕ) → take left (drop skip (places [])) ≡ []
unfolding places
places-none skip left = rw (drop-nil, take-nil)

-- ---- bytes written to addresses

pub put_at-nil : (m as' : List ℕ) → put_at m as' [] ≡ m
unfolding put_at
put_at-nil m [] = refl
put_at-nil m (a ∷ as') = refl

pub put_at-append : (m xs ys bs : List ℕ) → put_at m (xs ++ ys) bs ≡ put_at (put_at m xs bs) ys (drop (length xs) bs)
unfolding put_at
put_at-append m [] ys bs = refl
put_at-append m (x ∷ xs) ys [] = put_at-nil m (x ∷ xs ++ ys) ∙ sym (put_at-nil m ys)
put_at-append m (x ∷ xs) ys (b ∷ bs) = put_at-append (set m x b) xs ys bs

-- addresses that no byte is left for may be left out
pub put_at-take : (k : ℕ) (m as' bs : List ℕ) → length bs ≤ k → put_at m (take k as') bs ≡ put_at m as' bs
unfolding put_at
put_at-take k m [] bs h = rw take-nil
put_at-take k m (a ∷ as') [] h = put_at-nil m (take k (a ∷ as'))
put_at-take zero m (a ∷ as') (b ∷ bs) h = absurd (omega arith)
put_at-take (suc k) m (a ∷ as') (b ∷ bs) h = put_at-take k (set m a b) as' bs (omega arith)

-- ---- a run: one turn of the loops that copy and clear

pub copy-none : (n : ℕ) (d : List ℕ) (at : ℕ) (s : List ℕ) (from : ℕ) → n ≡ 0 → sets d at (bytes_at s (up_from from n)) ≡ d
unfolding up_from
copy-none n d at s from h = rw h

pub copy_more :
    (n k : ℕ) (d : List ℕ) (at : ℕ) (s : List ℕ) (from : ℕ)
    → n ≡ k + 1
    → sets d at (bytes_at s (up_from from n)) ≡ sets (set d at (get_or s from 0)) (at + 1) (bytes_at s (up_from (from + 1) k))
unfolding up_from
copy_more n k d at s from h = rw (h, add-one k, add-one at)

pub clear_none : (n : ℕ) (d : List ℕ) (at : ℕ) → n ≡ 0 → sets d at (replicate n 0) ≡ d
clear_none n d at h = rw h

pub clear-more : (n k : ℕ) (d : List ℕ) (at : ℕ) → n ≡ k + 1 → sets d at (replicate n 0) ≡ sets (set d at 0) (at + 1) (replicate k 0)
clear-more n k d at h = rw (h, add-one k, add-one at)

-- bytes copied in a row are bytes written to addresses in a row
pub copy-put_at :
    (n : ℕ) (m : List ℕ) (a : ℕ) (s : List ℕ) (from : ℕ)
    → from + n ≤ length s
    → sets m a (bytes_at s (up_from from n)) ≡ put_at m (up_from a n) (drop from s)
unfolding up_from put_at
copy-put_at zero m a s from h = refl
copy-put_at (suc n) m a s from h =
    copy_more (suc n) n m a s from (sym (add-one n))
    ∙ copy-put_at n (set m a (get_or s from 0)) (a + 1) s (from + 1) (omega arith)
    ∙ rw (drop-cons s from 0 (omega arith), add-one from)

-- ---- a run, and what stands behind it

module _ (m : List ℕ) (a k : ℕ) (behind : List ℕ) where
  pub gather-next :
      (dst : List ℕ) (d : ℕ)
      → sets dst d (bytes_at m (up_from a k ++ behind)) ≡ sets (sets dst d (bytes_at m (up_from a k))) (d + k) (bytes_at m behind)
  gather-next dst d = rw (map-append, sets-append, length-map, length-up_from)

  pub scatter-next :
      (src : List ℕ) (f : ℕ)
      → put_at m (up_from a k ++ behind) (drop f src) ≡ put_at (put_at m (up_from a k) (drop f src)) behind (drop (f + k) src)
  scatter-next src f = rw (put_at-append, length-up_from, drop-drop)

pub room_next : (d left x k len : ℕ) → d + left ≤ len → k ≡ min x left → d + k + (left - k) ≤ len
room_next d left x k len h e = omega arith

-- ---- past the end of memory

bytes_at-past : (n : ℕ) (m : List ℕ) (a : ℕ) → (0 < n → length m ≤ a) → bytes_at m (up_from a n) ≡ replicate n 0
unfolding up_from
bytes_at-past zero m a h = refl
bytes_at-past (suc n) m a h =
    let past : length m ≤ a = h (omega arith) in
    rw (get_or-eq_default m 0 past, bytes_at-past n m (a + 1) (λ _. omega arith))

put_at-past : (n : ℕ) (m : List ℕ) (a : ℕ) (bs : List ℕ) → (0 < n → length m ≤ a) → put_at m (up_from a n) bs ≡ m
unfolding up_from put_at
put_at-past zero m a bs h = refl
put_at-past (suc n) m a [] h = refl
put_at-past (suc n) m a (b ∷ bs) h =
    let past : length m ≤ a = h (omega arith) in
    ap (λ l. put_at l (up_from (a + 1) n) bs) (set_out m a b past) ∙ put_at-past n m (a + 1) bs (λ _. omega arith)

-- of n addresses from a on, p is the place of the first in memory, and k are inside
module _ (m : List ℕ) (a n p k : ℕ) (at : p ≡ min a (length m)) (inside : k ≡ min n (length m - p)) where
  up_from-place : up_from a n ≡ up_from p k ++ up_from (a + k) (n - k)
  up_from-place =
      let e : n ≡ k + (n - k) = omega arith in
      ap (up_from a) e ∙ up_from-add a k (n - k) ∙ rw (up_from-start k a p (λ h. omega arith))

  pub gather-place :
      (dst : List ℕ) (d : ℕ)
      → sets dst d (bytes_at m (up_from a n)) ≡ sets (sets dst d (bytes_at m (up_from p k))) (d + k) (replicate (n - k) 0)
  gather-place dst d =
      rw (
        up_from-place,
        gather-next m p k (up_from (a + k) (n - k)) dst d,
        bytes_at-past (n - k) m (a + k) (λ h. omega arith),
      )

  pub scatter-place :
      (src : List ℕ) (f : ℕ)
      → f + n ≤ length src
      → put_at m (up_from a n) (drop f src) ≡ sets m p (bytes_at src (up_from f k))
  scatter-place src f h =
      rw (
        up_from-place,
        scatter-next,
        put_at-past (n - k) (put_at m (up_from p k) (drop f src)) (a + k) _ (λ h. rw length-put_at (omega arith)),
        copy-put_at k m p src f (omega arith),
      )

-- ---- no more is moved than the buffer has

module _ (m : List ℕ) (n k : ℕ) (as' : List ℕ) where
  pub gather-room :
      (dst : List ℕ) (at : ℕ)
      → k ≡ min n (length dst - at)
      → sets dst at (bytes_at m (take k as')) ≡ sets dst at (bytes_at m (take n as'))
  gather-room dst at h =
      rw (
        h,
        take_min,
        map-take _ (length dst - at),
        sets-take (length dst - at) (bytes_at m (take n as')) dst at (omega arith),
      )

  pub scatter-room :
      (src : List ℕ) (from : ℕ)
      → k ≡ min n (length src - from)
      → put_at m (take k as') (drop from src) ≡ put_at m (take n as') (drop from src)
  scatter-room src from h =
      rw (h, take_min, put_at-take (length src - from) m (take n as') (drop from src) (simp length-drop (omega arith)))

-- ---- a part of a slice written as a whole

pub put_mid-sets : {A : Type 0} (a k : ℕ) (xs ys : List A) → length ys ≡ k → a + k ≤ length xs → put_mid a k xs ys ≡ sets xs a ys
put_mid-sets a k xs ys e h =
    rw (put_mid-paste a k xs ys ys k refl refl (sym e), sets-eq ys xs a (omega arith), e, ← e, take-length)
