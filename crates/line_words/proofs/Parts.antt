-- A part of a list put back: it stands there, and what lies before and behind it is as it was. So for the parts of a slot, and for
-- a slot of the words.
use mathlib.Core.Path.{◌≡◌, ◌∙◌, sym, ap}
use mathlib.Core.List.{List, [], ◌∷◌, ◌++◌}
use mathlib.Core.Logic.{◌⊎◌, inl, inr}
use Prim.Native.Nat.{ℕ, zero, suc, ◌+◌, ◌-◌, ◌*◌, ◌≤◌, ◌<◌}
use native.Mathlib.Nat.{mul-le-mul_left}
use native.Mathlib.Omega.{arith}
use lib.ListN.{length, take, drop, length-drop}
use lib.Seq.{length-take-le, take-take, drop-drop, take-nil, take_at, drop_at}
use borrow.Rule.Slice.PartMut.{put_mid, post_of, take_put, drop_put, same_len_mid}
use Rattle.line_words.specs.Slots.{slot_of, chain_in, marks_in, ring_in}

part-below : (n j a : ℕ) (xs : List ℕ) → j + n ≤ a → take n (drop j (take a xs)) ≡ take n (drop j xs)
part-below n zero a xs h = take-take n a xs (omega arith)
part-below n (suc j) a [] h = rw take-nil
part-below n (suc j) zero (x ∷ xs) h = absurd (omega arith)
part-below n (suc j) (suc a) (x ∷ xs) h = part-below n j a xs (omega arith)

pub part-long : (a k : ℕ) (xs : List ℕ) → a + k ≤ length xs → length (take k (drop a xs)) ≡ k
part-long a k xs h = length-take-le k (drop a xs) (rw length-drop (omega arith))

module _ (a k : ℕ) (xs ys : List ℕ) (room : a + k ≤ length xs) (l : length ys ≡ k) where
  pub put-long : length (put_mid a k xs ys) ≡ length xs
  put-long = same_len_mid a k xs ys (l ∙ sym (part-long a k xs room))

  pub put-here : take k (drop a (put_mid a k xs ys)) ≡ ys
  put-here =
      ap (take k) (drop_at (take a xs) (ys ++ post_of a k xs) a (length-take-le a xs (omega arith)))
      ∙ take_at ys (post_of a k xs) k l

  pub put-before : (j n : ℕ) → j + n ≤ a → take n (drop j (put_mid a k xs ys)) ≡ take n (drop j xs)
  put-before j n h =
      sym (part-below n j a (put_mid a k xs ys) h)
      ∙ ap (λ (z : List ℕ). take n (drop j z)) (take_put a k xs ys (omega arith))
      ∙ part-below n j a xs h

  pub put-behind : (j : ℕ) → a + k ≤ j → drop j (put_mid a k xs ys) ≡ drop j xs
  put-behind j h =
      let e : ℕ = a + k in
      let d : ℕ = j - (a + k) in
      let at : e + d ≡ j = omega arith in
      let ke : k ≡ e - a = omega arith in
      ap (λ (n : ℕ). drop n (put_mid a k xs ys)) (sym at)
      ∙ sym (drop-drop d e (put_mid a k xs ys))
      ∙ ap (drop d) (ap (λ (n : ℕ). drop e (put_mid a n xs ys)) ke ∙ drop_put a e xs ys (omega arith) room (l ∙ ke))
      ∙ drop-drop d e xs
      ∙ ap (λ (n : ℕ). drop n xs) at

-- ---- a slot

abbrev pub with_ring : List ℕ → List ℕ → List ℕ
with_ring s ys = put_mid 79 (length s - 79) s ys

abbrev pub with_marks : List ℕ → List ℕ → List ℕ
with_marks s ys = put_mid 68 11 s ys

abbrev pub with_chain : List ℕ → List ℕ → List ℕ
with_chain s ys = put_mid 0 68 s ys

module _ (s ys : List ℕ) (long : 79 ≤ length s) where
  -- another ring
  module _ (l : length ys ≡ length s - 79) where
    pub ring_long : length (with_ring s ys) ≡ length s
    ring_long = put-long 79 (length s - 79) s ys (omega arith) l

    pub ring-here : ring_in (with_ring s ys) ≡ ys
    ring-here = rw ring_long (put-here 79 (length s - 79) s ys (omega arith) l)

    pub ring-chain : chain_in (with_ring s ys) ≡ chain_in s
    ring-chain = put-before 79 (length s - 79) s ys (omega arith) l 0 68 (omega arith)

    pub ring-marks : marks_in (with_ring s ys) ≡ marks_in s
    ring-marks = put-before 79 (length s - 79) s ys (omega arith) l 68 11 (omega arith)

  -- other marks
  module _ (l : length ys ≡ 11) where
    pub marks-long : length (with_marks s ys) ≡ length s
    marks-long = put-long 68 11 s ys (omega arith) l

    pub marks-here : marks_in (with_marks s ys) ≡ ys
    marks-here = put-here 68 11 s ys (omega arith) l

    pub marks-chain : chain_in (with_marks s ys) ≡ chain_in s
    marks-chain = put-before 68 11 s ys (omega arith) l 0 68 (omega arith)

    pub marks-ring : ring_in (with_marks s ys) ≡ ring_in s
    marks-ring = rw (marks-long, put-behind 68 11 s ys (omega arith) l 79 (omega arith))

  -- another chain
  module _ (l : length ys ≡ 68) where
    pub chain-long : length (with_chain s ys) ≡ length s
    chain-long = put-long 0 68 s ys (omega arith) l

    pub chain-here : chain_in (with_chain s ys) ≡ ys
    chain-here = put-here 0 68 s ys (omega arith) l

    pub chain-marks : marks_in (with_chain s ys) ≡ marks_in s
    chain-marks = rw (put-behind 0 68 s ys (omega arith) l 68 (omega arith))

    pub chain-ring : ring_in (with_chain s ys) ≡ ring_in s
    chain-ring = rw (chain-long, put-behind 0 68 s ys (omega arith) l 79 (omega arith))

-- ---- a slot of the words

abbrev pub with_slot : ℕ → ℕ → List ℕ → List ℕ → List ℕ
with_slot size i ws ys = put_mid (size * i) size ws ys

-- slot i ends where the next begins
pub slot-room : (size i n : ℕ) → i < n → size * i + size ≤ size * n
slot-room size i n h =
    let e : size * (i + 1) ≡ size * i + size = omega arith in
    let m : size * (i + 1) ≤ size * n = mul-le-mul_left size (omega arith) in
    omega (arith, e, m)

pub slot-long : (size i : ℕ) (ws : List ℕ) → size * i + size ≤ length ws → length (slot_of size ws i) ≡ size
unfolding slot_of
slot-long size i ws h = part-long (size * i) size ws h

module _ (size id : ℕ) (ws ys : List ℕ) (room : size * id + size ≤ length ws) (l : length ys ≡ size) where
  pub slot-here : slot_of size (with_slot size id ws ys) id ≡ ys
  unfolding slot_of
  slot-here = put-here (size * id) size ws ys room l

  pub slot-other : (i : ℕ) → (i < id) ⊎ (id < i) → slot_of size (with_slot size id ws ys) i ≡ slot_of size ws i
  unfolding slot_of
  slot-other i (inl h) = put-before (size * id) size ws ys room l (size * i) size (slot-room size i id h)
  slot-other i (inr h) = ap (take size) (put-behind (size * id) size ws ys room l (size * i) (slot-room size id i h))
