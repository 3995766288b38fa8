-- Laws of numbers in memory, each once over the width: the loops' equations, bounds, what lies past the end, and reading back.
use mathlib.Core.Path.{◌≡◌, refl}
use mathlib.Core.List.{List}
use mathlib.Core.Logic.{◌⊎◌, inl, inr}
use mathlib.Core.Bool.{Bool, true, false}
use borrow.Author.Tests.{leb-true, leb-false}
use lib.Dec.{leb}
use Prim.Native.Nat.{ℕ, zero, suc, ◌+◌, ◌*◌, ◌/◌, ◌%◌, ◌^◌, ◌≤◌, ◌<◌, min}
use native.Mathlib.Numerals.{add-one}
use native.Mathlib.Nat.{zero-add, add-zero, suc-add, mul_assoc, div-one, div-div-eq-div-mul, pow-suc, pow-succ', pow-le-pow_right}
use native.Mathlib.Nat.{lt_of_lt_of_le, min-eq_left, min-eq_right}
use native.Mathlib.Omega.{arith}
use Rattle.std.proofs.Math.Arith.{mod-mul}
use lib.ListN.{length, get_or, set, length-set, get_or-eq_default}
use lib.Seq.{get_or-set_same, get_or-set_other, set_out}
use Rattle.memory.specs.Bytes.{le, put}

-- ---- one turn of the loops

pub le-none : (n : ℕ) (m : List ℕ) (at : ℕ) → n ≡ 0 → le n m at ≡ 0
unfolding le
le-none n m at h = rw h

pub le-more : (n k : ℕ) (m : List ℕ) (at : ℕ) → n ≡ k + 1 → le n m at ≡ get_or m at 0 + 256 * le k m (at + 1)
unfolding le
le-more n k m at h = rw (h, add-one)

pub put-none : (n : ℕ) (m : List ℕ) (at v : ℕ) → n ≡ 0 → put n m at v ≡ m
unfolding put
put-none n m at v h = rw h

pub put-more : (n k : ℕ) (m : List ℕ) (at v : ℕ) → n ≡ k + 1 → put n m at v ≡ put k (set m at (v % 256)) (at + 1) (v / 256)
unfolding put
put-more n k m at v h = rw (h, add-one)

-- ---- two numbers side by side are one

pub le-cat : (a b : ℕ) (m : List ℕ) (at : ℕ) → le (a + b) m at ≡ le a m at + 256 ^ a * le b m (at + a)
unfolding le
le-cat zero b m at = rw (zero-add, add-zero) (omega arith)
le-cat (suc a) b m at =
    let e : at + suc a ≡ at + 1 + a = omega arith in
    let p : 256 ^ suc a * le b m (at + 1 + a) ≡ 256 * (256 ^ a * le b m (at + 1 + a)) = rw (pow-succ' 256 a, mul_assoc) in
    rw (suc-add, e, p, le-cat a b m (at + 1)) (omega arith)

pub put-cat : (a b : ℕ) (m : List ℕ) (at v : ℕ) → put (a + b) m at v ≡ put b (put a m at v) (at + a) (v / 256 ^ a)
unfolding put
put-cat zero b m at v = rw (zero-add, add-zero, div-one)
put-cat (suc a) b m at v =
    let e : at + suc a ≡ at + 1 + a = omega arith in
    rw (suc-add, e, pow-succ' 256 a, ← (div-div-eq-div-mul v 256 (256 ^ a)), put-cat a b (set m at (v % 256)) (at + 1) (v / 256))

-- ---- bounds

pub length-put : (n : ℕ) (m : List ℕ) (at v : ℕ) → length (put n m at v) ≡ length m
unfolding put
length-put zero m at v = refl
length-put (suc k) m at v = rw (length-put k, length-set)

pub le-bound : (n : ℕ) (m : List ℕ) (at : ℕ) → ((i : ℕ) → get_or m i 0 < 256) → le n m at < 256 ^ n
unfolding le
le-bound zero m at h = omega arith
le-bound (suc k) m at h = rw pow-suc (omega (arith, h at, le-bound k m (at + 1) h))

pub le-fits : (n k : ℕ) (m : List ℕ) (at : ℕ) → ((i : ℕ) → get_or m i 0 < 256) → n ≤ k → le n m at < 256 ^ k
le-fits n k m at h b = lt_of_lt_of_le (le-bound n m at h) (pow-le-pow_right (omega arith) b)

-- ---- past the end

pub le-past : (n : ℕ) (m : List ℕ) (at : ℕ) → length m ≤ at → le n m at ≡ 0
unfolding le
le-past zero m at h = refl
le-past (suc k) m at h = rw (get_or-eq_default m 0 h, le-past k m (at + 1) (omega arith))

pub put-past : (n : ℕ) (m : List ℕ) (at v : ℕ) → length m ≤ at → put n m at v ≡ m
unfolding put
put-past zero m at v h = refl
put-past (suc k) m at v h = rw (set_out m at (v % 256) h, put-past k m (at + 1) (v / 256) (omega arith))

-- the place in memory, or its end, serves as well as the address
module _ (n : ℕ) (m : List ℕ) (at : ℕ) where
  pub le-place : le n m (min at (length m)) ≡ le n m at
  le-place = by (leb at (length m)) refl where
    by : (b : Bool) → leb at (length m) ≡ b → le n m (min at (length m)) ≡ le n m at
    by true h = rw (min-eq_left (leb-true at (length m) h))
    by false h = rw (min-eq_right (past h), le-past n m at (past h), le-past n m (length m) (omega arith)) where
      past : leb at (length m) ≡ false → length m ≤ at
      past e = omega (arith, leb-false at (length m) e)

  pub put-place : (v : ℕ) → put n m (min at (length m)) v ≡ put n m at v
  put-place v = by (leb at (length m)) refl where
    by : (b : Bool) → leb at (length m) ≡ b → put n m (min at (length m)) v ≡ put n m at v
    by true h = rw (min-eq_left (leb-true at (length m) h))
    by false h = rw (min-eq_right (past h), put-past n m at v (past h), put-past n m (length m) v (omega arith)) where
      past : leb at (length m) ≡ false → length m ≤ at
      past e = omega (arith, leb-false at (length m) e)

-- ---- a byte before or after those that were put

pub get_d-put : (n : ℕ) (m : List ℕ) (at v i : ℕ) → i < at → get_or (put n m at v) i 0 ≡ get_or m i 0
unfolding put
get_d-put zero m at v i h = refl
get_d-put (suc k) m at v i h =
    rw (get_d-put k (set m at (v % 256)) (at + 1) (v / 256) i (omega arith), get_or-set_other m at i (v % 256) 0 (λ e. omega arith))

pub get_d-put-above : (n : ℕ) (m : List ℕ) (at v i : ℕ) → at + n ≤ i → get_or (put n m at v) i 0 ≡ get_or m i 0
unfolding put
get_d-put-above zero m at v i h = refl
get_d-put-above (suc k) m at v i h =
    rw (get_d-put-above k (set m at (v % 256)) (at + 1) (v / 256) i (omega arith), get_or-set_other m at i (v % 256) 0 (λ e. omega arith))

-- ---- reading back what was put, and a number elsewhere

pub le-put : (n : ℕ) (m : List ℕ) (at v : ℕ) → at + n ≤ length m → v < 256 ^ n → le n (put n m at v) at ≡ v
unfolding le put
le-put zero m at v h b = omega arith
le-put (suc k) m at v h b =
    let q : v < 256 ^ k * 256 = rw pow-suc at b in
    rw (
      get_d-put k (set m at (v % 256)) (at + 1) (v / 256) at (omega arith),
      get_or-set_same m at (v % 256) 0 (omega arith),
      le-put k (set m at (v % 256)) (at + 1) (v / 256) (simp length-set (omega arith)) (omega arith),
    ) (omega arith)

pub le_same : (n : ℕ) (l m : List ℕ) (at : ℕ) → ((i : ℕ) → at ≤ i → i < at + n → get_or l i 0 ≡ get_or m i 0) → le n l at ≡ le n m at
unfolding le
le_same zero l m at h = refl
le_same (suc k) l m at h = rw (h at (omega arith) (omega arith), le_same k l m (at + 1) (λ i a b. h i (omega arith) (omega arith)))

pub le-put-other : (n k : ℕ) (m : List ℕ) (at v a : ℕ) → (a + k ≤ at) ⊎ (at + n ≤ a) → le k (put n m at v) a ≡ le k m a
le-put-other n k m at v a (inl h) = le_same k (put n m at v) m a (λ i x y. get_d-put n m at v i (omega arith))
le-put-other n k m at v a (inr h) = le_same k (put n m at v) m a (λ i x y. get_d-put-above n m at v i (omega arith))

pos : (k : ℕ) → 0 < 256 ^ k
pos zero = omega arith
pos (suc k) = rw pow-suc (omega (arith, pos k))

-- of a number only the bytes that are put count
pub put-low : (n : ℕ) (m : List ℕ) (at v : ℕ) → put n m at (v % 256 ^ n) ≡ put n m at v
unfolding put
put-low zero m at v = refl
put-low (suc k) m at v =
    let high = v / 256 % 256 ^ k in
    let e : v % 256 ^ suc k ≡ high * 256 + v % 256 = rw pow-suc (mod-mul v (omega (arith, pos k)) (omega arith)) in
    let low : (high * 256 + v % 256) % 256 ≡ v % 256 = omega arith in
    let rest : (high * 256 + v % 256) / 256 ≡ high = omega arith in
    rw (e, low, rest) (put-low k (set m at (v % 256)) (at + 1) (v / 256))

-- where the bytes are all put, or lie past the end, nothing more is
pub put-over : (n : ℕ) (m : List ℕ) (at v : ℕ) → (at < length m → n ≡ 0) → put n m at v ≡ m
put-over n m at v h = by (leb (length m) at) refl where
  by : (b : Bool) → leb (length m) at ≡ b → put n m at v ≡ m
  by true e = put-past n m at v (leb-true _ _ e)
  by false e = put-none n m at v (h (omega (arith, leb-false _ _ e)))
