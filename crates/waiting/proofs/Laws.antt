-- Places of a ring, and the heads of a line with one more, or one fewer.
use mathlib.Core.Path.{◌≡◌, refl, sym, ap, subst, ◌∙◌}
use mathlib.Core.Logic.{◌≢◌}
use mathlib.Core.Bool.{Bool, true, false, cond}
use mathlib.Core.List.{List, [], ◌∷◌, ◌++◌}
use Prim.Native.Nat.{ℕ, zero, suc, ◌+◌, ◌-◌, ◌%◌, ◌≤◌, ◌<◌}
use native.Mathlib.Omega.{arith}
use borrow.Author.Tests.{lt-ltb, le-ltb, ltb-true, ltb-false}
use lib.Dec.{ltb}
use lib.ListN.{length, drop, get_or, set, length-set}
use lib.Seq.{get_or-set_same, get_or-set_other}
use Rattle.waiting.specs.Waiting.{place_behind, heads_from}

module _ (size : ℕ) where
  pub inside : (s n : ℕ) → s + n < size → place_behind size s n ≡ s + n
  inside s n l = rw (lt-ltb _ _ l)

  pub around : (s n : ℕ) → size ≤ s + n → place_behind size s n ≡ s + n - size
  around s n l = rw (le-ltb _ _ l)

  pub place_in : (s n : ℕ) → s < size → n ≤ size → place_behind size s n < size
  place_in s n f k = go (ltb (s + n) size) refl
    where
      go : (b : Bool) → ltb (s + n) size ≡ b → place_behind size s n < size
      go true e = rw e (ltb-true _ _ e)
      go false e = let o = ltb-false (s + n) size e in rw e (omega arith)

  -- one place on, and then n more
  pub place-next : (s n : ℕ) → s < size → n < size → place_behind size (place_behind size s 1) n ≡ place_behind size s (suc n)
  place-next s n f k = go (ltb (s + 1) size) refl
    where
      go : (b : Bool) → ltb (s + 1) size ≡ b → place_behind size (place_behind size s 1) n ≡ place_behind size s (suc n)
      go true e =
          let i = ltb-true (s + 1) size e in
          let same : s + 1 + n ≡ s + suc n = omega arith in
          rw (inside s 1 i, same)
      go false e =
          let o = ltb-false (s + 1) size e in
          rw (around s 1 o, inside (s + 1 - size) n (omega arith), around s (suc n) (omega arith)) (omega arith)

  -- no other place of the ring within one round
  pub place_other : (s n : ℕ) → s < size → suc n < size → place_behind size s (suc n) ≢ s
  place_other s n f k e = go (ltb (s + suc n) size) refl
    where
      go : (b : Bool) → ltb (s + suc n) size ≡ b → ⊥
      go true t = let i : s + suc n ≡ s = sym (inside s (suc n) (ltb-true _ _ t)) ∙ e in omega arith
      go false t =
          let o = ltb-false (s + suc n) size t in
          let i : s + suc n - size ≡ s = sym (around s (suc n) o) ∙ e in
          omega arith

  -- the place behind the last is stored: the heads, and this one behind them
  pub heads-join : (ring : List ℕ) (s n head : ℕ) → length ring ≡ size → s < size → n < size → head < 65536
      → heads_from size (set ring (place_behind size s n) head) s (suc n) ≡ heads_from size ring s n ++ head ∷ []
  unfolding heads_from
  heads-join ring s zero head l f k w =
      let here : place_behind size s 0 ≡ s = inside s 0 (omega arith) ∙ omega arith in
      let narrow : head % 65536 ≡ head = omega arith in
      rw (here, get_or-set_same ring s head 0 (omega arith), narrow)
  heads-join ring s (suc n) head l f k w =
      let p = place_behind size s (suc n) in
      let rest = heads-join ring (place_behind size s 1) n head l (place_in s 1 f (omega arith)) (omega arith) w in
      let other : get_or (set ring p head) s 0 ≡ get_or ring s 0 =
      get_or-set_other ring p s head 0 (λ e. place_other s n f k (sym e)) in
      rw other (ap (λ hs. get_or ring s 0 % 65536 ∷ hs) (subst (λ (q : ℕ). heads_from size (set ring q head) (place_behind size s 1)
      (suc n) ≡ heads_from size ring (place_behind size s 1) n ++ head ∷ []) (place-next s n f (omega arith)) rest))

  -- somebody waits: the front, and those behind it
  pub heads-front : (ring : List ℕ) (s n : ℕ) → 0 < n → heads_from size ring s n ≡ get_or ring s 0 % 65536
      ∷ drop 1 (heads_from size ring s n)
  unfolding heads_from
  heads-front ring s zero k = absurd (omega arith)
  heads-front ring s (suc n) k = refl

  -- the front has left
  pub heads-leave : (ring : List ℕ) (s n : ℕ) → 0 < n
      → heads_from size ring (place_behind size s 1) (n - 1) ≡ drop 1 (heads_from size ring s n)
  unfolding heads_from
  heads-leave ring s zero k = absurd (omega arith)
  heads-leave ring s (suc n) k = let fewer : suc n - 1 ≡ n = omega arith in rw fewer

  pub heads-none : (ring : List ℕ) (s n : ℕ) → n ≡ 0 → heads_from size ring s n ≡ drop 1 (heads_from size ring s n)
  unfolding heads_from
  heads-none ring s n e = rw e
