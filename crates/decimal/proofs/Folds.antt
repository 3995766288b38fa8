-- A fold over the bytes from a place on.
use mathlib.Core.Path.{◌≡◌}
use mathlib.Core.List.{List, foldl}
use Prim.Native.Nat.{ℕ, ◌+◌, ◌≤◌, ◌<◌}
use native.Mathlib.Numerals.{add-one}
use lib.ListN.{length, get_or, drop, drop_of_length-le}
use lib.Seq.{drop-cons}

module _ {A : Type 0} (f : A → ℕ → A) (a : A) (s : List ℕ) (i : ℕ) where
  pub fold_more : i < length s → foldl f a (drop i s) ≡ foldl f (f a (get_or s i 0)) (drop (i + 1) s)
  fold_more h = rw (add-one, drop-cons s i 0 h)

  pub fold_end : length s ≤ i → foldl f a (drop i s) ≡ a
  fold_end h = rw (drop_of_length-le s h)
