-- The table of widths holds what is said of it: each width is tested, and the test is turned into the fact at any place.
use mathlib.Core.Path.{◌≡◌, refl}
use mathlib.Core.Bool.{Bool, true, false, ◌||◌, ◌&&◌, false≢true}
use mathlib.Core.List.{List, [], ◌∷◌}
use mathlib.Core.Logic.{◌⊎◌, inl, inr}
use Prim.Native.Nat.{ℕ, zero, suc, ◌<◌}
use native.Mathlib.Omega.{arith}
use borrow.Author.Tests.{eqb-true}
use lib.Dec.{eqb}
use lib.ListN.{length, get_or, get_or-eq_default}
use Rattle.formats.specs.Widths.{physical_widths, physical_bits, Width, Table}

abbrev is_width : ℕ → Bool
is_width b = eqb b 4 || (eqb b 8 || (eqb b 16 || (eqb b 24 || (eqb b 32 || eqb b 64))))

one-or : {A B : Type 0} (a b : Bool) → (a ≡ true → A) → (b ≡ true → B) → a || b ≡ true → A ⊎ B
one-or true b f g h = inl (f refl)
one-or false b f g h = inr (g h)

is-width : (b : ℕ) → is_width b ≡ true → Width b
is-width b =
    one-or _ _ (eqb-true b 4)
    (one-or _ _ (eqb-true b 8)
    (one-or _ _ (eqb-true b 16)
    (one-or _ _ (eqb-true b 24) (one-or _ _ (eqb-true b 32) (eqb-true b 64)))))

abbrev are_widths : List ℕ → Bool
are_widths [] = true
are_widths (b ∷ t) = is_width b && are_widths t

pub first : (a b : Bool) → a && b ≡ true → a ≡ true
first true b h = refl
first false b h = h

pub second : (a b : Bool) → a && b ≡ true → b ≡ true
second true b h = h
second false b h = absurd (false≢true h)

width-at : (l : List ℕ) (k : ℕ) → are_widths l ≡ true → k < length l → Width (get_or l k 0)
width-at [] k t h = absurd (omega arith)
width-at (b ∷ t) zero w h = is-width b (first (is_width b) (are_widths t) w)
width-at (b ∷ t) (suc k) w h = width-at t k (second (is_width b) (are_widths t) w) (omega arith)

pub table : Table
unfolding physical_bits
table = record {
  long = refl;
  each = λ f h. width-at physical_widths f refl h;
  past = λ f h. get_or-eq_default physical_widths 0 h;
}
