-- Laws of the lists: a format is one of the four or none, the numbers of each list are bounded, and the search for a rate finds its place.
use mathlib.Core.Path.{◌≡◌, refl}
use mathlib.Core.Bool.{Bool, true, false, cond, ◌&&◌}
use mathlib.Core.List.{List, [], ◌∷◌}
use Prim.Native.Nat.{ℕ, zero, suc, ◌+◌, ◌≤◌}
use native.Mathlib.Omega.{arith}
use borrow.Author.Tests.{leb-true, ltb-false}
use lib.Dec.{eqb, leb, ltb}
use lib.ListN.{length, get_or}
use Rattle.std.proofs.Common.{Option, None, Some, not}
use Rattle.std.specs.Option.{MatchOption}
use Rattle.std.specs.List.{position, position_or_len}
use Rattle.formats.proofs.Table.{first, second}
use Rattle.formats.specs.Widths.{physical_bits}
use Rattle.wave.specs.Lists.{listed, bits_of, rates, hz_of, place, rate_with}

-- ---- the formats

-- what holds of the four, and of none, holds of the format where it is in the list
pub listed-holds : (P : ℕ → Type 0) (f : ℕ) → P 4 → P 5 → P 11 → P 17 → P 25 → P (listed f)
unfolding listed
listed-holds P f p4 p5 p11 p17 p25 = by4 (eqb f 4)
  where
    by17 : (t : Bool) → P (cond t 17 25)
    by17 true = p17
    by17 false = p25

    by11 : (t : Bool) → P (cond t 11 (cond (eqb f 17) 17 25))
    by11 true = p11
    by11 false = by17 (eqb f 17)

    by5 : (t : Bool) → P (cond t 5 (cond (eqb f 11) 11 (cond (eqb f 17) 17 25)))
    by5 true = p5
    by5 false = by11 (eqb f 11)

    by4 : (t : Bool) → P (cond t 4 (cond (eqb f 5) 5 (cond (eqb f 11) 11 (cond (eqb f 17) 17 25))))
    by4 true = p4
    by4 false = by5 (eqb f 5)

pub bits-bound : (f : ℕ) → bits_of f ≤ 32
unfolding physical_bits
bits-bound f = listed-holds (λ g. physical_bits g ≤ 32) f (omega arith) (omega arith) (omega arith) (omega arith) (omega arith)

-- ---- the rates

bounded : List ℕ → Bool
bounded [] = true
bounded (x ∷ l) = leb x 384000 && bounded l

bounded_at : (l : List ℕ) (k : ℕ) → bounded l ≡ true → get_or l k 0 ≤ 384000
unfolding bounded
bounded_at [] k t = omega arith
bounded_at (x ∷ l) zero t = leb-true x 384000 (first (leb x 384000) (bounded l) t)
bounded_at (x ∷ l) (suc k) t = bounded_at l k (second (leb x 384000) (bounded l) t)

pub hz-bound : (r : ℕ) → hz_of r ≤ 384000
unfolding hz_of bounded
hz-bound r = bounded_at rates r refl

-- ---- the search for a rate

place-position : (hz : ℕ) (l : List ℕ) → position_or_len (λ x. eqb hz x) l ≡ place hz l
place-position hz [] = refl
place-position hz (x ∷ l) = rw (place-position hz l) (by (eqb hz x))
  where
    by : (t : Bool) → cond (not t) (1 + place hz l) 0 ≡ cond t 0 (1 + place hz l)
    by true = refl
    by false = refl

place-bound : (hz : ℕ) (l : List ℕ) → place hz l ≤ length l
place-bound hz [] = omega arith
place-bound hz (x ∷ l) = by (eqb hz x) (place-bound hz l)
  where
    by : (t : Bool) → place hz l ≤ length l → cond t 0 (1 + place hz l) ≤ suc (length l)
    by true h = omega arith
    by false h = omega arith

-- the rate's place, or 14 where there is none
pub rate_found : (hz r : ℕ) (o : Option ℕ) → o ≡ position (λ x. eqb hz x) rates → MatchOption o (r ≡ 14) (λ i. r ≡ i) → r ≡ rate_with hz
unfolding rate_with
rate_found hz r o e h = by (ltb (place hz rates) 14) refl (rw (e, place-position hz rates) at h)
  where
    by : (t : Bool) → ltb (place hz rates) 14 ≡ t → MatchOption (cond t (Some (place hz rates)) None) (r ≡ 14) (λ i. r ≡ i)
        → r ≡ place hz rates
    by true l m = m
    by false l m = omega (arith, place-bound hz rates, ltb-false (place hz rates) 14 l)
