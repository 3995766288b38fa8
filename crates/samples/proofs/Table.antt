-- The mu-law table's rule, proved once over the whole table: a test that is computed at each entry, and a law that turns it into the rule
-- at any one.
use Rattle.std.proofs.Common.{◌≡◌, ℕ, zero, suc, ◌+◌, ◌<◌, Bool, true, false, T, eqb, List, [], ◌∷◌, length, get_or, ℤ, pos, negsuc}
use Rattle.std.proofs.Common.{sym, ap, ◌∙◌, ⊎_elim, le_of_suc-le-suc, add-zero, add-suc, suc-add, eq-or-lt_of_le, zero-add, arith, eqb→eq}
use Rattle.samples.specs.MuLaw.{mu_law, MuLawTable}

abbrev both : Bool → Bool → Bool
both true b = b
both false b = false

both_left : (a b : Bool) → T (both a b) → T a
both_left true b t = tt
both_left false b t = t

both_right : (a b : Bool) → T (both a b) → T b
both_right true b t = t
both_right false b t = absurd t

abbrev pub same : ℤ → ℤ → Bool
same (pos a) (pos b) = eqb a b
same (negsuc a) (negsuc b) = eqb a b
same (pos a) (negsuc b) = false
same (negsuc a) (pos b) = false

pub same-eq : (a b : ℤ) → T (same a b) → a ≡ b
same-eq (pos a) (pos b) t = ap pos (eqb→eq a b t)
same-eq (negsuc a) (negsuc b) t = ap negsuc (eqb→eq a b t)
same-eq (pos a) (negsuc b) t = absurd t
same-eq (negsuc a) (pos b) t = absurd t

-- a test passes at each number below n
abbrev pub below : ℕ → (ℕ → Bool) → Bool
below zero f = true
below (suc n) f = both (f n) (below n f)

pub below_at : (n : ℕ) (f : ℕ → Bool) → T (below n f) → (k : ℕ) → k < n → T (f k)
below_at zero f t k h = absurd (omega arith)
below_at (suc n) f t k h =
    ⊎_elim
    (λ e. rw e (both_left (f n) (below n f) t))
    (λ l. below_at n f (both_right (f n) (below n f) t) k l)
    (eq-or-lt_of_le (le_of_suc-le-suc h))

-- each entry is the number of its place, counted from i
abbrev pub right : ℕ → List ℤ → Bool
right i [] = true
right i (z ∷ zs) = both (same z (mu_law i)) (right (suc i) zs)

right-from : (zs : List ℤ) (i k : ℕ) → T (right i zs) → k < length zs → get_or zs k (pos 0) ≡ mu_law (i + k)
right-from [] i k t h = absurd (omega arith)
right-from (z ∷ zs) i zero t h = rw (add-zero i) (same-eq z (mu_law i) (both_left (same z (mu_law i)) (right (suc i) zs) t))
right-from (z ∷ zs) i (suc k) t h =
    right-from zs (suc i) k (both_right (same z (mu_law i)) (right (suc i) zs) t) (omega arith)
    ∙ ap mu_law (suc-add i k ∙ sym (add-suc i k))

pub table-right : (zs : List ℤ) → T (right 0 zs) → length zs ≡ 256 → MuLawTable zs
table-right zs t e = record {
  long = e;
  entry = λ k h. right-from zs 0 k t (omega arith) ∙ ap mu_law (zero-add k);
}
