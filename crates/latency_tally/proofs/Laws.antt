-- Laws of records by their places.
use Rattle.std.proofs.Common.{◌≡◌, ℕ, zero, suc, ◌+◌, ◌-◌, ◌*◌, ◌<◌, ◌≤◌, List, []}
use Rattle.std.proofs.Common.{◌∷◌, get_or, drop, refl, ap, ◌∙◌, get_or-take, get_or-drop, add_assoc, add-one, arith}
use Rattle.std.specs.Simd.{first_chunks}
use Rattle.memory.specs.Bytes.{le}
use Rattle.latency_tally.specs.Records.{status, records}

-- eight bytes are two numbers of four
pub le-halves : (s : List ℕ) (at : ℕ) → le 4 s at + 4294967296 * le 4 s (at + 4) ≡ le 8 s at
unfolding le
le-halves s at = simp add_assoc (omega arith)

pub records-none : (n : ℕ) (s : List ℕ) (at : ℕ) → n ≡ 0 → records n s at ≡ []
unfolding records
records-none n s at h = rw h

pub records-more : (n k : ℕ) (s : List ℕ) (at : ℕ) → n ≡ k + 1
    → records n s at ≡ status (le 4 s at) (le 4 s (at + 4)) ∷ records k s (at + 8)
unfolding records
records-more n k s at h = rw (h, add-one)

-- ---- records that are chunks of eight bytes

chunk-byte : (k : ℕ) (s : List ℕ) (i j : ℕ) (x : List ℕ) → i < k → j < 8 → x ≡ get_or (first_chunks 8 k s) i []
    → get_or x j 0 ≡ get_or s (8 * i + j) 0
chunk-byte zero s i j x l h e = absurd (omega arith)
chunk-byte (suc k) s zero j x l h e =
    let f : 8 * 0 + j ≡ j = omega arith in
    rw f (ap (λ (y : List ℕ). get_or y j 0) e ∙ get_or-take 8 s j 0 h)
chunk-byte (suc k) s (suc i) j x l h e =
    let f : 8 * suc i + j ≡ 8 + (8 * i + j) = omega arith in
    rw (f, ← (get_or-drop 8 s (8 * i + j) 0)) (chunk-byte k (drop 8 s) i j x (omega arith) h e)

chunk-le : (n k : ℕ) (s : List ℕ) (i j : ℕ) (x : List ℕ) → i < k → j + n ≤ 8 → x ≡ get_or (first_chunks 8 k s) i []
    → le n x j ≡ le n s (8 * i + j)
unfolding le
chunk-le zero k s i j x l h e = refl
chunk-le (suc n) k s i j x l h e =
    let f : 8 * i + j + 1 ≡ 8 * i + (j + 1) = omega arith in
    rw (f, chunk-byte k s i j x l (omega arith) e, chunk-le n k s i (j + 1) x l (omega arith) e)

-- the records from chunk i on
pub records-chunk : (k : ℕ) (s : List ℕ) (i : ℕ) (x : List ℕ) → i < k → x ≡ get_or (first_chunks 8 k s) i []
    → records (k - i) s (8 * i) ≡ status (le 4 x 0) (le 4 x 4) ∷ records (k - (i + 1)) s (8 * (i + 1))
records-chunk k s i x l e =
    let f : 8 * i + 8 ≡ 8 * (i + 1) = omega arith in
    let z : 8 * i + 0 ≡ 8 * i = omega arith in
    rw (
      records-more (k - i) (k - (i + 1)) s (8 * i) (omega arith),
      chunk-le 4 k s i 0 x l (omega arith) e,
      chunk-le 4 k s i 4 x l (omega arith) e,
      z,
      f,
    )
