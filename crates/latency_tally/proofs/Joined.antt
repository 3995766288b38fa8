-- Blocks of whole records, one after the other, leave what the joined bytes leave; and that is what all bytes come to at once.
use Rattle.std.proofs.Common.{◌≡◌, ℕ, zero, suc, ◌+◌, ◌-◌, ◌*◌, ◌/◌, ◌%◌, ◌^◌, ◌<◌, ◌≤◌, List, [], ◌∷◌, ◌++◌, length, get_or, sym, refl}
use Rattle.std.proofs.Common.{ap, ◌∙◌, append_assoc, add-zero, add_assoc, suc-add, zero-add, arith, length-append, get_or-append-add}
use mathlib.Core.List.{foldl, foldl-append}
use lib.ListN.{get_or-append}
use Rattle.memory.specs.Bytes.{le}
use Rattle.memory.proofs.Laws.{le_same, le-bound}
use Rattle.latency_tally.specs.Records.{records, records_of}
use Rattle.latency_tally.specs.Tally.{with_record, opened, taken, tally_of, joined, Whole}
use Rattle.latency_tally.specs.declared.Input.{Input}
use Rattle.latency_tally.proofs.Exact.{Small, tally-exact}

-- ---- numbers in the front and in the back of joined bytes

le-front : (n : ℕ) (a b : List ℕ) (at : ℕ) → at + n ≤ length a → le n (a ++ b) at ≡ le n a at
le-front n a b at h = le_same n (a ++ b) a at (λ i p q. get_or-append a b 0 i (omega arith))

le-back : (n : ℕ) (a b : List ℕ) (at : ℕ) → le n (a ++ b) (length a + at) ≡ le n b at
unfolding le
le-back zero a b at = refl
le-back (suc k) a b at = rw (get_or-append-add, add_assoc, le-back k a b (at + 1))

-- ---- records in the front and in the back

pub length-records : (n : ℕ) (s : List ℕ) (at : ℕ) → length (records n s at) ≡ n
unfolding records
length-records zero s at = refl
length-records (suc k) s at = ap suc (length-records k s (at + 8))

records-front : (n : ℕ) (a b : List ℕ) (at : ℕ) → at + 8 * n ≤ length a → records n (a ++ b) at ≡ records n a at
unfolding records
records-front zero a b at h = refl
records-front (suc k) a b at h =
    rw (le-front 4 a b at (omega arith), le-front 4 a b (at + 4) (omega arith), records-front k a b (at + 8) (omega arith))

pub records-back : (n : ℕ) (a b : List ℕ) (at : ℕ) → records n (a ++ b) (length a + at) ≡ records n b at
unfolding records
records-back zero a b at = refl
records-back (suc k) a b at =
    rw (add_assoc (length a) at 4, add_assoc (length a) at 8, le-back 4 a b at, le-back 4 a b (at + 4), records-back k a b (at + 8))

records-split : (n m : ℕ) (s : List ℕ) (at : ℕ) → records (n + m) s at ≡ records n s at ++ records m s (at + 8 * n)
unfolding records
records-split zero m s at = rw (zero-add, add-zero)
records-split (suc n) m s at =
    let next : at + 8 + 8 * n ≡ at + 8 * suc n = omega arith in
    rw (suc-add, records-split n m s (at + 8), next)

-- whole records, and bytes behind them
pub records-joined : (a b : List ℕ) → length a % 8 ≡ 0
    → records (length (a ++ b) / 8) (a ++ b) 0 ≡ records (length a / 8) a 0 ++ records (length b / 8) b 0
records-joined a b h =
    let n : length (a ++ b) / 8 ≡ length a / 8 + length b / 8 = rw length-append (omega arith) in
    let e : 0 + 8 * (length a / 8) ≡ length a + 0 = omega arith in
    rw (
      n,
      records-split (length a / 8) (length b / 8) (a ++ b) 0,
      records-front (length a / 8) a b 0 (omega arith),
      e,
      records-back (length b / 8) a b 0,
    )

-- ---- blocks

pub taken_none : (i : Input) → i.bytes < 2 ^ 64 → i ≡ taken i []
unfolding records
taken_none i h = let n : (i.bytes + 0) % 2 ^ 64 ≡ i.bytes = omega arith in rw n

pub taken-joined : (i : Input) (a b : List ℕ) → length a % 8 ≡ 0 → taken (taken i a) b ≡ taken i (a ++ b)
taken-joined i a b h =
    let n : ((i.bytes + length a) % 2 ^ 64 + length b) % 2 ^ 64 ≡ (i.bytes + (length a + length b)) % 2 ^ 64 = omega arith in
    rw (records-joined a b h, foldl-append with_record, length-append, n)

pub taken-blocks : (i : Input) (blocks : List (List ℕ)) (last : List ℕ) → Whole blocks
    → taken (foldl taken i blocks) last ≡ taken i (joined blocks ++ last)
unfolding Whole joined
taken-blocks i [] last h = refl
taken-blocks i (b ∷ l) last h =
    taken-blocks (taken i b) l last h.1 ∙ taken-joined i b (joined l ++ last) h.0 ∙ rw append_assoc

-- ---- the whole input: 8 bytes, and the rest

records-small : (n : ℕ) (s : List ℕ) (at : ℕ) → ((i : ℕ) → get_or s i 0 < 256) → Small (records n s at)
unfolding records Small
records-small zero s at h = tt
records-small (suc k) s at h = (le-bound 4 s (at + 4) h, records-small k s (at + 8) h)

module _ (head rest : List ℕ) (eight : length head ≡ 8) where
  pub whole-bytes : length (head ++ rest) < 2 ^ 64 → (taken (opened head) rest).bytes ≡ length (head ++ rest)
  whole-bytes h = let l = length-append head rest in omega arith

  pub whole-mask : (taken (opened head) rest).mask ≡ le 8 (head ++ rest) 0
  whole-mask = sym (le-front 8 head rest 0 (omega arith))

  behind : records_of (head ++ rest) ≡ records (length rest / 8) rest 0
  unfolding records_of
  behind =
      let n : (length (head ++ rest) - 8) / 8 ≡ length rest / 8 = rw length-append (omega arith) in
      let e : 8 ≡ length head + 0 = omega arith in
      rw n (ap (λ (at : ℕ). records (length rest / 8) (head ++ rest) at) e ∙ records-back (length rest / 8) head rest 0)

  small : ((i : ℕ) → get_or (head ++ rest) i 0 < 256) → Small (records_of (head ++ rest))
  unfolding records_of
  small bytes = records-small ((length (head ++ rest) - 8) / 8) (head ++ rest) 8 bytes

  pub whole-tally : length (head ++ rest) ≤ 8000008 → ((i : ℕ) → get_or (head ++ rest) i 0 < 256)
      → (taken (opened head) rest).tally ≡ tally_of (records_of (head ++ rest))
  whole-tally h bytes =
      let few : length (records_of (head ++ rest)) ≤ 1000000 = rw (behind, length-records) (omega (arith, length-append head rest)) in
      rw (← behind) (tally-exact (records_of (head ++ rest)) few (small bytes))
