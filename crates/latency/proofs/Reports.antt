-- What is printed is the report of all bytes read, in whatever blocks of whole records they came.
use mathlib.Core.Path.{◌≡◌, refl}
use mathlib.Core.Bool.{Bool, true, false, cond}
use mathlib.Core.List.{List, ◌++◌, foldl}
use Prim.Native.Nat.{ℕ, ◌-◌, ◌/◌, ◌%◌, ◌^◌, ◌≤◌, ◌<◌}
use native.Mathlib.Omega.{arith}
use borrow.Author.Tests.{lt-ltb, le-ltb, ltb-false}
use lib.Dec.{eqb, ltb}
use lib.ListN.{length, length-append}
use Rattle.latency_tally.specs.Records.{records_of}
use Rattle.latency_tally.specs.Tally.{opened, taken, joined, Whole}
use Rattle.latency_tally.proofs.Joined.{length-records, taken-blocks, whole-bytes, whole-mask, whole-tally}
use Rattle.latency.specs.Reading.{Bytes}
use Rattle.latency.specs.Report.{refusal_text, judged, report_of, input_text}

-- what is not refused has a mask and no record too many
judged-same : (n : ℕ) (a b : List ℕ) → (8 ≤ n → n ≤ 8000008 → a ≡ b) → judged n a ≡ judged n b
unfolding judged
judged-same n a b h = by (ltb n 8) (ltb 8000008 n) refl refl where
  by : (x y : Bool) → ltb n 8 ≡ x → ltb 8000008 n ≡ y
      → cond x (refusal_text 50) (cond y (refusal_text 51) (cond (eqb (n % 8) 0) a (refusal_text 52)))
      ≡ cond x (refusal_text 50) (cond y (refusal_text 51) (cond (eqb (n % 8) 0) b (refusal_text 52)))
  by true y p q = refl
  by false true p q = refl
  by false false p q = rw (h (ltb-false n 8 p) (ltb-false 8000008 n q))

-- an input that ended before the mask did
pub report-short : (head : List ℕ) → length head < 8 → input_text (opened head) ≡ report_of head
unfolding input_text report_of
report-short head h = judged-same (length head) _ _ (λ p q. absurd (omega arith))

length-records_of : (s : List ℕ) → length (records_of s) ≡ (length s - 8) / 8
unfolding records_of
length-records_of s = length-records ((length s - 8) / 8) s 8

-- the mask, and all bytes behind it at once
pub report-whole : (head rest : List ℕ) → length head ≡ 8 → Bytes (head ++ rest) → length (head ++ rest) < 2 ^ 64
    → input_text (taken (opened head) rest) ≡ report_of (head ++ rest)
unfolding input_text report_of
report-whole head rest eight bytes fits =
    rw (whole-bytes head rest eight fits, length-records_of (head ++ rest)) (judged-same (length (head ++ rest)) _ _ (λ p q.
    rw (whole-tally head rest eight q bytes, whole-mask head rest eight)))

-- the mask, and the rest in blocks, of which all but the last have whole records
pub report-blocks : (head : List ℕ) (blocks : List (List ℕ)) (last : List ℕ) → length head ≡ 8 → Whole blocks
    → Bytes (head ++ (joined blocks ++ last)) → length (head ++ (joined blocks ++ last)) < 2 ^ 64
    → input_text (taken (foldl taken (opened head) blocks) last) ≡ report_of (head ++ (joined blocks ++ last))
report-blocks head blocks last eight whole bytes fits =
    rw (taken-blocks (opened head) blocks last whole) (report-whole head (joined blocks ++ last) eight bytes fits)

-- past the limit nothing that follows changes the report
pub report-stays : (s more : List ℕ) → 8000008 < length s → report_of (s ++ more) ≡ report_of s
unfolding report_of judged
report-stays s more h =
    let l = length-append s more in
    let longer : 8000008 < length (s ++ more) = omega arith in
    rw (le-ltb (length s) 8 (omega arith), lt-ltb 8000008 (length s) h)
    (rw (le-ltb (length (s ++ more)) 8 (omega arith), lt-ltb 8000008 (length (s ++ more)) longer))
