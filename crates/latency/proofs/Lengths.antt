-- How long a report is: it fits its text.
use mathlib.Core.Bool.{Bool, true, false, cond}
use mathlib.Core.List.{List}
use Prim.Native.Nat.{ℕ, ◌%◌, ◌≤◌}
use native.Mathlib.Omega.{arith}
use lib.Dec.{eqb, ltb}
use lib.ListN.{length, length-append}
use Rattle.decimal.proofs.Writing.{field-short}
use Rattle.fraction.specs.Fraction.{lowest_terms}
use Rattle.format_mask.specs.Mask.{lowest_bit, bits_set}
use Rattle.latency_tally.specs.declared.Input.{Input}
use Rattle.latency_tally.specs.declared.Tally.{Tally}
use Rattle.latency.specs.Report.{three_text, counts_text, mean_text, latencies_text, mask_text, lines_text, refusal_text}
use Rattle.latency.specs.Report.{judged, input_text}

either-most : (x : Bool) (a b : List ℕ) (n : ℕ) → length a ≤ n → length b ≤ n → length (cond x a b) ≤ n
either-most true a b n p q = p
either-most false a b n p q = q

three-most : (a b c : ℕ) → length (three_text a b c) ≤ 63
unfolding three_text
three-most a b c = simp length-append (omega (arith, field-short a 32, field-short b 32, field-short c 32))

latencies-most : (t : Tally) → length (latencies_text t) ≤ 105
unfolding latencies_text mean_text
latencies-most t =
    let mean = lowest_terms t.sum t.ok in
    let three = three-most t.smallest t.largest t.sum in
    either-most (eqb t.ok 0) _ _ 105 (omega arith)
    (simp length-append (omega (arith, three, field-short mean.above 47, field-short mean.below 10)))

mask-most : (m : ℕ) → length (mask_text m) ≤ 42
unfolding mask_text
mask-most m =
    either-most (eqb m 0) _ _ 42 (omega arith)
    (simp length-append (omega (arith, field-short (lowest_bit m) 32, field-short (bits_set m) 10)))

-- two lines of eleven fields
lines-most : (n : ℕ) (t : Tally) (mask : ℕ) → length (lines_text n t mask) ≤ 231
unfolding lines_text counts_text
lines-most n t mask =
    simp length-append (omega (arith, field-short n 32, three-most t.ok t.io_err t.others, latencies-most t, mask-most mask))

refusal-most : (n : ℕ) → length (refusal_text n) ≤ 231
unfolding refusal_text
refusal-most n = omega (arith, field-short n 10)

pub text-fits : (i : Input) → length (input_text i) ≤ 231
unfolding input_text judged
text-fits i =
    either-most (ltb i.bytes 8) _ _ 231 (refusal-most 50)
    (either-most (ltb 8000008 i.bytes) _ _ 231 (refusal-most 51)
    (either-most (eqb (i.bytes % 8) 0) _ _ 231 (lines-most _ i.tally i.mask) (refusal-most 52)))
