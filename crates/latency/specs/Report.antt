-- 02, order 12: what is printed. 32 is a space, 10 a line feed, 45 a dash, 47 a slash.
use Rattle.std.specs.Prelude.{List, [], ◌∷◌, ◌++◌, cond, ℕ, ◌+◌, ◌-◌, ◌*◌, ◌/◌, ◌%◌, eqb, ltb, length}
use Rattle.memory.specs.Bytes.{le}
use Rattle.fraction.specs.Fraction.{lowest_terms}
use Rattle.format_mask.specs.Mask.{lowest_bit, bits_set}
use Rattle.latency_tally.specs.Records.{records_of}
use Rattle.latency_tally.specs.Tally.{tally_of}
use Rattle.latency_tally.specs.declared.Input.{Input}
use Rattle.latency_tally.specs.declared.Tally.{Tally}
use Rattle.decimal.specs.Write.{field_of}

-- ---- the lines

unfoldable pub three_text : ℕ → ℕ → ℕ → List ℕ
three_text a b c = field_of a 32 ++ field_of b 32 ++ field_of c 32

-- "records, OK records, IO_ERR records, others"
unfoldable pub counts_text : ℕ → Tally → List ℕ
counts_text n t = field_of n 32 ++ three_text t.ok t.io_err t.others

-- "mean as a fraction in lowest terms (0/1 for sum 0)"
unfoldable pub mean_text : ℕ → ℕ → List ℕ
mean_text sum n = field_of (lowest_terms sum n).above 47 ++ field_of (lowest_terms sum n).below 10

-- "smallest, largest and summed latency of the OK records", the mean; "No OK records: the last four are a dash each"
unfoldable pub latencies_text : Tally → List ℕ
latencies_text t =
    cond (eqb t.ok 0) (45 ∷ 32 ∷ 45 ∷ 32 ∷ 45 ∷ 32 ∷ 45 ∷ 10 ∷ [])
    (three_text t.smallest t.largest t.sum ++ mean_text t.sum t.ok)

-- "the lowest bit set and how many are set; mask 0 prints a dash and 0"
unfoldable pub mask_text : ℕ → List ℕ
mask_text m = cond (eqb m 0) (45 ∷ 32 ∷ 48 ∷ 10 ∷ []) (field_of (lowest_bit m) 32 ++ field_of (bits_set m) 10)

unfoldable pub lines_text : ℕ → Tally → ℕ → List ℕ
lines_text n t mask = counts_text n t ++ latencies_text t ++ mask_text mask

-- "one line with the number, nothing else"
unfoldable pub refusal_text : ℕ → List ℕ
refusal_text n = field_of n 10

-- "Refusals, in order: 50 mask missing, 51 too many (any byte past the millionth record), 52 last record cut": of an input of so many
-- bytes, 8 of the mask and 8 of each record
unfoldable pub judged : ℕ → List ℕ → List ℕ
judged bytes text =
    cond (ltb bytes 8) (refusal_text 50)
    (cond (ltb (8 + 8 * 1000000) bytes) (refusal_text 51)
    (cond (eqb (bytes % 8) 0) text (refusal_text 52)))

-- ---- the report of all bytes

unfoldable pub report_of : List ℕ → List ℕ
report_of s = judged (length s) (lines_text (length (records_of s)) (tally_of (records_of s)) (le 8 s 0))

-- ---- the same of what was kept of them
unfoldable pub input_text : Input → List ℕ
input_text i = judged i.bytes (lines_text ((i.bytes - 8) / 8) i.tally i.mask)
