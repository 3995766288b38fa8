-- What is kept of the input, block by block, in numbers of 32 and 64 bits; and what all of it comes to at once.
use Rattle.std.specs.Prelude.{◌≡◌, ℕ, ◌+◌, ◌/◌, ◌%◌, ◌^◌, min, max, cond, List, [], ◌∷◌, ◌++◌, length, ◌==◌}
use mathlib.Core.List.{foldl}
use Rattle.memory.specs.Bytes.{le}
use Rattle.latency_tally.specs.Records.{Status, records, is_ok, is_io_err, is_other, count, ok_latencies, smallest, largest, sum}
use Rattle.latency_tally.specs.declared.Tally.{Tally}
use Rattle.latency_tally.specs.declared.Input.{Input}

-- ---- all records at once

unfoldable pub tally_of : List Status → Tally
tally_of l =
    record {
      ok = count is_ok l;
      io_err = count is_io_err l;
      others = count is_other l;
      smallest = smallest (ok_latencies l);
      largest = largest (ok_latencies l);
      sum = sum (ok_latencies l);
    }

-- ---- record by record

abbrev pub no_tally : Tally
no_tally = record { ok = 0; io_err = 0; others = 0; smallest = 4294967295; largest = 0; sum = 0 }

abbrev pub one_more : ℕ → ℕ
one_more n = (n + 1) % 2 ^ 32

-- other counts, the same latencies
abbrev pub with_counts : Tally → ℕ → ℕ → ℕ → Tally
with_counts t ok err others =
    record { ok = ok; io_err = err; others = others; smallest = t.smallest; largest = t.largest; sum = t.sum }

unfoldable pub with_code : Tally → ℕ → Tally
with_code t code =
    cond (code == 32768) (with_counts t (one_more t.ok) t.io_err t.others)
    (cond (code == 32771) (with_counts t t.ok (one_more t.io_err) t.others)
    (with_counts t t.ok t.io_err (one_more t.others)))

unfoldable pub with_latency : Tally → ℕ → Tally
with_latency t x =
    record {
      ok = t.ok;
      io_err = t.io_err;
      others = t.others;
      smallest = min t.smallest x;
      largest = max t.largest x;
      sum = (t.sum + x) % 2 ^ 64;
    }

unfoldable pub with_record : Tally → Status → Tally
with_record t r = cond (is_ok r) (with_latency (with_code t r.code) r.latency) (with_code t r.code)

-- ---- block by block

-- the first bytes: 8, or fewer where the input ended
abbrev pub opened : List ℕ → Input
opened head = record { bytes = length head; mask = le 8 head 0; tally = no_tally }

-- a block more: its whole records, where it begins with one
abbrev pub taken : Input → List ℕ → Input
taken i b =
    record {
      bytes = (i.bytes + length b) % 2 ^ 64;
      mask = i.mask;
      tally = foldl with_record i.tally (records (length b / 8) b 0);
    }

-- blocks one behind the other
unfoldable pub joined : List (List ℕ) → List ℕ
joined [] = []
joined (b ∷ l) = b ++ joined l

-- each has whole records only
unfoldable pub Whole : List (List ℕ) → Type 0
Whole [] = Unit
Whole (b ∷ l) = (length b % 8 ≡ 0) × Whole l
