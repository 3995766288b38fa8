-- What is read from standard input. No contract can say which bytes a read delivers: they are some bytes.
use Rattle.std.specs.Prelude.{◌≡◌, ◌⊎◌, List, ℕ, ◌≤◌, ◌<◌, length, get_or}
use Rattle.latency_tally.specs.Tally.{taken}
use Rattle.latency_tally.specs.declared.Input.{Input}
use Rattle.latency.specs.Report.{report_of, input_text}

abbrev pub Bytes : List ℕ → Type 0
Bytes s = (i : ℕ) → get_or s i 0 < 256

-- bytes taken one behind the other, whatever blocks they came in; past the limit nothing more is read than the block that passed it
pub record Behind (i r : Input) : Type 0 where
  pub read : List ℕ
  pub bytes : Bytes read
  pub few : length read ≤ 8065536
  pub same : r ≡ taken i read

-- why nothing more is read: the last block of n bytes was not full, or too many came
abbrev pub Last : Input → ℕ → Type 0
Last r n = (n < 65536) ⊎ (8000008 < r.bytes)

-- what was kept of the bytes read gives their report
pub record Reported (i : Input) : Type 0 where
  pub read : List ℕ
  pub bytes : Bytes read
  pub same : input_text i ≡ report_of read

-- what is handed to the write is the report of the bytes read
pub record Handed (text : List ℕ) : Type 0 where
  pub read : List ℕ
  pub bytes : Bytes read
  pub same : text ≡ report_of read
