-- What a call of the converter answers and leaves in the output buffer, for all inputs.
use Rattle.std.specs.Prelude.{◌≡◌, ℕ, zero, suc, ◌+◌, ◌*◌, ◌/◌, ◌%◌, ◌<◌, ◌≤◌, cond, List, length, ◌==◌, nat_le, Result, Ok, Err}
use Rattle.memory.specs.Bytes.{put}
use Rattle.samples.specs.declared.Refusal.{Refusal}
use Rattle.samples.specs.declared.Refusal.TheVariants.{OtherFormat, NotWhole, NoRoom}
use Rattle.samples.specs.Formats.{Coding, coding_of, width, bits_at}

-- `to` with the conversions of n samples, from number i on, each in two bytes
unfoldable pub written : Coding → List ℕ → ℕ → ℕ → List ℕ → List ℕ
written c from i zero to = to
written c from i (suc n) to =
    written c from (i + 1) n (put 2 to (2 * i) (bits_at c from i))

-- n samples fill `from`, and `to` has room for their conversions
abbrev pub Ready : Coding → ℕ → List ℕ → List ℕ → Type 0
Ready c n from to = (0 < width c) × (length from ≡ width c * n) × (2 * n ≤ length to)

-- "30 format not in the list, 31 input not whole samples, 32 room too small"
abbrev pub number_of : Refusal → ℕ
number_of OtherFormat = 30
number_of NotWhole = 31
number_of NoRoom = 32

abbrev pub answer_of : Result (Unit {0}) Refusal → ℕ
answer_of (Ok done) = 0
answer_of (Err refusal) = number_of refusal

-- the answer, and the output buffer after the call
pub record Outcome : Type 0 where
  pub answer : ℕ
  pub out : List ℕ

abbrev pub outcome : ℕ → List ℕ → Outcome
outcome r to = record { answer = r; out = to }

abbrev pub samples_in : Coding → List ℕ → ℕ
samples_in c from = length from / width c

-- "Refusals, in order: 30 format not in the list, 31 input not whole samples, 32 room too small"
unfoldable pub converted_by : Coding → List ℕ → List ℕ → Outcome
converted_by c from to =
    cond (width c == 0) (outcome 30 to)
    (cond (length from % width c == 0)
    (cond (nat_le (2 * samples_in c from) (length to))
    (outcome 0 (written c from 0 (samples_in c from) to))
    (outcome 32 to))
    (outcome 31 to))

abbrev pub converted : ℕ → List ℕ → List ℕ → Outcome
converted format from to = converted_by (coding_of format) from to
