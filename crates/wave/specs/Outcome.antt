-- What writing and reading answer and leave, for all inputs.
use Rattle.std.specs.Prelude.{List, [], ◌∷◌, ◌++◌, Bool, true, cond, ◌&&◌, ◌||◌, ℕ, ◌+◌}
use Rattle.std.specs.Prelude.{◌-◌, ◌%◌, eqb, leb, ltb, length, get_or, set, Result, Ok, Err}
use Rattle.std.specs.Prelude.{take, drop}
use Rattle.memory.specs.Bytes.{le}
use Rattle.wave.specs.Lists.{known, format_with, rate_with}
use Rattle.wave.specs.File.{RIFF, WAVE, «fmt», «data», header_of, file_of, file_len_of}
use Rattle.wave.specs.declared.Sound.{Sound}
use Rattle.wave.specs.declared.Refusal.{Refusal}
use Rattle.wave.specs.declared.Refusal.TheVariants.{NotListed, TooLong, NoRoom, NoHeader, WrongWord, WrongNumber, WrongLength, WrongPad}

-- the numbers that are answered for C
abbrev pub number_of : Refusal → ℕ
number_of NotListed = 20
number_of TooLong = 21
number_of NoRoom = 22
number_of NoHeader = 23
number_of WrongWord = 24
number_of WrongNumber = 25
number_of WrongLength = 26
number_of WrongPad = 27

abbrev pub answer_of : {T : Type 0} → Result T Refusal → ℕ
answer_of (Ok done) = 0
answer_of (Err refusal) = number_of refusal

-- "The largest data length is 4,294,967,258."
abbrev pub max_data : ℕ
max_data = 4294967258

-- ---- writing

-- "20 format, channels or rate not in the list, 21 data too long"
unfoldable pub judged : ℕ → ℕ → ℕ → ℕ → ℕ
judged f c r n = cond (known f c r) (cond (leb n max_data) 0 21) 20

-- `s` in the place of the bytes of `d` from `at` on
unfoldable pub laid : List ℕ → ℕ → List ℕ → List ℕ
laid d at s = take at d ++ s ++ drop (at + length s) d

-- the answer, the bytes written, and the output buffer after the call
pub record Outcome : Type 0 where
  pub answer : ℕ
  pub len : ℕ
  pub out : List ℕ

abbrev pub outcome : ℕ → ℕ → List ℕ → Outcome
outcome a n out = record { answer = a; len = n; out = out }

abbrev pub after : Result ℕ Refusal → List ℕ → Outcome
after (Ok len) out = outcome 0 len out
after (Err refusal) out = outcome (number_of refusal) 0 out

-- `s`, after the answer a to what it is made of: written to the start of `out`, or "22 room too small"
unfoldable pub placed : ℕ → List ℕ → List ℕ → Outcome
placed a s out =
    cond (eqb a 0)
    (cond (leb (length s) (length out)) (outcome 0 (length s) (laid out 0 s)) (outcome 22 0 out))
    (outcome a 0 out)

abbrev pub written_of : ℕ → ℕ → ℕ → List ℕ → List ℕ → Outcome
written_of f c r d out = placed (judged f c r (length d)) (file_of f c r d) out

abbrev pub headed_of : ℕ → ℕ → ℕ → ℕ → List ℕ → Outcome
headed_of f c r n out = placed (judged f c r n) (header_of f c r n) out

-- ---- reading

-- whether the bytes of s stand in `file` at `at`
unfoldable pub holds : List ℕ → ℕ → List ℕ → Bool
holds file at [] = true
holds file at (x ∷ s) = eqb (get_or file at 0) x && holds file (at + 1) s

-- "24 wrong word"
unfoldable pub has_words : List ℕ → Bool
has_words file = (holds file 0 RIFF && holds file 8 WAVE) && (holds file 12 «fmt» && holds file 36 «data»)

-- "the format, channels, rate and data length read"
abbrev pub format_in : List ℕ → ℕ
format_in file = format_with (le 2 file 34)

abbrev pub channels_in : List ℕ → ℕ
channels_in file = le 2 file 22

abbrev pub rate_in : List ℕ → ℕ
rate_in file = rate_with (le 4 file 24)

abbrev pub length_in : List ℕ → ℕ
length_in file = le 4 file 40

-- "25 a number the writer would not have put there for the format, channels, rate and data length read"
unfoldable pub has_numbers : ℕ → ℕ → ℕ → ℕ → List ℕ → Bool
has_numbers f c r n file = eqb (judged f c r n) 0 && holds file 0 (header_of f c r n)

-- by the data's length and the file's last byte
unfoldable pub has_pad : ℕ → ℕ → Bool
has_pad n last = eqb (n % 2) 0 || eqb last 0

-- what was read: the answer, and beside 0 the format, channels and rate and where in the file the data stands
pub record Found : Type 0 where
  pub answer : ℕ
  pub format : ℕ
  pub channels : ℕ
  pub rate : ℕ
  pub start : ℕ
  pub len : ℕ

abbrev pub refusal : ℕ → Found
refusal a = record { answer = a; format = 0; channels = 0; rate = 0; start = 0; len = 0 }

abbrev pub accepted : ℕ → ℕ → ℕ → ℕ → Found
accepted f c r n = record { answer = 0; format = f; channels = c; rate = r; start = 44; len = n }

abbrev pub found_of : Result Sound Refusal → Found
found_of (Ok s) = record {
  answer = 0;
  format = s.form.format;
  channels = s.form.channels;
  rate = s.form.rate;
  start = s.start;
  len = s.len;
}
found_of (Err e) = refusal (number_of e)

-- by format, channels, rate and data length read, the file's first bytes, its length and its last byte: "23 file under 44 bytes", then as
-- quoted above, "26 file shorter or longer than these ask, 27 pad byte not zero"
unfoldable pub read_with : ℕ → ℕ → ℕ → ℕ → List ℕ → ℕ → ℕ → Found
read_with f c r n head len last =
    cond (ltb (length head) 44) (refusal 23)
    (cond (has_words head)
    (cond (has_numbers f c r n head)
    (cond (eqb len (file_len_of n))
    (cond (has_pad n last) (accepted f c r n) (refusal 27))
    (refusal 26))
    (refusal 25))
    (refusal 24))

abbrev pub read_by : List ℕ → ℕ → ℕ → Found
read_by head len last = read_with (format_in head) (channels_in head) (rate_in head) (length_in head) head len last

abbrev pub file_read : List ℕ → Found
file_read file = read_by (take 44 file) (length file) (get_or file (length file - 1) 0)

-- what C is told beside the answer: format, channels, rate, and where the data starts and how long it is; as it was on a refusal
abbrev pub told_of : Found → List ℕ → List ℕ
told_of r was =
    cond (eqb r.answer 0) (set (set (set (set (set was 0 r.format) 1 r.channels) 2 r.rate) 3 r.start) 4 r.len) was

-- "the data as a part of the file"
abbrev pub data_in : List ℕ → List ℕ
data_in file = take (file_read file).len (drop (file_read file).start file)
