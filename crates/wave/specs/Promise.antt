-- What a reader of these definitions may rely on, said as facts. That it holds is proved (`reading` of `proofs/Reading.antt`; `back` and
-- `accepted-file` of `proofs/Inverse.antt`; `writing` and `cases` of `proofs/Cases.antt`).
use Rattle.std.specs.Prelude.{◌≡◌, List, [], ◌∷◌, ◌++◌, ◌⊎◌, ℕ, ◌+◌, ◌%◌, ◌≤◌, ◌<◌, length, take, drop}
use Rattle.wave.specs.Lists.{Known}
use Rattle.wave.specs.File.{RIFF, WAVE, «fmt», «data», header_of, file_of, file_len_of, riff_size, byte_rate, block_align, pad_of}
use Rattle.wave.specs.Outcome.{max_data, judged, Outcome, outcome, refusal, file_read, accepted, data_in}
use Rattle.wave.specs.Outcome.{Found}

-- what the writer can write
pub record Writable (f c r n : ℕ) : Type 0 where
  pub known : Known f c r
  pub short : n ≤ max_data

-- The outcome of writing in each of the four cases, which exclude each other and leave none out.
pub record Writing (f c r : ℕ) (d out : List ℕ) (o : Outcome) : Type 0 where
  -- "20 format, channels or rate not in the list"
  pub not_listed : (Known f c r → ⊥) → o ≡ outcome 20 0 out
  -- "21 data too long"
  pub too_long : Known f c r → max_data < length d → o ≡ outcome 21 0 out
  -- "22 room too small"
  pub no_room : Writable f c r (length d) → length out < file_len_of (length d) → o ≡ outcome 22 0 out
  -- "an output buffer keeps its bytes .. past what is written"
  pub done : Writable f c r (length d) → file_len_of (length d) ≤ length out
      → o ≡ outcome 0 (file_len_of (length d)) (file_of f c r d ++ drop (file_len_of (length d)) out)

-- the words, in the file's first bytes
pub record Words (head : List ℕ) : Type 0 where
  pub first : take 4 (drop 0 head) ≡ RIFF
  pub second : take 4 (drop 8 head) ≡ WAVE
  pub third : take 4 (drop 12 head) ≡ «fmt»
  pub fourth : take 4 (drop 36 head) ≡ «data»

-- the numbers are those that the writer would have put there
pub record Numbers (f c r n : ℕ) (head : List ℕ) : Type 0 where
  pub writable : Writable f c r n
  pub same : take 44 (drop 0 head) ≡ header_of f c r n

-- The outcome of reading in each of its cases, which exclude each other and leave none out.
pub record Reading (f c r n : ℕ) (head : List ℕ) (len last : ℕ) (o : Found) : Type 0 where
  -- "23 file under 44 bytes"
  pub short : length head < 44 → o ≡ refusal 23
  -- "24 wrong word"
  pub word : 44 ≤ length head → (Words head → ⊥) → o ≡ refusal 24
  -- "25 a number the writer would not have put there for the format, channels, rate and data length read"
  pub number : 44 ≤ length head → Words head → (Numbers f c r n head → ⊥) → o ≡ refusal 25
  -- "26 file shorter or longer than these ask"
  pub other : 44 ≤ length head → Words head → Numbers f c r n head → (len ≡ file_len_of n → ⊥) → o ≡ refusal 26
  -- "27 pad byte not zero"
  pub pad : 44 ≤ length head → Words head → Numbers f c r n head → len ≡ file_len_of n → n % 2 ≡ 1 → (last ≡ 0 → ⊥) → o ≡ refusal 27
  pub taken : 44 ≤ length head → Words head → Numbers f c r n head → len ≡ file_len_of n → (n % 2 ≡ 0) ⊎ (last ≡ 0) → o ≡ accepted f c r n

-- "gives back what was written"
pub record Back (f c r : ℕ) (d : List ℕ) : Type 0 where
  pub found : file_read (file_of f c r d) ≡ accepted f c r (length d)
  pub same : data_in (file_of f c r d) ≡ d

-- "The reader takes exactly the files the writer can write": an accepted file is the one that writing what was read gives
pub record Accepted (file : List ℕ) (o : Found) : Type 0 where
  pub writable : Writable o.format o.channels o.rate o.len
  pub start : o.start ≡ 44
  pub len : o.len ≡ length (data_in file)
  pub same : file_of o.format o.channels o.rate (data_in file) ≡ file

-- "Example: 1,920 bytes of stereo S16 at 48,000 give a file of 1,964, RIFF size 1,956, byte rate 192,000, block align 4", an odd
-- length, and the largest with the one past it
pub record Cases : Type 0 where
  pub file-1964 : file_len_of 1920 ≡ 1964
  pub riff-1956 : riff_size 1920 ≡ 1956
  pub rate-192000 : byte_rate 5 2 7 ≡ 192000
  pub align-4 : block_align 5 2 ≡ 4
  pub odd-file : file_len_of 3 ≡ 48
  pub odd-riff : riff_size 3 ≡ 40
  pub odd-pad : pad_of 3 ≡ 0 ∷ []
  pub even-pad : pad_of 4 ≡ []
  pub largest : judged 5 2 7 max_data ≡ 0
  pub largest-riff : riff_size max_data ≡ 4294967294
  pub past-largest : judged 5 2 7 (max_data + 1) ≡ 21
  pub past-riff : riff_size (max_data + 1) ≡ 4294967296
  -- no number of a file that can be written needs more than its bytes
  pub riff-fits : (n : ℕ) → n ≤ max_data → riff_size n < 4294967296
  pub rate-fits : (f c r : ℕ) → Known f c r → byte_rate f c r ≤ 27648000
  pub align_fits : (f c r : ℕ) → Known f c r → block_align f c ≤ 72
