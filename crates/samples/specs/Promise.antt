-- What a reader may rely on, said of sample i and of byte j. That every call keeps it is proved (`proofs/Promise.antt`).
use Rattle.std.specs.Prelude.{◌≡◌, ℕ, ◌*◌, ◌/◌, ◌%◌, ◌<◌, ◌≤◌, List, length, ◌≢◌, slice_index}
use Rattle.samples.specs.Values.{signed}
use Rattle.samples.specs.Formats.{Coding, width, conversion, sample_at}
use Rattle.samples.specs.Outcome.{Outcome, outcome}

-- Each of the n samples of `out`, read as S16, is the conversion of its sample of `from`.
abbrev pub Sounds : Coding → ℕ → List ℕ → List ℕ → Type 0
Sounds c n from out = (i : ℕ) → i < n → signed 2 (sample_at 2 out i) ≡ conversion c (sample_at (width c) from i)

-- What n converted samples leave of the output buffer: its bytes past them and its length are as they were.
pub record Left (c : Coding) (n : ℕ) (from to out : List ℕ) : Type 0 where
  pub sample : Sounds c n from out
  pub past : (j : ℕ) → 2 * n ≤ j → slice_index out j ≡ slice_index to j
  pub long : length out ≡ length to

-- The outcome of a call in each of the four cases, which exclude each other and leave none out. On a refusal the buffer is as it was.
pub record Promise (c : Coding) (from to : List ℕ) (o : Outcome) : Type 0 where
  -- "30 format not in the list"
  pub no-format : width c ≡ 0 → o ≡ outcome 30 to
  -- "31 input not whole samples"
  pub not-whole : 0 < width c → (length from % width c ≢ 0) → o ≡ outcome 31 to
  -- "32 room too small"
  pub no_room : 0 < width c → length from % width c ≡ 0 → length to < 2 * (length from / width c) → o ≡ outcome 32 to
  pub done : 0 < width c → length from % width c ≡ 0 → 2 * (length from / width c) ≤ length to
      → (o.answer ≡ 0) × Left c (length from / width c) from to o.out

-- A block of whole samples, and what it became. Blocks that were converted apart join (`joined`).
pub record Block (c : Coding) (n : ℕ) (from out : List ℕ) : Type 0 where
  pub whole : length from ≡ width c * n
  pub room : length out ≡ 2 * n
  pub sample : Sounds c n from out
