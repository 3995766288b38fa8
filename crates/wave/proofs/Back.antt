-- What the reader reads in a header is what the writer put there.
use mathlib.Core.Path.{◌≡◌, ◌∙◌, refl, sym, ap}
use mathlib.Core.Bool.{Bool, true, false, cond}
use mathlib.Core.Logic.{◌⊎◌, inl, inr, ⊎_elim}
use Prim.Native.Nat.{ℕ, ◌+◌, ◌*◌, ◌/◌, ◌%◌, ◌≤◌, ◌<◌}
use native.Mathlib.Omega.{arith}
use borrow.Author.Tests.{eqb-true}
use lib.Dec.{eqb, eqb→eq}
use Rattle.samples.proofs.Table.{below_at}
use Rattle.formats.specs.Widths.{physical_bits}
use Rattle.memory.specs.Bytes.{le}
use Rattle.wave.specs.Lists.{listed, bits_of, hz_of, Known, format_with, rate_with}
use Rattle.wave.specs.File.{bytes, riff_part, format_part, data_part, header_of}
use Rattle.wave.specs.Outcome.{max_data, holds, has_words, format_in, channels_in, rate_in, length_in}
use Rattle.wave.proofs.Lists.{listed-holds, bits-bound, hz-bound}

-- ---- formats and rates, back

-- a format as listed is the format, or none
abbrev SelfOrNone : ℕ → ℕ → Type 0
SelfOrNone f g = (g ≡ f) ⊎ (g ≡ 25)

step : (f k g : ℕ) → SelfOrNone f g → SelfOrNone f (cond (eqb f k) k g)
step f k g h = by (eqb f k) refl
  where
    by : (t : Bool) → eqb f k ≡ t → SelfOrNone f (cond t k g)
    by true e = inl (sym (eqb-true f k e))
    by false e = h

listed-or : (f : ℕ) → SelfOrNone f (listed f)
unfolding listed
listed-or f = step f 4 _ (step f 5 _ (step f 11 _ (step f 17 25 (inr refl))))

format_back : (f : ℕ) → 0 < bits_of f → format_with (bits_of f) ≡ f
unfolding physical_bits format_with
format_back f h =
    listed-holds (λ g. format_with (physical_bits g) ≡ g) f refl refl refl refl refl
    ∙ ⊎_elim
    (λ e. e)
    (λ e.
    let z : 0 < 0 = rw e at h in
    absurd (omega arith))
    (listed-or f)

rate-back : (r : ℕ) → r < 14 → rate_with (hz_of r) ≡ r
unfolding rate_with hz_of
rate-back r h = eqb→eq (rate_with (hz_of r)) r (below_at 14 (λ k. eqb (rate_with (hz_of k)) k) tt r h)

-- ---- numbers in bytes, back

two : (v : ℕ) → v < 65536 → v % 256 + 256 * (v / 256 % 256 + 256 * 0) ≡ v
two v h = omega arith

four : (v : ℕ) → v < 4294967296
    → v % 256 + 256 * (v / 256 % 256 + 256 * (v / 256 / 256 % 256 + 256 * (v / 256 / 256 / 256 % 256 + 256 * 0))) ≡ v
four v h = omega arith

-- ---- the header

module _ (f c r n : ℕ) where
  pub words_back : has_words (header_of f c r n) ≡ true
  unfolding has_words holds header_of riff_part format_part data_part bytes
  words_back = refl

  module _ (k : Known f c r) (l : n ≤ max_data) where
    bits-read : le 2 (header_of f c r n) 34 ≡ bits_of f
    unfolding le header_of riff_part format_part data_part bytes
    bits-read = two (bits_of f) (omega (arith, bits-bound f))

    pub channels-read : channels_in (header_of f c r n) ≡ c
    unfolding le header_of riff_part format_part data_part bytes
    channels-read = two c (omega (arith, k.most))

    hz-read : le 4 (header_of f c r n) 24 ≡ hz_of r
    unfolding le header_of riff_part format_part data_part bytes
    hz-read = four (hz_of r) (omega (arith, hz-bound r))

    pub length-read : length_in (header_of f c r n) ≡ n
    unfolding le header_of riff_part format_part data_part bytes
    length-read = four n (omega arith)

    pub format_read : format_in (header_of f c r n) ≡ f
    format_read = ap format_with bits-read ∙ format_back f k.format

    pub rate-read : rate_in (header_of f c r n) ≡ r
    rate-read = ap rate_with hz-read ∙ rate-back r k.rate
