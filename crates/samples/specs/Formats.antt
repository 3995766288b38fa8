-- The formats taken, by their virtio numbers (VIRTIO_SND_PCM_FMT_), and the conversion of a sample in each.
use Rattle.std.specs.Prelude.{◌≡◌, ℕ, ◌*◌, Bool, true, false, cond, List, ℤ, pos, ◌==◌, Result, Ok, Err}
use Rattle.memory.specs.Bytes.{le}
use Rattle.samples.specs.Values.{value, scaled, bits}
use Rattle.samples.specs.MuLaw.{mu_law}
use Rattle.samples.specs.declared.Format.{Format}
use Rattle.samples.specs.declared.Format.TheVariants.{MuLaw, S8, U8, S16, U16, S24_3, S32}
use Rattle.samples.specs.declared.Refusal.{Refusal}
use Rattle.samples.specs.declared.Refusal.TheVariants.{OtherFormat}

-- Linear samples, unsigned or not, of so many bytes; mu-law; none of those taken.
pub data Coding : Type 0 where
  linear : Bool → ℕ → Coding
  mulaw : Coding
  other : Coding

-- "S8, U8, S16, U16, S24_3, S32 and mu-law"
unfoldable pub coding_of : ℕ → Coding
coding_of format =
    cond (format == 1) mulaw
    (cond (format == 3) (linear false 1)
    (cond (format == 4) (linear true 1)
    (cond (format == 5) (linear false 2)
    (cond (format == 6) (linear true 2)
    (cond (format == 11) (linear false 3)
    (cond (format == 17) (linear false 4)
    other))))))

-- that of a format of the list
abbrev pub coding : Format → Coding
coding MuLaw = mulaw
coding S8 = linear false 1
coding U8 = linear true 1
coding S16 = linear false 2
coding U16 = linear true 2
coding S24_3 = linear false 3
coding S32 = linear false 4

-- the format with a number, or that the list has none
abbrev pub format_found : ℕ → Result Format Refusal → Type 0
format_found number (Ok format) = coding format ≡ coding_of number
format_found number (Err refusal) = (refusal ≡ OtherFormat) × (coding_of number ≡ other)

-- the bytes of a sample; 0 for a format that is not in the list
abbrev pub width : Coding → ℕ
width (linear unsigned w) = w
width mulaw = 1
width other = 0

-- the S16 that a sample becomes
abbrev pub conversion : Coding → ℕ → ℤ
conversion (linear unsigned w) x = scaled w (value unsigned w x)
conversion mulaw x = mu_law x
conversion other x = pos 0

-- sample i of a byte string, "low byte first"
abbrev pub sample_at : ℕ → List ℕ → ℕ → ℕ
sample_at w s i = le w s (w * i)

-- the 16 bits that sample i becomes
abbrev pub bits_at : Coding → List ℕ → ℕ → ℕ
bits_at c from i = bits (conversion c (sample_at (width c) from i))
