-- Source document 000, "supported PCM sample formats", "(width / physical width)": the physical widths in bits, by virtio's format numbers.
use Rattle.std.specs.Prelude.{◌≡◌, List, [], ◌∷◌, ◌⊎◌, ℕ, ◌≤◌, ◌<◌, length, get_or}

abbrev pub physical_widths : List ℕ
physical_widths =
    4 ∷  -- IMA_ADPCM
    8 ∷  -- MU_LAW
    8 ∷  -- A_LAW
    8 ∷  -- S8
    8 ∷  -- U8
    16 ∷  -- S16
    16 ∷  -- U16
    24 ∷  -- S18_3
    24 ∷  -- U18_3
    24 ∷  -- S20_3
    24 ∷  -- U20_3
    24 ∷  -- S24_3
    24 ∷  -- U24_3
    32 ∷  -- S20
    32 ∷  -- U20
    32 ∷  -- S24
    32 ∷  -- U24
    32 ∷  -- S32
    32 ∷  -- U32
    32 ∷  -- FLOAT
    64 ∷  -- FLOAT64
    8 ∷  -- DSD_U8
    16 ∷  -- DSD_U16
    32 ∷  -- DSD_U32
    32 ∷  -- IEC958_SUBFRAME
    []

-- 0 for a number that is no format
unfoldable pub physical_bits : ℕ → ℕ
physical_bits format = get_or physical_widths format 0

-- the widths that 000 names
abbrev pub Width : ℕ → Type 0
Width bits = (bits ≡ 4) ⊎ ((bits ≡ 8) ⊎ ((bits ≡ 16) ⊎ ((bits ≡ 24) ⊎ ((bits ≡ 32) ⊎ (bits ≡ 64)))))

-- What holds of the table: 25 formats, numbers 0 to 24; each has one of the widths; no other number has one.
pub record Table : Type 0 where
  pub long : length physical_widths ≡ 25
  pub each : (format : ℕ) → format < 25 → Width (physical_bits format)
  pub past : (format : ℕ) → 25 ≤ format → physical_bits format ≡ 0
