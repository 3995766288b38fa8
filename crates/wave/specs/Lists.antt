-- What a file can say: "U8, S16, S24_3 and S32", "Channels are 1 to 18, the rate one of the 14", by virtio's numbers, and back from what
-- stands in a file.
use Rattle.std.specs.Prelude.{List, [], ◌∷◌, Bool, cond, ◌&&◌, ℕ, ◌+◌, ◌≤◌, ◌<◌, eqb, leb, ltb, get_or}
use Rattle.formats.specs.Widths.{physical_bits}

-- the format where it is one of the four, else 25, which is none
unfoldable pub listed : ℕ → ℕ
listed f = cond (eqb f 4) 4 (cond (eqb f 5) 5 (cond (eqb f 11) 11 (cond (eqb f 17) 17 25)))

-- the bits of a sample; 0 for a format that is not in the list
abbrev pub bits_of : ℕ → ℕ
bits_of f = physical_bits (listed f)

-- source document 000, "supported PCM frame rates"
abbrev pub rates : List ℕ
rates =
    5512 ∷ 8000 ∷ 11025 ∷ 16000 ∷ 22050 ∷ 32000 ∷ 44100 ∷ 48000 ∷ 64000 ∷ 88200 ∷ 96000 ∷ 176400 ∷ 192000 ∷ 384000 ∷ []

-- frames a second; 0 for a number that is no rate
unfoldable pub hz_of : ℕ → ℕ
hz_of r = get_or rates r 0

-- "20 format, channels or rate not in the list", the other way round
unfoldable pub known : ℕ → ℕ → ℕ → Bool
known f c r = (ltb 0 (bits_of f) && leb 1 c) && (leb c 18 && ltb r 14)

-- the same as facts
pub record Known (f c r : ℕ) : Type 0 where
  pub format : 0 < bits_of f
  pub least : 1 ≤ c
  pub most : c ≤ 18
  pub rate : r < 14

-- ---- back

-- the format with so many bits a sample, else 25, which is none
unfoldable pub format_with : ℕ → ℕ
format_with bits = cond (eqb bits 8) 4 (cond (eqb bits 16) 5 (cond (eqb bits 24) 11 (cond (eqb bits 32) 17 25)))

-- the place of x in a list, its length where it is not there
abbrev pub place : ℕ → List ℕ → ℕ
place x [] = 0
place x (y ∷ l) = cond (eqb x y) 0 (1 + place x l)

unfoldable pub rate_with : ℕ → ℕ
rate_with hz = place hz rates
