-- 02, order 3: "the RIFF form with the fixed words RIFF, WAVE, "fmt " and data, a 16-byte format part, tag 1", as one list of bytes.
use Rattle.std.specs.Prelude.{List, [], ◌∷◌, ◌++◌, ℕ, zero, suc, ◌+◌, ◌*◌, ◌/◌, ◌%◌, length, take}
use Rattle.wave.specs.Lists.{bits_of, hz_of}

-- v in n bytes, the lowest first
unfoldable pub bytes : ℕ → ℕ → List ℕ
bytes zero v = []
bytes (suc n) v = v % 256 ∷ bytes n (v / 256)

-- ---- the words

abbrev pub RIFF : List ℕ
RIFF = 82 ∷ 73 ∷ 70 ∷ 70 ∷ []

abbrev pub WAVE : List ℕ
WAVE = 87 ∷ 65 ∷ 86 ∷ 69 ∷ []

abbrev pub «fmt» : List ℕ
«fmt» = 102 ∷ 109 ∷ 116 ∷ 32 ∷ []

abbrev pub «data» : List ℕ
«data» = 100 ∷ 97 ∷ 116 ∷ 97 ∷ []

-- ---- the numbers, of n bytes of data

-- "An odd data length gets one zero byte, counted in the RIFF size only"
abbrev pub riff_size : ℕ → ℕ
riff_size n = 36 + n + n % 2

abbrev pub file_len_of : ℕ → ℕ
file_len_of n = 44 + n + n % 2

abbrev pub block_align : ℕ → ℕ → ℕ
block_align f c = c * (bits_of f / 8)

abbrev pub byte_rate : ℕ → ℕ → ℕ → ℕ
byte_rate f c r = hz_of r * block_align f c

-- ---- the parts

unfoldable pub riff_part : ℕ → List ℕ
riff_part n = RIFF ++ bytes 4 (riff_size n) ++ WAVE

unfoldable pub format_part : ℕ → ℕ → ℕ → List ℕ
format_part f c r =
    «fmt»
    ++ bytes 4 16
    ++ bytes 2 1
    ++ bytes 2 c
    ++ bytes 4 (hz_of r)
    ++ bytes 4 (byte_rate f c r)
    ++ bytes 2 (block_align f c)
    ++ bytes 2 (bits_of f)

unfoldable pub data_part : ℕ → List ℕ
data_part n = «data» ++ bytes 4 n

-- the 44 bytes before n bytes of data
unfoldable pub header_of : ℕ → ℕ → ℕ → ℕ → List ℕ
header_of f c r n = riff_part n ++ format_part f c r ++ data_part n

abbrev pub pad_of : ℕ → List ℕ
pad_of n = take (n % 2) (0 ∷ [])

-- format, channels, rate and data as a file
unfoldable pub file_of : ℕ → ℕ → ℕ → List ℕ → List ℕ
file_of f c r d = header_of f c r (length d) ++ d ++ pad_of (length d)
