-- Bytes as HEX, two digits for each, 0-9 a-f.
use Rattle.std.specs.Prelude.{List, [], ◌∷◌, cond, ℕ, zero, suc, ◌+◌, ◌/◌, ◌%◌, eqb, leb, ltb, get_or}

-- 48 is `0`, 97 `a`
unfoldable pub glyph_of : ℕ → ℕ
glyph_of d = cond (ltb d 10) (48 + d) (87 + d)

-- the place behind `at`, no further than the end
abbrev pub behind_of : ℕ → ℕ → ℕ
behind_of len at = cond (leb len at) len (at + 1)

-- n bytes of m at `at`; past its end m has 0
unfoldable pub hex_bytes : ℕ → List ℕ → ℕ → List ℕ
hex_bytes zero m at = []
hex_bytes (suc k) m at = glyph_of (get_or m at 0 / 16) ∷ glyph_of (get_or m at 0 % 16) ∷ hex_bytes k m (at + 1)

-- "`-` for no bytes"
unfoldable pub hex_word : ℕ → List ℕ → ℕ → List ℕ
hex_word n m at = cond (eqb n 0) (45 ∷ []) (hex_bytes n m at)
