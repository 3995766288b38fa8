-- 02, order 7: "Mu-law decodes all 256 codes by ITU-T G.711 scaled to 16 bits".
use Rattle.std.specs.Prelude.{◌≡◌, ℕ, ◌+◌, ◌-◌, ◌*◌, ◌/◌, ◌%◌, ◌^◌, ◌<◌, cond, List, length, ℤ, pos, neg_ℤ, nat_lt, slice_index_or}

-- "mantissa m from bits 3:0"
abbrev pub mantissa : ℕ → ℕ
mantissa u = u % 16

-- "exponent e from bits 6:4"
abbrev pub exponent : ℕ → ℕ
exponent u = u / 16 % 8

-- "magnitude (8m + 132)·2^e − 132"
abbrev pub magnitude : ℕ → ℕ → ℕ
magnitude m e = (8 * m + 132) * 2 ^ e - 132

-- "negative where the complemented bit 7 is set", of the complemented byte
abbrev pub decoded : ℕ → ℤ
decoded u = cond (nat_lt u 128) (pos (magnitude (mantissa u) (exponent u))) (neg_ℤ (pos (magnitude (mantissa u) (exponent u))))

-- "complement the byte"
unfoldable pub mu_law : ℕ → ℤ
mu_law code = decoded (255 - code)

-- a table of all 256 codes
pub record MuLawTable (table : List ℤ) : Type 0 where
  pub long : length table ≡ 256
  pub entry : (code : ℕ) → code < 256 → slice_index_or table code (pos 0) ≡ mu_law code
