-- One byte more in a text of at most `most` bytes; a full one stays as it is. And the array that holds a text, with 0 behind it.
use Rattle.std.specs.Prelude.{◌≡◌, List, [], ◌∷◌, ◌++◌, cond, ℕ, ◌-◌, ◌≤◌, ltb, length, take, drop, replicate}
use Rattle.std.proofs.Common.{ap, sym, subst, ◌∙◌, length-take-le, take-append-drop}

abbrev pub with_byte : ℕ → List ℕ → ℕ → List ℕ
with_byte most t b = cond (ltb (length t) most) (t ++ b ∷ []) t

-- ---- the array of a text

abbrev pub padded : ℕ → List ℕ → List ℕ
padded most t = t ++ replicate (most - length t) 0

-- an array of which `count` bytes are the text
pub record IsPadded (most : ℕ) (bytes : List ℕ) (count : ℕ) : Type 0 where
  pub fits : count ≤ most
  pub long : length bytes ≡ most
  pub rest : drop count bytes ≡ replicate (most - count) 0

-- a text gives back its array, and how many bytes it has
pub padded-length : (most : ℕ) (bytes : List ℕ) (count : ℕ) → IsPadded most bytes count → length (take count bytes) ≡ count
padded-length most bytes count h = length-take-le count bytes (subst (λ n. count ≤ n) (sym h.long) h.fits)

pub padded-taken : (most : ℕ) (bytes : List ℕ) (count : ℕ) → IsPadded most bytes count → padded most (take count bytes) ≡ bytes
padded-taken most bytes count h =
    ap (λ n. take count bytes ++ replicate (most - n) 0) (padded-length most bytes count h) ∙ ap (λ t. take count bytes ++ t) (sym h.rest)
    ∙ take-append-drop count bytes
