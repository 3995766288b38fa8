-- A text is cut into lines at its line feeds, 10, which are no part of them: "line feed after all but perhaps the last". The empty
-- rest after the last line feed is no line.
use Rattle.std.specs.Prelude.{List, [], ◌∷◌, ◌++◌, cond, ℕ, suc, ◌+◌, eqb, ltb}

-- the lines of a text that has one byte more in front, no line feed
abbrev pub headed : ℕ → List (List ℕ) → List (List ℕ)
headed b [] = (b ∷ []) ∷ []
headed b (l ∷ ls) = (b ∷ l) ∷ ls

unfoldable pub lines_of : List ℕ → List (List ℕ)
lines_of [] = []
lines_of (b ∷ t) = cond (eqb b 10) ([] ∷ lines_of t) (headed b (lines_of t))

-- ---- texts one behind the other

unfoldable pub joined : List (List ℕ) → List ℕ
joined [] = []
joined (t ∷ ts) = t ++ joined ts

-- ---- by places

-- how many bytes stand before the first `byte`
unfoldable pub span_of : ℕ → List ℕ → ℕ
span_of byte [] = 0
span_of byte (b ∷ t) = cond (eqb b byte) 0 (suc (span_of byte t))

-- the place behind a line that ends at `end`
abbrev pub behind_of : ℕ → ℕ → ℕ
behind_of len end = cond (ltb end len) (end + 1) len
