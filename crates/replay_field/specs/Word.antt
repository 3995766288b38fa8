-- Words as bytes.
use Rattle.std.specs.Prelude.{List, [], ◌∷◌, Bool, true, false, ◌&&◌, ℕ, eqb}
use Prim.Native.Char.{code}
use Prim.Native.String.{String, [] as none, ◌∷◌ as ◌before◌}

-- the bytes of a text
abbrev pub bytes : String → List ℕ
bytes none = []
bytes (c before s) = code c ∷ bytes s

-- whether a line begins with a word
unfoldable pub begins : List ℕ → List ℕ → Bool
begins [] s = true
begins (w ∷ t) [] = false
begins (w ∷ t) (b ∷ s) = eqb b w && begins t s
