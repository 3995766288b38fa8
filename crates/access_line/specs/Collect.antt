-- A line collected byte by byte: its first 40 bytes are kept. The longest line that can be read has 34, so a line
-- that was cut reads as the whole line would.
use mathlib.Core.List.{List, [], foldl}
use Rattle.std.specs.Prelude.{ℕ}
use Rattle.text.specs.Text as text

-- one byte more; a full line stays as it is
abbrev pub with_byte : List ℕ → ℕ → List ℕ
with_byte c b = text.with_byte 40 c b

-- the bytes of a whole line, collected one after the other
abbrev pub collected : List ℕ → List ℕ
collected t = foldl with_byte [] t
