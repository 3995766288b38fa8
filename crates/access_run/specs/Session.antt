-- The access program's session: what each byte of the input makes of it, and the text that the byte leaves. `proofs/Whole.antt` says
-- that the texts, joined, are what `Answers` says of the whole input, however it is cut into blocks.
use Rattle.std.specs.Prelude.{◌≡◌, ℕ, cond, List, [], ◌∷◌, ◌++◌, length, take, ◌==◌, nat_lt}
use mathlib.Core.List.{foldl}
use Rattle.access_line.specs.Line.{line_of}
use Rattle.access_line.specs.Collect.{with_byte}
use Rattle.decimal.specs.Write.{Put}
use Rattle.live.specs.Live.{FitLive}
use Rattle.access_run.specs.Answers.{first_live, act_of, answer_text, next}
use Rattle.access_run.specs.declared.Acted.{Acted}
use Rattle.access_run.specs.declared.Session.{Session}

abbrev pub first_session : Session
first_session = record { live = first_live; line = []; lines = 0 }

-- the line collected is whole: what it does, and its answer
abbrev pub acted : Session → Acted
acted s = act_of s.live (line_of s.line)

unfoldable pub line_ended : Session → Session
line_ended s = record { live = (acted s).live; line = []; lines = next s.lines }

unfoldable pub line_text : Session → List ℕ
line_text s = answer_text (next s.lines) (acted s).answer (acted s).value

-- one byte more: a line feed, 10, ends the line
unfoldable pub fed : Session → ℕ → Session
fed s b = cond (b == 10) (line_ended s) (record { live = s.live; line = with_byte s.line b; lines = s.lines })

unfoldable pub fed_text : Session → ℕ → List ℕ
fed_text s b = cond (b == 10) (line_text s) []

-- a block of bytes
unfoldable pub block_text : Session → List ℕ → List ℕ
block_text s [] = []
block_text s (b ∷ t) = fed_text s b ++ block_text (fed s b) t

-- the end of the input: what follows the last line feed is a line if it is not empty
unfoldable pub rest_text : Session → List ℕ
rest_text s = cond (nat_lt 0 (length s.line)) (line_text s) []

-- what was read: the first `count` bytes of a block, or the end of the input
unfoldable pub taken_text : Session → ℕ → List ℕ → List ℕ
taken_text s count block = cond (count == 0) (rest_text s) (block_text s (take count block))

-- ---- blocks one after the other

-- the text that they leave, and the end of the input
unfoldable pub blocks_text : Session → List (List ℕ) → List ℕ
blocks_text s [] = rest_text s
blocks_text s (b ∷ bs) = block_text s b ++ blocks_text (foldl fed s b) bs

-- ---- what is promised of a part of the input

-- the session and its text are these, the text written into a buffer from a place on; and the small state is fit for the next part
pub record Takes (s : Session) (t before : List ℕ) (at : ℕ) (after : List ℕ) (r : Session) (end : ℕ) : Type 0 where
  pub session : r ≡ s
  pub text : Put t before at after end
  pub fit : FitLive r.live
