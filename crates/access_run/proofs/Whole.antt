-- However the input is cut into blocks, the texts that they leave, joined, are the answers to its lines, in order.
use Rattle.std.proofs.Common.{◌≡◌, ℕ, Bool, true, false, eqb, List, [], ◌∷◌, ◌++◌, refl, ap, ◌∙◌, append_assoc, append-nil}
use mathlib.Core.List.{foldl, foldl-append}
use Rattle.access_line.specs.Line.{line_of}
use Rattle.access_line.specs.Collect.{collected}
use Rattle.access_line.proofs.Laws.{collected-reads, collected-more, collected-some}
use Rattle.lines.specs.Lines.{lines_of, joined}
use Rattle.lines.proofs.Laws.{behind_part, part_none, part-ended, part-more}
use Rattle.live.specs.declared.Live.{Live}
use Rattle.access_run.specs.Answers.{answers, answer_text, act_of, next, first_live, printed}
use Rattle.access_run.specs.Session.{first_session, line_ended, line_text, fed, fed_text, block_text, rest_text, blocks_text}
use Rattle.access_run.specs.declared.Session.{Session}

-- ---- a session within a line

-- the small state after n lines, and p of the next one
abbrev within : Live → List ℕ → ℕ → Session
within l p n = record { live = l; line = collected p; lines = n }

-- the whole line's answer, and the session behind it
line_read : (l : Live) (p : List ℕ) (n : ℕ)
    → line_text (within l p n) ≡ answer_text (next n) (act_of l (line_of p)).answer (act_of l (line_of p)).value
unfolding line_text
line_read l p n = rw (collected-reads p)

line-ended : (l : Live) (p : List ℕ) (n : ℕ) → line_ended (within l p n) ≡ within (act_of l (line_of p)).live [] (next n)
unfolding line_ended
line-ended l p n = rw (collected-reads p)

-- ---- all that the rest of the input leaves

abbrev told : Session → List ℕ → List ℕ
told s t = block_text s t ++ rest_text (foldl fed s t)

told_none : (l : Live) (p : List ℕ) (n : ℕ) → rest_text (within l p n) ≡ answers l n (behind_part p [])
unfolding rest_text answers
told_none l [] n = refl
told_none l (b ∷ p) n = rw (collected-some b p, line_read l (b ∷ p) n, append-nil)

told_more : (s : Session) (b : ℕ) (t : List ℕ) → told s (b ∷ t) ≡ fed_text s b ++ told (fed s b) t
unfolding block_text
told_more s b t = rw append_assoc

-- a line feed
step-ended : (l : Live) (p t : List ℕ) (n b : ℕ) → eqb b 10 ≡ true
    → ((d : Live) (k : ℕ) → told (within d [] k) t ≡ answers d k (behind_part [] (lines_of t)))
    → fed_text (within l p n) b ++ told (fed (within l p n) b) t ≡ answers l n (behind_part p (lines_of (b ∷ t)))
unfolding fed fed_text answers
step-ended l p t n b e anew =
    rw (e, line_read l p n, line-ended l p n, part-ended p t b e, anew (act_of l (line_of p)).live (next n), part_none (lines_of t))

-- any other byte
step-more : (l : Live) (p t : List ℕ) (n b : ℕ) → eqb b 10 ≡ false
    → told (within l (p ++ b ∷ []) n) t ≡ answers l n (behind_part (p ++ b ∷ []) (lines_of t))
    → fed_text (within l p n) b ++ told (fed (within l p n) b) t ≡ answers l n (behind_part p (lines_of (b ∷ t)))
unfolding fed fed_text
step-more l p t n b e more = rw (e, ← (collected-more p b), part-more p t b e) more

step-either : (x : Bool) (l : Live) (p t : List ℕ) (n b : ℕ) → eqb b 10 ≡ x
    → ((q : List ℕ) (d : Live) (k : ℕ) → told (within d q k) t ≡ answers d k (behind_part q (lines_of t)))
    → fed_text (within l p n) b ++ told (fed (within l p n) b) t ≡ answers l n (behind_part p (lines_of (b ∷ t)))
step-either true l p t n b e rest = step-ended l p t n b e (rest [])
step-either false l p t n b e rest = step-more l p t n b e (rest (p ++ b ∷ []) l n)

-- from within a line on, what is left to be told is the answers to the lines that are left
told-lines : (t p : List ℕ) (l : Live) (n : ℕ) → told (within l p n) t ≡ answers l n (behind_part p (lines_of t))
unfolding block_text lines_of
told-lines [] p l n = told_none l p n
told-lines (b ∷ t) p l n = told_more (within l p n) b t ∙ step-either (eqb b 10) l p t n b refl (told-lines t)

-- ---- blocks

block-append : (a b : List ℕ) (s : Session) → block_text s (a ++ b) ≡ block_text s a ++ block_text (foldl fed s a) b
unfolding block_text
block-append [] b s = refl
block-append (x ∷ a) b s = rw (block-append a b (fed s x), append_assoc)

blocks-told : (bs : List (List ℕ)) (s : Session) → blocks_text s bs ≡ told s (joined bs)
unfolding blocks_text joined block_text
blocks-told [] s = refl
blocks-told (b ∷ bs) s = rw (blocks-told bs (foldl fed s b), block-append b (joined bs) s, foldl-append fed s b (joined bs), append_assoc)

-- what is left in the buffer block by block is what is printed for the whole input
pub session-text : (blocks : List (List ℕ)) → blocks_text first_session blocks ≡ printed (joined blocks)
session-text bs =
    blocks-told bs first_session ∙ told-lines (joined bs) [] first_live 0 ∙ ap (answers first_live 0) (part_none (lines_of (joined bs)))

-- what the bytes leave, and their end, is what is printed for them
pub session-told : (t : List ℕ) → block_text first_session t ++ rest_text (foldl fed first_session t) ≡ printed t
session-told t = told-lines t [] first_live 0 ∙ ap (answers first_live 0) (part_none (lines_of t))

-- with one block more
pub block-more : (a b : List ℕ) → block_text first_session (a ++ b) ≡ block_text first_session a ++ block_text (foldl fed first_session a) b
block-more a b = block-append a b first_session

pub fed-more : (a b : List ℕ) → foldl fed first_session (a ++ b) ≡ foldl fed (foldl fed first_session a) b
fed-more a b = foldl-append fed first_session a b
