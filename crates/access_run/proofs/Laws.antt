-- Laws of the access program: bytes from a place on, and the card's description.
use Rattle.std.proofs.Common.{◌≡◌, ℕ, ◌+◌, ◌<◌, ◌≤◌, true, List, [], ◌++◌, length, get_or, drop, refl, add-one, drop_of_length-le}
use Rattle.std.proofs.Common.{drop-cons}
use Rattle.description.specs.Lawful.{lawful, lawful_counts, lawful_stream}
use Rattle.access_line.specs.Line.{line_of}
use Rattle.access_line.specs.declared.Access.{Access}
use Rattle.std.proofs.Common.{Option}
use Rattle.access_run.specs.Answers.{panel, act_of, answer_text, next}
use Rattle.access_run.specs.Session.{line_ended, line_text, fed, fed_text, block_text}
use Rattle.access_run.specs.declared.Acted.{Acted}
use Rattle.access_run.specs.declared.Session.{Session}

-- ---- the bytes from a place on

module _ (s : Session) (t : List ℕ) (i : ℕ) where
  pub text-more : i < length t → block_text s (drop i t) ≡ fed_text s (get_or t i 0) ++ block_text (fed s (get_or t i 0)) (drop (i + 1) t)
  unfolding block_text
  text-more h = rw (add-one, drop-cons t i 0 h)

  pub text-end : length t ≤ i → block_text s (drop i t) ≡ []
  unfolding block_text
  text-end h = rw (drop_of_length-le t h)

-- ---- a line that was read and done, and its number

module _ (s : Session) (number : ℕ) (a : Acted) (l : Option Access) (n : number ≡ next s.lines) (e : l ≡ line_of s.line)
    (d : a ≡ act_of s.live l) where
  pub line-answer : answer_text number a.answer a.value ≡ line_text s
  unfolding line_text
  line-answer = rw (d, e, n)

  pub line-session : (c : List ℕ) → c ≡ [] → record { live = a.live; line = c; lines = number } ≡ line_ended s
  unfolding line_ended
  line-session c k = rw (d, e, n, k)

-- ---- the card

pub panel-lawful : lawful panel ≡ true
unfolding lawful lawful_counts lawful_stream
panel-lawful = refl
