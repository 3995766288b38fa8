-- What is claimed of a stream queue with lines: `Good`, of the account's histories after any calls; and the card's queue that a history
-- stands for.
use Rattle.std.specs.Prelude.{◌≡◌, Bool, false, cond, List, [], ◌∷◌, ◌++◌, map, ℕ, ◌+◌, ◌%◌, eqb, length, take}
use Rattle.ranges.specs.Ranges.{up_from}
use Rattle.device.specs.Account.{Grows}
use Rattle.device.specs.Claim.{work_of, Good as GoodStory}
use Rattle.device.specs.Device.{Direction, Taking}
use Rattle.device.specs.Histories.{number}
use Rattle.device.specs.Transfer.{Run}
use Rattle.queue_lines.specs.Chains.{Virtqueue, Arrival, in_line, at_once}
use Rattle.queue_lines.specs.Counters as counters
use Rattle.queue_lines.specs.Counters.{Queue, sum_of, counters_of}
use Rattle.queue_lines.specs.Histories.{Taken, Answer, Line, History, line_at, standing, unread_in, histories_of}
use Rattle.queue_lines.specs.Rules.{Ops}

-- ---- the card's queue that a history stands for

abbrev pub heads_of : List Taken → List ℕ
heads_of l = map (λ (x : Taken). x.head) l

unfoldable pub shown_line : Line → counters.Line
shown_line l = record { begun = work_of l.story; heads = heads_of (unread_in l) }

unfoldable pub queue_of : History → Queue
queue_of h =
    record { taken = length h.takings % 65536; completed = length h.entries % 65536; lines = map shown_line h.lines }

-- ---- a queue of a call, kept either way

abbrev pub card : Virtqueue → Ops Queue
card v = counters_of v.direction v.streams

abbrev pub account : Virtqueue → Ops History
account v = histories_of v.direction v.streams

-- a run over one way of keeping the queue, shown as one over the other
unfoldable pub shown_run : {H Q : Type 0} → (H → Q) → Run H → Run Q
shown_run f r =
    record { queue = f r.queue; mem = r.mem; bytes = r.bytes; host = r.host; room = r.room; stop = r.stop; signal = r.signal }

-- ---- what holds of a history

-- the elements that pass a test, in order
unfoldable pub those : {A : Type 0} → (A → Bool) → List A → List A
those p [] = []
those p (x ∷ xs) = cond (p x) (x ∷ those p xs) (those p xs)

-- a taking that joined line i
abbrev pub joins : ℕ → Arrival → Bool
joins i (in_line j) = eqb j i
joins i (at_once t) = false

abbrev pub joined_to : ℕ → List Taken → List Taken
joined_to i l = those (λ (x : Taken). joins i x.arrival) l

-- the used entries of the messages of line i
abbrev pub answers_of : ℕ → List Answer → List Answer
answers_of i l = those (λ (x : Answer). joins i x.taken.arrival) l

-- line i; `said`: the bytes that its transfers since the start, reset or base write moved, joined
pub record GoodLine (d : Direction) (said : List ℕ) (i : ℕ) (l : Line) (ts : List Taken) (es : List Answer) : Type 0 where
  -- those that joined the line are the takings of its stream, in order
  pub joined : l.joined ≡ joined_to i ts
  -- they are read in that order, each once at most, from the head noted at its taking
  pub read : map (λ (t : Taking). t.head) l.story.takings ≡ take (length l.story.takings) (heads_of l.joined)
  -- and answered in that order, by the chain that was read; the others stand in line
  pub answers : map (λ (x : Answer). x.taken) (answers_of i es) ≡ take (number l.story) l.joined
  pub chains : map (λ (x : Answer). x.chain) (answers_of i es) ≡ take (number l.story) l.story.takings
  pub entries : map (λ (x : Answer). x.entry) (answers_of i es) ≡ l.story.entries
  -- "01's account runs by these rules, and demand 3's order, positions and counts are read per stream": of the messages read, entries
  -- name the heads in order, only the one in work lacks an entry, each payload position is handed on, given up by a Release or
  -- waiting, once and in order, and the bytes handed on are those said
  pub story : GoodStory d said l.story

-- whether a taking is number t, as a count
abbrev pub is_taking : ℕ → Taken → ℕ
is_taking t x = cond (eqb x.of t) 1 0

-- a queue of n lines; `said` of each line
pub record Good (d : Direction) (n : ℕ) (said : ℕ → List ℕ) (h : History) : Type 0 where
  pub numbered : map (λ (x : Taken). x.of) h.takings ≡ up_from 0 (length h.takings)
  pub lines : length h.lines ≡ n
  pub line : (i : ℕ) → GoodLine d (said i) i (line_at h i) h.takings h.entries
  -- every taking has one entry or stands in line, once: whatever is counted of takings
  pub once :
      (count : Taken → ℕ)
      → sum_of (λ (x : Answer). count x.taken) h.entries + sum_of (λ (l : Line). sum_of count (standing l)) h.lines
      ≡ sum_of count h.takings

-- the bytes said of each line, and these of line i more
abbrev pub also : ℕ → (ℕ → List ℕ) → List ℕ → ℕ → List ℕ
also i said bytes j = said j ++ cond (eqb j i) bytes []

-- ---- what a call leaves alone, and what it leaves done

-- "A play or capture works, and a Release ends, its own stream's line only": of another line nothing is read, handed on, given up or
-- completed; entries taken may join it
pub record Beside (before after : Line) : Type 0 where
  pub story : after.story ≡ before.story
  pub joined : Grows before.joined after.joined

-- .. and of the card's line: the message begun and those behind it stay, others may come behind them
pub record Untouched (before after : counters.Line) : Type 0 where
  pub begun : after.begun ≡ before.begun
  pub heads : Grows before.heads after.heads

-- all that the ring offered at this available index is taken
abbrev pub TakenAll : ℕ → History → Type 0
TakenAll index h = length h.takings % 65536 ≡ index % 65536

-- .. and line i is empty
pub record Drained (index i : ℕ) (h : History) : Type 0 where
  pub taken-all : TakenAll index h
  pub none-standing : standing (line_at h i) ≡ []
