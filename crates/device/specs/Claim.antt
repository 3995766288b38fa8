-- What is claimed of a line's histories after any calls (`Good`), and the message in work that they stand for.
use Rattle.std.specs.Prelude.{Option, None, Some, ◌≡◌, cond, List, [], ◌++◌, map, ℕ, suc, ◌≤◌, eqb, leb, length, take, get_or}
use Rattle.ranges.specs.Ranges.{up_from}
use Rattle.device.specs.Device.{Direction, Taking, nobody, released, Message}
use Rattle.device.specs.Histories.{Entry, Note, History, unanswered, handed_of, addresses_of, lost_of, number, current, handed_now}
use Rattle.device.specs.Histories.{waiting}
use Rattle.device.specs.Transfer.{payload_of}

-- the positions of taking t that wait: only the message in work has any
abbrev pub waiting_of : Direction → ℕ → History → List ℕ
waiting_of d t h = cond (eqb t (number h)) (waiting d h) []

-- the payload of taking number t; none past the last
abbrev pub payload_at : Direction → ℕ → History → List ℕ
payload_at d t h = payload_of d (get_or h.takings t nobody)

-- `said`: the bytes that the transfers since the start, reset or base write moved, joined
pub record Good (d : Direction) (said : List ℕ) (h : History) : Type 0 where
  -- the used entries name the heads taken, one for each taking, in order; only the message in work lacks one
  pub few : number h ≤ length h.takings
  pub one : length h.takings ≤ suc (number h)
  pub heads : map (λ (e : Entry). e.head) h.entries ≡ take (number h) (map (λ (t : Taking). t.head) h.takings)
  -- each payload position of each message taken is in exactly one place, in order: handed on, given up or waiting
  pub once : (t : ℕ) → handed_of t h.notes ++ (lost_of t h.losses ++ waiting_of d t h) ≡ up_from 0 (length (payload_at d t h))
  -- what was handed on was read at the payload's own addresses, position by position
  pub read : (t : ℕ) → addresses_of t h.notes ≡ take (length (handed_of t h.notes)) (payload_at d t h)
  -- given up only by a Release that answered this message IO_ERR
  pub blamed : (t : ℕ) → ((get_or h.entries t unanswered).ending ≡ released → ⊥) → lost_of t h.losses ≡ []
  -- the bytes noted are those that the transfers moved
  pub bytes : map (λ (n : Note). n.byte) h.notes ≡ said

-- the message in work that a history stands for
abbrev pub work_of : History → Option Message
work_of h = cond (leb (length h.takings) (number h)) None (Some (record { taking = current h; done = handed_now h }))
