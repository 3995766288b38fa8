-- The heads of a line, as its ring has them.
use Rattle.std.specs.Prelude.{cond, List, [], ◌∷◌, ℕ, zero, suc, ◌+◌, ◌-◌, ◌%◌, ◌≤◌, ◌<◌, ltb, length, get_or}
use Rattle.waiting.specs.declared.Line.{Line}

-- the place so many behind another in a ring of `size` places
abbrev pub place_behind : ℕ → ℕ → ℕ → ℕ
place_behind size start n = cond (ltb (start + n) size) (start + n) (start + n - size)

-- so many heads of a ring of `size` places, the first at this place; a head is a number of 16 bits
unfoldable pub heads_from : ℕ → List ℕ → ℕ → ℕ → List ℕ
heads_from size ring start zero = []
heads_from size ring start (suc n) = get_or ring start 0 % 65536 ∷ heads_from size ring (place_behind size start 1) n

-- those that wait, the front first
abbrev pub heads_in : List ℕ → Line → List ℕ
heads_in ring l = heads_from (length ring) ring l.start l.count

-- a line in a ring of `size` places: "the overrun rule counts all of a queue as in work", so that no more wait than the ring has places
pub record FitLine (size : ℕ) (l : Line) : Type 0 where
  pub front : l.start < size
  pub few : l.count ≤ size
  -- a place is a number of 16 bits
  pub narrow : size ≤ 65535
