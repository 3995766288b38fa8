-- Order 5: the backlog that a stream remembers, told by the calls and their answers alone. "A Release carries the backlog of the last such
-- call on that stream since reset that answered 0, else 0." Of whole calls
-- it is claimed in line_calls/specs/Backlog.
use Rattle.std.specs.Prelude.{cond, ◌&&◌, List, [], ◌∷◌, ℕ, eqb}
use Rattle.registers.specs.Answers.{done}
use Rattle.rules.specs.Calls.{Told}

-- a reset is 0 written to STATUS (offset 18, one byte)
abbrev pub written_backlog : ℕ → ℕ → ℕ → ℕ → ℕ
written_backlog offset width v n = cond (eqb offset 18 && eqb width 1 && eqb v 0) 0 n

-- of stream `id` after a transfer of this stream, where it was n before
abbrev pub moved_backlog : ℕ → ℕ → ℕ → Told → ℕ → ℕ
moved_backlog id stream backlog t n = cond (eqb id stream && eqb t.answer.number done) backlog n

-- .. after calls that told so
abbrev pub last_along : {C : Type 0} → (C → Told → ℕ → ℕ) → ℕ → List C → List Told → ℕ
last_along then n [] ts = n
last_along then n (c ∷ cs) [] = n
last_along then n (c ∷ cs) (t ∷ ts) = last_along then (then c t n) cs ts
