-- Two stores.
use mathlib.Core.Path.{◌≡◌, refl}
use mathlib.Core.List.{List}
use Prim.Native.Nat.{ℕ, ◌%◌}
use native.Mathlib.Omega.{arith}
use lib.ListN.{length, set}
use Rattle.marks.specs.Marks.{message_in, line_in}
use Rattle.marks.proofs.Laws.{of-eleven}
use Rattle.marks.proofs.store_line.Goals as goal

-- the words after the stores
laid : (ws : List ℕ) → length ws ≡ 11 → (a b : ℕ)
    → (line_in (set (set ws 9 a) 10 b) ≡ record { start = a % 65536; count = b % 65536 })
    × (message_in (set (set ws 9 a) 10 b) ≡ message_in ws)
unfolding message_in line_in
laid ws l a b =
    of-eleven
    (λ vs. (line_in (set (set vs 9 a) 10 b) ≡ record { start = a % 65536; count = b % 65536 })
    × (message_in (set (set vs 9 a) 10 b) ≡ message_in vs))
    (λ x0 x1 x2 x3 x4 x5 x6 x7 x8 x9 x10. (refl, refl)) ws l

pub returns : goal.returns
returns c =
    let a = c.args in
    let start : a.line.start % 65536 ≡ a.line.start = omega arith in
    let count : a.line.count % 65536 ≡ a.line.count = omega arith in
    let l = laid a.w.now c.requires a.line.start a.line.count in
    (rw (start, count) at l.0, l.1)
