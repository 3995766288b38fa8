-- The part from `at` on that lies within is set.
use Rattle.std.proofs.Common.{replicate, length-take, length-drop, ap, ◌∙◌, arith, rules}
use Rattle.replay_memory.proofs.Laws.{filled_part}
use Rattle.replay_memory.proofs.fill.Goals as goal

pub returns : goal.returns
returns c =
    let a = c.args in
    filled_part a.n a.m.now a.at a.b _ _ _ c.min-start.ensures (rw c.min.ensures)
    (c.fill.ensures.after (λ y h. search rules) ∙ ap (λ k. replicate k a.b) (simp (length-take, length-drop) (omega arith)))
