-- The loop's locals are `put`'s arguments; past the end the rest of `put` changes nothing.
use Rattle.std.proofs.Common.{◌∙◌, ◌+◌, ◌-◌, sym, arith}
use lib.ListN.{length-set}
use Rattle.memory.proofs.Laws.{put-more, put-over}
use Rattle.memory.proofs.store_each.Goals as goal

pub loop-i-preserved : goal.loop-i-preserved
loop-i-preserved c =
    let l = c.loop-i in
    let a = c.args in (
      omega arith,
      simp length-set (omega arith),
      rw (← (put-more (a.n - (l.i - a.at)) (a.n - (l.i + 1 - a.at)) _ _ _ (omega arith))) l.invariant.2,
    )

pub returns : goal.returns
returns c =
    let l = c.loop-i in
    let a = c.args in
    sym (put-over (a.n - (l.i - a.at)) l.m l.i l.left (λ h. omega arith)) ∙ l.invariant.2
