-- At each turn the zeros that are left, written behind what is written, make the whole.
use mathlib.Core.Path.{◌≡◌, ◌∙◌, sym}
use Prim.Native.Nat.{◌+◌, ◌-◌, ◌≤◌}
use native.Mathlib.Omega.{arith}
use lib.ListN.{drop, replicate, length-replicate}
use lib.Seq.{drop-drop}
use Rattle.ranges.specs.Ranges.{ranges_of, places, put_at}
use Rattle.ranges.proofs.Laws.{put_at-nil}
use Rattle.reply.proofs.Laws.{put_at-front, put_at-behind}
use Rattle.information.proofs.Laws.{take-zeros, zeros-split}
use Rattle.information.proofs.write_zeros.Goals as goal

pub returns-then-n-eq0 : goal.returns-then-n-eq0
returns-then-n-eq0 c = rw c.if-n-eq0.true (sym (put_at-nil _ _))

pub loop-at-preserved : goal.loop-at-preserved
loop-at-preserved c =
    let l = c.loop-at in
    let k = c.min-k.result in
    let left = c.args.start + c.args.n - l.at in
    let ps = places (ranges_of c.args.list.now c.args.reply) in
    let few : k ≤ left = omega (arith, c.min-k.ensures) in
    let w : c.scatter.new.m ≡ put_at l.m (drop l.at ps) (replicate k 0) =
    c.scatter.ensures
    ∙ rw (
      c.zeros-run.ensures,
      put_at-front k l.m (drop l.at ps) (replicate 1024 0),
      take-zeros k 1024
          (omega (arith, c.min-k.ensures)),
    ) in
    let rest : c.args.start + c.args.n - (l.at + k) ≡ left - k = omega arith in
    let s : put_at l.m (drop l.at ps) (replicate left 0)
    ≡ put_at (put_at l.m (drop l.at ps) (replicate k 0)) (drop (l.at + k) ps) (replicate (left - k) 0) =
    rw (
      zeros-split k left few,
      put_at-behind l.m (drop l.at ps) (replicate k 0)
          (replicate (left - k) 0),
      length-replicate,
      drop-drop,
    ) in
    (c.scatter.auto.m ∙ l.invariant.0, omega (arith, few), rw (w, rest) (sym s ∙ l.invariant.2))

pub returns : goal.returns
returns c =
    let l = c.loop-at in
    let a = c.args in
    let z : a.start + a.n - l.at ≡ 0 = omega arith in
    sym (put_at-nil l.m (drop l.at (places (ranges_of a.list.now a.reply)))) ∙ rw z at l.invariant.2
