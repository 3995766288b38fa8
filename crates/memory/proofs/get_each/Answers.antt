-- The loop reads from the top byte down; its sum is `le` of the bytes passed.
use mathlib.Core.Path.{◌≡◌, ◌∙◌}
use Prim.Native.Nat.{◌+◌, ◌-◌}
use native.Mathlib.Omega.{arith}
use native.Mathlib.Nat.{add-zero, sub-zero}
use Rattle.memory.specs.Bytes.{le}
use Rattle.memory.proofs.Laws.{le-none, le-more, le-fits}
use Rattle.memory.proofs.get_each.Goals as goal

pub loop-i-init : goal.loop-i-init
loop-i-init c = (omega arith, rw (le-none (c.args.n - c.args.n) _ _ (omega arith)))

pub overflow_mul-number : goal.overflow_mul-number
overflow_mul-number c =
    let l = c.loop-i in
    let a = c.args in
    omega (
      arith,
      le-fits (a.n - l.i) 7 a.m.now (a.at + l.i) (λ k. (c.shared_slice_known-1.given k).fits)
          (omega arith),
    )

pub overflow_add-number : goal.overflow_add-number
overflow_add-number c =
    let l = c.loop-i in
    let a = c.args in
    omega (
      arith,
      le-fits (a.n - l.i) 7 a.m.now (a.at + l.i) (λ k. (c.shared_slice_known-1.given k).fits)
          (omega arith),
    )

pub loop-i-preserved : goal.loop-i-preserved
loop-i-preserved c =
    let l = c.loop-i in
    let a = c.args in
    let e : a.at + (l.i - 1) + 1 ≡ a.at + l.i = omega arith in
    (omega arith, rw (le-more (a.n - (l.i - 1)) (a.n - l.i) _ _ (omega arith), e, l.invariant.1, c.byte_behind.ensures.0))

pub returns : goal.returns
returns c =
    let z : c.loop-i.i ≡ 0 = omega arith in
    let a = c.args in
    let e : c.loop-i.number ≡ le a.n a.m.now a.at = c.loop-i.invariant.1 ∙ rw (z, sub-zero, add-zero) in
    (e, rw e (le-fits a.n a.n a.m.now a.at (λ k. (c.shared_slice_known-1.given k).fits) (omega arith)))
