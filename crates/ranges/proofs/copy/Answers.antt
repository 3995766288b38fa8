-- What is left to copy is written behind what was.
use Rattle.std.proofs.Common.{◌≡◌, ◌∙◌, ◌+◌, ◌-◌, arith, sym, refl}
use lib.ListN.{length-set}
use native.Mathlib.Numerals.{unary_clauses}
use Rattle.ranges.proofs.Laws.{copy-none, copy_more}
use Rattle.ranges.proofs.copy.Goals as goal

pub loop-i-init : goal.loop-i-init
loop-i-init c = (omega arith, refl, simp unary_clauses refl)

pub loop-i-preserved : goal.loop-i-preserved
loop-i-preserved c =
    let l = c.loop-i in
    let a = c.args in
    let d : a.at + (l.i + 1) ≡ a.at + l.i + 1 = omega arith in
    let f : a.from + (l.i + 1) ≡ a.from + l.i + 1 = omega arith in (
      omega arith,
      simp length-set (omega arith),
      rw (d, f)
          (sym (copy_more (a.n - l.i) (a.n - (l.i + 1)) l.dst (a.at + l.i) a.src.now (a.from + l.i) (omega arith)) ∙ l.invariant.2),
    )

pub returns : goal.returns
returns c =
    let l = c.loop-i in
    let a = c.args in
    sym (copy-none (a.n - l.i) l.dst (a.at + l.i) a.src.now (a.from + l.i) (omega arith)) ∙ l.invariant.2
