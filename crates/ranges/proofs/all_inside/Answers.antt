-- The ranges passed are inside, so those left decide; one outside ends it.
use Rattle.std.proofs.Common.{◌∙◌, ◌+◌, ◌-◌, sym, refl, arith}
use Rattle.ranges.specs.Ranges.{all_inside}
use Rattle.ranges.proofs.Laws.{ranges_in-none, ranges_in-more}
use Rattle.ranges.proofs.all_inside.Goals as goal

pub returns-then-not-inside : goal.returns-then-not-inside
unfolding all_inside
returns-then-not-inside c =
    let i = c.loop-i.i in
    let a = c.args in
    let end = a.r.first + a.r.count in
    rw (
      ← c.loop-i.invariant.2,
      ranges_in-more a.list.now i (end - i) (end - (i + 1)) (omega arith),
      ← c.range_at-range.ensures,
      sym c.inside.ensures ∙ c.if-not-inside.true,
    )

pub loop-i-preserved : goal.loop-i-preserved
unfolding all_inside
loop-i-preserved c =
    let i = c.loop-i.i in
    let a = c.args in
    let end = a.r.first + a.r.count in (
      omega arith,
      refl,
      rw (
        ← c.loop-i.invariant.2,
        ranges_in-more a.list.now i (end - i) (end - (i + 1)) (omega arith),
        ← c.range_at-range.ensures,
        sym c.inside.ensures ∙ c.if-not-inside.false,
      ),
    )

pub returns : goal.returns
unfolding all_inside
returns c =
    let i = c.loop-i.i in
    let end = c.args.r.first + c.args.r.count in
    rw (← c.loop-i.invariant.2, ranges_in-none c.args.list.now i (end - i) (omega arith))
