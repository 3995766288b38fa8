-- The byte does not stand before `i`.
use Rattle.std.proofs.Common.{◌≡◌, ◌≤◌, length, sym, ◌∙◌, arith}
use Rattle.lines.proofs.Laws.{span_more, span-stop, span-past}
use Rattle.lines.proofs.find.Goals as goal

pub returns-then-s-i : goal.returns-then-s-i
returns-then-s-i c = sym (span-stop _ _ _ c.loop-i-test.true c.if-s-i.true) ∙ c.loop-i.invariant.1

pub loop-i-preserved : goal.loop-i-preserved
loop-i-preserved c = (omega arith, sym (span_more _ _ _ c.loop-i-test.true c.if-s-i.false) ∙ c.loop-i.invariant.1)

pub returns : goal.returns
returns c =
    let all : length c.args.s.now ≤ c.loop-i.i = omega arith in
    let last : c.max.result ≡ c.loop-i.i = omega (arith, c.max.ensures, c.loop-i.invariant.0) in
    last ∙ sym (span-past _ _ _ all) ∙ c.loop-i.invariant.1
