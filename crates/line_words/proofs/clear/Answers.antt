-- One line after the other.
use Prim.Native.Nat.{◌-◌}
use mathlib.Core.Path.{◌≡◌, ◌∙◌, refl}
use native.Mathlib.Omega.{arith}
use Rattle.line_chains.specs.Queue.{virtqueue_of}
use Rattle.line_words.proofs.Clears.{none_below, one_more, all-vacant}
use Rattle.line_words.proofs.clear.Goals as goal

pub loop-line-init : goal.loop-line-init
loop-line-init c = (refl, omega arith, none_below _ _)

pub loop-line-preserved : goal.loop-line-preserved
loop-line-preserved c =
    let w = c.vacate_line in
    let l = c.loop-line in
    (w.auto.words ∙ l.invariant.0, omega (arith, c.loop-line-test.true), one_more _ l.line _ _ l.invariant.2 w.ensures)

pub returns : goal.returns
returns c =
    let l = c.loop-line in
    let all : l.line ≡ c.args.q.streams = omega (arith, l.invariant.1, c.loop-line-test.false) in
    all-vacant (virtqueue_of c.args.q) l.words (rw l.invariant.0 c.requires) (rw all at l.invariant.2)
