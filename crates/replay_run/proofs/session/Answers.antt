-- The invariant: what the lines that are left make of the state is what all lines make of the first one. Each line starts behind the
-- one before it.
use Rattle.std.proofs.Common.{◌<◌, ◌≤◌, length, drop, sym, refl, ◌∙◌, arith, length-drop, length-take-le}
use Rattle.lines.specs.Lines.{behind_of}
use Rattle.lines.proofs.Laws.{span-within, behind-moves}
use Rattle.replay_run.specs.Session.{world_of}
use Rattle.replay_run.proofs.Laws.{session-next, session-end}
use Rattle.replay_run.proofs.session.Goals.{After-line_end-line_end}
use Rattle.replay_run.proofs.session.Given.{Over}
use Rattle.replay_run.proofs.session.Goals as goal

-- a line ends inside the script
ends : (g : Over) (c : After-line_end-line_end g) → c.line_end-line_end.result ≤ length c.args.s.now
ends g c =
    let w = simp length-drop at (span-within 10 (drop c.loop-at.at c.args.s.now)) in
    omega (arith, w, c.line_end-line_end.ensures, c.loop-at.invariant.inside)

-- and the next one starts further on
moves : (g : Over) (c : After-line_end-line_end g) →
    let l = c.loop-at in
    let n = length c.args.s.now in
    (l.at < behind_of n c.line_end-line_end.result) × (behind_of n c.line_end-line_end.result ≤ n)
moves g c = behind-moves _ c.loop-at.at _ c.loop-at-test.true (omega (arith, c.line_end-line_end.ensures)) (ends g c)

pub loop-at-init : goal.loop-at-init
loop-at-init g c =
    let first = c.first-state.ensures in
    record { inside = omega arith; lent = refl; long = refl; fit = first.1; world = rw first.0 }

pub slice_bounds-step-count : goal.slice_bounds-step-count
slice_bounds-step-count g c = omega (arith, c.line_end-line_end.ensures)

pub slice_bounds-step-start : goal.slice_bounds-step-start
slice_bounds-step-start g c = omega (arith, c.loop-at-test.true)

pub slice_bounds-step-end : goal.slice_bounds-step-end
slice_bounds-step-end g c = omega (arith, ends g (goal.at.slice_bounds-step-end g c).After-line_end-line_end, c.line_end-line_end.ensures)

pub step-end-requires : goal.step-end-requires
step-end-requires g c =
    (c.loop-at.invariant.fit, omega (arith, c.loop-at.invariant.long, c.requires))

pub slice_bounds-write_all-end : goal.slice_bounds-write_all-end
slice_bounds-write_all-end g c = c.step-end.ensures.room

pub slice_bounds-write_all-end-in-loop-at : goal.slice_bounds-write_all-end-in-loop-at
slice_bounds-write_all-end-in-loop-at g c = sym (length-take-le _ _ c.step-end.ensures.room)

pub loop-at-smaller : goal.loop-at-smaller
loop-at-smaller g c =
    omega (arith, c.behind-at.ensures, moves g (goal.at.loop-at-smaller g c).After-line_end-line_end)

pub loop-at-preserved : goal.loop-at-preserved
loop-at-preserved g c =
    let d = c.step-end.ensures in
    let l = c.loop-at in
    record {
      inside = omega (arith, c.behind-at.ensures, (moves g (goal.at.loop-at-preserved g c).After-line_end-line_end).1);
      lent = c.step-end.auto.ram ∙ l.invariant.lent;
      long = c.step-end.auto.out ∙ l.invariant.long;
      fit = d.fit;
      world =
          rw (c.behind-at.ensures, d.world)
          (sym (session-next _ l.at _ (world_of l.state l.ram) c.loop-at-test.true c.line_end-line_end.ensures)
          ∙ l.invariant.world);
    }

pub shape_of-ram : goal.shape_of-ram
shape_of-ram g c = c.loop-at.invariant.lent

pub shape_of-out : goal.shape_of-out
shape_of-out g c = c.loop-at.invariant.long

pub returns : goal.returns
returns g c =
    let l = c.loop-at in
    (sym (session-end c.args.s.now l.at _ c.loop-at-test.false) ∙ l.invariant.world, l.invariant.fit)
