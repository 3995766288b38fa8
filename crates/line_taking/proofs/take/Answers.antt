-- The arrival decides.
use Rattle.line_chains.specs.Queue.{virtqueue_of, arrival_in}
use Rattle.line_taking.specs.Progress.{run_in}
use Rattle.queue_lines.specs.Chains.{Arrival, in_line, arrival_of}
use Rattle.queue_lines.specs.Claim.{card}
use Rattle.queue_lines.specs.Rules.{taken}
use Rattle.std.proofs.Common.{◌≡◌, sym, refl, ap, ◌∙◌}
use Rattle.line_taking.proofs.Laws.{joined-run, joins-there, open-line}
use Rattle.line_taking.proofs.take.Goals.{In-InLine}
use Rattle.line_taking.proofs.take.Goals as goal

joins : (c : In-InLine) → let a = c.args in
    in_line c.in-InLine.line ≡ arrival_of (virtqueue_of a.q) a.m.now a.head.0
joins c = ap (arrival_in c.arrive.new.list) (sym c.in-InLine.is) ∙ c.arrive.ensures.0

pub join-requires : goal.join-requires
join-requires c =
    let a = c.args in
    let v = virtqueue_of a.q in
    open-line v _ _ a.words.now c.requires.0 (joins-there v a.m.now a.head.0 _ (joins (goal.at.join-requires c).In-InLine)) c.requires.1

pub returns-in-InLine : goal.returns-in-InLine
returns-in-InLine c =
    let a = c.args in
    let v = virtqueue_of a.q in
    let j = c.join in
    record {
      run = λ host. rw c.count_taken.ensures
          (joined-run v a.words.now a.m.now host a.p _ a.head.0 _ j.ensures
          ∙ ap (λ (x : Arrival). taken (card v) v a.head.0 x (run_in v a.words.now a.p a.m.now host))
          (joins (goal.at.returns-in-InLine c).In-InLine));
      fit = j.ensures.fit _ c.requires.0;
      moved = rw c.count_taken.ensures;
      long = refl;
    }
