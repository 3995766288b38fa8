-- Ring and marks are put back; the chain stays.
use Prim.Native.Nat.{◌-◌, ◌≤◌}
use Rattle.marks.specs.Marks.{message_in, line_in}
use lib.ListN.{length}
use mathlib.Core.Path.{◌≡◌, ◌∙◌, ap}
use native.Mathlib.Omega.{arith}
use Rattle.line_words.proofs.Joins.{pushed-by}
use Rattle.line_words.proofs.Parts.{with_ring, ring_long, ring-here, ring-chain, ring-marks, marks-here, marks-chain, marks-ring}
use Rattle.line_words.proofs.push.Goals as goal

pub returns : goal.returns
returns c =
    let slot = c.args.slot.now in
    let ring = c.join-longer.new.ring in
    let marks = c.store_line.new.w in
    let p = c.requires in
    let rl : length ring ≡ length slot - 79 = omega arith in
    let ml : length marks ≡ 11 = omega arith in
    let long : 79 ≤ length (with_ring slot ring) = rw (ring_long slot ring p.long rl) p.long in
    pushed-by c.args.head.0 slot _ ring c.join-longer.result
    (marks-chain (with_ring slot ring) marks long ml ∙ ring-chain slot ring p.long rl)
    (ap message_in (marks-here (with_ring slot ring) marks long ml) ∙ c.store_line.ensures.1
    ∙ ap message_in (ring-marks slot ring p.long rl))
    (ap line_in (marks-here (with_ring slot ring) marks long ml) ∙ c.store_line.ensures.0)
    (marks-ring (with_ring slot ring) marks long ml ∙ ring-here slot ring p.long rl)
    (rw (← c.line-line.ensures) c.join-longer.ensures.0)
    c.join-longer.ensures.1
