-- At each turn what is left to take of the ranges not yet passed, put at `d`, makes the whole; no more is taken than `dst`
-- has room for.
use Rattle.std.proofs.Common.{◌≡◌, ◌+◌, ◌-◌, ◌≤◌, length, refl, arith}
use Rattle.ranges.specs.Ranges.{ranges_in}
use Rattle.ranges.proofs.Laws.{sets-past, places-within, places-none, places-skip, gather-next, gather-room, room_next, ranges_in-none}
use Rattle.ranges.proofs.Laws.{ranges_in-more}
use Rattle.ranges.proofs.gather.Goals as goal

pub returns-then-dst-at : goal.returns-then-dst-at
returns-then-dst-at c =
    let a = c.args in
    let past : length a.dst.now ≤ a.at = c.if-dst-at.true in
    rw sets-past

pub loop-i-init : goal.loop-i-init
loop-i-init c =
    let a = c.args in
    let all : a.r.first + a.r.count - a.r.first ≡ a.r.count = omega arith in (
      omega arith,
      refl,
      omega arith,
      refl,
      rw all (gather-room a.m.now a.n c.min-left.result _ a.dst.now a.at c.min-left.ensures),
    )

pub loop-i-preserved-then-len-skip : goal.loop-i-preserved-then-len-skip
loop-i-preserved-then-len-skip c =
    let l = c.loop-i in
    let a = c.args in
    let x = c.range_at-range in
    let end = a.r.first + a.r.count in (
      omega arith,
      omega arith,
      omega arith,
      refl,
      rw (← (places-skip x.result (ranges_in a.list.now (l.i + 1) (end - (l.i + 1))) l.skip l.left c.if-len-skip.true))
          (rw (ranges_in-more a.list.now l.i (end - l.i) (end - (l.i + 1)) (omega arith), ← x.ensures) at l.invariant.4),
    )

pub loop-i-preserved : goal.loop-i-preserved
loop-i-preserved c =
    let l = c.loop-i in
    let a = c.args in
    let x = c.range_at-range in
    let k = c.min-k in
    let g = c.gather_run in
    let end = a.r.first + a.r.count in
    let behind = ranges_in a.list.now (l.i + 1) (end - (l.i + 1)) in (
      rw g.auto.dst (room_next l.d l.left _ k.result (length l.dst) l.invariant.0 k.ensures),
      omega arith,
      omega arith,
      refl,
      rw (
        g.ensures,
        ← (gather-next a.m.now _ k.result _ l.dst l.d),
        ← (places-within x.result behind l.skip l.left k.result c.if-len-skip.false k.ensures),
      )
          (rw (ranges_in-more a.list.now l.i (end - l.i) (end - (l.i + 1)) (omega arith), ← x.ensures) at l.invariant.4),
    )

pub returns : goal.returns
returns c =
    let l = c.loop-i in
    let end = c.args.r.first + c.args.r.count in
    rw (← l.invariant.4, ranges_in-none c.args.list.now l.i (end - l.i) (omega arith), places-none)
