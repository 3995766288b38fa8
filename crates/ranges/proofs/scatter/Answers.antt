-- At each turn what is left of `src`, written to what is left of the ranges not yet passed, makes the whole; no more is
-- written than `src` has.
use Rattle.std.proofs.Common.{◌≡◌, ◌+◌, ◌-◌, length, refl, arith}
use lib.ListN.{drop_of_length-le}
use Rattle.ranges.specs.Ranges.{ranges_in, put_at}
use Rattle.ranges.proofs.Laws.{put_at-nil, places-within, places-none, places-skip, scatter-next, scatter-room, room_next, ranges_in-none}
use Rattle.ranges.proofs.Laws.{ranges_in-more}
use Rattle.ranges.proofs.scatter.Goals as goal

pub returns-then-src-from : goal.returns-then-src-from
returns-then-src-from c =
    let a = c.args in
    rw (drop_of_length-le a.src.now {i = a.from} c.if-src-from.true, put_at-nil)

pub loop-i-init : goal.loop-i-init
loop-i-init c =
    let a = c.args in
    let all : a.r.first + a.r.count - a.r.first ≡ a.r.count = omega arith in (
      omega arith,
      refl,
      omega arith,
      refl,
      rw all (scatter-room a.m.now a.n c.min-left.result _ a.src.now a.from c.min-left.ensures),
    )

pub returns-then-left-eq0 : goal.returns-then-left-eq0
unfolding put_at
returns-then-left-eq0 c = rw (← c.loop-i.invariant.4, c.if-left-eq0.true)

pub loop-i-preserved-then-len-skip : goal.loop-i-preserved-then-len-skip
loop-i-preserved-then-len-skip c =
    let l = c.loop-i in
    let a = c.args in
    let x = c.range_at-range in
    let end = a.r.first + a.r.count in (
      omega arith,
      omega arith,
      omega arith,
      refl,
      rw (← (places-skip x.result (ranges_in a.list.now (l.i + 1) (end - (l.i + 1))) l.skip l.left c.if-len-skip.true))
          (rw (ranges_in-more a.list.now l.i (end - l.i) (end - (l.i + 1)) (omega arith), ← x.ensures) at l.invariant.4),
    )

pub loop-i-preserved : goal.loop-i-preserved
loop-i-preserved c =
    let l = c.loop-i in
    let a = c.args in
    let x = c.range_at-range in
    let k = c.min-k in
    let s = c.scatter_run in
    let end = a.r.first + a.r.count in
    let behind = ranges_in a.list.now (l.i + 1) (end - (l.i + 1)) in (
      room_next l.f l.left _ k.result (length a.src.now) l.invariant.0 k.ensures,
      omega arith,
      omega arith,
      refl,
      rw (
        s.ensures,
        ← (scatter-next l.m _ k.result _ a.src.now l.f),
        ← (places-within x.result behind l.skip l.left k.result c.if-len-skip.false k.ensures),
      )
          (rw (ranges_in-more a.list.now l.i (end - l.i) (end - (l.i + 1)) (omega arith), ← x.ensures) at l.invariant.4),
    )

pub returns : goal.returns
unfolding put_at
returns c =
    let l = c.loop-i in
    let end = c.args.r.first + c.args.r.count in
    rw (← l.invariant.4, ranges_in-none c.args.list.now l.i (end - l.i) (omega arith), places-none)
