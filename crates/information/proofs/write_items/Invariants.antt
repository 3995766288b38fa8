use mathlib.Core.Path.{◌≡◌}
use Prim.Native.Nat.{◌+◌, ◌-◌, ◌*◌}
use lib.ListN.{length, drop}
use Rattle.live.specs.Live.{parts_now}
use Rattle.ranges.specs.Ranges.{ranges_of, places, put_at}
use Rattle.information.specs.Items.{items_in}
use Rattle.information.proofs.Laws.{row_of}
use Rattle.information.proofs.write_items.Given as goal

abbrev pub invariant-loop-i : goal.invariant-loop-i
invariant-loop-i l =
    (length l.m ≡ length l.initial.m) × (l.at + (l.start + l.count - l.i) * l.size ≡ 4 + l.count * l.size)
    × (put_at l.m (drop l.at (places (ranges_of l.list l.reply)))
    (row_of l.size (items_in l.l (parts_now l.live l.parts)) l.i (l.start + l.count - l.i))
    ≡ put_at l.initial.m (drop 4 (places (ranges_of l.list l.reply)))
    (row_of l.size (items_in l.l (parts_now l.live l.parts)) l.start l.count))
