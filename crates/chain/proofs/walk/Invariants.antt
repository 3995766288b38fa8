use mathlib.Core.Path.{◌≡◌}
use Prim.Native.Nat.{◌+◌, ◌≤◌}
use lib.ListN.{length}
use Rattle.ranges.specs.Ranges.{ranges_of}
use Rattle.chain.specs.Walk.{descriptors, walk_of, SoundChain}
use Rattle.chain.proofs.Laws.{onwards}
use Rattle.chain.proofs.walk.Given as goal

-- the descriptors of one table: the rest of the walk is what it was when the table was entered
abbrev pub invariant-loop-left : goal.invariant-loop-left
invariant-loop-left l =
    SoundChain l.list l.chain
    × (l.chain.request.count + l.chain.reply.count + l.left ≤ 34)
    × (length l.list ≡ length l.initial.list)
    × (onwards l.m l.indirect l.deeper l.left (descriptors l.m l.at.0 l.count) l.number.0 (ranges_of l.list l.chain.request)
    (ranges_of l.list l.chain.reply)
    ≡ onwards l.m l.indirect l.initial.deeper l.initial.left (descriptors l.m l.initial.at.0 l.initial.count) l.initial.number.0
    (ranges_of l.initial.list l.initial.chain.request)
    (ranges_of l.initial.list l.initial.chain.reply))
    × (l.deeper ≡ l.initial.deeper)

abbrev pub decreases-loop-left : goal.decreases-loop-left
decreases-loop-left l = l.left

-- the tables: the rest of the walk is the whole walk's
abbrev pub invariant-walk : goal.invariant-walk
invariant-walk l =
    SoundChain l.list l.chain
    × (l.chain.request.count + l.chain.reply.count + l.left ≤ 34)
    × (length l.list ≡ length l.initial.list)
    × (onwards l.m l.indirect l.deeper l.left (descriptors l.m l.at.0 l.count) l.number.0 (ranges_of l.list l.chain.request)
    (ranges_of l.list l.chain.reply)
    ≡ walk_of l.m l.initial.at.0 l.size l.initial.number.0 l.indirect)

abbrev pub decreases-walk : goal.decreases-walk
decreases-walk l = l.deeper
