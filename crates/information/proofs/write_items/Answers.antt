-- At each turn the items that are left, written behind what is written, make the whole.
use mathlib.Core.Path.{◌≡◌, ◌∙◌, sym, ap}
use mathlib.Core.List.{List, [], ◌++◌, map}
use Prim.Native.Nat.{ℕ, suc, ◌+◌, ◌-◌, ◌*◌, ◌≤◌, ◌<◌}
use native.Mathlib.Nat.{suc-mul}
use native.Mathlib.Omega.{arith}
use lib.ListN.{length, get_or, take, drop}
use lib.Seq.{drop-drop}
use Rattle.live.specs.Live.{parts_now}
use Rattle.ranges.specs.Ranges.{ranges_of, places, put_at}
use Rattle.ranges.proofs.Laws.{put_at-nil}
use Rattle.reply.proofs.Laws.{put_at-behind}
use Rattle.rules.specs.Control.{fitted}
use Rattle.rules.specs.declared.Listing.TheVariants.{Jacks, Streams, Maps}
use Rattle.information.specs.Items.{items_in}
use Rattle.information.proofs.Laws.{row_of, row_next, length-items, length-fitted, joined-none, most, most-six, few-items}
use Rattle.information.proofs.Laws.{Begins, begins, jack-begins, stream-begins, map-begins}
use Rattle.information.proofs.write_items.Goals.{In-loop-i, Joined-l, in-Jacks, in-Streams, in-Maps}
use Rattle.information.proofs.write_items.Goals as goal

-- a turn: the next item, then the others, their bytes and their lengths; and there is room for it
turn : (size : ℕ) (items : List (List ℕ)) (start count i at : ℕ) → start + count ≤ length items
    → 4 + length (row_of size items start count) ≤ 4294967295
    → i < start + count
    → at + (start + count - i) * size ≡ 4 + count * size
    → (row_of size items i (start + count - i) ≡ fitted size (get_or items i []) ++ row_of size items (i + 1) (start + count - (i + 1)))
    × (at + size + (start + count - (i + 1)) * size ≡ 4 + count * size)
    × (at + size ≤ 4294967295)
turn size items start count i at h room b e =
    let k = start + count - (i + 1) in
    let s : start + count - i ≡ suc k = omega arith in
    let n : (start + count - i) * size ≡ k * size + size = ap (λ (j : ℕ). j * size) s ∙ suc-mul k size in
    let long = length-items size items count start h in (
      row_next size items (start + count - i) k i (omega arith) (omega arith),
      omega (arith, n, e),
      omega (arith, n, e, long, room),
    )

-- the item of this turn is one of those
inside : (c : In-loop-i) → c.loop-i.i < most c.args.l
inside c = let a = c.args in omega (arith, few-items a.l (parts_now a.live a.parts) c.requires.0, c.requires.1)

-- it is made of the part that the listing tells
made : (c : Joined-l) →
    let a = c.args in Begins a.l (parts_now a.live a.parts) c.loop-i.i c.match-l.item
made c =
    let v = c.args.live in
    let p = c.args.parts in
    let now = parts_now v p in
    let i = c.loop-i.i in
    let h : i < length (items_in c.args.l now) = omega (arith, c.requires.1) in
    elim c.match-l.branch [
      | in-Jacks w ↦ begins _ Jacks now i _ _ w.in-Jacks.is (w.item-is ∙ w.jack_item-item.ensures) h (jack-begins v p i)
      | in-Streams w ↦ begins _ Streams now i _ _ w.in-Streams.is (w.item-is ∙ w.pcm_item-item.ensures) h (stream-begins v p i)
      | in-Maps w ↦ begins _ Maps now i _ _ w.in-Maps.is (w.item-is ∙ w.map_item-item.ensures.0) h
          (λ g. map-begins v p i g w.map_item-item.ensures.1)
    ]

pub overflow_add-i-end : goal.overflow_add-i-end
overflow_add-i-end c = let a = c.args in omega (arith, few-items a.l (parts_now a.live a.parts) c.requires.0, most-six a.l, c.requires.1)

pub offset_bounds-parts-i : goal.offset_bounds-parts-i
offset_bounds-parts-i c = let few = rw c.in-Jacks.is at (inside (goal.at.offset_bounds-parts-i c).In-loop-i) in omega (arith, few)

pub bounds-parts-i : goal.bounds-parts-i
bounds-parts-i c = let few = rw c.in-Jacks.is at (inside (goal.at.bounds-parts-i c).In-loop-i) in omega (arith, few)

pub offset_bounds-parts-i-in-Streams : goal.offset_bounds-parts-i-in-Streams
offset_bounds-parts-i-in-Streams c = let few = rw c.in-Streams.is at (inside (goal.at.offset_bounds-parts-i-in-Streams c).In-loop-i) in
    omega (arith, few)

pub bounds-parts-i-in-Streams : goal.bounds-parts-i-in-Streams
bounds-parts-i-in-Streams c = let few = rw c.in-Streams.is at (inside (goal.at.bounds-parts-i-in-Streams c).In-loop-i) in
    omega (arith, few)

pub offset_bounds-parts-i-in-Maps : goal.offset_bounds-parts-i-in-Maps
offset_bounds-parts-i-in-Maps c = let few = rw c.in-Maps.is at (inside (goal.at.offset_bounds-parts-i-in-Maps c).In-loop-i) in
    omega (arith, few)

pub bounds-parts-i-in-Maps : goal.bounds-parts-i-in-Maps
bounds-parts-i-in-Maps c = let few = rw c.in-Maps.is at (inside (goal.at.bounds-parts-i-in-Maps c).In-loop-i) in omega (arith, few)

pub write_item-requires : goal.write_item-requires
write_item-requires c =
    let a = c.args in
    let l = c.loop-i in
    let t = turn a.size (items_in a.l (parts_now a.live a.parts)) a.start a.count l.i l.at c.requires.1 c.requires.2 c.loop-i-test.true
    l.invariant.1 in (
      t.2,
      omega (arith, c.natural_size-natural.ensures.1, (made (goal.at.write_item-requires c).Joined-l).0),
    )

pub overflow_add-at : goal.overflow_add-at
overflow_add-at c =
    let a = c.args in
    let l = c.loop-i in
    let t = turn a.size (items_in a.l (parts_now a.live a.parts)) a.start a.count l.i l.at c.requires.1 c.requires.2 c.loop-i-test.true
    l.invariant.1 in
    omega (arith, t.2)

pub loop-i-preserved : goal.loop-i-preserved
loop-i-preserved c =
    let l = c.loop-i in
    let a = c.args in
    let items = items_in a.l (parts_now a.live a.parts) in
    let t = turn a.size items a.start a.count l.i l.at c.requires.1 c.requires.2 c.loop-i-test.true l.invariant.1 in
    let item = fitted a.size (get_or items l.i []) in
    let rest = row_of a.size items (l.i + 1) (a.start + a.count - (l.i + 1)) in
    let ps = places (ranges_of a.list.now a.reply) in
    let written : c.write_item.new.m ≡ put_at l.m (drop l.at ps) item =
    c.write_item.ensures
    ∙ ap (λ (xs : List ℕ). put_at l.m (drop l.at ps) (fitted a.size xs))
    (ap (λ (k : ℕ). take k c.match-l.item) c.natural_size-natural.ensures.0 ∙ (made (goal.at.loop-i-preserved c).Joined-l).1) in
    let s : put_at l.m (drop l.at ps) (row_of a.size items l.i (a.start + a.count - l.i))
    ≡ put_at (put_at l.m (drop l.at ps) item) (drop (l.at + a.size) ps) rest =
    rw (t.0, put_at-behind l.m (drop l.at ps) item rest, length-fitted a.size (get_or items l.i []), drop-drop) in
    (c.write_item.auto.m ∙ l.invariant.0, t.1, rw written (sym s ∙ l.invariant.2))

pub returns : goal.returns
returns c =
    let l = c.loop-i in
    let a = c.args in
    let items = items_in a.l (parts_now a.live a.parts) in
    let none : a.start + a.count - l.i ≡ 0 = omega arith in
    let z = joined-none (map (fitted a.size) items) (a.start + a.count - l.i) l.i none in
    let e : l.at + 0 * a.size ≡ 4 + a.count * a.size = rw none at l.invariant.1 in (
      sym (put_at-nil l.m (drop l.at (places (ranges_of a.list.now a.reply)))) ∙ rw z at l.invariant.2,
      rw (length-items a.size items a.count a.start c.requires.1) (omega (arith, e)),
    )
