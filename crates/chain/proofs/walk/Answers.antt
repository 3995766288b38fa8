-- The walk follows `direct`, and inside an indirect table `in_table`, turn by turn: each turn reads the descriptor that the definition
-- reads, and leaves or goes on by the definition's tests.
use Rattle.std.proofs.Common.{◌≡◌, ◌∙◌, ◌-◌, ◌/◌, sym, refl, arith, length}
use Rattle.std.specs.Prelude.{Result, Ok, true, false}
use Rattle.ranges.specs.Ranges.{ranges_of, ranges_in}
use Rattle.chain.specs.declared.Fault.{Fault}
use Rattle.chain.specs.Walk.{descriptors, by_end, onward, in_table, walk_of, enter_of, is_indirect}
use Rattle.chain.proofs.Laws.{sound_empty, onwards, turned, onwards-none, onwards-past, onwards-more, turned-joins, turned-nested}
use Rattle.chain.proofs.Laws.{turned-enters, onward-fault, onward-last, onward-next, joined-sound, joined-few}
use Rattle.chain.proofs.walk.Goals.{After-read-d}
use Rattle.chain.proofs.walk.Goals as goal

-- the rest of the walk from a descriptor that was read
rest : (c : After-read-d) → let l = c.loop-left in
    let a = c.args in
    turned a.m.now a.indirect l.deeper l.left (l.left - 1) (descriptors a.m.now l.at.0 l.count) c.read-d.result
    (ranges_of l.list l.chain.request) (ranges_of l.list l.chain.reply)
    ≡ walk_of a.m.now a.table.0 a.size a.head.0 a.indirect
rest c =
    let l = c.loop-left in
    let a = c.args in
    sym
    (onwards-more a.m.now a.indirect l.deeper l.at.0 l.count l.left (l.left - 1) l.number.0 _ _ (omega arith)
    c.read-d.result (omega arith) c.read-d.ensures)
    ∙ l.invariant.3 ∙ c.walk.invariant.3

-- .. that is joined
rest-joined : (c : After-read-d) → is_indirect c.read-d.result ≡ false → let l = c.loop-left in
    let a = c.args in
    onward c.read-d.result (ranges_of l.list l.chain.request) (ranges_of l.list l.chain.reply)
    (onwards a.m.now a.indirect l.deeper (l.left - 1) (descriptors a.m.now l.at.0 l.count) c.read-d.result.next.0)
    ≡ walk_of a.m.now a.table.0 a.size a.head.0 a.indirect
rest-joined c e =
    let l = c.loop-left in
    let a = c.args in
    sym (turned-joins a.m.now a.indirect l.deeper l.left (l.left - 1) _ c.read-d.result _ _ e) ∙ rest c

-- .. that names an indirect table
rest-entered : (c : After-read-d) (end : Result Unit Fault)
    → let l = c.loop-left in
    let a = c.args in
    let d = c.read-d.result in
    enter_of (length a.m.now) a.indirect d ≡ end
    → is_indirect d ≡ true
    → (l.deeper ≡ 0 → ⊥)
    → by_end end
    (in_table l.left (descriptors a.m.now d.at.0 (d.len / 16)) 0 (ranges_of l.list l.chain.request) (ranges_of l.list l.chain.reply))
    ≡ walk_of a.m.now a.table.0 a.size a.head.0 a.indirect
rest-entered c end e i some =
    let l = c.loop-left in
    let a = c.args in
    sym (turned-enters a.m.now a.indirect l.deeper l.left (l.left - 1) _ c.read-d.result _ _ end e i some) ∙ rest c

pub walk-init : goal.walk-init
unfolding ranges_in
walk-init c = rw c.empty-chain.ensures (sound_empty _, omega arith, refl, refl)

pub loop-left-init : goal.loop-left-init
loop-left-init c = (c.walk.invariant.0, c.walk.invariant.1, refl, refl, refl)

pub walk-smaller : goal.walk-smaller
walk-smaller c = omega (arith, c.loop-left.invariant.4, c.if-deeper-eq0.false)

pub walk-preserved : goal.walk-preserved
walk-preserved c =
    let l = c.loop-left in (
      l.invariant.0,
      l.invariant.1,
      l.invariant.2 ∙ c.walk.invariant.2,
      rw c.of-number.ensures (rest-entered (goal.at.walk-preserved c).After-read-d (Ok tt) (sym c.enter.ensures ∙ c.in_default.is)
          (sym c.is_indirect.ensures ∙ c.if-is_indirect.true) c.if-deeper-eq0.false),
    )

pub joined-requires : goal.joined-requires
joined-requires c = (
  c.loop-left.invariant.0,
  omega (arith, c.loop-left.invariant.1),
  rw (c.loop-left.invariant.2 ∙ c.walk.invariant.2) c.requires,
)

pub loop-left-preserved : goal.loop-left-preserved
loop-left-preserved c =
    let l = c.loop-left in
    let j = c.joined in (
      joined-sound j.ensures c.in-Ok.is,
      omega (arith, joined-few j.ensures c.in-Ok.is),
      j.auto.list ∙ l.invariant.2,
      sym (onward-next j.ensures _ c.in-Ok.is (sym c.has_next.ensures ∙ c.if-not-has_next.false))
          ∙ rest-joined (goal.at.loop-left-preserved c).After-read-d (sym c.is_indirect.ensures ∙ c.if-is_indirect.false)
          ∙ sym c.walk.invariant.3,
      l.invariant.4,
    )

pub returns-then-left-eq0 : goal.returns-then-left-eq0
returns-then-left-eq0 c =
    let l = c.loop-left in
    let a = c.args in
    record {
      outcome = sym (onwards-none a.m.now a.indirect l.deeper l.left _ _ _ _ c.if-left-eq0.true) ∙ l.invariant.3 ∙ c.walk.invariant.3;
      sound = tt;
    }

pub returns-then-count-number : goal.returns-then-count-number
returns-then-count-number c =
    let l = c.loop-left in
    let a = c.args in
    record {
      outcome =
          sym
          (onwards-past a.m.now a.indirect l.deeper l.at.0 l.count l.left (l.left - 1) l.number.0 _ _ (omega arith)
          (omega arith))
          ∙ l.invariant.3 ∙ c.walk.invariant.3;
      sound = tt;
    }

pub returns-then-deeper-eq0 : goal.returns-then-deeper-eq0
returns-then-deeper-eq0 c =
    let l = c.loop-left in
    let a = c.args in
    record {
      outcome =
          sym
          (turned-nested a.m.now a.indirect l.deeper l.left (l.left - 1) _ c.read-d.result _ _
          (sym c.is_indirect.ensures ∙ c.if-is_indirect.true) c.if-deeper-eq0.true)
          ∙ rest (goal.at.returns-then-deeper-eq0 c).After-read-d;
      sound = tt;
    }

pub returns-in-Err : goal.returns-in-Err
returns-in-Err c =
    record {
      outcome = rest-entered (goal.at.returns-in-Err c).After-read-d _ (sym c.enter.ensures ∙ c.in-Err.is)
          (sym c.is_indirect.ensures ∙ c.if-is_indirect.true) c.if-deeper-eq0.false;
      sound = tt;
    }

pub returns-in-Err-joined : goal.returns-in-Err-joined
returns-in-Err-joined c =
    record {
      outcome = sym (onward-fault c.joined.ensures _ c.in-Err-joined.is)
          ∙ rest-joined (goal.at.returns-in-Err-joined c).After-read-d (sym c.is_indirect.ensures ∙ c.if-is_indirect.false);
      sound = tt;
    }

pub returns-then-not-has_next : goal.returns-then-not-has_next
returns-then-not-has_next c =
    let j = c.joined in
    record {
      outcome =
          sym (onward-last j.ensures _ c.in-Ok.is (sym c.has_next.ensures ∙ c.if-not-has_next.true))
          ∙ rest-joined (goal.at.returns-then-not-has_next c).After-read-d (sym c.is_indirect.ensures ∙ c.if-is_indirect.false);
      sound = joined-sound j.ensures c.in-Ok.is;
    }
