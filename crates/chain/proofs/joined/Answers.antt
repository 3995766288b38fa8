-- One test of each kind decides, in the definition's order; a range that is put extends its side.
use mathlib.Core.Path.{◌≡◌, ◌∙◌, sym}
use mathlib.Core.List.{List}
use Prim.Native.Nat.{ℕ, ◌+◌, ◌≤◌}
use native.Mathlib.Omega.{arith}
use borrow.Author.Tests.{le-leb, lt-leb, eq-eqb, ne_eqb}
use Rattle.chain.specs.declared.Fault.{Fault}
use Rattle.std.specs.Prelude.{Err}
use Rattle.chain.specs.declared.Descriptor.{Descriptor}
use Rattle.chain.specs.declared.Chain.{Chain}
use Rattle.ranges.specs.Ranges.{ranges_of}
use Rattle.ranges.proofs.Laws.{length-ranges_in}
use Rattle.chain.specs.Walk.{joined_of, range_of, faulted, Joins}
use Rattle.chain.proofs.Laws.{reply-kept, reply-more, reply-sound, request-kept, request-more, request-sound}
use Rattle.chain.proofs.joined.Goals as goal

-- a fault leaves no chain
stops : {ws : List ℕ} {c : Chain} {d : Descriptor} {f : Fault}
    → faulted f ≡ joined_of d (ranges_of ws c.request) (ranges_of ws c.reply) → Joins ws c d ws (Err f)
stops o = record { outcome = o; sound = tt; more = tt }

pub returns-then-reply-d : goal.returns-then-reply-d
unfolding joined_of
returns-then-reply-d c =
    let p = c.requires in
    let a = c.args in
    stops
    (rw (
      sym c.is_writable.ensures ∙ c.if-is_writable.true,
      ← p.0.reply,
      lt-leb (a.chain.reply.bytes + a.d.len) 1048576 (omega arith),
    ))

pub returns-then-is_writable : goal.returns-then-is_writable
unfolding joined_of
returns-then-is_writable c =
    let p = c.requires in
    let a = c.args in
    let w = c.with_reply.ensures in
    let e = rw c.range.ensures at c.put_range.ensures in
    let x = range_of a.d in
    let fits : a.chain.reply.bytes + a.d.len ≤ 1048576 = omega arith in
    record {
      outcome = rw (
        w,
        sym c.is_writable.ensures ∙ c.if-is_writable.true,
        ← p.0.reply,
        le-leb (a.chain.reply.bytes + a.d.len) 1048576 fits,
        reply-kept a.list.now a.chain x p.0 p.1 p.2 fits _ e,
        reply-more a.list.now a.chain x p.0 p.1 p.2 fits _ e,
      );
      sound = rw w (reply-sound a.list.now a.chain x p.0 p.1 p.2 fits _ e);
      more = rw w (omega arith);
    }

pub returns-then-reply-gt0 : goal.returns-then-reply-gt0
unfolding joined_of
returns-then-reply-gt0 c =
    let a = c.args in
    stops
    (rw (
      sym c.is_writable.ensures ∙ c.if-is_writable.false,
      length-ranges_in a.list.now a.chain.reply.first a.chain.reply.count,
      ne_eqb a.chain.reply.count 0 (λ z. omega arith),
    ))

pub returns-then-request-d : goal.returns-then-request-d
unfolding joined_of
returns-then-request-d c =
    let p = c.requires in
    let a = c.args in
    stops
    (rw (
      sym c.is_writable.ensures ∙ c.if-is_writable.false,
      length-ranges_in a.list.now a.chain.reply.first a.chain.reply.count,
      eq-eqb a.chain.reply.count 0 (omega arith),
      ← p.0.request,
      lt-leb (a.chain.request.bytes + a.d.len) 1048576 (omega arith),
    ))

pub returns : goal.returns
unfolding joined_of
returns c =
    let p = c.requires in
    let a = c.args in
    let w = c.with_request.ensures in
    let e = rw c.range-2.ensures at c.put_range-2.ensures in
    let x = range_of a.d in
    let none : a.chain.reply.count ≡ 0 = omega (arith, c.if-reply-gt0.false) in
    let fits : a.chain.request.bytes + a.d.len ≤ 1048576 = omega arith in
    record {
      outcome = rw (
        w,
        sym c.is_writable.ensures ∙ c.if-is_writable.false,
        length-ranges_in a.list.now a.chain.reply.first a.chain.reply.count,
        eq-eqb a.chain.reply.count 0 none,
        ← p.0.request,
        le-leb (a.chain.request.bytes + a.d.len) 1048576 fits,
        request-more a.list.now a.chain x p.0 p.1 p.2 none fits _ e,
        request-kept a.list.now a.chain x p.0 p.1 p.2 none fits _ e,
      );
      sound = rw w (request-sound a.list.now a.chain x p.0 p.1 p.2 none fits _ e);
      more = rw w (omega arith);
    }
