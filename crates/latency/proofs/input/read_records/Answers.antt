-- Every block but the last is full, so that whole records stand before each. The measure is how far the bytes read are
-- from passing the limit.
use mathlib.Core.Path.{◌≡◌, sym, ◌∙◌, ap}
use mathlib.Core.Logic.{inl, inr}
use Prim.Native.Nat.{◌+◌, ◌%◌, ◌^◌, ◌≤◌}
use native.Mathlib.Omega.{arith}
use lib.ListN.{length, take, length-take}
use Rattle.latency_tally.specs.declared.Input.{Input}
use Rattle.std.specs.Io.KnownBytes.{Consumes}
use Rattle.std.proofs.KnownBytes.{Consumes-nil, Consumes-trans}
use Rattle.latency.specs.Reading.{Behind}
use Rattle.latency.proofs.Readings.{bytes-taken, behind-none, behind_more}
use Rattle.latency.proofs.input.read_records.Goals.{After-read_block-turn}
use Rattle.latency.proofs.input.read_records.Given.{Over}
use Rattle.latency.proofs.input.read_records.Goals as goal

-- what one block more leaves
record Next (g : Over) (c : After-read_block-turn g) : Type 0 where
  behind : Behind c.args.opened c.read_block-turn.result.input
  consumed : Consumes (g.R.Read.remaining c.args.from.now) (g.R.Read.remaining c.read_block-turn.new.from) behind.read
  whole : 65536 ≤ c.read_block-turn.result.count → length behind.read % 8 ≡ 0
  buffer : 65536 ≡ length c.read_block-turn.new.buffer
  bytes : c.read_block-turn.result.input.bytes ≡ (c.loop-input.input.bytes + c.read_block-turn.result.count) % 2 ^ 64

next : (g : Over) (c : After-read_block-turn g) → Next g c
next g c =
    let l = c.loop-input in
    let r = c.read_block-turn.result in
    let e = c.read_block-turn.ensures in
    let after = c.read_block-turn.new.buffer in
    let long : length (take r.count after) ≡ r.count = rw length-take (omega (arith, e.count_in_bounds)) in
    let kept : 65536 ≡ length after = l.invariant.0 ∙ sym c.read_block-turn.auto.buffer in
    let more = behind_more _ l.input r.input c.requires l.invariant.1 l.invariant.2
    c.loop-input-test.true (take r.count after) (bytes-taken r.count after e.bytes) (omega (arith, e.count_in_bounds)) e.input_value in
    record {
      behind = more.0;
      consumed = Consumes-trans _ _ _ _ _ l.invariant.3 e.read;
      whole = λ h. omega (arith, more.1, e.count_in_bounds, l.invariant.2);
      buffer = kept;
      bytes = ap (λ (x : Input). x.bytes) e.input_value ∙ rw long;
    }

pub loop-input-init : goal.loop-input-init
loop-input-init g c =
    let none = behind-none c.args.opened c.requires in
    (c.large_buffer-buffer.ensures, none.0, omega (arith, none.1), Consumes-nil _)

pub slice_bounds-read_block-end : goal.slice_bounds-read_block-end
slice_bounds-read_block-end g c = c.loop-input.invariant.0

pub returns-then-turn-lt-BLOCK : goal.returns-then-turn-lt-BLOCK
returns-then-turn-lt-BLOCK g c =
    let n = next g (goal.at.returns-then-turn-lt-BLOCK g c).After-read_block-turn in
    record { behind = (n.behind, n.consumed); last = inl c.if-turn-lt-BLOCK.true }

pub loop-input-smaller : goal.loop-input-smaller
loop-input-smaller g c =
    let n = next g (goal.at.loop-input-smaller g c).After-read_block-turn in
    omega (arith, n.bytes)

pub loop-input-preserved : goal.loop-input-preserved
loop-input-preserved g c =
    let n = next g (goal.at.loop-input-preserved g c).After-read_block-turn in
    (n.buffer, n.behind, n.whole c.if-turn-lt-BLOCK.false, n.consumed)

pub returns : goal.returns
returns g c = record { behind = (c.loop-input.invariant.1, c.loop-input.invariant.3); last = inr c.loop-input-test.false }
