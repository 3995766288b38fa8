-- A message in work stays, an empty line too; else the front leaves its line and is read into the chain's words.
use Prim.Native.Nat.{ℕ}
use Rattle.line_chains.specs.Queue.{virtqueue_of}
use Rattle.line_words.proofs.Parts.{chain-long, chain-here, chain-marks, chain-ring}
use Rattle.line_words.specs.Slots.{ring_in}
use Rattle.waiting.specs.Waiting.{heads_in}
use lib.ListN.{length}
use mathlib.Core.List.{List, ◌∷◌}
use mathlib.Core.Path.{◌≡◌, ◌∙◌, refl, sym, ap}
use native.Mathlib.Omega.{arith}
use Rattle.line_work.proofs.Laws.{open-busy, open-vacant, open-read, aside_none}
use Rattle.line_work.proofs.open_front.Goals as goal

pub returns-then-f-ne0 : goal.returns-then-f-ne0
returns-then-f-ne0 c =
    let a = c.args in
    record {
      run = λ host. open-busy (virtqueue_of a.q) a.line a.slot.now a.m.now host a.front c.if-f-ne0.true;
      message = c.requires.1;
      line = c.requires.2;
      moved = refl;
      long = refl;
      aside = aside_none a.slot.now;
    }

pub returns-then-waiting-eq0 : goal.returns-then-waiting-eq0
returns-then-waiting-eq0 c =
    let a = c.args in
    record {
      run = λ host. open-vacant (virtqueue_of a.q) a.line a.slot.now a.m.now host a.front
          c.if-f-ne0.false c.if-waiting-eq0.true;
      message = c.requires.1;
      line = c.requires.2;
      moved = refl;
      long = refl;
      aside = aside_none a.slot.now;
    }

pub returns : goal.returns
returns c =
    let a = c.args in
    let v = virtqueue_of a.q in
    let slot = a.slot.now in
    let t = c.read_front-flow.ensures in
    let ws = c.read_front-flow.new.list in
    let l : length ws ≡ 68 = omega arith in
    let next = c.leave-rest in
    let long = c.requires.0 in
    let heads : heads_in (ring_in slot) a.front.line ≡ c.front-head.result.0 ∷ heads_in (ring_in slot) next.result =
    c.front-head.ensures (omega (arith, c.if-waiting-eq0.false)) ∙ ap (λ (l : List ℕ). c.front-head.result.0 ∷ l) (sym next.ensures.0) in
    record {
      run = λ host. rw (chain-here slot ws long l, chain-ring slot ws long l)
          (ap (λ x. record { heads = heads_in (ring_in slot) next.result; run = x }) (t.run host)
          ∙ open-read v a.line slot a.m.now host a.front _ _ c.if-f-ne0.false heads);
      message = rw (chain-here slot ws long l) t.message;
      line = next.ensures.1;
      moved = t.moved;
      long = t.long;
      aside = record { marks = chain-marks slot ws long l; ring = chain-ring slot ws long l; long = chain-long slot ws long l };
    }
