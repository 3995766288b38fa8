-- With a card, the call is made on the first bytes, and the others stay.
use Rattle.std.proofs.Common.{◌∙◌, arith}
use Rattle.decimal.proofs.Writing.{put_as}
use Rattle.replay_run.proofs.Laws.{made-text, made-world, unpowered-text, unpowered-world}
use Rattle.replay_run.proofs.State.call_line.Goals as goal

pub returns-then-not-self : goal.returns-then-not-self
returns-then-not-self c =
    let put = c.answer in
    let none = c.if-not-self.true in
    record {
      world = unpowered-world _ _ _ _ none;
      text = put_as (unpowered-text _ _ _ c.args.ram.now none) put.ensures.0;
      room = omega (arith, put.ensures.1, put.auto.out, c.requires.1);
      fit = c.requires.0;
    }

pub returns : goal.returns
returns c =
    let a = c.args in
    let some = c.if-not-self.false in
    let q = c.call-shown.ensures in
    let length = c.within-lent.ensures.value in
    record {
      world = made-world a.self.now a.call a.s.now a.ram.now _ some length _ _ q.leaves;
      text =
          put_as (c.as_slice.ensures.value ∙ q.text ∙ made-text a.self.now a.call a.s.now a.ram.now _ some length) c.lay.ensures;
      room = omega (arith, c.lay.ensures.behind, c.as_slice.ensures.most, c.lay.auto.out, c.requires.1);
      fit = q.fit;
    }
