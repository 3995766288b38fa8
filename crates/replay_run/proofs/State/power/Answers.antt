-- Each part of the state is what its call made.
use Rattle.std.proofs.Common.{arith}
use Rattle.decimal.proofs.Writing.{put_as}
use Rattle.replay_run.proofs.Laws.{powered-text, powered-world}
use Rattle.replay_run.proofs.State.power.Goals as goal

pub returns : goal.returns
returns c =
    let lent = c.within-len.ensures.value in
    let p = c.power_up-powered.ensures in
    let st = c.args.self.now in
    let n = c.args.n in
    let ram = c.args.ram.now in
    record {
      world = powered-world st n _ ram _ lent p.0 _ _ c.fill.ensures c.nothing-self.ensures;
      text = put_as (powered-text st n _ ram _ lent p.0) c.answer.ensures.0;
      room = omega (arith, c.answer.ensures.1, c.answer.auto.out, c.requires);
      fit = p.1;
    }
