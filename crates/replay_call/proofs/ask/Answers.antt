-- The call does the rules' step, and the text is made of what it told.
use mathlib.Core.Path.{◌∙◌}
use Rattle.replay_call.proofs.Laws.{text-shown, left-shown, host-shown}
use Rattle.replay_call.proofs.ask.Goals as goal

pub returns : goal.returns
returns c =
    let a = c.args in
    let o = c.call-told.result in
    let m = c.call-told.new.m in
    let host = c.call-told.new.host in
    let d = c.call-told.ensures in (
      record {
        text = c.text-text.ensures ∙ text-shown a.card a.request o a.host.now host a.m.now m d.0 a.line;
        leaves = left-shown a.card a.request o a.host.now host a.m.now m d.0;
        fit = d.1;
      },
      host-shown a.card a.request o a.host.now host a.m.now m d.0 d.2,
    )
