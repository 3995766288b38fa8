-- What is asked is the line's request with the bytes that the line lends.
use mathlib.Core.Path.{◌≡◌}
use lib.ListN.{take}
use Rattle.calls.specs.Calls.{request_of}
use Rattle.replay_call.specs.Asked.{asked_by}
use Rattle.replay_call.proofs.Asked.{asked-from, shows-as}
use Rattle.replay_call.proofs.call.Goals.{After-ask}
use Rattle.replay_call.proofs.call.Goals as goal

-- what is asked
asked : (c : After-ask) →
    let a = c.args in
    request_of c.request.result (take c.lend-count.result c.lend-count.new.host) ≡ asked_by a.call a.s.now
asked c =
    let a = c.args in
    let d = c.lend-count.ensures.value in
    let made = c.request.ensures in
    asked-from a.call a.s.now made d.0 d.1 c.host_buffer-host.ensures.value_2

pub returns : goal.returns
returns c = shows-as (asked (goal.at.returns c).After-ask) c.ask.ensures.0
