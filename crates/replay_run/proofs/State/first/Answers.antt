-- Nothing is described, and no card is powered.
use Rattle.calls.proofs.Whole.{powered-device}
use Rattle.replay_run.proofs.State.first.Goals as goal

pub returns : goal.returns
returns c = (
  rw (c.nothing.ensures, powered-device _ 0 _ c.power_up.ensures.0, c.nothing-2.ensures),
  c.power_up.ensures.1,
)
