-- The code is stored, then the latency behind it.
use mathlib.Core.Path.{◌∙◌}
use Rattle.message.proofs.Laws.{io-status-put}
use Rattle.message.proofs.status_bytes.Goals as goal

pub returns : goal.returns
returns c = c.set-2.ensures ∙ rw c.set.ensures (io-status-put _ _)
