-- The code is stored, then the data behind it.
use Rattle.std.proofs.Common.{◌∙◌}
use Rattle.event_queue.proofs.Laws.{event-put}
use Rattle.event_queue.proofs.Event.bytes.Goals as goal

pub returns : goal.returns
returns c = c.set-2.ensures ∙ rw c.set.ensures (event-put _ _)
