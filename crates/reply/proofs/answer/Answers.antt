-- What is served is the completion, with these parts.
use Rattle.reply.proofs.Laws.{completed-outcome}
use Rattle.reply.proofs.answer.Goals as goal

pub returns : goal.returns
returns c = completed-outcome _ _ _ _ c.complete-posted.ensures
