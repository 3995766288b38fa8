-- The used entry is the ring's, on the control queue.
use mathlib.Core.Path.{◌∙◌}
use Rattle.reply.specs.Reply.{closed_of}
use Rattle.reply.proofs.close.Goals as goal

pub returns : goal.returns
unfolding closed_of
returns c = c.post.ensures ∙ rw c.queue_size-size.ensures
