-- The status is the whole reply.
use mathlib.Core.Path.{◌∙◌}
use Rattle.reply.proofs.Laws.{length-status}
use Rattle.reply.proofs.complete.Goals as goal

pub returns : goal.returns
returns c =
    let w = c.write_status in
    c.close.ensures ∙ rw (w.ensures, length-status)
