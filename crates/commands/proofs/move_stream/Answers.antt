-- The stream keeps all but its state. `t2` is the parameter `parts`.
use mathlib.Core.Path.{◌∙◌}
use Rattle.rules.proofs.Parts.{stream_at_lem}
use Rattle.reply.proofs.Laws.{serves-stream}
use Rattle.commands.proofs.move_stream.Goals as goal

pub returns : goal.returns
returns c =
    let a = c.args in
    rw (stream_at_lem a.parts a.i c.requires.1)
    (serves-stream _ a.pending a.parts _ _ _ a.i _ _ c.requires.0 c.requires.1 c.requires.2
    (c.answer.ensures ∙ rw c.with_stream.ensures))
