-- Past the six there is no stream, nor is one of the other direction there; else its state decides.
use mathlib.Core.Path.{◌∙◌, sym}
use Rattle.message.specs.Message.{direction_of}
use Rattle.pcm.proofs.Laws.{runs-at}
use Rattle.pcm.proofs.is_running.Goals as goal

pub returns : goal.returns
returns c =
    let a = c.args in
    let on = sym c.is_on.ensures ∙ c.if-not-is_on.false in (
      λ p pw cw f. rw c.state_of.ensures (sym (runs-at a.live p pw cw f.board (direction_of a.direction) a.id on)),
      λ e. (c.if-id.false, on),
    )
