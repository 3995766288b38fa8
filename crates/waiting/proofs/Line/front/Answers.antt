-- The place of the front holds it.
use Rattle.waiting.proofs.Laws.{heads-front}
use Rattle.waiting.proofs.Line.front.Goals as goal

pub returns : goal.returns
returns c =
    let a = c.args in
    λ somebody. rw c.of.ensures (heads-front _ a.ring.now a.self.start a.self.count somebody)
