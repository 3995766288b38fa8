-- The byte is set behind the text, where 0 was.
use Rattle.std.proofs.Common.{arith}
use Rattle.text.proofs.Laws.{padded_set}
use Rattle.text.proofs.Text.push.Goals as goal

pub invariant_of-self : goal.invariant_of-self
invariant_of-self g c = padded_set _ _ _ _ (omega (arith, c.if-self.true, c.self.told)) c.self.invariant
