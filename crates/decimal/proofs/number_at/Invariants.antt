use Rattle.decimal.proofs.Reading.{Reading}
use Rattle.decimal.proofs.number_at.Given as goal

abbrev pub invariant-loop-i : goal.invariant-loop-i
invariant-loop-i l = Reading l.s l.at l.most l.max l.i l.v
