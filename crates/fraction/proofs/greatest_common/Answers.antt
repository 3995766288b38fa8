-- A division keeps the common divisors of the two numbers (`IsGcd-from_mod`); with 0 beside it, the other is the greatest of them.
use Rattle.std.proofs.lemmas.Nat.Gcd.{IsGcd-from_mod, IsGcd-from_zero}
use Rattle.fraction.proofs.Laws.{greatest-IsGcd}
use Rattle.fraction.proofs.greatest_common.Goals as goal

pub loop-b-preserved : goal.loop-b-preserved
loop-b-preserved c = λ g h. c.loop-b.invariant g (IsGcd-from_mod _ _ g h)

pub returns : goal.returns
returns c = greatest-IsGcd _ _ _ c.requires (c.loop-b.invariant _ (IsGcd-from_zero _ _ c.loop-b-test.false))
