-- The product of two numbers of 32 bits fits 64.
use native.Mathlib.Omega.{arith}
use Rattle.requests.proofs.Laws.{product-fits}
use Rattle.requests.proofs.Query.is_roomy.Goals as goal

pub overflow_mul-self : goal.overflow_mul-self
overflow_mul-self c = omega (arith, product-fits c.args.self.count c.args.self.size (omega arith) (omega arith))
