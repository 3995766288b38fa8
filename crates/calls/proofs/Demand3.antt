-- Demand 3: what the calls returned and left is what the rules' calls tell and leave (`tied`, `each_left`), of which the account's claim
-- holds.
use mathlib.Core.Path.{◌≡◌}
use mathlib.Core.List.{List}
use Prim.Native.Nat.{ℕ}
use Rattle.description.specs.declared.Description.{Description}
use Rattle.registers.specs.Answers.{done}
use Rattle.card.specs.declared.Card.{Card}
use Rattle.card.specs.declared.Powered.{Powered}
use Rattle.rules.specs.Calls.{Told}
use Rattle.line_calls.specs.Calls.{Call}
use Rattle.line_calls.proofs.Demand3 as account
use Rattle.calls.specs.Calls.{Powers}
use Rattle.calls.specs.Demand3.{Demand3}
use Rattle.calls.specs.Tied.{Runs}
use Rattle.calls.proofs.Tied.{tied, each_left}

-- ---- THE THEOREM

-- of the calls `r` on the card `p.card` that power-up returned with answer 0: the first premise is its contract, and `Runs` is what
-- `call` promises of each
pub demand-3 :
    (d : Description) (len : ℕ) (p : Powered)
    → Powers d len p
    → p.answer ≡ done
    → (ks : List Call) (ts : List Told) (last : Card) (r : Runs p.card ks ts last)
    → Demand3 d len ks ts r
demand-3 d len p is ok ks ts last r =
    record {
      returned = (tied d len p is ok ks ts last r).told;
      left = each_left d len p is ok ks ts last r;
      account = account.demand-3 d len ks;
    }
