-- The check of a queue that has a base: it is broken, or its new entries are found; and taking them all reaches the available index.
use Rattle.std.specs.Prelude.{Result, Option, Ok, Err, Some}
use mathlib.Core.Path.{◌≡◌}
use mathlib.Core.List.{List}
use Prim.Native.Nat.{ℕ, ◌+◌, ◌%◌}
use native.Mathlib.Omega.{arith}
use borrow.Author.Tests.{eqb-true}
use lib.Dec.{eqb, ltb}
use lib.ListN.{length}
use Rattle.registers.proofs.Keeps.{by_cond}
use Rattle.counts.specs.declared.PageNumber.{PageNumber}
use Rattle.ring.specs.Layout.{end_at}
use Rattle.ring.specs.Rules.{base_of, new_of, found_of}
use Rattle.ring.specs.declared.Cause.{Cause}

-- so many new entries more, and the count has reached the index
pub new-reaches : (index n : ℕ) → (n + new_of index (n % 65536)) % 65536 ≡ index % 65536
new-reaches index n = omega arith

-- a queue with a base is broken, or its new entries are found
pub found-based :
    (P : Result (Option ℕ) Cause → Type 0) (m : List ℕ) (page : PageNumber) (N new work : ℕ)
    → (page.0 ≡ 0 → ⊥)
    → ((c : Cause) → P (Err c))
    → P (Ok (Some new))
    → P (found_of m page N new work)
unfolding found_of
found-based P m page N new work based h k =
    by_cond P (eqb page.0 0) (λ e. absurd (based (eqb-true page.0 0 e)))
    (λ e.
    by_cond P (ltb (length m) (base_of page + end_at N)) (λ e. h Cause.Region)
    (λ e. by_cond P (ltb N (new + work)) (λ e. h Cause.Entries) (λ e. k)))
