-- Each step refuses with BAD_MSG; past all of them the items are listed.
use mathlib.Core.Path.{◌≡◌, refl}
use mathlib.Core.Bool.{Bool, true, false}
use Prim.Native.Nat.{◌+◌, ◌*◌, ◌≤◌}
use native.Mathlib.Omega.{arith}
use borrow.Author.Tests.{leb-true}
use lib.Dec.{leb}
use lib.ListN.{length}
use Rattle.information.specs.Items.{items_in}
use Rattle.live.specs.Live.{parts_now}
use Rattle.rules.specs.Control.{spaced, listed_in, roomy, word}
use Rattle.requests.proofs.Laws.{check-passed, check-failed}
use Rattle.requests.proofs.inform.Goals.{After-is_listed, After-is_roomy, After-is_spaced}
use Rattle.requests.proofs.inform.Goals as goal

-- each test is that of the request's numbers
sized : (c : After-is_spaced) (b : Bool) → spaced c.of-query.result.count c.of-query.result.size ≡ b
    → spaced (word c.args.request.now 2) (word c.args.request.now 3) ≡ b
sized c b h = rw c.of-query.ensures at h

there : (c : After-is_listed) (b : Bool) →
    let a = c.args in
    leb (c.of-query.result.start + c.of-query.result.count) c.total.result ≡ b
    → listed_in (items_in a.l (parts_now a.live a.parts)) (word a.request.now 1) (word a.request.now 2) ≡ b
there c b h = rw (c.of-query.ensures, c.total.ensures.0) at h

wide : (c : After-is_roomy) (b : Bool) → roomy c.of-query.result.count c.of-query.result.size c.args.room ≡ b
    → roomy (word c.args.request.now 2) (word c.args.request.now 3) c.args.room ≡ b
wide c b h = rw c.of-query.ensures at h

pub returns-in_default : goal.returns-in_default
returns-in_default c =
    rw (sized (goal.at.returns-in_default c).After-is_spaced false (check-failed _ c.in_default.ensures))
    (record { bytes = _; same = refl; completes = c.complete.ensures })

pub returns-in_default-is_listed : goal.returns-in_default-is_listed
returns-in_default-is_listed c =
    let at = goal.at.returns-in_default-is_listed c in
    rw (
      sized at.After-is_spaced true (check-passed _ c.in-Some.ensures),
      there at.After-is_listed false (check-failed _ c.in_default-is_listed.ensures),
    )
    (record { bytes = _; same = refl; completes = c.complete-in_default-is_listed.ensures })

pub returns-in_default-is_roomy : goal.returns-in_default-is_roomy
returns-in_default-is_roomy c =
    let at = goal.at.returns-in_default-is_roomy c in
    rw (
      sized at.After-is_spaced true (check-passed _ c.in-Some.ensures),
      there at.After-is_listed true (check-passed _ c.in-Some-is_listed.ensures),
      wide at.After-is_roomy false (check-failed _ c.in_default-is_roomy.ensures),
    )
    (record { bytes = _; same = refl; completes = c.complete-in_default-is_roomy.ensures })

pub list_items-requires : goal.list_items-requires
list_items-requires c =
    let q = c.of-query.result in
    let there : q.start + q.count ≤ length (items_in c.args.l (parts_now c.args.live c.args.parts)) =
    rw c.total.ensures.0 at (leb-true _ _ (check-passed _ c.in-Some-is_listed.ensures)) in
    let fits : 4 + q.count * q.size ≤ c.args.room = leb-true _ _ (check-passed _ c.in-Some-is_roomy.ensures) in
    (c.requires, there, omega (arith, fits))

pub returns : goal.returns
returns c =
    let at = goal.at.returns c in
    rw (
      sized at.After-is_spaced true (check-passed _ c.in-Some.ensures),
      there at.After-is_listed true (check-passed _ c.in-Some-is_listed.ensures),
      wide at.After-is_roomy true (check-passed _ c.in-Some-is_roomy.ensures),
    )
    (record { bytes = _; same = refl; completes = rw c.of-query.ensures at c.list_items.ensures })
