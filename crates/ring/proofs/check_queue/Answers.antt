-- Each answer is the test that led to it; the sum of new and in work is formed in 32 bits.
use Rattle.std.specs.Prelude.{Ok, Err, Some}
use Rattle.std.proofs.Common.{ℕ, Bool, List, ◌≡◌, ◌+◌, cond, not, ltb, length, sym, ◌∙◌, arith, le-ltb, lt-ltb, eq-eqb, ne_eqb}
use Rattle.counts.specs.Counts.{address_of_page}
use Rattle.counts.specs.declared.PageNumber.{PageNumber}
use Rattle.counts.specs.declared.GuestAddress.{GuestAddress}
use Rattle.memory.specs.Bytes.{inside_of}
use Rattle.ring.specs.Layout.{end_at}
use Rattle.ring.specs.Rules.{base_of, check_of, found_of}
use Rattle.ring.specs.declared.Cause.{Cause}
use Rattle.ring.proofs.Laws.{past_the_end}
use Rattle.ring.proofs.check_queue.Goals.{After-new_entries-new}
use Rattle.ring.proofs.check_queue.Goals as goal

region-judged : (m : List ℕ) (page : PageNumber) (size : ℕ) {base : GuestAddress} {end : ℕ} {r : Bool}
    → base ≡ address_of_page page → end ≡ end_at size → r ≡ inside_of (length m) base.0 end
    → ltb (length m) (base_of page + end_at size) ≡ not r
region-judged m page size b e i = past_the_end (length m) (base_of page) (end_at size) (omega arith) ∙ rw (i, e, b)

entries-judged : (c : After-new_entries-new) → let a = c.args in
    check_of a.m.now a.page a.size a.taken a.in_work
    ≡ cond (ltb a.size (c.new_entries-new.result + a.in_work)) (Err Cause.Entries) (Ok (Some c.new_entries-new.result))
unfolding found_of
entries-judged c =
    rw (
      ne_eqb _ _ (λ h. c.if-number-eq0.false (c.number.ensures ∙ h)),
      region-judged c.args.m.now c.args.page c.args.size c.address-base.ensures c.end_at.ensures c.inside.ensures,
      c.if-not-inside.false,
      c.new_entries-new.ensures,
      c.get-index.ensures,
      c.available_at.ensures,
      c.address-base.ensures,
    )

pub returns-then-number-eq0 : goal.returns-then-number-eq0
unfolding found_of
returns-then-number-eq0 c = rw (eq-eqb _ _ (sym c.number.ensures ∙ c.if-number-eq0.true))

pub returns-then-not-inside : goal.returns-then-not-inside
unfolding found_of
returns-then-not-inside c =
    rw (
      ne_eqb _ _ (λ h. c.if-number-eq0.false (c.number.ensures ∙ h)),
      region-judged c.args.m.now c.args.page c.args.size c.address-base.ensures c.end_at.ensures c.inside.ensures,
      c.if-not-inside.true,
    )

pub returns-then-size-new : goal.returns-then-size-new
returns-then-size-new c = rw (entries-judged (goal.at.returns-then-size-new c).After-new_entries-new, lt-ltb _ _ c.if-size-new.true)

pub returns : goal.returns
returns c = rw (entries-judged (goal.at.returns c).After-new_entries-new, le-ltb _ _ c.if-size-new.false)
