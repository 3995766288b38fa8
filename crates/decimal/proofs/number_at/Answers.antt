-- The loop's value is the number of the digits passed. It stops behind the last digit, at one too many, or past the limit.
use mathlib.Core.Path.{◌≡◌, ◌∙◌, sym}
use Rattle.std.proofs.Common.{◌<◌, Some, None, [], true, length, get_or, drop, arith}
use Rattle.decimal.specs.Read.{is_digit, digits, one_more, number_at}
use Rattle.decimal.proofs.Reading.{digits-stop, digits-past, number-absent, digit-bounds, reading-none, reading-more, reading-done}
use Rattle.decimal.proofs.Reading.{reading-long, reading-great}
use Rattle.decimal.proofs.number_at.Goals.{At-loop-i, Else-not-is_digit-2}
use Rattle.decimal.proofs.number_at.Goals.{then-s-at-via-then-s-at, then-s-at-via-else-s-at+then-not-is_digit}
use Rattle.decimal.proofs.number_at.Goals as goal

-- where no further digit stands, the number is whole
done : (c : At-loop-i) → let a = c.args in
    digits (drop c.loop-i.i a.s.now) ≡ [] → number_at a.s.now a.at a.most a.max ≡ Some (c.loop-i.v, c.loop-i.i)
done c e =
    reading-done _ _ _ _ _ _ c.loop-i.invariant c.if-s-at.false
    (sym c.is_digit.ensures ∙ c.if-not-is_digit.false) e

-- past the loop's first test the byte is a digit
digit : (c : Else-not-is_digit-2) → is_digit (get_or c.args.s.now c.loop-i.i 0) ≡ true
digit c = sym c.is_digit-in-loop-i.ensures ∙ c.if-not-is_digit-2.false

-- where the number with it is greater than it may be, none is read
great : (c : Else-not-is_digit-2) → c.args.max < one_more c.loop-i.v (get_or c.args.s.now c.loop-i.i 0)
    → None ≡ number_at c.args.s.now c.args.at c.args.most c.args.max
great c h = sym (reading-great _ _ _ _ c.loop-i.i c.loop-i.v c.loop-i.invariant c.loop-i-test.true (digit c) h)

pub returns-then-s-at-clause-value : goal.returns-then-s-at-clause-value
returns-then-s-at-clause-value c = elim c.then-s-at.branch [
  | then-s-at-via-then-s-at w ↦ sym (number-absent _ _ _ _ (digits-past _ _ w.if-s-at.true))
  | then-s-at-via-else-s-at+then-not-is_digit w ↦
      sym (number-absent _ _ _ _ (digits-stop _ _ w.if-s-at.false (sym w.is_digit.ensures ∙ w.if-not-is_digit.true)))
]

pub loop-i-init : goal.loop-i-init
loop-i-init c = reading-none _ _ _ _

pub returns-then-not-is_digit-2-clause-value : goal.returns-then-not-is_digit-2-clause-value
returns-then-not-is_digit-2-clause-value c =
    let other = sym c.is_digit-in-loop-i.ensures ∙ c.if-not-is_digit-2.true in
    sym (done (goal.at.returns-then-not-is_digit-2-clause-value c).At-loop-i (digits-stop _ _ c.loop-i-test.true other))

pub returns-then-most-i-clause-value : goal.returns-then-most-i-clause-value
returns-then-most-i-clause-value c =
    let l = c.loop-i in
    sym
    (reading-long _ _ _ _ l.i l.v l.invariant c.loop-i-test.true
    (digit (goal.at.returns-then-most-i-clause-value c).Else-not-is_digit-2) (omega arith))

pub returns-in_err-checked_mul-clause-value : goal.returns-in_err-checked_mul-clause-value
returns-in_err-checked_mul-clause-value c =
    c.from_residual.ensures ∙ great (goal.at.returns-in_err-checked_mul-clause-value c).Else-not-is_digit-2
    (omega (arith, c.in_err-checked_mul.ensures))

pub overflow_sub-b : goal.overflow_sub-b
overflow_sub-b c = omega (arith, digit-bounds _ (digit (goal.at.overflow_sub-b c).Else-not-is_digit-2))

pub returns-in_err-v-clause-value : goal.returns-in_err-v-clause-value
returns-in_err-v-clause-value c =
    c.from_residual-in_err-v.ensures ∙ great (goal.at.returns-in_err-v-clause-value c).Else-not-is_digit-2
    (omega (arith, c.in_err-v.ensures, c.in_ok-checked_mul.ensures, c.from.ensures))

pub returns-then-max-v-clause-value : goal.returns-then-max-v-clause-value
returns-then-max-v-clause-value c =
    great (goal.at.returns-then-max-v-clause-value c).Else-not-is_digit-2
    (omega (arith, c.in_ok-v.ensures, c.in_ok-checked_mul.ensures, c.from.ensures))

pub loop-i-preserved : goal.loop-i-preserved
loop-i-preserved c =
    let l = c.loop-i in
    let e : c.in_ok-v.v ≡ one_more l.v (get_or c.args.s.now l.i 0) =
    omega (arith, c.in_ok-v.ensures, c.in_ok-checked_mul.ensures, c.from.ensures) in
    rw e
    (reading-more _ _ _ _ l.i l.v l.invariant (omega arith) (omega arith)
    (digit (goal.at.loop-i-preserved c).Else-not-is_digit-2) (omega arith))

pub returns-clause-value : goal.returns-clause-value
returns-clause-value c = let e : c.loop-i.i ≡ length c.args.s.now = omega arith in
    rw (← e) (sym (done (goal.at.returns-clause-value c).At-loop-i (digits-past _ _ c.loop-i-test.false)))
