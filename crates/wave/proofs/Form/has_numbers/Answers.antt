-- The header is compared with the one that the writer stores.
use Rattle.std.proofs.Common.{◌≡◌, ◌∙◌, sym, arith, eq-eqb, ne_eqb}
use Rattle.wave.specs.Outcome.{judged, has_numbers}
use Rattle.wave.proofs.Parts.{header-alone}
use Rattle.wave.proofs.Answers.{judged-fine, judged-refused, judged-taken}
use Rattle.wave.proofs.Form.has_numbers.Goals.{Else-is_err}
use Rattle.wave.proofs.Form.has_numbers.Goals as goal

fine-at : (c : Else-is_err) → let f = c.args.self in judged f.format f.channels f.rate c.args.data_len ≡ 0
fine-at c = rw c.from.ensures at (judged-taken _ _ c.judge.ensures (sym c.is_err.ensures.value ∙ c.if-is_err.false))

pub returns-then-is_err : goal.returns-then-is_err
unfolding has_numbers
returns-then-is_err c =
    let e = sym c.is_err.ensures.value ∙ c.if-is_err.true in
    rw (ne_eqb _ _ (rw c.from.ensures at (judged-refused _ _ c.judge.ensures e)))

pub put_header-requires : goal.put_header-requires
put_header-requires c =
    let k = judged-fine _ _ _ _ (fine-at (goal.at.put_header-requires c).Else-is_err) in
    (k.0.most, k.1, omega arith)

pub returns : goal.returns
unfolding has_numbers
returns c = rw (eq-eqb _ _ (fine-at (goal.at.returns c).Else-is_err), c.holds.ensures, c.put_header.ensures, header-alone _ _ _ _)
