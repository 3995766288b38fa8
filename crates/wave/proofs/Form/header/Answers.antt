-- The tests are those of the answers, in their order, and `put_header` does the rest.
use Rattle.std.proofs.Common.{◌≤◌, sym, arith}
use Rattle.std.proofs.lemmas.Result.{err_from_is_err_and}
use Rattle.wave.specs.Lists.{Known}
use Rattle.wave.specs.Outcome.{max_data}
use Rattle.wave.proofs.Parts.{length-header}
use Rattle.wave.proofs.Answers.{judged-fine, some_number, refused, no_room, done}
use Rattle.wave.proofs.Form.header.Goals.{In_ok-judge}
use Rattle.wave.proofs.Form.header.Goals as goal

-- past the first test all are in the list and the data is not too long
fine-at : (c : In_ok-judge) → let f = c.args.self in
    Known f.format f.channels f.rate × (c.args.data_len ≤ max_data)
fine-at c = judged-fine _ _ _ _ (sym c.in_ok-judge.ensures)

pub returns-in_err-judge : goal.returns-in_err-judge
returns-in_err-judge c =
    let f = c.args.self in
    let p = err_from_is_err_and c.from_residual.result c.from_residual.ensures.1 in
    let s = sym (length-header f.format f.channels f.rate c.args.data_len) in
    rw (p.1, p.2, ← c.in_err-judge.ensures) (refused _ 44 _ _ s (some_number _))

pub returns-then-out-lt-HEADER : goal.returns-then-out-lt-HEADER
returns-then-out-lt-HEADER c =
    let f = c.args.self in
    let s = sym (length-header f.format f.channels f.rate c.args.data_len) in
    no_room _ 44 _ _ s (sym c.in_ok-judge.ensures) c.if-out-lt-HEADER.true

pub overflow_cast-data_len : goal.overflow_cast-data_len
overflow_cast-data_len c = omega (arith, (fine-at (goal.at.overflow_cast-data_len c).In_ok-judge).1)

pub put_header-requires : goal.put_header-requires
put_header-requires c =
    let k = fine-at (goal.at.put_header-requires c).In_ok-judge in
    (k.0.most, k.1, omega arith)

pub returns : goal.returns
returns c =
    let f = c.args.self in
    let s = sym (length-header f.format f.channels f.rate c.args.data_len) in
    rw c.put_header.ensures (done _ 44 _ _ s (sym c.in_ok-judge.ensures) (omega arith))
