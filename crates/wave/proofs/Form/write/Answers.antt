-- The tests are those of the answers, in their order, and `put_file` does the rest.
use Rattle.std.proofs.Common.{◌≤◌, length, sym, arith}
use Rattle.std.proofs.lemmas.Result.{err_from_is_err_and}
use Rattle.wave.specs.Lists.{Known}
use Rattle.wave.specs.Outcome.{max_data}
use Rattle.wave.proofs.Parts.{length-file}
use Rattle.wave.proofs.Answers.{judged-fine, some_number, refused, no_room, done}
use Rattle.wave.proofs.Form.write.Goals.{In_ok-judge}
use Rattle.wave.proofs.Form.write.Goals as goal

-- past the first test all are in the list and the data is not too long
fine-at : (c : In_ok-judge) → let f = c.args.self in
    Known f.format f.channels f.rate × (length c.args.«data».now ≤ max_data)
fine-at c = judged-fine _ _ _ _ (sym c.in_ok-judge.ensures)

pub returns-in_err-judge : goal.returns-in_err-judge
returns-in_err-judge c =
    let f = c.args.self in
    let p = err_from_is_err_and c.from_residual.result c.from_residual.ensures.1 in
    let s = sym (length-file f.format f.channels f.rate c.args.«data».now) in
    rw (p.1, p.2, ← c.in_err-judge.ensures) (refused _ _ _ _ s (some_number _))

pub returns-then-out-len : goal.returns-then-out-len
returns-then-out-len c =
    let f = c.args.self in
    let s = sym (length-file f.format f.channels f.rate c.args.«data».now) in
    no_room _ _ _ _ s (sym c.in_ok-judge.ensures) c.if-out-len.true

pub put_file-requires : goal.put_file-requires
put_file-requires c =
    let k = fine-at (goal.at.put_file-requires c).In_ok-judge in
    (k.0.most, k.1, omega arith)

pub returns : goal.returns
returns c =
    let f = c.args.self in
    let s = sym (length-file f.format f.channels f.rate c.args.«data».now) in
    rw c.put_file.ensures (done _ _ _ _ s (sym c.in_ok-judge.ensures) (omega arith))
