-- Of the answers only that to an unknown format is 30.
use Rattle.std.proofs.Common.{◌≡◌, ℕ, Bool, true, false, cond, eqb, ◌%◌, arith, Result, Ok, Err}
use Rattle.convert_run.specs.Reports.{length_answer}

whole-or-not : (t : Bool) → ◌≡◌ {A = ℕ} (cond t 0 31) 30 → ⊥
whole-or-not true h = omega arith
whole-or-not false h = omega arith

pub length-answers : {E : Type 0} (l : Result ℕ E) (w : ℕ) → length_answer l w ≡ 30 → ⊥
unfolding length_answer
length-answers (Ok l) w h = whole-or-not (eqb (l % w) 0) h
length-answers (Err e) w h = omega arith
