-- What is answered, and printed: 0 and what was done, or the refusal's number. 32 is a space, 10 a line feed.
use Rattle.std.specs.Prelude.{ℕ, List, [], ◌∷◌, ◌++◌, Result, Ok, Err, decimal}
use Rattle.files.specs.Refusals as refusals
use Rattle.files.specs.declared.Refusal as files
use Rattle.wave.specs.Outcome.{number_of}
use Rattle.wave.specs.declared.Refusal.{Refusal}
use Rattle.wave_run.specs.declared.Report.{Report}
use Rattle.wave_run.specs.declared.Report.TheVariants.{Written, Read}

abbrev pub answer_of : {T : Type 0} → Result T (files.Refusal Refusal) → ℕ
answer_of (Ok report) = 0
answer_of (Err r) = refusals.answer_of number_of r

-- how much data; of a file that was read, format, channels and rate before it
abbrev pub report_text : Report → List ℕ
report_text (Written len) = decimal len
report_text (Read form len) =
    decimal form.format ++ 32 ∷ [] ++ decimal form.channels ++ 32 ∷ [] ++ decimal form.rate ++ 32 ∷ [] ++ decimal len

abbrev pub line_of : Result Report (files.Refusal Refusal) → List ℕ
line_of (Ok report) = (48 ∷ 32 ∷ []) ++ report_text report ++ 10 ∷ []
line_of (Err r) = decimal (refusals.answer_of number_of r) ++ 10 ∷ []
