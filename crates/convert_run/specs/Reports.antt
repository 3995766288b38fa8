-- What is answered, as far as it does not hang on what the files do: "99, 30, FROM 98, 31, TO 98".
use Rattle.std.specs.Prelude.{◌≡◌, cond, ℕ, ◌%◌, ◌<◌, eqb, Result, Ok, Err, List, [], ◌∷◌, ◌++◌, decimal}
use Rattle.samples.specs.Formats.{coding_of, width}
use Rattle.samples.specs.Outcome.{number_of}
use Rattle.samples.specs.declared.Refusal.{Refusal}
use Rattle.files.specs.Refusals.{answer_of}
use Rattle.files.specs.declared.Refusal as files

-- what is printed: an answer, and beside 0 how many samples
pub record Report : Type 0 where
  pub answer : ℕ
  pub samples : ℕ

abbrev pub refusal : ℕ → Report
refusal answer = record { answer = answer; samples = 0 }

abbrev pub report_of : Result ℕ (files.Refusal Refusal) → Report
report_of (Ok samples) = record { answer = 0; samples = samples }
report_of (Err r) = refusal (answer_of number_of r)

-- 32 is a space, 10 a line feed
abbrev pub line_of : Result ℕ (files.Refusal Refusal) → List ℕ
line_of (Ok samples) = (48 ∷ 32 ∷ []) ++ decimal samples ++ 10 ∷ []
line_of (Err r) = decimal (answer_of number_of r) ++ 10 ∷ []

-- by FROM's length, where it was read to its end, and the bytes of a sample
unfoldable pub length_answer : {E : Type 0} → Result ℕ E → ℕ → ℕ
length_answer (Ok length) w = cond (eqb (length % w) 0) 0 31
length_answer (Err e) w = 98

-- 30 exactly for a format that is not in the list
pub record FormatFirst (format : ℕ) (r : Report) : Type 0 where
  pub not_listed : width (coding_of format) ≡ 0 → r ≡ refusal 30
  pub listed : 0 < width (coding_of format) → r.answer ≡ 30 → ⊥
