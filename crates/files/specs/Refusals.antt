-- A refusal by its number: 99 for wrong arguments, 98 for a file that can't be used, else that of the library's refusal.
use Rattle.std.specs.Prelude.{ℕ, List, Option, Some, decimal}
use Rattle.files.specs.declared.Refusal.{Refusal}
use Rattle.files.specs.declared.Refusal.TheVariants.{Usage, Unusable, Refused}

abbrev pub answer_of : {E : Type 0} → (E → ℕ) → Refusal E → ℕ
answer_of number Usage = 99
answer_of number Unusable = 98
answer_of number (Refused e) = number e

-- what is printed of it
abbrev pub output_of : {E : Type 0} → (E → Option (List ℕ)) → Refusal E → Option (List ℕ)
output_of output Usage = Some (decimal 99)
output_of output Unusable = Some (decimal 98)
output_of output (Refused e) = output e
