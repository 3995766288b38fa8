-- What is printed of a refusal is its number, where that holds of the library's own.
use Rattle.std.proofs.Common.{ℕ, List, [], ◌∷◌, ◌++◌, Some, decimal}
use Rattle.std.specs.Option.{IfSome}
use Rattle.std.specs.Fmt.{with_newline}
use Rattle.files.specs.Refusals.{answer_of, output_of}
use Rattle.files.specs.declared.Refusal.{Refusal}
use Rattle.files.specs.declared.Refusal.TheVariants.{Usage, Unusable, Refused}

module _ {E : Type 0} (number : E → ℕ) where
  pub refusal_line : (r : Refusal E) (P : List ℕ → Type 0) → IfSome (with_newline (output_of (λ e. Some (decimal (number e))) r)) P
      → P (decimal (answer_of number r) ++ 10 ∷ [])
  refusal_line Usage P h = h
  refusal_line Unusable P h = h
  refusal_line (Refused e) P h = h
