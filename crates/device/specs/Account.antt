-- How histories grow: at their end; the notes of a message never behind those of a later one.
use Rattle.std.specs.Prelude.{◌≡◌, List, [], ◌∷◌, ◌++◌, ℕ, ◌≤◌, ◌<◌}
use Rattle.device.specs.Histories.{Note}

-- each history grows at its end
pub record Grows {A : Type 0} (before after : List A) : Type 0 where
  pub added : List A
  pub is : after ≡ before ++ added

abbrev pub Each : {A : Type 0} → (A → Type 0) → List A → Type 0
Each P [] = Unit {0}
Each P (x ∷ xs) = P x × Each P xs

-- notes of messages from number a on, below b, those of a message never behind those of a later one
pub data InOrder : ℕ → ℕ → List Note → Type 0 where
  end : {a b : ℕ} → InOrder a b []
  next : {a b : ℕ} {x : Note} {xs : List Note} → a ≤ x.of → x.of < b → InOrder x.of b xs → InOrder a b (x ∷ xs)
