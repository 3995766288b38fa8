-- Order 4: the lifecycle of a stream as one decision over command and state, in source document 000's order ("PCM Command Lifecycle").
use Rattle.std.specs.Prelude.{Option, None, Some, ◌≡◌, List, [], ◌∷◌, ◌⊎◌, ℕ, length, get_or}
use Rattle.card.specs.Card.{fresh_state, set_state, prepared_state, running_state, stopped_state, released_state}
use Rattle.rules.specs.declared.Command.{Command}
use Rattle.rules.specs.declared.Command.TheVariants.{SetParams, Prepare, Start, Stop, Release}

-- ---- the table

-- "Lawful: SET_PARAMS from Fresh, Set, Prepared, Released; PREPARE from Set, Prepared, Released; START from Prepared, Stopped;
-- STOP from Running; RELEASE from Prepared, Stopped.": the state that a command leads to, from each of the six; none: not lawful
abbrev pub leads : Command → List (Option ℕ)
-- from         Fresh, Set, Prepared, Running, Stopped, Released
leads SetParams = Some set_state ∷ Some set_state ∷ Some set_state ∷ None ∷ None ∷ Some set_state ∷ []
leads Prepare = None ∷ Some prepared_state ∷ Some prepared_state ∷ None ∷ None ∷ Some prepared_state ∷ []
leads Start = None ∷ None ∷ Some running_state ∷ None ∷ Some running_state ∷ None ∷ []
leads Stop = None ∷ None ∷ None ∷ Some stopped_state ∷ None ∷ None ∷ []
leads Release = None ∷ None ∷ Some released_state ∷ None ∷ Some released_state ∷ None ∷ []

-- where a command leads from a state
unfoldable pub transition : Command → ℕ → Option ℕ
transition c state = get_or (leads c) state None

-- ---- what holds of it: "of the 30 pairs it allows exactly 01's 12"

pub record Step : Type 0 where
  pub command : Command
  pub from : ℕ
  pub to : ℕ

abbrev pub step : Command → ℕ → ℕ → Step
step c s t = record { command = c; from = s; to = t }

-- 000's list, state by state: after it, the commands that are valid then
abbrev pub lawful_steps : List Step
lawful_steps =
    step SetParams fresh_state set_state
    ∷ step SetParams set_state set_state
    ∷ step Prepare set_state prepared_state
    ∷ step SetParams prepared_state set_state
    ∷ step Prepare prepared_state prepared_state
    ∷ step Start prepared_state running_state
    ∷ step Release prepared_state released_state
    ∷ step Stop running_state stopped_state
    ∷ step Start stopped_state running_state
    ∷ step Release stopped_state released_state
    ∷ step SetParams released_state set_state
    ∷ step Prepare released_state prepared_state
    ∷ []

abbrev pub Among : {A : Type 0} → A → List A → Type 0
Among x [] = ⊥
Among x (y ∷ ys) = (x ≡ y) ⊎ Among x ys

-- a command is lawful in a state, and leads to another, exactly where this step is listed; there are twelve
pub record Lifecycle : Type 0 where
  pub twelve : length lawful_steps ≡ 12
  pub listed : (c : Command) (s t : ℕ) → transition c s ≡ Some t → Among (step c s t) lawful_steps
  pub lawful : (c : Command) (s t : ℕ) → Among (step c s t) lawful_steps → transition c s ≡ Some t
