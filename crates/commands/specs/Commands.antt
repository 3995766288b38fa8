-- Where a command leads, as the code answers it (01, Lawful; order 4).
use Rattle.std.specs.Prelude.{Option, ℕ, ◌≤◌, Some, None}

-- the state that a command leads to is one of the six
abbrev pub leads_to_state : Option ℕ → Type 0
leads_to_state (Some state) = state ≤ 5
leads_to_state None = Unit
