-- The invariant: what the lines that are left make of the state is what all lines make of the first one. Each line starts behind the
-- one before it.
use Rattle.std.proofs.Common.{◌≡◌, ℕ, ◌-◌, ◌≤◌, List, length, drop}
use Rattle.meaning.specs.Fit.{Fit}
use Rattle.lines.specs.Lines.{lines_of}
use Rattle.replay_run.specs.Session.{world_of, first_world, session_world}
use Rattle.replay_run.specs.declared.State.{State}
use Rattle.replay_run.proofs.session.Given as goal

pub record Going (s ram₀ out₀ ram out : List ℕ) (state : State) (at : ℕ) : Type 0 where
  pub inside : at ≤ length s
  pub lent : length ram ≡ length ram₀
  pub long : length out ≡ length out₀
  pub fit : Fit state.card
  pub world : session_world (world_of state ram) (lines_of (drop at s)) ≡ session_world (first_world ram₀) (lines_of s)

abbrev pub invariant-loop-at : goal.invariant-loop-at
invariant-loop-at g l = Going l.s l.initial.ram l.initial.out l.ram l.out l.state l.at

abbrev pub decreases-loop-at : goal.decreases-loop-at
decreases-loop-at g l = length l.s - l.at
