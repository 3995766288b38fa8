-- The invariant: what the rest of the bytes makes of the session so far is what all of them make of the first, and with its text
-- written the whole block's is. A byte leaves at most 63 bytes of text, so that there is room for the next.
use Rattle.std.proofs.Common.{◌≡◌, ℕ, ◌*◌, ◌≤◌, List, length, drop}
use mathlib.Core.List.{foldl}
use Rattle.decimal.proofs.Writing.{Rest}
use Rattle.live.specs.Live.{FitLive}
use Rattle.access_run.specs.Session.{fed, block_text}
use Rattle.access_run.specs.declared.Session.{Session}
use Rattle.access_run.proofs.Session.feed_all.Given as goal

pub record Going (bytes out₀ : List ℕ) (first : Session) (out : List ℕ) (now : Session) (end i : ℕ) : Type 0 where
  pub inside : i ≤ length bytes
  pub long : length out ≡ length out₀
  pub room : end ≤ 63 * i
  pub fit : FitLive now.live
  pub session : foldl fed now (drop i bytes) ≡ foldl fed first bytes
  pub text : Rest (block_text first bytes) out₀ 0 out end (block_text now (drop i bytes))

abbrev pub invariant-loop-b : goal.invariant-loop-b
invariant-loop-b l = Going l.bytes l.initial.out l.initial.self l.out l.self l.end l.b-index
