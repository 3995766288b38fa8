-- What was written is what the bytes read so far leave, and the session is theirs.
use Rattle.std.proofs.Common.{◌≡◌, ℕ, List, length}
use mathlib.Core.List.{foldl}
use Rattle.std.specs.Io.KnownBytes.{Appends, Consumes}
use Rattle.std.specs.declared.option.Option.{Option}
use Rattle.live.specs.Live.{FitLive}
use Rattle.access_run.specs.Session.{first_session, fed, block_text}
use Rattle.access_run.specs.declared.Session.{Session}
use Rattle.access_run.proofs.run.Given as goal

-- the bytes left to the reader and those that the writer holds, before the first block and now
pub record Going (left₀ left written₀ written : Option (List ℕ)) (now : Session) : Type 0 where
  pub read : List ℕ
  pub taken : Consumes left₀ left read
  pub told : Appends written₀ written (block_text first_session read)
  pub session : now ≡ foldl fed first_session read

abbrev pub invariant-reads : goal.invariant-reads
invariant-reads g l = FitLive l.session.live × (4096 ≡ length l.block) × (262144 ≡ length l.out)
    × Going (g.R.Read.remaining l.initial.input) (g.R.Read.remaining l.input) (g.W.Write.contents l.initial.output)
    (g.W.Write.contents l.output) l.session
