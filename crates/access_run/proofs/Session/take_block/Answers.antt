-- What was read is fed, or the input has ended.
use Rattle.std.proofs.Common.{◌≡◌, ℕ, List, take, refl, arith, ne_eqb}
use mathlib.Core.List.{foldl}
use Rattle.live.specs.Live.{FitLive}
use Rattle.decimal.specs.Write.{Put}
use Rattle.access_run.specs.Session.{fed, rest_text, taken_text, Takes}
use Rattle.access_run.specs.declared.Session.{Session}
use Rattle.access_run.proofs.Session.take_block.Goals as goal

-- nothing was read
taken_end : (s : Session) (count : ℕ) (block out out' : List ℕ) (end : ℕ) → count ≡ 0 → FitLive s.live → Put (rest_text s) out 0 out' end
    → Takes (foldl fed s (take count block)) (taken_text s count block) out 0 out' s end
unfolding taken_text
taken_end s count block out out' end e f p = rw e (record { session = refl; text = p; fit = f })

pub returns-then-count-eq0-clause-told : goal.returns-then-count-eq0-clause-told
returns-then-count-eq0-clause-told g c =
    let f = c.finish-end in
    (taken_end _ _ _ _ _ _ c.if-count-eq0.true c.requires.0 f.ensures.0, omega (arith, f.ensures.1, f.auto.out, c.requires.1))

pub returns-else-count-eq0-clause-told : goal.returns-else-count-eq0-clause-told
unfolding taken_text
returns-else-count-eq0-clause-told g c =
    let t = c.feed_all-end.ensures in
    (record { session = t.0.session; text = rw (ne_eqb _ 0 c.if-count-eq0.false) t.0.text; fit = t.0.fit }, t.1)
