-- The first bytes tell code, layout and request; all else of the request is passed over.
use mathlib.Core.Path.{◌≡◌, ◌∙◌, refl, sym, ap}
use mathlib.Core.Bool.{true, false}
use mathlib.Core.List.{List}
use Prim.Native.Nat.{ℕ, ◌+◌, ◌≤◌}
use native.Mathlib.Omega.{arith}
use lib.Dec.{leb}
use lib.ListN.{length, take}
use lib.Seq.{sets}
use Rattle.memory.specs.Bytes.{le}
use Rattle.ranges.specs.Ranges.{ranges_of, places, bytes_at}
use Rattle.line_calls.specs.Calls.{served}
use Rattle.rules.specs.Control.{decoded_of, layout_of, word}
use Rattle.requests.proofs.Laws.{check-passed, check-failed}
use Rattle.control.proofs.Laws.{words-agree, answers_agree, length-request, reads_as}
use Rattle.control.proofs.read.Goals.{After-decode}
use Rattle.control.proofs.read.Goals as goal

-- the request's bytes
abbrev whole : (c : After-decode) → List ℕ
whole c = let a = c.args in bytes_at a.m.now (places (ranges_of a.list.now a.request))

-- what was gathered holds the request's first numbers
agree : (c : After-decode) → (n at : ℕ) → at + n ≤ 24 → le n c.gather.new.dst at ≡ le n (whole c) at
agree c n at h =
    let a = c.args in
    let ps = places (ranges_of a.list.now a.request) in
    ap (λ (bs : List ℕ). le n bs at) (c.gather.ensures ∙ ap (λ (bs : List ℕ). sets bs 0 (bytes_at a.m.now (take 24 ps))) c.requires.1)
    ∙ words-agree a.m.now ps n at h

decoded : (c : After-decode) → decoded_of (word (whole c) 0) ≡ c.decode.result
decoded c = sym (c.decode.ensures ∙ ap decoded_of (c.number.ensures ∙ agree c 4 0 (omega arith)))

pub returns-in_default : goal.returns-in_default
unfolding served
returns-in_default c n p room =
    rw (decoded (goal.at.returns-in_default c).After-decode ∙ c.in_default.is)
    (record { bytes = _; same = refl; completes = c.complete.ensures })

pub returns-in_default-is_laid_out : goal.returns-in_default-is_laid_out
unfolding served
returns-in_default-is_laid_out c n p room =
    let at = (goal.at.returns-in_default-is_laid_out c).After-decode in
    let short : leb (layout_of c.in-Some.asked) (length (whole at)) ≡ false =
    rw (length-request c.args.m.now _ c.args.request c.requires.0) (check-failed _ c.in_default-is_laid_out.ensures) in
    rw (decoded at ∙ c.in-Some.is, short)
    (record { bytes = _; same = refl; completes = c.complete-in_default-is_laid_out.ensures })

pub returns : goal.returns
unfolding served
returns c =
    let at = (goal.at.returns c).After-decode in
    let a = c.args in
    let asked = c.in-Some.asked in
    let long : leb (layout_of asked) (length (whole at)) ≡ true =
    rw (length-request c.args.m.now _ c.args.request c.requires.0) (check-passed _ c.in-Some-is_laid_out.ensures) in
    rw c.from.ensures
    (reads_as a.list.now a.pending (whole at) c.gather.new.dst a.m.now asked
    (λ n p room. rw (decoded at ∙ c.in-Some.is, long, answers_agree p _ (whole at) (agree at) n asked room)))
