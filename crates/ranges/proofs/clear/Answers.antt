-- The part that is written holds zeros.
use Rattle.std.proofs.Common.{◌≡◌, ◌∙◌, ◌+◌, ◌-◌, take, drop, length, replicate, arith, ap}
use Rattle.std.proofs.lemmas.List.Edits.{sets}
use Rattle.std.proofs.lemmas.List.{length-take-le, length-drop}
use Rattle.ranges.proofs.Laws.{put_mid-sets}
use Rattle.ranges.proofs.clear.Goals as goal

pub returns : goal.returns
returns c =
    let a = c.args in
    let n : length (take (a.at + a.n - a.at) (drop a.at a.dst.now)) ≡ a.n =
    length-take-le (a.at + a.n - a.at) (drop a.at a.dst.now) (omega (arith, length-drop a.at a.dst.now)) ∙ omega arith in
    let e : c.fill.new.self ≡ replicate a.n 0 = rw n at (c.fill.ensures.after (λ y e. e)) in
    put_mid-sets a.at _ a.dst.now _ (omega arith) (omega arith)
    ∙ ap (λ bytes. sets a.dst.now a.at bytes) e
