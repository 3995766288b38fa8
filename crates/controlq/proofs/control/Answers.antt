-- The call is over, its message is completed, or its request may change the parts.
use Rattle.std.proofs.Common.{◌∙◌}
use Rattle.controlq.proofs.Laws.{taken-fits}
use Rattle.controlq.proofs.control.Goals as goal

pub returns-in-Err : goal.returns-in-Err
returns-in-Err c =
    let a = c.args in
    rw c.finish.ensures (c.in-Err.ensures a.parts a.play_words.now a.capture_words.now c.requires)

pub returns-in-Err-attend : goal.returns-in-Err-attend
returns-in-Err-attend c =
    let a = c.args in
    let t = taken-fits a.live a.parts a.play_words.now a.capture_words.now c.requires a.m.now in
    let n = rw c.take_one-taken.ensures at c.in-Err-attend.ensures in
    let o = n a.play_words.now a.capture_words.now t in
    rw (c.finish-in-Err-attend.ensures, c.take_one-taken.ensures)
    (c.in-Ok.ensures.1 a.parts a.play_words.now a.capture_words.now c.requires ∙ o.0, o.1)

pub returns-in-Ok-attend : goal.returns-in-Ok-attend
returns-in-Ok-attend c =
    let a = c.args in
    let t = taken-fits a.live a.parts a.play_words.now a.capture_words.now c.requires a.m.now in
    let n = rw c.take_one-taken.ensures at c.in-Ok-attend.ensures in
    let o = rw c.take_one-taken.ensures at c.change-changed.ensures in
    (c.in-Ok.ensures.1 a.parts a.play_words.now a.capture_words.now c.requires ∙ ((n a.play_words.now a.capture_words.now t).0 ∙ o.0), o.1)
