-- What is left of the word, written where the loop stands, makes what the whole word makes of `m`.
use mathlib.Core.Path.{◌∙◌, sym}
use Rattle.std.proofs.Common.{arith}
use Rattle.replay_field.proofs.Laws.{poured-past, poured-two, poured-rest}
use Rattle.replay_field.proofs.pour_hex.Goals as goal

pub returns-in_default : goal.returns-in_default
returns-in_default c = sym (poured-rest _ c.loop-d.m c.loop-d.d c.in_default.len_below) ∙ c.loop-d.invariant

pub loop-d-preserved : goal.loop-d-preserved
loop-d-preserved c =
    rw (c.digit_value.ensures.0, c.digit_value-in-loop-d.ensures.0)
    (sym (poured-two c.loop-d.rest.now c.loop-d.m c.loop-d.d (omega arith)) ∙ c.loop-d.invariant)

pub returns : goal.returns
returns c = sym (poured-past _ c.loop-d.m c.loop-d.d (omega arith)) ∙ c.loop-d.invariant
