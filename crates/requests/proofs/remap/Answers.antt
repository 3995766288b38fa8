-- Each step refuses with its status; past all of them the jack found is remapped.
use mathlib.Core.Path.{◌≡◌, ◌∙◌}
use mathlib.Core.Bool.{Bool, true, false}
use Prim.Native.Nat.{◌<◌}
use lib.Dec.{ltb}
use lib.ListN.{get_or}
use Rattle.rules.specs.Control.{remappable, four_bits, word, no_jack}
use Rattle.reply.proofs.Laws.{serves-same, serves-jack, jack-at}
use Rattle.requests.proofs.Laws.{found-there, found-absent, check-passed, check-failed, remap-absent, remap-refused, remap-there}
use Rattle.requests.proofs.remap.Goals.{In-Some}
use Rattle.requests.proofs.remap.Goals as goal

-- the jack that was found is there, and the one asked for
found : (c : In-Some) → let a = c.args in
    (ltb (word a.request.now 1) a.parts.jack_count ≡ true) × (c.in-Some.i ≡ word a.request.now 1) × (c.in-Some.i < a.parts.jack_count)
found c = found-there _ _ _ _ c.number.ensures c.in-Some.ensures

-- what its test says is said of the one asked for
tested : (c : In-Some) (b : Bool) → let a = c.args in
    remappable (get_or a.parts.jacks c.in-Some.i no_jack) ≡ b
    → remappable (get_or a.parts.jacks (word a.request.now 1) no_jack) ≡ b
tested c b h = rw (← (found c).1) h

pub returns-in_default : goal.returns-in_default
returns-in_default c =
    let a = c.args in
    rw (remap-absent a.parts c.requires a.request.now (found-absent _ _ _ c.number.ensures c.in_default.ensures))
    (serves-same _ a.pending a.parts _ _ _ _ c.requires c.answer.ensures)

pub returns-in_default-is_remappable : goal.returns-in_default-is_remappable
returns-in_default-is_remappable c =
    let a = c.args in
    let i = (goal.at.returns-in_default-is_remappable c).In-Some in
    rw (remap-refused a.parts c.requires a.request.now (found i).0
    (tested i false (check-failed _ c.in_default-is_remappable.ensures)))
    (serves-same _ a.pending a.parts _ _ _ _ c.requires c.answer-in_default-is_remappable.ensures)

pub returns-in_default-has_four_bits : goal.returns-in_default-has_four_bits
returns-in_default-has_four_bits c =
    let a = c.args in
    let i = (goal.at.returns-in_default-has_four_bits c).In-Some in
    rw (
      remap-there a.parts c.requires a.request.now (found i).0 (tested i true (check-passed _ c.in-Some-is_remappable.ensures)),
      ← c.number-association.ensures,
      check-failed (four_bits c.number-association.result) c.in_default-has_four_bits.ensures,
    )
    (serves-same _ a.pending a.parts _ _ _ _ c.requires c.answer-in_default-has_four_bits.ensures)

pub returns-in_default-has_four_bits-2 : goal.returns-in_default-has_four_bits-2
returns-in_default-has_four_bits-2 c =
    let a = c.args in
    let i = (goal.at.returns-in_default-has_four_bits-2 c).In-Some in
    rw (
      remap-there a.parts c.requires a.request.now (found i).0 (tested i true (check-passed _ c.in-Some-is_remappable.ensures)),
      ← c.number-association.ensures,
      check-passed (four_bits c.number-association.result) c.in-Some-has_four_bits.ensures,
      ← c.number-sequence.ensures,
      check-failed (four_bits c.number-sequence.result) c.in_default-has_four_bits-2.ensures,
    )
    (serves-same _ a.pending a.parts _ _ _ _ c.requires c.answer-in_default-has_four_bits-2.ensures)

pub returns : goal.returns
returns c =
    let a = c.args in
    let i = (goal.at.returns c).In-Some in
    let f = found i in
    rw (
      remap-there a.parts c.requires a.request.now f.0 (tested i true (check-passed _ c.in-Some-is_remappable.ensures)),
      ← f.1,
      ← c.number-association.ensures,
      check-passed (four_bits c.number-association.result) c.in-Some-has_four_bits.ensures,
      ← c.number-sequence.ensures,
      check-passed (four_bits c.number-sequence.result) c.in-Some-has_four_bits-2.ensures,
      jack-at a.parts c.in-Some.i f.2,
    )
    (serves-jack _ a.pending a.parts _ _ _ c.in-Some.i _ _ c.requires f.2 (c.answer-2.ensures ∙ rw c.with_jack.ensures))
