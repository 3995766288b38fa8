-- The judgement picks the parts; the board of fit parts is fit.
use mathlib.Core.Path.{refl, ◌∙◌, sym}
use Rattle.card.proofs.Keeps.{no-parts-fit}
use Rattle.card.specs.Rules.{powered_of}
use Rattle.live.specs.Live.{powered_board}
use Rattle.live.proofs.Laws.{power-board}
use Rattle.live.proofs.power_up.Goals as goal

pub returns-then-not-is_lawful : goal.returns-then-not-is_lawful
unfolding powered_board powered_of
returns-then-not-is_lawful c =
    let no = sym c.is_lawful.ensures ∙ c.if-not-is_lawful.true in
    rw (no, c.board_of.ensures, c.no_parts.ensures.0) (refl, power-board _ 0 no-parts-fit)

pub parts_at_power-requires : goal.parts_at_power-requires
parts_at_power-requires c = sym c.is_lawful.ensures ∙ c.if-not-is_lawful.false

pub returns : goal.returns
unfolding powered_board powered_of
returns c =
    let yes-lawful = sym c.is_lawful.ensures ∙ c.if-not-is_lawful.false in
    let parts = c.parts_at_power.ensures in (
      rw (yes-lawful, c.board_of-2.ensures, parts.0),
      rw c.board_of-2.ensures (power-board _ _ parts.1),
    )
