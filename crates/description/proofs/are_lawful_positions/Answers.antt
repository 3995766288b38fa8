-- The definition goes from number to number.
use Rattle.std.proofs.Common.{◌∙◌, sym, rules, tests}
use Rattle.std.proofs.lemmas.Iterator.{YieldsList-from_slice}
use Rattle.std.proofs.lemmas.Iterator.Consumers.{YieldsList-from_enumerate}
use Rattle.std.proofs.lemmas.Iterator.Search.{all_from_yields_List}
use Rattle.description.specs.Lawful.{lawful_position}
use Rattle.description.proofs.Laws.{positions-each}
use Rattle.description.proofs.are_lawful_positions.Goals as goal

pub returns : goal.returns
returns c =
    let a = c.args in
    all_from_yields_List (λ p. lawful_position a.channels p.0 p.1) _ _ c.all.result c.all.ensures.ran
    (YieldsList-from_enumerate (YieldsList-from_slice a.positions.now (cc)) (cc)) (λ x b q k. search (rules, tests))
    ∙ sym (positions-each a.channels 0 a.positions.now)
