-- The place in the table is that in the list of rates.
use Rattle.std.proofs.Common.{◌≡◌, rules}
use Rattle.std.specs.Option.{MatchOption}
use Rattle.wave.proofs.Lists.{rate_found}
use Rattle.wave.proofs.rate_with.Goals as goal

pub returns : goal.returns
returns c =
    let m : MatchOption c.rate_place.result (c.map_or.result ≡ 14) (λ i. c.map_or.result ≡ i) = search rules in
    rate_found c.args.hz _ _ c.rate_place.ensures.place m
