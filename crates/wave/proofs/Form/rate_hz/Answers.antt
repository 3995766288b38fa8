-- The table is that of the rates, and past it there is none.
use Rattle.std.proofs.Common.{◌≡◌, rules}
use Rattle.wave.specs.Lists.{hz_of}
use Rattle.wave.proofs.Lists.{hz-bound}
use Rattle.wave.proofs.Form.rate_hz.Goals as goal

pub returns : goal.returns
unfolding hz_of
returns c =
    let e : c.unwrap_or.result ≡ hz_of c.args.self.rate = search rules in
    (e, rw e (hz-bound c.args.self.rate))
