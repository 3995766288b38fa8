-- `samples::mu_law_table` is right since each of its 256 entries is the number of its place, which one computed test shows.
use Rattle.std.proofs.Common.{refl}
use Rattle.samples.specs.MuLaw.{mu_law}
use Rattle.samples.proofs.Table.{table-right}
use Rattle.samples.proofs.mu_law_table.Goals as goal

pub returns : goal.returns
unfolding mu_law
returns c = table-right _ tt refl
