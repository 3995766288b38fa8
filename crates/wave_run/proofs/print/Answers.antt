-- A refusal is printed by its number.
use Rattle.std.proofs.lemmas.Result.{on_ok_weaker}
use Rattle.files.proofs.Refusals.{refusal_line}
use Rattle.wave.specs.Outcome.{number_of}
use Rattle.wave_run.proofs.print.Goals as goal

pub returns-in-Err : goal.returns-in-Err
returns-in-Err g c = rw c.in-Err.is (on_ok_weaker _ (refusal_line number_of c.in-Err.refusal _) c.writeln-in-Err.ensures.bytes)
