-- The blocks so far were handed on, and are what the file gave.
use Rattle.files.specs.Blocks.{HandedOn}
use Rattle.files.proofs.pass.Given as goal

abbrev pub invariant-loop : goal.invariant-loop
invariant-loop g l = goal.F-IsAlwaysCallable g l.take
    × HandedOn g.F.FnMut l.initial.take l.take (g.R.Read.remaining l.initial.file) (g.R.Read.remaining l.file) l.bytes
