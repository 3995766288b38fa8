use Rattle.std.proofs.Common.{◌≡◌, drop}
use Rattle.replay_field.specs.Hex.{bytes_of_hex, poured}
use Rattle.replay_field.proofs.pour_hex.Given as goal

abbrev pub invariant-loop-d : goal.invariant-loop-d
invariant-loop-d l =
    poured (bytes_of_hex l.rest) l.m l.d ≡ poured (bytes_of_hex (drop l.at l.s)) l.initial.m l.to
