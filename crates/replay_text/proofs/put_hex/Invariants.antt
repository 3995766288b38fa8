use Rattle.std.proofs.Common.{◌≡◌, ◌+◌, ◌-◌, ◌*◌, length}
use Rattle.decimal.proofs.Writing.{Rest}
use Rattle.replay_text.specs.Hex.{hex_bytes}
use Rattle.replay_text.proofs.put_hex.Given as goal

abbrev pub invariant-loop-k : goal.invariant-loop-k
invariant-loop-k l =
    (length l.out ≡ length l.initial.out)
    × Rest (hex_bytes l.n l.m l.at) l.initial.out l.to l.out (l.to + 2 * l.k) (hex_bytes (l.n - l.k) l.m l.from)
