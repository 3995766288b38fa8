-- Two digits for each byte, or a dash for none.
use Rattle.std.proofs.Common.{arith, eq-eqb, ne_eqb}
use Rattle.replay_text.specs.Hex.{hex_word}
use Rattle.replay_text.proofs.put_word.Goals as goal

pub returns-then-n-eq0 : goal.returns-then-n-eq0
unfolding hex_word
returns-then-n-eq0 c =
    let p = c.put_bytes.ensures in
    rw (eq-eqb _ 0 c.if-n-eq0.true) (p, omega (arith, p.behind))

pub returns-else-n-eq0 : goal.returns-else-n-eq0
unfolding hex_word
returns-else-n-eq0 c =
    let p = c.put_hex.ensures in
    rw (ne_eqb _ 0 c.if-n-eq0.false) (p.0, omega (arith, p.1))
