-- A line feed ends the line; any other byte is one more of it, and leaves no text.
use Rattle.std.proofs.Common.{arith, eq-eqb, ne_eqb}
use Rattle.decimal.proofs.Writing.{put-none}
use Rattle.access_run.specs.Session.{fed, fed_text}
use Rattle.access_run.proofs.Session.feed.Goals as goal

pub returns-then-b-eq10 : goal.returns-then-b-eq10
unfolding fed fed_text
returns-then-b-eq10 c = rw (eq-eqb _ 10 c.if-b-eq10.true) c.end_line.ensures

pub returns-else-b-eq10 : goal.returns-else-b-eq10
unfolding fed fed_text
returns-else-b-eq10 c =
    rw (ne_eqb _ 10 c.if-b-eq10.false)
    (record { session = rw c.push.ensures; text = put-none _ _; fit = c.requires.0 }, omega arith)
