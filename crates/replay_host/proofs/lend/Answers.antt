-- No more than the buffer has: a play's N bytes, a capture's HEX, none for the others.
use Rattle.replay_host.proofs.Laws.{count-to, filled-to}
use lib.ListN.{length}
use Rattle.replay_host.proofs.lend.Goals as goal

pub returns-in-Play : goal.returns-in-Play
returns-in-Play c =
    let is = c.in-Play.is in
    record { prefix_len = c.within.ensures.prefix_len; value = (rw is c.within.ensures.value, rw is) }

pub returns-in-Capture : goal.returns-in-Capture
returns-in-Capture c =
    let l = c.lend_hex.ensures in
    let line = c.args.s.now in
    let host = c.args.host.now in
    let at = c.in-Capture.place in
    let behind = c.in-Capture.behind in
    let end = c.within-end.ensures.value in
    record {
      prefix_len = l.prefix_len;
      value = (
        rw c.in-Capture.is (count-to line behind _ at end _ (length host) l.value.0),
        rw c.in-Capture.is (filled-to line behind _ at end host _ l.value.1),
      );
    }
