-- Each line works on the first bytes, and the others stay; a dump alone leaves a text.
use native.Mathlib.Omega.{arith}
use Rattle.decimal.proofs.Writing.{put-none, put_as}
use Rattle.replay_memory.proofs.Laws.{poured-place, filled-place, dump-place}
use Rattle.replay_memory.proofs.touch.Goals as goal

pub returns-in-Store : goal.returns-in-Store
returns-in-Store c =
    let w = c.within-lent.ensures in
    record {
      memory =
          rw (c.in-Store.is, ← w.value, c.pour_hex.ensures, poured-place _ _ _ _ w.prefix_len.0 c.place-to.ensures);
      len = rw c.in-Store.is w.value;
      text = rw c.in-Store.is (put-none _ 0);
      room = omega arith;
    }

pub returns-in-Fill : goal.returns-in-Fill
returns-in-Fill c =
    let w = c.within-lent.ensures in
    record {
      memory = rw (c.in-Fill.is, ← w.value, c.fill.ensures, filled-place _ _ _ _ w.prefix_len.0 c.place-to-in-Fill.ensures);
      len = rw c.in-Fill.is w.value;
      text = rw c.in-Fill.is (put-none _ 0);
      room = omega arith;
    }

pub returns-in-Ram : goal.returns-in-Ram
returns-in-Ram c =
    record {
      memory = rw (c.in-Ram.is, c.fill-in-Ram.ensures);
      len = rw c.in-Ram.is;
      text = rw c.in-Ram.is (put-none _ 0);
      room = omega arith;
    }

pub returns-in-Dump : goal.returns-in-Dump
returns-in-Dump c =
    let d = c.dump-end in
    let w = c.within-lent.ensures in
    record {
      memory = rw c.in-Dump.is;
      len = rw c.in-Dump.is w.value;
      text = rw (c.in-Dump.is, ← w.value) (put_as (dump-place _ _ _ _ w.prefix_len.0 c.place-from.ensures _ _) d.ensures.0);
      room = omega (arith, d.ensures.1, d.auto.out, c.requires);
    }
