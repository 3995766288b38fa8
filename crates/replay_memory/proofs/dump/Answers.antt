-- The line's number, the bytes as one word, and a line feed behind them.
use native.Mathlib.Omega.{arith}
use Rattle.decimal.proofs.Writing.{put_then, put_byte}
use Rattle.replay_memory.specs.Lent.{dump_bytes}
use Rattle.replay_memory.proofs.dump.Goals as goal

pub returns : goal.returns
unfolding dump_bytes
returns c =
    let count = c.min-count.ensures in (
      rw (← count) (put_then (put_then c.put-to.ensures.0 c.put_word-end.ensures.0) (put_byte _ c.put_word-end.result 10)),
      omega (arith, c.put-to.ensures.1, c.put_word-end.ensures.1, count),
    )
