-- What is left to be tried from here on gives what the whole gives; an attempt that ended is its result.
use Rattle.std.proofs.Common.{◌-◌, sym, refl, ◌∙◌, arith}
use Rattle.event_queue.specs.Attempts.{holding}
use Rattle.event_queue.proofs.Laws.{run_none, run-ended, run-further}
use Rattle.event_queue.proofs.try_entries.Goals as goal

pub returns-then-attempt : goal.returns-then-attempt
returns-then-attempt c =
    let t = c.try_entry-attempt in
    let l = c.loop-left in
    let e = c.args.event in (
      λ rest. sym (l.invariant.1 rest)
          ∙ run-ended e.code e.«data» l.left (holding l.file l.counts rest) l.m rest t.result t.new.m
          (t.ensures.0 rest) (l.left - 1) (omega arith) t.ensures.2 c.if-attempt.true,
      t.ensures.1,
      c.if-attempt.true,
    )

pub loop-left-preserved : goal.loop-left-preserved
loop-left-preserved c =
    let t = c.try_entry-attempt in
    let l = c.loop-left in
    let e = c.args.event in (
      t.auto.m ∙ l.invariant.0,
      λ rest. sym
          (run-further e.code e.«data» l.left (holding l.file l.counts rest) l.m rest t.result t.new.m
          (t.ensures.0 rest) (l.left - 1) (omega arith) c.if-attempt.false)
          ∙ l.invariant.1 rest,
      t.ensures.1,
    )

pub returns : goal.returns
returns c =
    let l = c.loop-left in
    let e = c.args.event in
    rw c.without_buffer.ensures (
      λ rest. sym (l.invariant.1 rest) ∙ run_none e.code e.«data» l.left (holding l.file l.counts rest) l.m (omega arith),
      l.invariant.2,
      refl,
    )
