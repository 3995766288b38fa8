-- Without a status only the used entry is written; else the status goes before it, to the reply's last eight bytes.
use mathlib.Core.Path.{◌∙◌}
use Rattle.message.specs.Message.{answered_of, direction_of}
use Rattle.message.proofs.Laws.{posted-answer}
use Rattle.ranges.specs.Ranges.{ranges_of}
use Rattle.ring.specs.Rules.{post_of}
use Rattle.message.proofs.answer.Goals as goal

pub returns-in-None : goal.returns-in-None
unfolding answered_of post_of
returns-in-None c =
    rw (c.post.ensures, c.queue_size-size.ensures, c.in-None.is)

pub returns-in-Some : goal.returns-in-Some
returns-in-Some c =
    let a = c.args in
    rw c.in-Some.is (c.post-in-Some.ensures
    ∙ rw (
      c.put_status.ensures,
      c.used_length-len.ensures,
      c.queue_size-size.ensures,
    )
    (posted-answer (direction_of a.q.direction) a.m.now a.q.page a.completed a.head
    (ranges_of a.list.now a.reply) _ a.q.latency a.recorded))
