-- The request is served as its rule has it: the message is completed, or a stream is released first.
use Rattle.control.specs.Control.{changed_by}
use Rattle.live.specs.Live.{parts_now}
use Rattle.reply.specs.Reply.{Serves}
use Rattle.rules.specs.Parts.{parts_of}
use Rattle.controlq.specs.Control.{pending_in}
use Rattle.controlq.proofs.Laws.{served-completed}
use Rattle.controlq.proofs.change.Goals.{After-act-served}
use Rattle.controlq.proofs.change.Goals as goal

-- the request is served as the rule has it
serves-at : (c : After-act-served) → let a = c.args in
    Serves a.list.now (pending_in a.live a.message.head a.message.reply) (parts_now a.live a.parts)
    (changed_by a.asked (parts_of (parts_now a.live a.parts)) a.request.now) c.act-served.result a.m.now c.act-served.new.m
serves-at c = rw (c.parts_now-current.ensures, c.pending_in-pending.ensures) at c.act-served.ensures

pub returns-in-Completed : goal.returns-in-Completed
returns-in-Completed c =
    let a = c.args in
    rw (c.finish.ensures, c.keep.ensures)
    (served-completed a.live a.parts a.play_words.now a.capture_words.now c.requires.0 a.message.head a.list.now
    a.message.reply c.act-served.result a.m.now _ _ _ (serves-at (goal.at.returns-in-Completed c).After-act-served) c.in-Completed.is)
