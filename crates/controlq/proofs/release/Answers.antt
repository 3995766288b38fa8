-- A broken queue is answered for its cause; else the stream is Released and the message answered.
use Rattle.meaning.specs.Fit.{Fits}
use Rattle.live.specs.Setters.{with_registers}
use Rattle.device.specs.Device.{signalled_if}
use Rattle.controlq.proofs.Laws.{few-streams, emptied-fits, release-broken, release-going}
use Rattle.controlq.proofs.release.Goals.{After-empty-emptied}
use Rattle.controlq.proofs.release.Goals as goal

-- the small state with its signal is fit
signalled : (c : After-empty-emptied) → let e = c.empty-emptied.result in
    Fits (with_registers (signalled_if e.signal e.live.registers) e.live) c.args.parts c.empty-emptied.new.play_words
    c.empty-emptied.new.capture_words
signalled c =
    let a = c.args in
    emptied-fits a.live a.parts a.play_words.now a.capture_words.now c.requires.0 a.id a.m.now _ _ _
    c.empty-emptied.result c.empty-emptied.ensures a.message.head a.list.now a.message.reply

pub mark_released-marked-requires : goal.mark_released-marked-requires
mark_released-marked-requires c =
    let g = signalled (goal.at.mark_released-marked-requires c).After-empty-emptied in
    rw c.signal-signalled.ensures (g.board.live, few-streams _ _ _ _ g)

pub returns-in-Some : goal.returns-in-Some
returns-in-Some c =
    let a = c.args in
    rw (c.finish.ensures, c.signal-signalled.ensures)
    (release-broken a.live a.parts a.play_words.now a.capture_words.now c.requires.0 a.id a.m.now _ _ _
    c.empty-emptied.result c.empty-emptied.ensures a.message.head a.list.now a.message.reply _ _ c.queue_of.ensures
    c.in-Some.is)

pub returns-in-None : goal.returns-in-None
returns-in-None c =
    let a = c.args in
    rw (c.finish-in-None.ensures, c.mark_released-marked.ensures, c.signal-signalled.ensures)
    (release-going a.live a.parts a.play_words.now a.capture_words.now c.requires.0 a.id a.m.now _ _ _
    c.empty-emptied.result c.empty-emptied.ensures a.message.head a.list.now a.message.reply _ c.complete-posted.result
    c.in-None.is
    (rw (c.pending_in-pending.ensures, c.mark_released-marked.ensures, c.signal-signalled.ensures) at c.complete-posted.ensures))
