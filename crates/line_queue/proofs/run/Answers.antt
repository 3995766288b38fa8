-- The queue's check decides: nothing is done, or its entries are taken and the line is worked.
use Rattle.line_chains.specs.Queue.{virtqueue_of}
use Rattle.line_words.specs.Slots.{queue_in}
use Rattle.queue_lines.specs.Claim.{card}
use Rattle.queue_lines.specs.Rules as rules
use Rattle.std.proofs.Common.{◌≡◌, sym, ◌∙◌, rules, refl}
use Rattle.line_queue.proofs.Laws.{found-by, room-new, ran-idle, ran-broken, ran-new}
use Rattle.line_queue.proofs.run.Goals.{After-check_queue}
use Rattle.line_queue.proofs.run.Goals as goal

-- the code's check is the rules'
found-is : (c : After-check_queue) → let a = c.args in
    rules.found (card (virtqueue_of a.q)) (virtqueue_of a.q) (queue_in (virtqueue_of a.q) a.words.now a.counters) a.m.now
    ≡ c.check_queue.result
found-is c =
    let a = c.args in
    sym (rw c.queue_size-size.ensures at c.check_queue.ensures
    ∙ found-by (virtqueue_of a.q) a.line a.words.now a.m.now a.host.now a.counters _ c.requires.0.between refl)

pub take_all-p-requires : goal.take_all-p-requires
take_all-p-requires c =
    let a = c.args in (
      c.requires.0.slots,
      room-new (virtqueue_of a.q) a.line a.words.now a.m.now a.host.now a.counters _
          (found-is (goal.at.take_all-p-requires c).After-check_queue ∙ (cc)),
    )

pub returns-in-Ok-None : goal.returns-in-Ok-None
returns-in-Ok-None c =
    let a = c.args in
    rw c.begin.ensures
    (ran-idle (virtqueue_of a.q) a.line a.words.now a.m.now a.host.now a.counters c.requires.1 c.requires.0 a.job
    (found-is (goal.at.returns-in-Ok-None c).After-check_queue ∙ (cc)))

pub returns-in-Err : goal.returns-in-Err
returns-in-Err c =
    let a = c.args in
    rw (c.halt.ensures, c.begin-in-Err.ensures)
    (ran-broken (virtqueue_of a.q) a.line a.words.now a.m.now a.host.now a.counters c.requires.1 c.requires.0 a.job _
    (found-is (goal.at.returns-in-Err c).After-check_queue ∙ c.in-Err.is))

pub returns-in-Ok-Some : goal.returns-in-Ok-Some
returns-in-Ok-Some c =
    let a = c.args in
    ran-new (virtqueue_of a.q) a.line a.words.now a.m.now a.host.now a.counters c.requires.1 c.requires.0 a.job _
    (found-is (goal.at.returns-in-Ok-Some c).After-check_queue ∙ (cc)) _ _ c.take_all-p.result c.take_all-p.ensures _ _ _
    c.work_words.result c.work_words.ensures
