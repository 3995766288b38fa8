-- The next head is looked up; its chain's room decides which completion is posted.
use Rattle.std.proofs.Common.{◌≡◌, sym, refl, ◌∙◌}
use Rattle.ranges.specs.Ranges.{ranges_of}
use Rattle.event_queue.proofs.Laws.{next_head, tried-broken, tried-delivered, tried-passed}
use Rattle.event_queue.proofs.try_entry.Goals.{After-next_head}
use Rattle.event_queue.proofs.try_entry.Goals as goal

head-found : (c : After-next_head) → let a = c.args in
    c.next_head.result ≡ next_head a.event.code a.event.«data» a.left a.registers a.counters a.m.now
head-found c = c.next_head.ensures ∙ rw c.queue_size-size.ensures

pub returns-in-Err : goal.returns-in-Err
returns-in-Err c =
    let a = c.args in
    let e = a.event in
    rw c.halted.ensures.0 (
      tried-broken e.code e.«data» a.left a.registers a.counters a.m.now _
          (sym (head-found (goal.at.returns-in-Err c).After-next_head) ∙ c.in-Err.is),
      rw c.halted.ensures.0 at c.halted.ensures.1,
      refl,
    )

pub returns-in-Some : goal.returns-in-Some
returns-in-Some c =
    let a = c.args in
    let e = a.event in
    let d = c.deliver-posted in
    let head = sym (head-found (goal.at.returns-in-Some c).After-next_head) ∙ c.in-Ok.is in
    let room = rw c.indirect.ensures at c.in-Some.ensures in
    rw c.counted.ensures.0 (
      tried-delivered e.code e.«data» a.left a.registers a.counters a.m.now _ d.result d.new.m
          (ranges_of c.room_at.new.list c.in-Some.reply) (head, room) d.ensures,
      rw c.counted.ensures.0 at c.counted.ensures.1,
      refl,
    )

pub returns-in-None : goal.returns-in-None
returns-in-None c =
    let a = c.args in
    let e = a.event in
    let d = c.pass_over-posted in
    let head = sym (head-found (goal.at.returns-in-None c).After-next_head) ∙ c.in-Ok.is in
    let room = rw c.indirect.ensures at c.in-None.ensures in
    rw c.counted-in-None.ensures.0 (
      tried-passed e.code e.«data» a.left a.registers a.counters a.m.now _ d.result d.new.m (head, room) d.ensures,
      rw c.counted-in-None.ensures.0 at c.counted-in-None.ensures.1,
      refl,
    )
