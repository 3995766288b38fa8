-- The marks tell the front before and after.
use Rattle.std.proofs.Common.{◌≡◌, ◌≤◌, length, ap, ◌∙◌, arith}
use Rattle.line_chains.specs.Queue.{virtqueue_of}
use Rattle.line_words.proofs.Parts.{with_marks, marks-long, marks-here, marks-chain, marks-ring}
use Rattle.marks.specs.Marks.{message_in, line_in}
use Rattle.line_words.specs.Slots.{marks_in}
use Rattle.line_queue.specs.Runs.{front_in}
use Rattle.line_queue.proofs.Laws.{front_at, works-slot}
use Rattle.line_queue.proofs.work_slot.Goals.{After-front_of-front, After-work_line-done}
use Rattle.line_queue.proofs.work_slot.Goals as goal

front-is : (c : After-front_of-front) → let a = c.args in c.front_of-front.result ≡ front_at a.slot.now a.p
front-is c =
    let a = c.args in
    let message = c.message-message in
    c.front_of-front.ensures
    ∙ ap (λ x. front_in a.p x c.line-waiting.result) message.ensures
    ∙ ap (front_in a.p (message_in (marks_in a.slot.now))) c.line-waiting.ensures

-- the slot is as long as it was
long-still : (c : After-work_line-done) → 79 ≤ length c.work_line-done.new.slot
long-still c = omega (arith, c.requires.0, c.work_line-done.auto.slot)

pub returns : goal.returns
returns c =
    let a = c.args in
    let s₁ = c.work_line-done.new.slot in
    let one = c.store in
    let two = c.store_line in
    let l₁ : length one.new.w ≡ 11 = omega (arith, one.auto.w, c.store-arg-1.given.1) in
    let l₂ : length two.new.w ≡ 11 = omega (arith, two.auto.w, c.store_line-arg-1.given.1) in
    let s₂ = with_marks s₁ one.new.w in
    let long₁ = long-still (goal.at.returns c).After-work_line-done in
    let long₂ : 79 ≤ length s₂ = rw (marks-long s₁ one.new.w long₁ l₁) long₁ in
    rw c.progress_of.ensures
    (works-slot (virtqueue_of a.q) a.line a.job a.slot.now a.m.now a.host.now a.p c.requires.1
    c.front_of-front.result (front-is (goal.at.returns c).After-front_of-front) s₁ _ _ _ c.work_line-done.result c.work_line-done.ensures
    (record {
      chain = marks-chain s₂ two.new.w long₂ l₂ ∙ marks-chain s₁ one.new.w long₁ l₁;
      ring = marks-ring s₂ two.new.w long₂ l₂ ∙ marks-ring s₁ one.new.w long₁ l₁;
      message = ap message_in (marks-here s₂ two.new.w long₂ l₂) ∙ two.ensures.1
          ∙ ap message_in (marks-here s₁ one.new.w long₁ l₁) ∙ one.ensures.0;
      line = ap line_in (marks-here s₂ two.new.w long₂ l₂) ∙ two.ensures.0;
    }))
