-- Both marks are stored; they say that nobody is in line.
use Prim.Native.Nat.{◌≤◌}
use lib.ListN.{length}
use mathlib.Core.Path.{◌≡◌, ◌∙◌, ap}
use native.Mathlib.Omega.{arith}
use Rattle.marks.specs.Marks.{message_in, line_in}
use Rattle.line_words.proofs.Clears.{vacant-by}
use Rattle.line_words.proofs.Parts.{with_marks, marks-long, marks-here}
use Rattle.line_words.proofs.vacate.Goals as goal

pub returns : goal.returns
returns c =
    let slot = c.args.slot.now in
    let p = c.requires in
    let a = c.store.new.w in
    let b = c.store_line.new.w in
    let la : length a ≡ 11 = omega (arith, c.store.auto.w, c.store-arg-1.given.1) in
    let lb : length b ≡ 11 = omega (arith, c.store_line.auto.w, c.store_line-arg-1.given.1) in
    let first = with_marks slot a in
    let long₁ : 79 ≤ length slot = omega (arith, p.0) in
    let size₁ : length first ≡ length slot = marks-long slot a long₁ la in
    let long₂ : 79 ≤ length first = rw size₁ long₁ in
    let size₂ : length (with_marks first b) ≡ length slot = marks-long first b long₂ lb ∙ size₁ in
    vacant-by (with_marks first b) (rw size₂ p.0) (rw size₂ p.1)
    (ap message_in (marks-here first b long₂ lb) ∙ c.store_line.ensures.1
    ∙ ap message_in (marks-here slot a long₁ la) ∙ c.store.ensures.0 ∙ c.no_message.ensures)
    (ap line_in (marks-here first b long₂ lb) ∙ c.store_line.ensures.0 ∙ c.empty.ensures)
