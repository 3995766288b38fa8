-- A block is made as the converter answers; what is written for it is a `Block` of the converter's promise, and such blocks join
-- (`joined` of samples): what the program writes is the conversion of all that it read.
use mathlib.Core.Path.{◌≡◌, ◌∙◌, sym, ap}
use mathlib.Core.Bool.{true}
use mathlib.Core.List.{List}
use Prim.Native.Nat.{ℕ, ◌*◌, ◌/◌, ◌%◌, ◌≤◌, ◌<◌}
use native.Mathlib.Nat.{mod-add-div}
use native.Mathlib.Omega.{arith}
use borrow.Author.Tests.{eq-eqb, eqb-true}
use lib.ListN.{length, get_or, take}
use Rattle.samples.specs.Formats.{Coding, width}
use Rattle.samples.specs.Outcome.{Outcome, outcome, converted_by, samples_in, Ready}
use Rattle.samples.specs.Promise.{Block}
use Rattle.samples.proofs.Answers.{done-only}
use Rattle.samples.proofs.Promise.{promise, block}
use Rattle.convert_run.specs.Blocks.{made}

module _ (r : ℕ) (c : Coding) (from to out : List ℕ) (e : outcome r out ≡ converted_by c from to) where
  answered : r ≡ (converted_by c from to).answer
  answered = ap (λ (o : Outcome). o.answer) e

  left : out ≡ (converted_by c from to).out
  left = ap (λ (o : Outcome). o.out) e

  module _ (d : r ≡ 0) (w : ℕ) (b : w ≡ width c) where
    made-ready : Ready c (samples_in c from) from to
    made-ready = done-only c from to (sym answered ∙ d)

    pub made-room : 2 * (length from / w) ≤ length to
    made-room = rw b made-ready.2

    pub all_made : record { count = 2 * (length from / w); sound = true; out = out } ≡ made c from to
    all_made = rw (← answered, eq-eqb r 0 d, ← left, b)

mod-of-whole : (c : Coding) (from to : List ℕ) → Ready c (samples_in c from) from to → length from % width c ≡ 0
mod-of-whole c from to r =
    let m = mod-add-div (length from) (width c) in
    let e = r.1 in
    omega arith

-- where a block is sound, the bytes to write are its conversion
pub made-block : (c : Coding) (from to : List ℕ) → ((j : ℕ) → get_or from j 0 < 256) → (made c from to).sound ≡ true
    → Block c (samples_in c from) from (take (made c from to).count (made c from to).out)
made-block c from to bytes s =
    let d = eqb-true (converted_by c from to).answer 0 s in
    let r = done-only c from to d in
    let w = mod-of-whole c from to r in
    let l = ((promise c from to bytes).done r.0 w r.2).1 in
    rw (eq-eqb (converted_by c from to).answer 0 d) (block c (samples_in c from) from to (converted_by c from to).out l r.2 r.1)
