-- The answers, each in its causes: w is the bytes of a sample.
use Rattle.std.proofs.Common.{◌≡◌, ℕ, ◌*◌, ◌/◌, ◌%◌, ◌<◌, ◌≤◌, List, length, refl, ap, ◌∙◌, ⊎_elim, arith, eq-eqb, ne_eqb, le-leb}
use native.Mathlib.Nat.{mod-add-div}
use borrow.Author.Tests.{lt-leb}
use Rattle.samples.specs.Formats.{Coding, width}
use Rattle.samples.specs.Outcome.{written, Ready, Outcome, outcome, converted_by, samples_in}
use Rattle.samples.proofs.Numbers.{below_or_not}

module _ (c : Coding) (from to : List ℕ) (w : ℕ) (e : w ≡ width c) where
  pub no-format : w ≡ 0 → outcome 30 to ≡ converted_by c from to
  unfolding converted_by
  no-format h = rw (← e, h)

  module _ (some : w ≡ 0 → ⊥) where
    pub not-whole : (length from % w ≡ 0 → ⊥) → outcome 31 to ≡ converted_by c from to
    unfolding converted_by
    not-whole h = rw (← e, ne_eqb w 0 some, ne_eqb (length from % w) 0 h)

    module _ (whole : length from % w ≡ 0) where
      pub no_room : length to < 2 * (length from / w) → outcome 32 to ≡ converted_by c from to
      unfolding converted_by
      no_room h = rw (← e, ne_eqb w 0 some, eq-eqb (length from % w) 0 whole, lt-leb (2 * (length from / w)) (length to) h)

      pub done : 2 * (length from / w) ≤ length to → outcome 0 (written c from 0 (length from / w) to) ≡ converted_by c from to
      unfolding converted_by
      done h = rw (← e, ne_eqb w 0 some, eq-eqb (length from % w) 0 whole, le-leb (2 * (length from / w)) (length to) h)

      -- what the loops are told
      pub ready : 2 * (length from / w) ≤ length to → Ready c (length from / w) from to
      ready h =
          let m = mod-add-div (length from) w in
          rw (← e) (omega arith, omega arith, h)

-- 0 is answered only where there was something to be done
module _ (c : Coding) (from to : List ℕ) (h : (converted_by c from to).answer ≡ 0) where
  none : (r : ℕ) → (r ≡ 0 → ⊥) → outcome r to ≡ converted_by c from to → Ready c (samples_in c from) from to
  none r n e = absurd (n (ap (λ (o : Outcome). o.answer) e ∙ h))

  pub done-only : Ready c (samples_in c from) from to
  done-only = ⊎_elim taken (λ z. none 30 (λ e. omega arith) (no-format c from to (width c) refl (omega arith))) (below_or_not 0 (width c))
    where
      roomy : 0 < width c → length from % width c ≡ 0 → Ready c (samples_in c from) from to
      roomy s w =
          ⊎_elim
          (λ l. none 32 (λ e. omega arith) (no_room c from to (width c) refl (λ e. omega arith) w l))
          (λ l. ready c from to (width c) refl (λ e. omega arith) w l)
          (below_or_not (length to) (2 * (length from / width c)))

      taken : 0 < width c → Ready c (samples_in c from) from to
      taken s =
          ⊎_elim
          (λ l. none 31 (λ e. omega arith) (not-whole c from to (width c) refl (λ e. omega arith) (λ e. omega arith)))
          (λ l. roomy s (omega arith))
          (below_or_not 0 (length from % width c))
