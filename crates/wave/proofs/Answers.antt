-- The answers of the writer, each in its causes.
use mathlib.Core.Path.{◌≡◌, ◌∙◌, refl, sym}
use mathlib.Core.Bool.{Bool, true, false, cond, ◌&&◌}
use mathlib.Core.List.{List}
use Prim.Native.Nat.{ℕ, ◌≤◌, ◌<◌}
use native.Mathlib.Omega.{arith}
use borrow.Author.Tests.{lt-ltb, le-leb, lt-leb, ne_eqb, leb-true, ltb-true}
use lib.Dec.{leb, ltb}
use lib.ListN.{length}
use Rattle.wave.specs.Lists.{bits_of, known, Known}
use Rattle.std.proofs.Common.{Result, Ok, Err}
use Rattle.std.specs.Result.{is_err}
use Rattle.wave.specs.declared.Refusal.{Refusal}
use Rattle.wave.specs.declared.Refusal.TheVariants.{NotListed, TooLong, NoRoom, NoHeader, WrongWord, WrongNumber, WrongLength, WrongPad}
use Rattle.wave.specs.Outcome.{number_of, answer_of, max_data, judged, laid, outcome, placed}
use Rattle.formats.proofs.Table.{first, second}

module _ (f c r n : ℕ) where
  known-true : Known f c r → known f c r ≡ true
  unfolding known
  known-true k = rw (lt-ltb 0 (bits_of f) k.format, le-leb 1 c k.least, le-leb c 18 k.most, lt-ltb r 14 k.rate)

  pub too_long : Known f c r → max_data < n → 21 ≡ judged f c r n
  unfolding judged
  too_long k h = rw (known-true k, lt-leb n max_data h)

  pub fine : Known f c r → n ≤ max_data → 0 ≡ judged f c r n
  unfolding judged
  fine k h = rw (known-true k, le-leb n max_data h)

  known_facts : known f c r ≡ true → Known f c r
  unfolding known
  known_facts e =
      let a = first (ltb 0 (bits_of f) && leb 1 c) (leb c 18 && ltb r 14) e in
      let b = second (ltb 0 (bits_of f) && leb 1 c) (leb c 18 && ltb r 14) e in
      record {
        format = ltb-true 0 (bits_of f) (first (ltb 0 (bits_of f)) (leb 1 c) a);
        least = leb-true 1 c (second (ltb 0 (bits_of f)) (leb 1 c) a);
        most = leb-true c 18 (first (leb c 18) (ltb r 14) b);
        rate = ltb-true r 14 (second (leb c 18) (ltb r 14) b);
      }

  pub not_known : (Known f c r → ⊥) → 20 ≡ judged f c r n
  unfolding judged
  not_known h = by (known f c r) refl
    where
      by : (t : Bool) → known f c r ≡ t → ◌≡◌ {A = ℕ} 20 (cond t (cond (leb n max_data) 0 21) 20)
      by true e = absurd (h (known_facts e))
      by false e = refl

  -- 0 is answered only where all are in the list and the data is not too long
  pub judged-fine : judged f c r n ≡ 0 → Known f c r × (n ≤ max_data)
  unfolding judged
  judged-fine = by-known (known f c r) refl (leb n max_data) refl
    where
      by-known : (t : Bool) → known f c r ≡ t → (u : Bool) → leb n max_data ≡ u
          → ◌≡◌ {A = ℕ} (cond t (cond u 0 21) 20) 0 → Known f c r × (n ≤ max_data)
      by-known true e true l h = (known_facts e, leb-true n max_data l)
      by-known true e false l h = absurd (omega arith)
      by-known false e u l h = absurd (omega arith)

-- ---- what `judge` answers

pub some_number : (e : Refusal) → number_of e ≡ 0 → ⊥
some_number NotListed h = cc
some_number TooLong h = cc
some_number NoRoom h = cc
some_number NoHeader h = cc
some_number WrongWord h = cc
some_number WrongNumber h = cc
some_number WrongLength h = cc
some_number WrongPad h = cc

pub judged-refused : {T : Type 0} (r : Result T Refusal) (n : ℕ) → answer_of r ≡ n → is_err r ≡ true → n ≡ 0 → ⊥
judged-refused (Ok done) n e h z = cc
judged-refused (Err x) n e h z = some_number x (e ∙ z)

pub judged-taken : {T : Type 0} (r : Result T Refusal) (n : ℕ) → answer_of r ≡ n → is_err r ≡ false → n ≡ 0
judged-taken (Ok done) n e h = sym e
judged-taken (Err x) n e h = cc

module _ (a n : ℕ) (s out : List ℕ) (e : n ≡ length s) where
  pub refused : (a ≡ 0 → ⊥) → outcome a 0 out ≡ placed a s out
  unfolding placed
  refused h = rw (ne_eqb a 0 h)

  pub no_room : a ≡ 0 → length out < n → outcome 22 0 out ≡ placed a s out
  unfolding placed
  no_room z h = rw (z, ← e, lt-leb n (length out) h)

  pub done : a ≡ 0 → n ≤ length out → outcome 0 n (laid out 0 s) ≡ placed a s out
  unfolding placed
  done z h = rw (z, ← e, le-leb n (length out) h)
