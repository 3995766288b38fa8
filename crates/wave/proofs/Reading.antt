-- The reader's answers, each in its causes: its tests say what they are named after.
use mathlib.Core.Path.{◌≡◌, refl}
use mathlib.Core.Bool.{Bool, true, false, ◌&&◌, ◌||◌}
use mathlib.Core.List.{List}
use mathlib.Core.Logic.{◌⊎◌, inl, inr}
use Prim.Native.Nat.{ℕ, ◌+◌, ◌%◌, ◌≤◌, ◌<◌}
use native.Mathlib.Omega.{arith}
use borrow.Author.Tests.{lt-ltb, le-ltb, eq-eqb, ne_eqb, eqb-true}
use lib.Dec.{eqb}
use lib.ListN.{length, take, drop}
use lib.Seq.{take_all}
use Rattle.wave.specs.File.{RIFF, WAVE, «fmt», «data», header_of, file_len_of}
use Rattle.wave.specs.Outcome.{judged, holds, has_words, has_numbers, has_pad, refusal, read_with, file_read}
use Rattle.wave.specs.Promise.{Words, Numbers, Reading}
use Rattle.formats.proofs.Table.{first, second}
use Rattle.wave.proofs.Answers.{fine, judged-fine}
use Rattle.wave.proofs.Parts.{length-header}
use Rattle.wave.proofs.Compared.{holds-there, holds_of}

pub short : (file : List ℕ) → length file < 44 → refusal 23 ≡ file_read file
unfolding read_with
short file h = rw (take_all 44 file (omega arith), lt-ltb (length file) 44 h)

module _ (head : List ℕ) (long : 44 ≤ length head) where
  words-true : Words head → has_words head ≡ true
  unfolding has_words
  words-true w =
      rw (
        holds_of head 0 RIFF (omega arith) w.first,
        holds_of head 8 WAVE (omega arith) w.second,
        holds_of head 12 «fmt» (omega arith) w.third,
        holds_of head 36 «data» (omega arith) w.fourth,
      )

  words-there : has_words head ≡ true → Words head
  unfolding has_words
  words-there e =
      let a = first (holds head 0 RIFF && holds head 8 WAVE) (holds head 12 «fmt» && holds head 36 «data») e in
      let b = second (holds head 0 RIFF && holds head 8 WAVE) (holds head 12 «fmt» && holds head 36 «data») e in
      record {
        first = holds-there head 0 RIFF (omega arith) (first (holds head 0 RIFF) (holds head 8 WAVE) a);
        second = holds-there head 8 WAVE (omega arith) (second (holds head 0 RIFF) (holds head 8 WAVE) a);
        third = holds-there head 12 «fmt» (omega arith) (first (holds head 12 «fmt») (holds head 36 «data») b);
        fourth = holds-there head 36 «data» (omega arith) (second (holds head 12 «fmt») (holds head 36 «data») b);
      }

  module _ (f c r n : ℕ) where
    inside : 0 + length (header_of f c r n) ≤ length head
    inside = rw (length-header f c r n) (omega arith)

    numbers-true : Numbers f c r n head → has_numbers f c r n head ≡ true
    unfolding has_numbers
    numbers-true m =
        let w = m.writable in
        let s : take (length (header_of f c r n)) (drop 0 head) ≡ header_of f c r n = rw (length-header f c r n) m.same in
        rw (← (fine f c r n w.known w.short), holds_of head 0 (header_of f c r n) inside s)

    numbers-there : has_numbers f c r n head ≡ true → Numbers f c r n head
    unfolding has_numbers
    numbers-there e =
        let j = judged-fine f c r n (eqb-true (judged f c r n) 0 (first (eqb (judged f c r n) 0) (holds head 0 (header_of f c r n)) e)) in
        let h = second (eqb (judged f c r n) 0) (holds head 0 (header_of f c r n)) e in
        record {
          writable = record { known = j.0; short = j.1 };
          same = rw (length-header f c r n) at (holds-there head 0 (header_of f c r n) inside h);
        }

-- a test that says P, which does not hold, is false
fails : {P : Type 0} (t : Bool) → (t ≡ true → P) → (P → ⊥) → t ≡ false
fails true f n = absurd (n (f refl))
fails false f n = refl

pad-true : (n last : ℕ) → (n % 2 ≡ 0) ⊎ (last ≡ 0) → has_pad n last ≡ true
unfolding has_pad
pad-true n last (inl e) = rw (eq-eqb (n % 2) 0 e)
pad-true n last (inr e) = by (eqb (n % 2) 0)
  where
    by : (t : Bool) → t || eqb last 0 ≡ true
    by true = refl
    by false = eq-eqb last 0 e

pad-false : (n last : ℕ) → n % 2 ≡ 1 → (last ≡ 0 → ⊥) → has_pad n last ≡ false
unfolding has_pad
pad-false n last o h = rw (ne_eqb (n % 2) 0 (λ e. omega arith), ne_eqb last 0 h)

module _ (f c r n : ℕ) (head : List ℕ) (len last : ℕ) where
  pub reading : Reading f c r n head len last (read_with f c r n head len last)
  unfolding read_with
  reading = record {
    short = λ h. rw (lt-ltb (length head) 44 h);
    word = λ l w. rw (le-ltb (length head) 44 l, fails (has_words head) (words-there head l) w);
    number = λ l w m.
        rw (le-ltb (length head) 44 l, words-true head l w, fails (has_numbers f c r n head) (numbers-there head l f c r n) m);
    other = λ l w m e.
        rw (le-ltb (length head) 44 l, words-true head l w, numbers-true head l f c r n m, ne_eqb len (file_len_of n) e);
    pad = λ l w m e o z.
        rw (
          le-ltb (length head) 44 l,
          words-true head l w,
          numbers-true head l f c r n m,
          eq-eqb len (file_len_of n) e,
          pad-false n last o z,
        );
    taken = λ l w m e p.
        rw (
          le-ltb (length head) 44 l,
          words-true head l w,
          numbers-true head l f c r n m,
          eq-eqb len (file_len_of n) e,
          pad-true n last p,
        );
  }
