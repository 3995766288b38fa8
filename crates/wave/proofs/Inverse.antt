-- Writing and reading are inverse: the header reads back, the rest of a file is its data and pad, and the tests that a file passed say
-- that it is the one that the writer would write.
use mathlib.Core.Path.{◌≡◌, ◌∙◌, refl, sym, ap}
use mathlib.Core.Bool.{Bool, true, false, cond, ◌||◌}
use mathlib.Core.Logic.{◌⊎◌, inl, inr}
use mathlib.Core.List.{List, [], ◌∷◌, ◌++◌, append_assoc}
use Prim.Native.Nat.{ℕ, zero, suc, ◌+◌, ◌-◌, ◌%◌, ◌≤◌, ◌<◌}
use native.Mathlib.Omega.{arith}
use borrow.Author.Tests.{eq-eqb, eqb-true, eqb-false, ltb-false}
use lib.Dec.{eqb, ltb}
use lib.ListN.{length, get_or, take, drop, take-append-drop, length-drop}
use lib.Seq.{take-take, take_at, drop_at, get_or_at, length-take-le, get_or-drop}
use Rattle.wave.specs.File.{header_of, pad_of, file_of, file_len_of}
use Rattle.wave.specs.Outcome.{judged, holds, has_words, has_numbers, has_pad, refusal, accepted, read_with, file_read}
use Rattle.wave.specs.Outcome.{format_in, channels_in, rate_in, length_in}
use Rattle.wave.specs.Promise.{Writable, Back, Accepted}
use Rattle.wave.specs.Outcome.{Found}
use Rattle.formats.proofs.Table.{first, second}
use Rattle.wave.proofs.Answers.{fine, judged-fine}
use Rattle.wave.proofs.Parts.{length-header, length-file}
use Rattle.wave.proofs.Compared.{holds-behind, holds-there}
use Rattle.wave.proofs.Back.{words_back, format_read, channels-read, rate-read, length-read}

-- ---- reading what was written

module _ (f c r : ℕ) (d : List ℕ) where
  file-parts : file_of f c r d ≡ header_of f c r (length d) ++ (d ++ pad_of (length d))
  unfolding file_of
  file-parts = append_assoc (header_of f c r (length d)) d (pad_of (length d))

  head_of : take 44 (file_of f c r d) ≡ header_of f c r (length d)
  head_of = rw file-parts (take_at (header_of f c r (length d)) (d ++ pad_of (length d)) 44 (length-header f c r (length d)))

  rest_of : drop 44 (file_of f c r d) ≡ d ++ pad_of (length d)
  rest_of = rw file-parts (drop_at (header_of f c r (length d)) (d ++ pad_of (length d)) 44 (length-header f c r (length d)))

  last_of : length d % 2 ≡ 1 → get_or (file_of f c r d) (44 + length d) 0 ≡ 0
  last_of h =
      sym (get_or-drop 44 (file_of f c r d) (length d) 0)
      ∙ ap (λ (l : List ℕ). get_or l (length d) 0) rest_of
      ∙ (rw h (get_or_at d 0 [] 0 (length d) refl))

  pad-of : has_pad (length d) (get_or (file_of f c r d) (length (file_of f c r d) - 1) 0) ≡ true
  unfolding has_pad
  pad-of = by (eqb (length d % 2) 0) refl
    where
      by : (t : Bool) → eqb (length d % 2) 0 ≡ t
          → t || eqb (get_or (file_of f c r d) (length (file_of f c r d) - 1) 0) 0 ≡ true
      by true e = refl
      by false e =
          let odd : length d % 2 ≡ 1 = omega (arith, eqb-false (length d % 2) 0 e) in
          let at : length (file_of f c r d) - 1 ≡ 44 + length d = rw (length-file f c r d) (omega arith) in
          rw (at, last_of odd)

  module _ (w : Writable f c r (length d)) where
    numbers_of : has_numbers f c r (length d) (header_of f c r (length d)) ≡ true
    unfolding has_numbers
    numbers_of = rw (← (fine f c r (length d) w.known w.short), holds-behind [] (header_of f c r (length d)))

    passes : (last : ℕ) → has_pad (length d) last ≡ true
        → read_with f c r (length d) (header_of f c r (length d)) (file_len_of (length d)) last ≡ accepted f c r (length d)
    unfolding read_with
    passes last p =
        rw (
          length-header f c r (length d),
          words_back f c r (length d),
          numbers_of,
          eq-eqb (file_len_of (length d)) (file_len_of (length d)) refl,
          p,
        )

    reads : file_read (file_of f c r d) ≡ accepted f c r (length d)
    reads =
        let k = w.known in
        let s = w.short in
        rw (
          head_of,
          format_read f c r (length d) k s,
          channels-read f c r (length d) k s,
          rate-read f c r (length d) k s,
          length-read f c r (length d) k s,
        ) passes-here
      where
        passes-here : read_with f c r (length d) (header_of f c r (length d)) (length (file_of f c r d))
            (get_or (file_of f c r d) (length (file_of f c r d) - 1) 0)
            ≡ accepted f c r (length d)
        passes-here =
            ap
            (λ (n : ℕ).
            read_with f c r (length d) (header_of f c r (length d)) n (get_or (file_of f c r d) (length (file_of f c r d) - 1) 0))
            (length-file f c r d)
            ∙ passes _ pad-of

    pub back : Back f c r d
    back = record {
      found = reads;
      same = rw (reads, rest_of) (take_at d (pad_of (length d)) (length d) refl);
    }

-- ---- a file that was accepted

-- the tests that it passed
record Passed (f c r n : ℕ) (head : List ℕ) (len last : ℕ) : Type 0 where
  long : 44 ≤ length head
  numbers : has_numbers f c r n head ≡ true
  whole : len ≡ file_len_of n
  pad : has_pad n last ≡ true
  so : read_with f c r n head len last ≡ accepted f c r n

module _ (f c r n : ℕ) (head : List ℕ) (len last : ℕ) where
  -- the answer by the five tests
  abbrev answered : Bool → Bool → Bool → Bool → Bool → Found
  answered a b g h i =
      cond a (refusal 23)
      (cond b (cond g (cond h (cond i (accepted f c r n) (refusal 27)) (refusal 26)) (refusal 25)) (refusal 24))

  passed : (read_with f c r n head len last).answer ≡ 0 → Passed f c r n head len last
  unfolding read_with
  passed =
      by23 (ltb (length head) 44) refl (has_words head) refl (has_numbers f c r n head) refl (eqb len (file_len_of n)) refl
      (has_pad n last) refl
    where
      by23 : (a : Bool) → ltb (length head) 44 ≡ a → (b : Bool) → has_words head ≡ b → (g : Bool) → has_numbers f c r n head ≡ g
          → (h : Bool) → eqb len (file_len_of n) ≡ h → (i : Bool) → has_pad n last ≡ i
          → (answered a b g h i).answer ≡ 0
          → Passed f c r n head len last
      by23 true ea b eb g eg h eh i ei z = absurd (omega arith)
      by23 false ea false eb g eg h eh i ei z = absurd (omega arith)
      by23 false ea true eb false eg h eh i ei z = absurd (omega arith)
      by23 false ea true eb true eg false eh i ei z = absurd (omega arith)
      by23 false ea true eb true eg true eh false ei z = absurd (omega arith)
      by23 false ea true eb true eg true eh true ei z = record {
        long = omega (arith, ltb-false (length head) 44 ea);
        numbers = eg;
        whole = eqb-true len (file_len_of n) eh;
        pad = ei;
        so = rw (ea, eb, eg, eh, ei);
      }

-- what is left behind the data is the pad
tail-pad : (k : ℕ) (l : List ℕ) → length l ≡ k → k < 2 → (k ≡ 0) ⊎ (get_or l 0 0 ≡ 0) → l ≡ take k (0 ∷ [])
tail-pad zero [] e b h = refl
tail-pad zero (x ∷ l) e b h = absurd (omega arith)
tail-pad (suc zero) [] e b h = absurd (omega arith)
tail-pad (suc zero) (x ∷ []) e b (inl h) = absurd (omega arith)
tail-pad (suc zero) (x ∷ []) e b (inr h) = rw h
tail-pad (suc zero) (x ∷ y ∷ l) e b h = absurd (omega arith)
tail-pad (suc (suc k)) l e b h = absurd (omega arith)

even-or-zero : (n last : ℕ) → has_pad n last ≡ true → (n % 2 ≡ 0) ⊎ ((n % 2 ≡ 1) × (last ≡ 0))
unfolding has_pad
even-or-zero n last = by (eqb (n % 2) 0) refl
  where
    by : (t : Bool) → eqb (n % 2) 0 ≡ t → t || eqb last 0 ≡ true → (n % 2 ≡ 0) ⊎ ((n % 2 ≡ 1) × (last ≡ 0))
    by true e h = inl (eqb-true (n % 2) 0 e)
    by false e h = inr (omega (arith, eqb-false (n % 2) 0 e), eqb-true last 0 h)

module _ (f c r n : ℕ) (file : List ℕ) (t : Passed f c r n (take 44 file) (length file) (get_or file (length file - 1) 0)) where
  long-file : 44 + n + n % 2 ≡ length file
  long-file = sym t.whole

  numbers-fine : eqb (judged f c r n) 0 ≡ true
  unfolding has_numbers
  numbers-fine = first (eqb (judged f c r n) 0) (holds (take 44 file) 0 (header_of f c r n)) t.numbers

  header-held : holds (take 44 file) 0 (header_of f c r n) ≡ true
  unfolding has_numbers
  header-held = second (eqb (judged f c r n) 0) (holds (take 44 file) 0 (header_of f c r n)) t.numbers

  was-writable : Writable f c r n
  was-writable =
      let j = judged-fine f c r n (eqb-true (judged f c r n) 0 numbers-fine) in
      record { known = j.0; short = j.1 }

  same_head : take 44 file ≡ header_of f c r n
  same_head =
      let l : 0 + length (header_of f c r n) ≤ length (take 44 file) = rw (length-header f c r n) (omega (arith, t.long)) in
      let h = holds-there (take 44 file) 0 (header_of f c r n) l header-held in
      let g : take 44 (take 44 file) ≡ header_of f c r n = rw (length-header f c r n) at h in
      sym (take-take 44 44 file (omega arith)) ∙ g

  length_rest : length (drop 44 file) ≡ n + n % 2
  length_rest = length-drop 44 file ∙ (omega (arith, long-file))

  length-body : length (take n (drop 44 file)) ≡ n
  length-body = length-take-le n (drop 44 file) (omega (arith, length_rest))

  length-tail : length (drop n (drop 44 file)) ≡ n % 2
  length-tail = length-drop n (drop 44 file) ∙ (omega (arith, length_rest))

  tail-zero : (n % 2 ≡ 0) ⊎ ((n % 2 ≡ 1) × (get_or file (length file - 1) 0 ≡ 0)) → (n % 2 ≡ 0) ⊎ (get_or (drop n (drop 44 file)) 0 0 ≡ 0)
  tail-zero (inl h) = inl h
  tail-zero (inr h) =
      let at : length file - 1 ≡ 44 + (n + 0) = omega (arith, long-file, h.0) in
      let last : get_or file (44 + (n + 0)) 0 ≡ 0 = rw at at h.1 in
      inr (get_or-drop n (drop 44 file) 0 0 ∙ get_or-drop 44 file (n + 0) 0 ∙ last)

  same-tail : drop n (drop 44 file) ≡ pad_of n
  same-tail =
      tail-pad (n % 2) (drop n (drop 44 file)) length-tail (omega arith)
      (tail-zero (even-or-zero n (get_or file (length file - 1) 0) t.pad))

  rebuilt : file_of f c r (take n (drop 44 file)) ≡ file
  rebuilt =
      rw (file-parts f c r (take n (drop 44 file)), length-body, ← same-tail, take-append-drop n (drop 44 file), ← same_head)
      (take-append-drop 44 file)

-- "The reader takes exactly the files the writer can write"
pub accepted-file : (file : List ℕ) → (file_read file).answer ≡ 0 → Accepted file (file_read file)
accepted-file file ok = by (passed _ _ _ _ _ _ _ ok)
  where
    by : Passed (format_in (take 44 file)) (channels_in (take 44 file)) (rate_in (take 44 file)) (length_in (take 44 file)) (take 44 file)
        (length file) (get_or file (length file - 1) 0)
        → Accepted file (file_read file)
    by t =
        rw t.so
        (record {
          writable = was-writable _ _ _ _ file t;
          start = refl;
          len = rw t.so (sym (length-body _ _ _ _ file t));
          same = rw t.so (rebuilt _ _ _ _ file t);
        })
