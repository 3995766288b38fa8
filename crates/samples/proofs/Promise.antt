-- Every call keeps the promise: sample i of the output is written once, and nothing else is (`promise`). Blocks that were converted
-- apart, joined, are the conversion of the joined input (`joined`).
use Rattle.std.proofs.Common.{◌≡◌, ℕ, zero, suc, ◌+◌, ◌-◌, ◌*◌, ◌/◌, ◌%◌, ◌^◌, ◌<◌, ◌≤◌, Bool, T, List, ◌++◌, length, get_or, take}
use Rattle.std.proofs.Common.{ℤ, pos, negsuc, sym, refl, ◌∙◌, ⊎_elim, mul-add, arith, length-append, length-take-le, get_or-take}
use Rattle.std.proofs.Common.{get_or-append-add}
use lib.ListN.{get_or-append}
use Rattle.memory.specs.Bytes.{le, put}
use Rattle.memory.proofs.Laws.{le-bound, le-put, le_same, get_d-put, get_d-put-above, length-put}
use Rattle.samples.specs.Values.{signed, bits}
use Rattle.samples.specs.Loops.{top, turn}
use Rattle.samples.specs.MuLaw.{mu_law}
use Rattle.samples.specs.Formats.{Coding, linear, mulaw, other, width, conversion, sample_at, bits_at}
use Rattle.samples.specs.Outcome.{written, converted_by}
use Rattle.samples.specs.Promise.{Left, Promise, Block}
use Rattle.samples.proofs.Numbers.{below_or_not, bits-signed}
use Rattle.samples.proofs.Table.{same, same-eq, below, below_at}
use Rattle.samples.proofs.Width.{linear-signed}
use Rattle.samples.proofs.Going.{sample-inside}
use Rattle.samples.proofs.Answers as answers

-- ---- the bytes of a written buffer

module _ (c : Coding) (from : List ℕ) where
  length-written : (n i : ℕ) (to : List ℕ) → length (written c from i n to) ≡ length to
  unfolding written
  length-written zero i to = refl
  length-written (suc n) i to = length-written n (i + 1) (put 2 to (2 * i) (bits_at c from i)) ∙ length-put 2 to (2 * i) (bits_at c from i)

  written_below : (n i j : ℕ) (to : List ℕ) → j < 2 * i → get_or (written c from i n to) j 0 ≡ get_or to j 0
  unfolding written
  written_below zero i j to h = refl
  written_below (suc n) i j to h =
      written_below n (i + 1) j (put 2 to (2 * i) (bits_at c from i)) (omega arith) ∙ get_d-put 2 to (2 * i) (bits_at c from i) j h

  written-above : (n i j : ℕ) (to : List ℕ) → 2 * (i + n) ≤ j → get_or (written c from i n to) j 0 ≡ get_or to j 0
  unfolding written
  written-above zero i j to h = refl
  written-above (suc n) i j to h =
      written-above n (i + 1) j (put 2 to (2 * i) (bits_at c from i)) (omega arith)
      ∙ get_d-put-above 2 to (2 * i) (bits_at c from i) j (omega arith)

  -- sample i + k, of n from i on
  written_at : ((i : ℕ) → bits_at c from i < 65536) → (n i k : ℕ) (to : List ℕ) → 2 * (i + n) ≤ length to → k < n
      → sample_at 2 (written c from i n to) (i + k) ≡ bits_at c from (i + k)
  unfolding written
  written_at b zero i k to room h = absurd (omega arith)
  written_at b (suc n) i zero to room h =
      let to' = put 2 to (2 * i) (bits_at c from i) in
      let e : i + 0 ≡ i = omega arith in
      rw e (le_same 2 (written c from (i + 1) n to') to' (2 * i) (λ j l m. written_below n (i + 1) j to' (omega arith))
      ∙ le-put 2 to (2 * i) (bits_at c from i) (omega arith) (b i))
  written_at b (suc n) i (suc k) to room h =
      let to' = put 2 to (2 * i) (bits_at c from i) in
      let e : i + suc k ≡ i + 1 + k = omega arith in
      let l = length-put 2 to (2 * i) (bits_at c from i) in
      rw e (written_at b n (i + 1) k to' (omega arith) (omega arith))

-- ---- a conversion read back from its 16 bits

bits-bound : (z : ℤ) → bits z < 65536
unfolding bits
bits-bound (pos n) = omega arith
bits-bound (negsuc n) = omega arith

code_reads : ℕ → Bool
code_reads x = same (signed 2 (bits (mu_law x))) (mu_law x)

every-code-reads : T (below 256 code_reads)
unfolding code_reads signed bits mu_law
every-code-reads = tt

reads-back : (c : Coding) (x : ℕ) → 0 < width c → x < 256 ^ width c → signed 2 (bits (conversion c x)) ≡ conversion c x
unfolding code_reads
reads-back (linear unsigned w) x s b =
    rw (linear-signed w x s b unsigned, bits-signed ((top w x + turn unsigned) % 65536) (omega arith))
reads-back mulaw x s b = same-eq (signed 2 (bits (mu_law x))) (mu_law x) (below_at 256 code_reads every-code-reads x b)
reads-back other x s b = absurd (omega arith)

-- ---- the promise

module _ (c : Coding) (from to : List ℕ) (bytes : (j : ℕ) → get_or from j 0 < 256) where
  left : (n : ℕ) → 0 < width c → 2 * n ≤ length to → Left c n from to (written c from 0 n to)
  left n s room = record {
    sample = λ i h.
        let e : 0 + i ≡ i = omega arith in
        let w : sample_at 2 (written c from 0 n to) i ≡ bits_at c from i =
        rw e at (written_at c from (λ k. bits-bound (conversion c (sample_at (width c) from k))) n 0 i to (omega arith) h) in
        rw w (reads-back c (sample_at (width c) from i) s (le-bound (width c) from (width c * i) bytes));
    past = λ j h. written-above c from n 0 j to (omega arith);
    long = length-written c from n 0 to;
  }

  pub promise : Promise c from to (converted_by c from to)
  promise = record {
    no-format = λ h. sym (answers.no-format c from to (width c) refl h);
    not-whole = λ s h. sym (answers.not-whole c from to (width c) refl (λ e. omega arith) h);
    no_room = λ s w h. sym (answers.no_room c from to (width c) refl (λ e. omega arith) w h);
    done = λ s w h.
        rw (← (answers.done c from to (width c) refl (λ e. omega arith) w h)) (refl, left (length from / width c) s h);
  }

-- ---- blocks

module _ (c : Coding) (n : ℕ) (from to out : List ℕ)
    (l : Left c n from to out) (room : 2 * n ≤ length to) (whole : length from ≡ width c * n) where
  -- the part of the buffer that was written
  pub block : Block c n from (take (2 * n) out)
  block = record {
    whole = whole;
    room = length-take-le (2 * n) out (rw l.long room);
    sample = λ i h.
        rw (le_same 2 (take (2 * n) out) out (2 * i) (λ j a b. get_or-take (2 * n) out j 0 (omega arith))) (l.sample i h);
  }

le-after : (w p : ℕ) (a b : List ℕ) → le w (a ++ b) (length a + p) ≡ le w b p
unfolding le
le-after zero p a b = refl
le-after (suc k) p a b =
    let e : length a + p + 1 ≡ length a + (p + 1) = omega arith in
    rw (get_or-append-add a b p 0, e, le-after k (p + 1) a b)

-- sample i of a joined byte string is one of the first part's, or one of the second's
module _ (w n i : ℕ) (a b : List ℕ) (e : length a ≡ w * n) where
  joined-first : i < n → sample_at w (a ++ b) i ≡ sample_at w a i
  joined-first h =
      let m = sample-inside w i n h in
      le_same w (a ++ b) a (w * i) (λ j l u. get_or-append a b 0 j (omega arith))

  joined-second : sample_at w (a ++ b) (n + i) ≡ sample_at w b i
  joined-second = rw (mul-add w n i, ← e) (le-after w (w * i) a b)

module _ (c : Coding) (m n : ℕ) (a b oa ob : List ℕ) (p : Block c m a oa) (q : Block c n b ob) where
  first_part : (i : ℕ) → i < m → signed 2 (sample_at 2 (oa ++ ob) i) ≡ conversion c (sample_at (width c) (a ++ b) i)
  first_part i h = rw (joined-first 2 m i oa ob p.room h, joined-first (width c) m i a b p.whole h) (p.sample i h)

  second-part : (i : ℕ) → i < n → signed 2 (sample_at 2 (oa ++ ob) (m + i)) ≡ conversion c (sample_at (width c) (a ++ b) (m + i))
  second-part i h = rw (joined-second 2 m i oa ob p.room, joined-second (width c) m i a b p.whole) (q.sample i h)

  pub joined : Block c (m + n) (a ++ b) (oa ++ ob)
  joined = record {
    whole = rw (length-append, mul-add, p.whole, q.whole);
    room = rw (length-append, mul-add, p.room, q.room);
    sample = λ i h. ⊎_elim (first_part i) (later i h) (below_or_not i m);
  }
    where
      later : (i : ℕ) → i < m + n → m ≤ i → signed 2 (sample_at 2 (oa ++ ob) i) ≡ conversion c (sample_at (width c) (a ++ b) i)
      later i h l =
          let e : m + (i - m) ≡ i = omega arith in
          rw e at (second-part (i - m) (omega arith))
