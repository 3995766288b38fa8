-- The loops over samples: what each keeps (`Going`), its start, its step and its end, once for every coding.
use Rattle.std.proofs.Common.{◌≡◌, ℕ, ◌+◌, ◌-◌, ◌*◌, ◌<◌, ◌≤◌, List, length, sym, refl, ◌∙◌, mul-le-mul_left, mul-suc, add-one, arith}
use Rattle.memory.specs.Bytes.{put}
use Rattle.memory.proofs.Laws.{length-put}
use Rattle.samples.specs.Formats.{Coding, bits_at}
use Rattle.samples.specs.Outcome.{written}

module _ (c : Coding) (from : List ℕ) where
  pub written_none : (i n : ℕ) (to : List ℕ) → n ≡ 0 → written c from i n to ≡ to
  unfolding written
  written_none i n to h = rw h

  pub written-more : (i n k : ℕ) (to : List ℕ) → n ≡ k + 1
      → written c from i n to ≡ written c from (i + 1) k (put 2 to (2 * i) (bits_at c from i))
  unfolding written
  written-more i n k to h = rw (h, add-one)

-- i of n samples are written: what is left to write makes of `to` what the whole makes of `to₀`
pub record Going (c : Coding) (from : List ℕ) (n : ℕ) (to₀ to : List ℕ) (i : ℕ) : Type 0 where
  pub begun : i ≤ n
  pub long : length to ≡ length to₀
  pub same : written c from i (n - i) to ≡ written c from 0 n to₀

module _ (c : Coding) (from : List ℕ) (n : ℕ) (to₀ : List ℕ) where
  pub going-first : Going c from n to₀ to₀ 0
  going-first =
      let e : n - 0 ≡ n = omega arith in
      record { begun = omega arith; long = refl; same = rw e }

  module _ (to : List ℕ) (i : ℕ) (g : Going c from n to₀ to i) where
    pub going_on : (v : ℕ) → i < n → v ≡ bits_at c from i
        → Going c from n to₀ (put 2 to (2 * i) v) (i + 1)
    going_on v h e = record {
      begun = omega arith;
      long = length-put 2 to (2 * i) v ∙ g.long;
      same = rw (e, ← (written-more c from i (n - i) (n - (i + 1)) to (omega arith))) g.same;
    }

    pub going-last : n ≤ i → to ≡ written c from 0 n to₀
    going-last h = sym (written_none c from i (n - i) to (omega arith)) ∙ g.same

-- sample i of n, of w bytes each, lies inside w·n bytes
pub sample-inside : (w i n : ℕ) → i < n → w * i + w ≤ w * n
sample-inside w i n h = rw (← (mul-suc w i)) (mul-le-mul_left w h)
