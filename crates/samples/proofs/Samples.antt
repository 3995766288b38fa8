-- What the loops form of a sample's bytes are the bits of its conversion.
use Rattle.std.proofs.Common.{◌≡◌, ℕ, zero, suc, ◌+◌, ◌-◌, ◌*◌, ◌/◌, ◌%◌, ◌^◌, ◌<◌, ◌≤◌, Bool}
use Rattle.std.proofs.Common.{List, length, false, true, get_or, drop, ap, ◌∙◌, refl, get_or-take, get_or-drop, div-one, arith, le-ltb}
use native.Mathlib.Nat.{pow-succ', div-div-eq-div-mul}
use Rattle.std.specs.Simd.{first_chunks}
use Rattle.std.proofs.lemmas.Grind.{get_or_default_zero}
use Rattle.memory.specs.Bytes.{le}
use Rattle.memory.proofs.Laws.{le-bound, le-more, le-none}
use Rattle.samples.specs.Values.{bits}
use Rattle.samples.specs.MuLaw.{mu_law}
use Rattle.samples.specs.Formats.{linear, mulaw, sample_at, bits_at}
use Rattle.samples.specs.Loops.{top, turn}
use Rattle.samples.proofs.Width.{linear-bits}

module _ (s : List ℕ) (bytes : (i : ℕ) → get_or s i 0 < 256) where
  -- all but the top two of k + 2 bytes dropped
  le-top : (k n at : ℕ) → n ≡ k + 2 → le n s at / 256 ^ k ≡ le 2 s (at + k)
  le-top zero n at h =
      let e : n ≡ 2 = omega arith in
      let f : at + 0 ≡ at = omega arith in
      rw (e, f, div-one)
  le-top (suc k) n at h =
      let e : (get_or s at 0 + 256 * le (k + 2) s (at + 1)) / 256 ≡ le (k + 2) s (at + 1) = omega (arith, bytes at) in
      let f : at + 1 + k ≡ at + suc k = omega arith in
      rw (le-more n (k + 2) s at (omega arith), pow-succ' 256 k, ← div-div-eq-div-mul, e, le-top k (k + 2) (at + 1) refl, f)

  byte-sample : (i : ℕ) → sample_at 1 s i ≡ get_or s i 0
  byte-sample i =
      let e : 1 * i ≡ i = omega arith in
      rw (e, le-more 1 0 s i refl, le-none 0 s (i + 1) refl) (omega arith)

  pub mu-law-bits : (i : ℕ) → bits (mu_law (get_or s i 0)) ≡ bits_at mulaw s i
  mu-law-bits i = rw (byte-sample i)

  module _ (unsigned : Bool) (i : ℕ) where
    pub narrow_bits : (256 * get_or s i 0 + turn unsigned) % 65536 ≡ bits_at (linear unsigned 1) s i
    unfolding top
    narrow_bits =
        let g : 256 * get_or s i 0 ≡ get_or s i 0 * 256 = omega arith in
        rw (byte-sample i, linear-bits 1 (get_or s i 0) (omega arith) (bytes i) unsigned, g)

    pub wide-bits : (w : ℕ) → 2 ≤ w → (le 2 s (w * i + (w - 2)) + turn unsigned) % 65536 ≡ bits_at (linear unsigned w) s i
    unfolding top
    wide-bits w h =
        let e : top w (sample_at w s i) ≡ le 2 s (w * i + (w - 2)) = rw (le-ltb w 2 h) (le-top (w - 2) w (w * i) (omega arith)) in
        rw (linear-bits w (sample_at w s i) (omega arith) (le-bound w s (w * i) bytes) unsigned, e)

-- byte j of sample i, where the samples are chunks of n bytes
chunk-byte : (n k : ℕ) (s : List ℕ) (i j : ℕ) (x : List ℕ) → i < k → j < n → x ≡ get_or (first_chunks n k s) i x
    → get_or x j 0 ≡ get_or s (n * i + j) 0
chunk-byte n zero s i j x l h e = absurd (omega arith)
chunk-byte n (suc k) s zero j x l h e =
    let f : n * 0 + j ≡ j = omega arith in
    rw f (ap (λ (y : List ℕ). get_or y j 0) e ∙ get_or-take n s j 0 h)
chunk-byte n (suc k) s (suc i) j x l h e =
    let f : n * suc i + j ≡ n + (n * i + j) = omega arith in
    rw (f, ← (get_or-drop n s (n * i + j) 0)) (chunk-byte n k (drop n s) i j x (omega arith) h e)

-- its two bytes from j on
pub chunk-pair : (n k : ℕ) (s : List ℕ) (i j : ℕ) (x : List ℕ) → i < k → j + 1 < n → x ≡ get_or (first_chunks n k s) i x
    → get_or x j 0 + get_or x (j + 1) 0 * 256 ≡ le 2 s (n * i + j)
unfolding le
chunk-pair n k s i j x l h e =
    let f : n * i + (j + 1) ≡ n * i + j + 1 = omega arith in
    let a = chunk-byte n k s i j x l (omega arith) e in
    let b = chunk-byte n k s i (j + 1) x l h e in
    rw (a, b, f) (omega arith)

-- ---- what the closures make of a sample, as the bits of its conversion

module _ (s : List ℕ) (bytes : (i : ℕ) → get_or s i 0 < 256) (i v : ℕ) where
  module _ (x : ℕ) (inside : i < length s) (e : x ≡ get_or s i x) where
    is-byte : x ≡ get_or s i 0
    is-byte = e ∙ get_or_default_zero s i x inside

    pub made-mulaw : v ≡ bits (mu_law x) → v ≡ bits_at mulaw s i
    made-mulaw f = f ∙ ap (λ (y : ℕ). bits (mu_law y)) is-byte ∙ mu-law-bits s bytes i

    pub made-narrow : v ≡ x * 256 → v ≡ bits_at (linear false 1) s i
    made-narrow f =
        let g : v ≡ (256 * get_or s i 0 + 0) % 65536 = omega (arith, is-byte, bytes i) in
        g ∙ narrow_bits s bytes false i

    pub made-narrow-unsigned : v ≡ (x * 256 + 32768) % 65536 → v ≡ bits_at (linear true 1) s i
    made-narrow-unsigned f =
        let g : v ≡ (256 * get_or s i 0 + 32768) % 65536 = omega (arith, is-byte) in
        g ∙ narrow_bits s bytes true i

  module _ (w : ℕ) (two : 2 ≤ w) where
    pub made-wide : v ≡ le 2 s (w * i + (w - 2)) → v ≡ bits_at (linear false w) s i
    made-wide f =
        let b : v < 65536 = rw f (le-bound 2 s (w * i + (w - 2)) bytes) in
        let g : v ≡ (le 2 s (w * i + (w - 2)) + 0) % 65536 = omega arith in
        g ∙ wide-bits s bytes false i w two

    pub made-wide-unsigned : v ≡ (le 2 s (w * i + (w - 2)) + 32768) % 65536 → v ≡ bits_at (linear true w) s i
    made-wide-unsigned f = f ∙ wide-bits s bytes true i w two
