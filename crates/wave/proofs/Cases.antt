-- Order 3's numbers, those on each side of the largest length, and that none wraps; and the outcomes of writing, case by case.
use mathlib.Core.Path.{◌≡◌, ◌∙◌, refl, sym, ap}
use mathlib.Core.List.{List, ◌++◌}
use Prim.Native.Nat.{ℕ, ◌/◌, ◌≤◌}
use native.Mathlib.Nat.{mul-le-mul, zero-add}
use native.Mathlib.Omega.{arith}
use lib.ListN.{length, drop}
use Rattle.formats.specs.Widths.{physical_bits}
use Rattle.wave.specs.Lists.{listed, bits_of, hz_of, known}
use Rattle.wave.specs.File.{file_of, file_len_of, block_align}
use Rattle.wave.specs.Outcome.{judged, laid, placed, outcome, written_of}
use Rattle.wave.specs.Promise.{Writing, Cases}
use Rattle.wave.proofs.Lists.{bits-bound, hz-bound}
use Rattle.wave.proofs.Parts.{length-file}
use Rattle.wave.proofs.Answers.{not_known, too_long, fine, refused, no_room, done}

align-bound : (f c : ℕ) → c ≤ 18 → block_align f c ≤ 72
align-bound f c h =
    let b : bits_of f / 8 ≤ 4 = omega (arith, bits-bound f) in
    mul-le-mul {n₁ = c} {n₂ = 18} {m₂ = 4} h b

pub cases : Cases
unfolding judged known listed physical_bits hz_of
cases = record {
  file-1964 = refl;
  riff-1956 = refl;
  rate-192000 = refl;
  align-4 = refl;
  odd-file = refl;
  odd-riff = refl;
  odd-pad = refl;
  even-pad = refl;
  largest = refl;
  largest-riff = refl;
  past-largest = refl;
  past-riff = refl;
  riff-fits = λ n h. omega arith;
  rate-fits = λ f c r k. mul-le-mul {n₁ = hz_of r} {n₂ = 384000} {m₂ = 72} (hz-bound r) (align-bound f c k.most);
  align_fits = λ f c r k. align-bound f c k.most;
}

laid-first : (s out : List ℕ) (n : ℕ) → n ≡ length s → laid out 0 s ≡ s ++ drop n out
unfolding laid
laid-first s out n e = rw (e, zero-add (length s))

pub writing : (f c r : ℕ) (d out : List ℕ) → Writing f c r d out (written_of f c r d out)
writing f c r d out = record {
  not_listed = λ h. after 20 (not_known f c r n h) (refused 20 (file_len_of n) s out e (λ z. omega arith));
  too_long = λ k h. after 21 (too_long f c r n k h) (refused 21 (file_len_of n) s out e (λ z. omega arith));
  no_room = λ w h. after 0 (fine f c r n w.known w.short) (no_room 0 (file_len_of n) s out e refl h);
  done = λ w h.
      after 0 (fine f c r n w.known w.short) (done 0 (file_len_of n) s out e refl h)
      ∙ ap (λ (l : List ℕ). outcome 0 (file_len_of n) l) (laid-first s out (file_len_of n) e);
}
  where
    n : ℕ
    n = length d

    s : List ℕ
    s = file_of f c r d

    e : file_len_of (length d) ≡ length (file_of f c r d)
    e = sym (length-file f c r d)

    after : {o : _} (a : ℕ) → a ≡ judged f c r (length d) → o ≡ placed a (file_of f c r d) out → written_of f c r d out ≡ o
    after a j h = rw (← j) (sym h)
