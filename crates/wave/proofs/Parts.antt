-- The lengths of the header's parts and of the file, and the parts laid one behind the other.
use mathlib.Core.Path.{◌≡◌, ◌∙◌, refl, ap}
use mathlib.Core.List.{List, [], ◌∷◌, ◌++◌}
use Prim.Native.Nat.{ℕ, ◌+◌, ◌%◌, ◌≤◌}
use native.Mathlib.Omega.{arith}
use lib.ListN.{length, replicate, length-append}
use lib.Seq.{length-take-le}
use Rattle.wave.specs.File.{bytes, riff_part, format_part, data_part, header_of, pad_of, file_of, file_len_of}
use Rattle.wave.specs.Outcome.{laid}
use Rattle.wave.proofs.Laid.{laid_next}

module _ (f c r n : ℕ) where
  pub length-riff : length (riff_part n) ≡ 12
  unfolding riff_part bytes
  length-riff = refl

  pub length-format : length (format_part f c r) ≡ 24
  unfolding format_part bytes
  length-format = refl

  pub length-header : length (header_of f c r n) ≡ 44
  unfolding header_of riff_part format_part data_part bytes
  length-header = refl

  -- the three parts of the header, laid one behind the other
  pub header-laid : (d : List ℕ) → 44 ≤ length d
      → laid (laid (laid d 0 (riff_part n)) 12 (format_part f c r)) 36 (data_part n) ≡ laid d 0 (header_of f c r n)
  unfolding header_of
  header-laid d h =
      let a : 0 + length (riff_part n) ≡ 12 = rw length-riff in
      let l = length-append (riff_part n) (format_part f c r) in
      let b : 0 + length (riff_part n ++ format_part f c r) ≡ 36 = rw (l, length-riff, length-format) in
      ap (λ (l : List ℕ). laid l 36 (data_part n)) (laid_next d 0 (riff_part n) 12 (format_part f c r) a (omega arith))
      ∙ laid_next d 0 (riff_part n ++ format_part f c r) 36 (data_part n) b (omega arith)

pub length-pad : (n : ℕ) → length (pad_of n) ≡ n % 2
length-pad n = length-take-le (n % 2) (0 ∷ []) (omega arith)

module _ (f c r : ℕ) (d : List ℕ) where
  pub length-file : length (file_of f c r d) ≡ file_len_of (length d)
  unfolding file_of
  length-file =
      rw (
        length-append (header_of f c r (length d) ++ d) (pad_of (length d)),
        length-append (header_of f c r (length d)) d,
        length-header f c r (length d),
        length-pad (length d),
      )

  -- header, data and pad, laid one behind the other
  pub file-laid : (out : List ℕ) → 44 + length d ≤ length out
      → laid (laid (laid out 0 (header_of f c r (length d))) 44 d) (44 + length d) (pad_of (length d)) ≡ laid out 0 (file_of f c r d)
  unfolding file_of
  file-laid out h =
      let head : List ℕ = header_of f c r (length d) in
      let a : 0 + length head ≡ 44 = rw (length-header f c r (length d)) in
      let b : 0 + length (head ++ d) ≡ 44 + length d = rw (length-append head d, length-header f c r (length d)) (omega arith) in
      ap (λ (l : List ℕ). laid l (44 + length d) (pad_of (length d))) (laid_next out 0 head 44 d a (omega arith))
      ∙ laid_next out 0 (head ++ d) (44 + length d) (pad_of (length d)) b h

-- the header in a buffer of its own length
pub header-alone : (f c r n : ℕ) → laid (replicate 44 0) 0 (header_of f c r n) ≡ header_of f c r n
unfolding laid header_of riff_part format_part data_part bytes
header-alone f c r n = refl
