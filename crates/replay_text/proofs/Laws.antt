-- Laws of bytes as HEX.
use mathlib.Core.Path.{◌≡◌, refl}
use mathlib.Core.List.{List, [], ◌∷◌, ◌++◌}
use mathlib.Core.Bool.{Bool, true, false, cond}
use Prim.Native.Nat.{ℕ, zero, suc, ◌+◌, ◌/◌, ◌%◌, ◌≤◌}
use native.Mathlib.Numerals.{add-one}
use native.Mathlib.Omega.{arith}
use borrow.Author.Tests.{leb-true}
use lib.Dec.{leb}
use lib.ListN.{length, get_or, set, get_or-eq_default}
use Rattle.decimal.proofs.Writing.{Rest, put_then, put_byte, rest_more}
use Rattle.replay_text.specs.Hex.{glyph_of, behind_of, hex_bytes, hex_word}

-- ---- HEX

-- past the end every place is the same
hex-past : (k : ℕ) (m : List ℕ) (a b : ℕ) → length m ≤ a → length m ≤ b → hex_bytes k m a ≡ hex_bytes k m b
unfolding hex_bytes
hex-past zero m a b h g = refl
hex-past (suc k) m a b h g =
    rw (get_or-eq_default m 0 h, get_or-eq_default m 0 g, hex-past k m (a + 1) (b + 1) (omega arith) (omega arith))

pub word-past : (n : ℕ) (m : List ℕ) (a b : ℕ) → length m ≤ a → length m ≤ b → hex_word n m a ≡ hex_word n m b
unfolding hex_word
word-past n m a b h g = rw (hex-past n m a b h g)

pub hex-behind : (k : ℕ) (m : List ℕ) (at : ℕ) → hex_bytes k m (behind_of (length m) at) ≡ hex_bytes k m (at + 1)
hex-behind k m at = by (leb (length m) at) refl where
  by : (t : Bool) → leb (length m) at ≡ t → hex_bytes k m (cond t (length m) (at + 1)) ≡ hex_bytes k m (at + 1)
  by true e = hex-past k m (length m) (at + 1) (omega arith) (omega (arith, leb-true (length m) at e))
  by false e = refl

pub hex-none : (n : ℕ) (m : List ℕ) (at : ℕ) → n ≡ 0 → hex_bytes n m at ≡ []
unfolding hex_bytes
hex-none n m at h = rw h

hex-more : (n k : ℕ) (m : List ℕ) (at : ℕ) → n ≡ k + 1
    → hex_bytes n m at ≡ (glyph_of (get_or m at 0 / 16) ∷ glyph_of (get_or m at 0 % 16) ∷ []) ++ hex_bytes k m (at + 1)
unfolding hex_bytes
hex-more n k m at h = rw (h, add-one k)

-- the two digits of a byte written, of a text that is written part by part
pub hex-two : {w l : List ℕ} {q hi lo b : ℕ} (out m : List ℕ) (d n k from : ℕ) → n ≡ k + 1
    → b ≡ get_or m from 0 → hi ≡ glyph_of (b / 16) → lo ≡ glyph_of (b % 16)
    → Rest w l q out d (hex_bytes n m from) → Rest w l q (set (set out d hi) (d + 1) lo) (d + 1 + 1) (hex_bytes k m (from + 1))
hex-two {w} {l} {q} {hi} {lo} {b} out m d n k from e f g h r =
    let hi' = glyph_of (get_or m from 0 / 16) in
    let lo' = glyph_of (get_or m from 0 % 16) in
    rw (h, g, f)
    (rest_more (hex_bytes k m (from + 1)) (put_then (put_byte out d hi') (put_byte (set out d hi') (d + 1) lo'))
    (rw (hex-more n k m from e) at r))
