-- Bytes written behind the first ones of an array.
use Rattle.std.proofs.Common.{◌≡◌, ℕ, ◌+◌, ◌<◌, ◌≤◌, List, [], ◌∷◌, ◌++◌, length, take, drop, set, ap, arith, length-append, length-take-le}
use Rattle.std.proofs.Common.{◌-◌, replicate}
use lib.Seq.{take-append-le, take_all, take-suc-set, drop_at, length-sets}
use native.Mathlib.Numerals.{add-one}
use Rattle.std.proofs.lemmas.List.{drop-drop, drop-replicate}
use Rattle.std.proofs.lemmas.List.Edits.{sets-eq}
use Rattle.decimal.specs.Write.{Put}
use Rattle.decimal.proofs.Writing.{put_byte}
use Rattle.text.specs.Text.{IsPadded}

-- what was put there stands behind them
pub kept_put : {t a b : List ℕ} {at end : ℕ} → Put t a at b end → at + length t ≤ length a → take end b ≡ take at a ++ t
kept_put {t} {a} {b} {at} {end} f h =
    let n : length (take at a ++ t) ≡ end = omega (arith, length-append (take at a) t, length-take-le at a (omega arith), f.behind) in
    rw (
      f.stored,
      sets-eq t a at h,
      take-append-le end (take at a ++ t) (drop (at + length t) a) (omega arith),
      take_all end (take at a ++ t) (omega arith),
    )

pub kept_set : (a : List ℕ) (n b : ℕ) → n < length a → take (n + 1) (set a n b) ≡ take n a ++ b ∷ []
kept_set a n b h = rw (add-one, take-suc-set a n b h)

-- room for k bytes more, in the array
pub room : {t : List ℕ} {most : ℕ} (bytes : List ℕ) (count k : ℕ) → take count bytes ≡ t → count ≤ most → length bytes ≡ most
    → length t + k ≤ most
    → count + k ≤ length bytes
room {t} {most} bytes count k e l n r = omega (arith, ap length e, length-take-le count bytes (omega arith))

-- and behind it 0, as before
rest-more : (a : List ℕ) (at n most : ℕ) → drop at a ≡ replicate (most - at) 0 → drop (at + n) a ≡ replicate (most - (at + n)) 0
rest-more a at n most h =
    let k : most - at - n ≡ most - (at + n) = omega arith in
    rw (← (drop-drop n at a), h, drop-replicate {X = ℕ} n (most - at) 0, k)

pub padded_put : {t a b : List ℕ} {at end most : ℕ} → Put t a at b end → at + length t ≤ length a → IsPadded most a at → IsPadded most b end
padded_put {t} {a} {b} {at} {end} {most} f r h =
    let l : length (take at a ++ t) ≡ at + length t = omega (arith, length-append (take at a) t, length-take-le at a (omega arith)) in
    record {
      fits = omega (arith, f.behind, h.long);
      long = rw (f.stored, length-sets) h.long;
      rest =
          rw (f.stored, f.behind, sets-eq t a at r, drop_at (take at a ++ t) (drop (at + length t) a) (at + length t) l)
          (rest-more a at (length t) most h.rest);
    }

pub padded_set : (a : List ℕ) (at b most : ℕ) → at < length a → IsPadded most a at → IsPadded most (set a at b) (at + 1)
padded_set a at b most r h = padded_put (put_byte a at b) (omega arith) h
