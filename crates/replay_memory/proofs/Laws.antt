-- Laws of memory: filled with a byte; and an address past the end is as good as the end.
use mathlib.Core.Path.{◌≡◌, refl, sym, ◌∙◌}
use mathlib.Core.List.{List}
use mathlib.Core.Bool.{Bool, true, false}
use Prim.Native.Nat.{ℕ, zero, suc, ◌+◌, ◌≤◌, min}
use native.Mathlib.Numerals.{add-one}
use native.Mathlib.Omega.{arith}
use borrow.Author.Tests.{leb-true, leb-false}
use lib.Dec.{leb}
use lib.ListN.{length, set, take}
use lib.Seq.{set_out, length-take-le}
use Rattle.std.proofs.Common.{◌-◌, [], false, length-set, replicate, append_assoc, rules}
use Rattle.std.proofs.lemmas.Slice.{put_mid-paste, overwrites}
use Rattle.std.proofs.lemmas.List.Edits.{sets, sets-eq, paste_all}
use borrow.Rule.Slice.PartMut.{put_mid}
use lib.ListN.{length-replicate}
use borrow.Author.Tests.{ltb-true, ltb-false}
use lib.Dec.{ltb}
use Rattle.replay_field.specs.Hex.{poured}
use Rattle.replay_field.proofs.Laws.{poured-past}
use Rattle.replay_text.specs.Hex.{hex_word}
use Rattle.replay_text.proofs.Laws.{word-past}
use Rattle.replay_memory.specs.Lent.{filled, dump_bytes}

-- nothing is written past the end
pub filled-past : (n : ℕ) (m : List ℕ) (at b : ℕ) → length m ≤ at → filled n m at b ≡ m
unfolding filled
filled-past zero m at b h = refl
filled-past (suc k) m at b h = rw (set_out m at b h) (filled-past k m (at + 1) b (omega arith))

-- only what lies within is written
filled_within : (n : ℕ) (m : List ℕ) (at b : ℕ) → filled n m at b ≡ filled (min n (length m - at)) m at b
unfolding filled
filled_within zero m at b = let e : min 0 (length m - at) ≡ 0 = omega arith in rw e
filled_within (suc k) m at b = by (ltb at (length m)) refl (filled_within k (set m at b) (at + 1) b) where
  by : (t : Bool) → ltb at (length m) ≡ t
      → filled k (set m at b) (at + 1) b ≡ filled (min k (length (set m at b) - (at + 1))) (set m at b) (at + 1) b
      → filled (suc k) m at b ≡ filled (min (suc k) (length m - at)) m at b
  by true h more =
      let e : min (suc k) (length m - at) ≡ suc (min k (length (set m at b) - (at + 1))) =
      omega (arith, ltb-true at (length m) h, length-set m at b) in
      rw e more
  by false h more =
      let p = ltb-false at (length m) h in
      let e : min (suc k) (length m - at) ≡ 0 = omega arith in
      rw e (filled-past (suc k) m at b p)

filled_sets : (n : ℕ) (m : List ℕ) (at b : ℕ) → filled n m at b ≡ sets m at (replicate n b)
unfolding filled
filled_sets zero m at b = refl
filled_sets (suc k) m at b = rw (add-one at) (filled_sets k (set m at b) (suc at) b)

put_none : (m : List ℕ) (start : ℕ) (part : List ℕ) → part ≡ [] → start ≡ length m → put_mid start 0 m part ≡ m
put_none m start part e f = rw (e, f) (search (rules, overwrites))

-- a part set to one byte
pub filled_part : (n : ℕ) (m : List ℕ) (at b start end : ℕ) (part : List ℕ) → start ≡ min at (length m)
    → end ≡ start + min n (length m - start) → part ≡ replicate (end - start) b → put_mid start (end - start) m part ≡ filled n m at b
filled_part n m at b start end part p q r = by (ltb at (length m)) refl where
  k : ℕ
  k = min n (length m - at)

  by : (t : Bool) → ltb at (length m) ≡ t → put_mid start (end - start) m part ≡ filled n m at b
  by true h =
      let e : start ≡ at = omega (arith, p, ltb-true at (length m) h) in
      let f : end - start ≡ min n (length m - at) = omega (arith, q, e) in
      let l = length-replicate {A = ℕ} (min n (length m - at)) b in
      put_mid-paste start (end - start) m part (replicate (min n (length m - at)) b) (min n (length m - at)) (rw (← f) r) (sym f) (sym l)
      ∙ rw (
        e,
        filled_within n m at b,
        filled_sets (min n (length m - at)) m at b,
        sets-eq (replicate (min n (length m - at)) b) m at (omega (arith, l)),
      )
      (paste_all m at (replicate (min n (length m - at)) b) (min n (length m - at)) (sym l) ∙ rw l (sym (append_assoc (take at m) _ _)))
  by false h =
      let e = ltb-false at (length m) h in
      let f : end - start ≡ 0 = omega (arith, p, q) in
      let s : start ≡ length m = omega (arith, p) in
      rw (f, filled-past n m at b e) (put_none m start part (rw f at r) s)

-- ---- the place of an address in the memory lent: past the end it is the end

module _ (ram : List ℕ) (lent a to : ℕ) (l : lent ≤ length ram) (e : to ≡ min (a + 0) lent) where
  -- what is the same at all places past the end is the same at that place
  at_place : {A : Type 0} (f : ℕ → A) → ((i j : ℕ) → lent ≤ i → lent ≤ j → f i ≡ f j) → f to ≡ f a
  at_place f same = by (leb lent a) refl where
    by : (b : Bool) → leb lent a ≡ b → f to ≡ f a
    by true h = same to a (omega (arith, leb-true lent a h, e)) (leb-true lent a h)
    by false h = let p : to ≡ a = omega (arith, leb-false lent a h, e) in rw p

  abbrev memory : List ℕ
  memory = take lent ram

  long : (i : ℕ) → lent ≤ i → length memory ≤ i
  long i h = rw (length-take-le lent ram l) h

  pub poured-place : (t : List ℕ) → poured t memory to ≡ poured t memory a
  poured-place t = at_place (poured t memory) (λ i j p q. poured-past t memory i (long i p) ∙ sym (poured-past t memory j (long j q)))

  pub filled-place : (n b : ℕ) → filled n memory to b ≡ filled n memory a b
  filled-place n b =
      at_place (λ i. filled n memory i b) (λ i j p q. filled-past n memory i b (long i p) ∙ sym (filled-past n memory j b (long j q)))

  pub dump-place : (line n : ℕ) → dump_bytes line memory to n ≡ dump_bytes line memory a n
  unfolding dump_bytes
  dump-place line n = rw (at_place (hex_word (min n 65536) memory) (λ i j p q. word-past (min n 65536) memory i j (long i p) (long j q)))
