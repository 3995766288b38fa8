-- Lists that grow at their end, and notes in order.
use mathlib.Core.Path.{sym}
use mathlib.Core.List.{List, [], ◌∷◌, ◌++◌, append-nil, append_assoc}
use Prim.Native.Nat.{ℕ, suc, ◌+◌, ◌≤◌, ◌<◌}
use native.Mathlib.Nat.{le_refl}
use native.Mathlib.Omega.{arith}
use lib.ListN.{length, drop, length-append}
use Rattle.device.specs.Account.{Grows, Each, InOrder, end, next}
use Rattle.device.specs.Histories.{Note, notes_of}

-- ---- lists

-- nothing added, and something more
abbrev pub grows_none : {A : Type 0} (xs : List A) → Grows xs xs
grows_none xs = record { added = []; is = sym (append-nil xs) }

abbrev pub grows-more : {A : Type 0} (xs ys zs : List A) → Grows xs ys → Grows xs (ys ++ zs)
grows-more xs ys zs g = record { added = g.added ++ zs; is = rw (g.is, append_assoc) }

pub grows-length : {A : Type 0} (xs ys : List A) → Grows xs ys → length xs ≤ length ys
grows-length xs ys g = rw (g.is, length-append) (omega arith)

pub each_append : {A : Type 0} (P : A → Type 0) (xs ys : List A) → Each P xs → Each P ys → Each P (xs ++ ys)
each_append P [] ys p q = q
each_append P (x ∷ xs) ys p q = (p.0, each_append P xs ys p.1 q)

pub each_map : {A : Type 0} (P Q : A → Type 0) (xs : List A) → ((x : A) → P x → Q x) → Each P xs → Each Q xs
each_map P Q [] f p = tt
each_map P Q (x ∷ xs) f p = (f x p.0, each_map P Q xs f p.1)

-- ---- notes in order

pub order-lower : (a c b : ℕ) (xs : List Note) → a ≤ c → InOrder c b xs → InOrder a b xs
order-lower a c b _ l end = end
order-lower a c b _ l (next {x = x} k u o) = let k' : a ≤ x.of = omega arith in next k' u o

pub order-higher : (a b c : ℕ) (xs : List Note) → b ≤ c → InOrder a b xs → InOrder a c xs
order-higher a b c _ l end = end
order-higher a b c _ l (next {x = x} {xs = xs} k u o) = let u' : x.of < c = omega arith in next k u' (order-higher x.of b c xs l o)

-- notes of the last message go behind all others
pub order-append : (a c : ℕ) (xs ys : List Note) → a ≤ c → InOrder a (suc c) xs → InOrder c (suc c) ys → InOrder a (suc c) (xs ++ ys)
order-append a c _ ys l end o = order-lower a c (suc c) ys l o
order-append a c _ ys l (next {x = x} {xs = xs} k u p) o = next k u (order-append x.of c xs ys (omega arith) p o)

pub order-notes : (t p : ℕ) (bytes xs : List ℕ) → InOrder t (suc t) (notes_of t p bytes xs)
order-notes t p bytes [] = end
order-notes t p bytes (x ∷ xs) = next (le_refl t) (le_refl (suc t)) (order-notes t (p + 1) (drop 1 bytes) xs)
