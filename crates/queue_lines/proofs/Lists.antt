-- Facts about lists: one element changed, sums, the elements that pass a test; and the one loop.
use mathlib.Core.Path.{◌≡◌, refl, ap}
use mathlib.Core.Bool.{Bool, true, false, cond}
use mathlib.Core.List.{List, [], ◌∷◌, ◌++◌, map, append-nil}
use Prim.Native.Nat.{ℕ, zero, suc, ◌+◌, ◌<◌}
use native.Mathlib.Numerals.{add-one}
use native.Mathlib.Omega.{arith}
use lib.ListN.{length, take, drop, get_or, set, replicate}
use Rattle.device.proofs.Cases.{map-cond}
use Rattle.queue_lines.specs.Claim.{those}
use Rattle.queue_lines.specs.Counters.{sum_of, changed}
use Rattle.queue_lines.specs.Rules.{times}

-- ---- the loop

pub times-keeps :
    {S : Type 0} (P : S → Type 0) (step : S → S) → ((s : S) → P s → P (step s)) → (k : ℕ) (s : S) → P s → P (times step k s)
unfolding times
times-keeps P step keeps zero s p = p
times-keeps P step keeps (suc k) s p = times-keeps P step keeps k (step s) (keeps s p)

-- by the number of turns left: none, one and more; or any number where a turn changes nothing
pub times_none : {S : Type 0} (step : S → S) (n : ℕ) (s : S) → n ≡ 0 → times step n s ≡ s
unfolding times
times_none step n s e = rw e

pub times_more : {S : Type 0} (step : S → S) (n k : ℕ) (s : S) → n ≡ k + 1 → times step n s ≡ times step k (step s)
unfolding times
times_more step n k s e = rw (e, add-one)

pub times-fixed : {S : Type 0} (step : S → S) (k : ℕ) (s : S) → step s ≡ s → times step k s ≡ s
unfolding times
times-fixed step zero s e = refl
times-fixed step (suc k) s e = rw e (times-fixed step k s e)

-- two loops that run alike: `f` shows one state as the other, where `P` holds
pub times-alike :
    {A D : Type 0} (f : A → D) (P : A → Type 0) (step_a : A → A) (step_d : D → D)
    → ((s : A) → P s → step_d (f s) ≡ f (step_a s))
    → ((s : A) → P s → P (step_a s))
    → (k : ℕ) (s : A)
    → P s
    → times step_d k (f s) ≡ f (times step_a k s)
unfolding times
times-alike f P step_a step_d same keeps zero s p = refl
times-alike f P step_a step_d same keeps (suc k) s p =
    rw (same s p) (times-alike f P step_a step_d same keeps k (step_a s) (keeps s p))

-- ---- one element changed

pub map-set : {A B : Type 0} (f : A → B) (l : List A) (i : ℕ) (x : A) → map f (set l i x) ≡ set (map f l) i (f x)
map-set f [] i x = refl
map-set f (y ∷ l) zero x = refl
map-set f (y ∷ l) (suc i) x = ap (λ r. f y ∷ r) (map-set f l i x)

pub map-replicate : {A B : Type 0} (f : A → B) (n : ℕ) (x : A) → map f (replicate n x) ≡ replicate n (f x)
map-replicate f zero x = refl
map-replicate f (suc n) x = ap (λ r. f x ∷ r) (map-replicate f n x)

pub get_d-replicate-same : {A : Type 0} (n i : ℕ) (x : A) → get_or (replicate n x) i x ≡ x
get_d-replicate-same zero i x = refl
get_d-replicate-same (suc n) zero x = refl
get_d-replicate-same (suc n) (suc i) x = get_d-replicate-same n i x

-- what holds of every element still holds once one is changed
pub changed-keeps :
    {A : Type 0} (P : A → Type 0) (d : A) (f : A → A)
    → ((x : A) → P x → P (f x))
    → (l : List A) (i j : ℕ)
    → P (get_or l j d)
    → P (get_or (changed d i f l) j d)
changed-keeps P d f k [] i j p = p
changed-keeps P d f k (x ∷ l) zero zero p = k x p
changed-keeps P d f k (x ∷ l) zero (suc j) p = p
changed-keeps P d f k (x ∷ l) (suc i) zero p = p
changed-keeps P d f k (x ∷ l) (suc i) (suc j) p = changed-keeps P d f k l i j p

-- ---- sums

pub sum_of-append : {A : Type 0} (f : A → ℕ) (xs ys : List A) → sum_of f (xs ++ ys) ≡ sum_of f xs + sum_of f ys
unfolding sum_of
sum_of-append f [] ys = omega arith
sum_of-append f (x ∷ xs) ys = rw (sum_of-append f xs ys) (omega arith)

pub sum_of-set :
    {A : Type 0} (f : A → ℕ) (l : List A) (i : ℕ) (x d : A) → i < length l → sum_of f (set l i x) + f (get_or l i d) ≡ sum_of f l + f x
unfolding sum_of
sum_of-set f [] i x d h = absurd (omega arith)
sum_of-set f (y ∷ l) zero x d h = omega arith
sum_of-set f (y ∷ l) (suc i) x d h = omega (arith, sum_of-set f l i x d (omega arith))

pub sum_of-map :
    {A B : Type 0} (f : B → ℕ) (g : A → B) (e : A → ℕ) (d : A) (l : List A)
    → ((i : ℕ) → f (g (get_or l i d)) ≡ e (get_or l i d))
    → sum_of f (map g l) ≡ sum_of e l
unfolding sum_of
sum_of-map f g e d [] h = refl
sum_of-map f g e d (x ∷ l) h = rw (h 0, sum_of-map f g e d l (λ i. h (suc i)))

pub sum_of-same : {A : Type 0} (f g : A → ℕ) → ((x : A) → f x ≡ g x) → (l : List A) → sum_of f l ≡ sum_of g l
unfolding sum_of
sum_of-same f g h [] = refl
sum_of-same f g h (x ∷ l) = rw (h x, sum_of-same f g h l)

pub sum_of-none : {A : Type 0} (f : A → ℕ) (n : ℕ) (x : A) → f x ≡ 0 → sum_of f (replicate n x) ≡ 0
unfolding sum_of
sum_of-none f zero x h = refl
sum_of-none f (suc n) x h = rw (h, sum_of-none f n x h)

pub sum_of-ones : {A : Type 0} (l : List A) → sum_of (λ (x : A). 1) l ≡ length l
unfolding sum_of
sum_of-ones [] = refl
sum_of-ones (x ∷ l) = rw (sum_of-ones l) (omega arith)

-- ---- the elements that pass a test

pub those-append : {A : Type 0} (p : A → Bool) (xs ys : List A) → those p (xs ++ ys) ≡ those p xs ++ those p ys
unfolding those
those-append p [] ys = refl
those-append p (x ∷ xs) ys =
    rw (those-append p xs ys) (map-cond (λ l. l ++ those p ys) (p x) (λ e. refl) (λ e. refl))

module _ {A : Type 0} (p : A → Bool) (l : List A) (x : A) where
  pub those-more : p x ≡ true → those p (l ++ x ∷ []) ≡ those p l ++ x ∷ []
  unfolding those
  those-more e = rw (those-append p l (x ∷ []), e)

  pub those-same : p x ≡ false → those p (l ++ x ∷ []) ≡ those p l
  unfolding those
  those-same e = rw (those-append p l (x ∷ []), e) (append-nil (those p l))

-- each of them passes
pub those-pass : {A : Type 0} (p : A → Bool) (l : List A) (i : ℕ) (d : A) → i < length (those p l) → p (get_or (those p l) i d) ≡ true
unfolding those
those-pass {A = A} p [] i d h = absurd (omega arith)
those-pass {A = A} p (x ∷ l) i d h = go (p x) refl i h (those-pass p l)
  where
    go :
        (b : Bool) → p x ≡ b → (i : ℕ) → i < length (cond b (x ∷ those p l) (those p l))
        → ((i : ℕ) (d : A) → i < length (those p l) → p (get_or (those p l) i d) ≡ true)
        → p (get_or (cond b (x ∷ those p l) (those p l)) i d) ≡ true
    go true e zero h ih = e
    go true e (suc i) h ih = ih i d (omega arith)
    go false e i h ih = ih i d h

-- ---- what is left of a list

pub drop-taken : {A : Type 0} (k : ℕ) (l : List A) → drop (length (take k l)) l ≡ drop k l
drop-taken zero l = refl
drop-taken (suc k) [] = refl
drop-taken (suc k) (x ∷ l) = rw (drop-taken k l)
