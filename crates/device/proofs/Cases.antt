-- Cases of a Bool test, each with what the test then tells; something is not nothing; forms and endings told apart. (`by_cond`, for one
-- choice, is the registers'.)
use Rattle.std.specs.Prelude.{Option, None, Some}
use mathlib.Core.Path.{◌≡◌, refl, sym, ap}
use mathlib.Core.Bool.{Bool, true, false, cond, ◌&&◌, true≢false}
use Prim.Native.Nat.{ℕ}
use native.Mathlib.Omega.{arith}
use Rattle.device.specs.Device.{Form, well_formed, refused, silent, unwalked, finished, released, Message}
use Rattle.device.specs.Transfer.{is_well}

-- a choice is shown as another where each of its two ways is
pub map-cond :
    {A B : Type 0} (f : A → B) (b : Bool) {x y : A} {u v : B}
    → (b ≡ true → u ≡ f x)
    → (b ≡ false → v ≡ f y)
    → cond b u v ≡ f (cond b x y)
map-cond f true h k = h refl
map-cond f false h k = k refl

-- two choices by one test
pub by-cond₂ :
    {A B : Type 0} (R : A → B → Type 0) (b : Bool) {x y : A} {u v : B}
    → (b ≡ true → R x u)
    → (b ≡ false → R y v)
    → R (cond b x y) (cond b u v)
by-cond₂ R true h k = h refl
by-cond₂ R false h k = k refl

pub and-false : (b : Bool) → (b && false) ≡ false
and-false true = refl
and-false false = refl

pub cond_same : {A : Type 0} (b : Bool) (x : A) → cond b x x ≡ x
cond_same true x = refl
cond_same false x = refl

abbrev size_of : {A : Type 0} → Option A → ℕ
size_of None = 0
size_of (Some x) = 1

pub none-some : {A : Type 0} (x : A) → ◌≡◌ {A = Option A} None (Some x) → ⊥
none-some x e = let z : ◌≡◌ {A = ℕ} 0 1 = ap size_of e in omega arith

pub some_same : (x y : Message) → ◌≡◌ {A = Option Message} (Some x) (Some y) → x ≡ y
some_same x y e = cc

pub well-of : (f : Form) → is_well f ≡ true → f ≡ well_formed
well-of well_formed e = refl
well-of refused e = absurd (true≢false (sym e))
well-of silent e = absurd (true≢false (sym e))
well-of (unwalked fault) e = absurd (true≢false (sym e))

pub released-not : released ≡ finished → ⊥
released-not e = let z : ◌≡◌ {A = ℕ} 0 1 = cc in omega arith
