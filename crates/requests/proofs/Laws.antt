-- Laws of the steps of reading.
use mathlib.Core.Path.{◌≡◌, ◌∙◌, refl, sym}
use mathlib.Core.Bool.{Bool, true, false, cond}
use mathlib.Core.List.{List}
use Prim.Native.Nat.{ℕ, ◌*◌, ◌≤◌, ◌<◌}
use native.Mathlib.Nat.{mul-le-mul}
use native.Mathlib.Omega.{arith}
use borrow.Author.Tests.{ltb-true}
use lib.Dec.{ltb}
use lib.ListN.{get_or}
use Rattle.card.specs.Fit.{FitParts}
use Rattle.card.specs.declared.Parts.{Parts}
use Rattle.rules.specs.Parts.{parts_of}
use Rattle.reply.proofs.Laws.{jack-total, jack-at}
use Rattle.rules.specs.Control as rules
use Rattle.device.specs.Numbers.{s_bad_msg, s_not_supp}
use Rattle.requests.specs.Requests.{checked}
use Rattle.std.specs.Prelude.{Some, None}
use Rattle.std.proofs.lemmas.Option.{cond_some}

-- a test that gives nothing is false
pub cond-none : {A : Type 0} (b : Bool) (x : A) → None ≡ cond b (Some x) None → b ≡ false
cond-none true x h = cc
cond-none false x h = refl

-- a part that is found is there, and the one asked for
pub found-there : (id count i asked : ℕ) → id ≡ asked → Some i ≡ cond (ltb id count) (Some id) None
    → (ltb asked count ≡ true) × (i ≡ asked) × (i < count)
found-there id count i asked e h =
    let f = cond_some (ltb id count) id i (sym h) in
    let b = ltb-true id count f.0 in
    (rw (← e) f.0, sym f.1 ∙ e, omega (arith, b, f.1))

pub found-absent : (id count asked : ℕ) → id ≡ asked → None ≡ cond (ltb id count) (Some id) None → ltb asked count ≡ false
found-absent id count asked e h = rw (← e) (cond-none (ltb id count) id h)

-- what a step's answer says of its test
pub check-passed : (b : Bool) → Some tt ≡ checked b → b ≡ true
check-passed true h = refl
check-passed false h = cc

pub check-failed : (b : Bool) → None ≡ checked b → b ≡ false
check-failed b h = cond-none b tt h

-- ---- JACK_REMAP, by its checks

module _ (p : Parts) (f : FitParts p) (request : List ℕ) where
  pub remap-absent : ltb (rules.word request 1) p.jack_count ≡ false
      → rules.remap (parts_of p) request ≡ rules.refusal (parts_of p) s_bad_msg
  unfolding rules.remap
  remap-absent h = rw (jack-total p f, h)

  module _ (h : ltb (rules.word request 1) p.jack_count ≡ true) where
    pub remap-refused : rules.remappable (get_or p.jacks (rules.word request 1) rules.no_jack) ≡ false
        → rules.remap (parts_of p) request ≡ rules.refusal (parts_of p) s_not_supp
    unfolding rules.remap
    remap-refused g = rw (jack-total p f, h, jack-at p (rules.word request 1) (ltb-true _ _ h), g)

    pub remap-there : rules.remappable (get_or p.jacks (rules.word request 1) rules.no_jack) ≡ true
        → rules.remap (parts_of p) request
        ≡ rules.remap_at (parts_of p) (rules.word request 1) (rules.word request 2) (rules.word request 3)
    unfolding rules.remap
    remap-there g = rw (jack-total p f, h, jack-at p (rules.word request 1) (ltb-true _ _ h), g)

-- ---- numbers

pub product-fits : (a b : ℕ) → a ≤ 4294967295 → b ≤ 4294967295 → a * b ≤ 18446744065119617025
product-fits a b h k = mul-le-mul h k
