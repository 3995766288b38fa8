-- The lifecycle's table and the list of its twelve steps say the same: each place of the table is looked at, and each step of the list.
use Rattle.std.specs.Prelude.{Option, None, Some}
use mathlib.Core.Path.{◌≡◌, refl, sym, ap}
use mathlib.Core.List.{List, [], ◌∷◌}
use mathlib.Core.Logic.{inl, inr}
use Prim.Native.Nat.{ℕ, zero, suc, ◌<◌}
use native.Mathlib.Omega.{arith}
use lib.ListN.{length, get_or}
use Rattle.rules.specs.Lifecycle.{transition, Step, step, lawful_steps, Among, Lifecycle}
use Rattle.device.proofs.Cases.{none-some}
use Rattle.rules.specs.declared.Command.{Command}
use Rattle.rules.specs.declared.Command.TheVariants.{SetParams, Prepare, Start, Stop, Release}

-- ---- options

value_or : ℕ → Option ℕ → ℕ
value_or d None = d
value_or d (Some v) = v

some_same : (a b : ℕ) → Some a ≡ Some b → a ≡ b
unfolding value_or
some_same a b h = ap (value_or 0) h

-- ---- lists

module _ {A : Type 0} (d : A) where
  -- the element at a place is among them
  among-at : (l : List A) (k : ℕ) (x : A) → k < length l → get_or l k d ≡ x → Among x l
  among-at [] k x h e = absurd (omega arith)
  among-at (y ∷ l) zero x h e = inl (sym e)
  among-at (y ∷ l) (suc k) x h e = inr (among-at l k x (omega arith) e)

  -- what holds at each place holds of each among them
  among-each : (P : A → Type 0) (l : List A) → ((k : ℕ) → k < length l → P (get_or l k d)) → (x : A) → Among x l → P x
  among-each P [] h x a = absurd a
  among-each P (y ∷ l) h x (inl e) = rw e (h 0 (omega arith))
  among-each P (y ∷ l) h x (inr a) = among-each P l (λ k b. h (suc k) (omega arith)) x a

-- ---- both directions

no_step : Step
no_step = step SetParams 0 0

at : {x : Step} (k : ℕ) → k < 12 → get_or lawful_steps k no_step ≡ x → Among x lawful_steps
at {x} k h e = among-at no_step lawful_steps k x h e

listed-step : (c : Command) (s t : ℕ) → transition c s ≡ Some t → Among (step c s t) lawful_steps
unfolding transition
listed-step SetParams zero t h = at 0 (omega arith) (ap (step SetParams 0) (some_same _ _ h))
listed-step SetParams (suc zero) t h = at 1 (omega arith) (ap (step SetParams 1) (some_same _ _ h))
listed-step SetParams (suc (suc zero)) t h = at 3 (omega arith) (ap (step SetParams 2) (some_same _ _ h))
listed-step SetParams (suc (suc (suc zero))) t h = absurd (none-some t h)
listed-step SetParams (suc (suc (suc (suc zero)))) t h = absurd (none-some t h)
listed-step SetParams (suc (suc (suc (suc (suc zero))))) t h = at 10 (omega arith) (ap (step SetParams 5) (some_same _ _ h))
listed-step SetParams (suc (suc (suc (suc (suc (suc s)))))) t h = absurd (none-some t h)
listed-step Prepare zero t h = absurd (none-some t h)
listed-step Prepare (suc zero) t h = at 2 (omega arith) (ap (step Prepare 1) (some_same _ _ h))
listed-step Prepare (suc (suc zero)) t h = at 4 (omega arith) (ap (step Prepare 2) (some_same _ _ h))
listed-step Prepare (suc (suc (suc zero))) t h = absurd (none-some t h)
listed-step Prepare (suc (suc (suc (suc zero)))) t h = absurd (none-some t h)
listed-step Prepare (suc (suc (suc (suc (suc zero))))) t h = at 11 (omega arith) (ap (step Prepare 5) (some_same _ _ h))
listed-step Prepare (suc (suc (suc (suc (suc (suc s)))))) t h = absurd (none-some t h)
listed-step Start zero t h = absurd (none-some t h)
listed-step Start (suc zero) t h = absurd (none-some t h)
listed-step Start (suc (suc zero)) t h = at 5 (omega arith) (ap (step Start 2) (some_same _ _ h))
listed-step Start (suc (suc (suc zero))) t h = absurd (none-some t h)
listed-step Start (suc (suc (suc (suc zero)))) t h = at 8 (omega arith) (ap (step Start 4) (some_same _ _ h))
listed-step Start (suc (suc (suc (suc (suc zero))))) t h = absurd (none-some t h)
listed-step Start (suc (suc (suc (suc (suc (suc s)))))) t h = absurd (none-some t h)
listed-step Stop zero t h = absurd (none-some t h)
listed-step Stop (suc zero) t h = absurd (none-some t h)
listed-step Stop (suc (suc zero)) t h = absurd (none-some t h)
listed-step Stop (suc (suc (suc zero))) t h = at 7 (omega arith) (ap (step Stop 3) (some_same _ _ h))
listed-step Stop (suc (suc (suc (suc zero)))) t h = absurd (none-some t h)
listed-step Stop (suc (suc (suc (suc (suc zero))))) t h = absurd (none-some t h)
listed-step Stop (suc (suc (suc (suc (suc (suc s)))))) t h = absurd (none-some t h)
listed-step Release zero t h = absurd (none-some t h)
listed-step Release (suc zero) t h = absurd (none-some t h)
listed-step Release (suc (suc zero)) t h = at 6 (omega arith) (ap (step Release 2) (some_same _ _ h))
listed-step Release (suc (suc (suc zero))) t h = absurd (none-some t h)
listed-step Release (suc (suc (suc (suc zero)))) t h = at 9 (omega arith) (ap (step Release 4) (some_same _ _ h))
listed-step Release (suc (suc (suc (suc (suc zero))))) t h = absurd (none-some t h)
listed-step Release (suc (suc (suc (suc (suc (suc s)))))) t h = absurd (none-some t h)

lawful-step : (x : Step) → Among x lawful_steps → transition x.command x.from ≡ Some x.to
unfolding transition
lawful-step x (inl e) = rw e
lawful-step x (inr (inl e)) = rw e
lawful-step x (inr (inr (inl e))) = rw e
lawful-step x (inr (inr (inr (inl e)))) = rw e
lawful-step x (inr (inr (inr (inr (inl e))))) = rw e
lawful-step x (inr (inr (inr (inr (inr (inl e)))))) = rw e
lawful-step x (inr (inr (inr (inr (inr (inr (inl e))))))) = rw e
lawful-step x (inr (inr (inr (inr (inr (inr (inr (inl e)))))))) = rw e
lawful-step x (inr (inr (inr (inr (inr (inr (inr (inr (inl e))))))))) = rw e
lawful-step x (inr (inr (inr (inr (inr (inr (inr (inr (inr (inl e)))))))))) = rw e
lawful-step x (inr (inr (inr (inr (inr (inr (inr (inr (inr (inr (inl e))))))))))) = rw e
lawful-step x (inr (inr (inr (inr (inr (inr (inr (inr (inr (inr (inr (inl e)))))))))))) = rw e
lawful-step x (inr (inr (inr (inr (inr (inr (inr (inr (inr (inr (inr (inr a)))))))))))) = absurd a

pub lifecycle : Lifecycle
lifecycle = record { twelve = refl; listed = listed-step; lawful = λ c s t a. lawful-step (step c s t) a }
