-- Lists of calls, one after the other: what holds of each call holds over any list of them.
use mathlib.Core.Path.{◌≡◌, refl, ap, ◌∙◌}
use mathlib.Core.Bool.{Bool, cond}
use mathlib.Core.List.{List, [], ◌∷◌, ◌++◌}
use Prim.Native.Nat.{ℕ, ◌+◌}
use lib.ListN.{length, length-append}
use Rattle.device.proofs.Cases.{by-cond₂}
use Rattle.rules.specs.Backlog.{last_along}
use Rattle.rules.specs.Calls.{Told, Step}
use Rattle.rules.specs.Claim.{told_along, after_along, gathered_along}

-- ---- one way of running calls

module _ {S C : Type 0} (step : S → C → Step S) where
  -- what each call keeps
  pub along-keeps : (P : S → Type 0) → ((b : S) (c : C) → P b → P (step b c).state) → (b : S) (cs : List C) → P b
      → P (after_along step b cs)
  along-keeps P h b [] k = k
  along-keeps P h b (c ∷ cs) k = along-keeps P h (step b c).state cs (h b c k)

  -- a number that each call leaves as told
  pub last_word : (of : S → ℕ) (then : C → Told → ℕ → ℕ)
      → ((b : S) (c : C) → of (step b c).state ≡ then c (step b c).told (of b))
      → (b : S) (n : ℕ) (cs : List C)
      → of b ≡ n
      → of (after_along step b cs) ≡ last_along then n cs (told_along step b cs)
  last_word of then h b n [] e = e
  last_word of then h b n (c ∷ cs) e =
      last_word of then h (step b c).state (then c (step b c).told n) cs (h b c ∙ ap (then c (step b c).told) e)

  -- counts that are the numbers of bytes add up to the number of all bytes
  pub gathered-count : (clears : S → C → Bool) (count : C → Told → ℕ) (bytes : C → Told → List ℕ)
      → ((b : S) (c : C) → count c (step b c).told ≡ length (bytes c (step b c).told))
      → (cs : List C) (w : List ℕ) (b : S)
      → gathered_along step clears 0 (λ (k : ℕ) (c : C) (t : Told). k + count c t) (length w) b cs
      ≡ length (gathered_along step clears [] (λ (w : List ℕ) (c : C) (t : Told). w ++ bytes c t) w b cs)
  gathered-count clears count bytes h [] w b = refl
  gathered-count clears count bytes h (c ∷ cs) w b =
      let t : Told = (step b c).told in
      let l : cond (clears b c) 0 (length w + count c t) ≡ length (cond (clears b c) [] (w ++ bytes c t)) =
      by-cond₂ (λ (k : ℕ) (l : List ℕ). k ≡ length l) (clears b c) (λ e. refl) (λ e. rw (h b c, length-append)) in
      rw l (gathered-count clears count bytes h cs (cond (clears b c) [] (w ++ bytes c t)) (step b c).state)

-- ---- two ways that are alike, call by call

-- `f` shows a state of one as one of the other, where `I` holds; `w` is what was told so far
module _
    {A D C W : Type 0}
    (one : A → C → Step A)
    (other : D → C → Step D)
    (f : A → D)
    (I : W → A → Type 0)
    (then : W → A → C → W)
    (same : (w : W) (b : A) (c : C) → I w b → other (f b) c ≡ record { state = f (one b c).state; told = (one b c).told })
    (keeps : (w : W) (b : A) (c : C) → I w b → I (then w b c) (one b c).state) where
  pub told-alike : (cs : List C) (w : W) (b : A) → I w b → told_along other (f b) cs ≡ told_along one b cs
  told-alike [] w b i = refl
  told-alike (c ∷ cs) w b i =
      rw (same w b c i)
      (ap (λ (ts : List Told). (one b c).told ∷ ts) (told-alike cs (then w b c) (one b c).state (keeps w b c i)))

  pub after-alike : (cs : List C) (w : W) (b : A) → I w b → after_along other (f b) cs ≡ f (after_along one b cs)
  after-alike [] w b i = refl
  after-alike (c ∷ cs) w b i = rw (same w b c i) (after-alike cs (then w b c) (one b c).state (keeps w b c i))

  -- what was told after them all
  abbrev pub then_along : W → A → List C → W
  then_along w b [] = w
  then_along w b (c ∷ cs) = then_along (then w b c) (one b c).state cs

  pub keeps-along : (cs : List C) (w : W) (b : A) → I w b → I (then_along w b cs) (after_along one b cs)
  keeps-along [] w b i = i
  keeps-along (c ∷ cs) w b i = keeps-along cs (then w b c) (one b c).state (keeps w b c i)

  -- .. is what is gathered of the other
  pub gathered-then : {X : Type 0} (of : W → X) (clears : D → C → Bool) (nothing : X) (more : X → C → Told → X)
      → ((w : W) (b : A) (c : C) → of (then w b c) ≡ cond (clears (f b) c) nothing (more (of w) c (one b c).told))
      → (cs : List C) (w : W) (b : A)
      → I w b
      → of (then_along w b cs) ≡ gathered_along other clears nothing more (of w) (f b) cs
  gathered-then of clears nothing more h [] w b i = refl
  gathered-then of clears nothing more h (c ∷ cs) w b i =
      rw (same w b c i, ← (h w b c)) (gathered-then of clears nothing more h cs (then w b c) (one b c).state (keeps w b c i))
