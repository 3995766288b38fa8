-- Power-up and every call keep what `Reached` says of the described parts.
use mathlib.Core.Path.{◌≡◌, refl, sym, ◌∙◌}
use mathlib.Core.Bool.{Bool, true, false, true≢false}
use mathlib.Core.List.{List, [], ◌∷◌, map}
use Prim.Native.Nat.{ℕ, zero, suc, ◌+◌, ◌*◌, ◌/◌, ◌≤◌}
use native.Mathlib.Omega.{arith}
use lib.Dec.{eqb}
use lib.ListN.{get_or, set, take}
use Rattle.description.specs.declared.Description.{Description}
use Rattle.description.specs.declared.StreamInfo.{StreamInfo}
use Rattle.description.specs.declared.JackInfo.{JackInfo}
use Rattle.registers.specs.declared.Effect.{Effect}
use Rattle.registers.specs.declared.Effect.TheVariants.{Nothing, Reset, Based, Rung}
use Rattle.card.specs.Card.{fresh_stream, jack_at_power, no_stream}
use Rattle.card.specs.Rules.{jack_reset, stream_reset}
use Rattle.card.specs.declared.Jack.{Jack}
use Rattle.card.specs.declared.Params.{Params}
use Rattle.card.specs.declared.Stream.{Stream}
use Rattle.rules.specs.Calls.{affected_rest, with_connected, remembered_if}
use Rattle.rules.specs.Claim.{rest_at_power}
use Rattle.rules.specs.Control.{need, remapped_to, with_defconf, with_backlog, no_jack, judged_params, remappable}
use Rattle.device.specs.Device.{Rest, stream_at}
use Rattle.device.specs.Numbers.{s_ok, s_bad_msg}
use Rattle.device.specs.Account.{Each}
use Rattle.rules.specs.Reached.{Accepted, Described, Reached}
use Rattle.rules.proofs.Closed.{Closed}

-- ---- lists

module _ {A : Type 0} (P : A → Type 0) where
  each-get : (l : List A) (i : ℕ) (d : A) → P d → Each P l → P (get_or l i d)
  each-get [] i d h k = h
  each-get (x ∷ xs) zero d h k = k.0
  each-get (x ∷ xs) (suc i) d h k = each-get xs i d h k.1

  each_set : (l : List A) (i : ℕ) (x : A) → P x → Each P l → Each P (set l i x)
  each_set [] i x h k = tt
  each_set (y ∷ ys) zero x h k = (h, k.1)
  each_set (y ∷ ys) (suc i) x h k = (k.0, each_set ys i x h k.1)

  each_take : (n : ℕ) (l : List A) → Each P l → Each P (take n l)
  each_take zero l k = tt
  each_take (suc n) [] k = tt
  each_take (suc n) (x ∷ xs) k = (k.0, each_take n xs k.1)

each_map : {A B : Type 0} (P : B → Type 0) (f : A → B) → ((x : A) → P (f x)) → (l : List A) → Each P (map f l)
each_map P f h [] = tt
each_map P f h (x ∷ xs) = (h x, each_map P f h xs)

-- ---- streams and jacks

fresh-accepted : (i : StreamInfo) → Accepted (fresh_stream i)
fresh-accepted i e = absurd (true≢false e)

power-described : (i : JackInfo) → Described (jack_at_power i)
power-described i = record { above = refl; same = λ e. refl }

reset-described : (j : Jack) → Described (jack_reset j)
reset-described j = record { above = refl; same = λ e. refl }

connected-described : (v : ℕ) (j : Jack) → Described j → Described (with_connected v j)
connected-described v j h = record { above = h.above; same = h.same }

above_same : (d a s : ℕ) → a ≤ 15 → s ≤ 15 → (d / 256 * 256 + a * 16 + s) / 256 ≡ d / 256
above_same d a s h k = omega arith

remapped-described : (j : Jack) (a s : ℕ) → remappable j ≡ true → a ≤ 15 → s ≤ 15 → Described j
    → Described (with_defconf (remapped_to j.defconf a s) j)
remapped-described j a s f h k p = record {
  above = above_same j.defconf a s h k ∙ p.above;
  same = λ e. absurd (true≢false (sym f ∙ e));
}

past : (b : Bool) (x : ℕ) → need b s_bad_msg x ≡ s_ok → x ≡ s_ok
past true x e = e
past false x e = absurd (omega (arith, e))

zero-padding : (i : StreamInfo) (p : Params) (padding : ℕ) → judged_params i p padding ≡ s_ok → judged_params i p 0 ≡ s_ok
unfolding judged_params
zero-padding i p padding e = past (eqb padding 0) _ e

-- ---- control messages and events

abbrev pub KeptAs : List Stream → List Jack → Type 0
KeptAs ss js = Each Accepted ss × Each Described js

stream-accepted : (ss : List Stream) (id : ℕ) → Each Accepted ss → Accepted (get_or ss id no_stream)
stream-accepted ss id k = each-get Accepted ss id no_stream (fresh-accepted _) k

jack-described : (js : List Jack) (id : ℕ) → Each Described js → Described (get_or js id no_jack)
jack-described js id k = each-get Described js id no_jack (power-described _) k

pub closed-reached : Closed KeptAs
closed-reached =
    record {
      remapped =
          λ ss js id a s f h i k.
          (k.0, each_set Described js id _ (remapped-described (get_or js id no_jack) a s f h i (jack-described js id k.1)) k.1);
      connected =
          λ ss js id v k.
          (k.0, each_set Described js id _ (connected-described v (get_or js id no_jack) (jack-described js id k.1)) k.1);
      moved = λ ss js id state n k. (each_set Accepted ss id _ (λ e. stream-accepted ss id k.0 n) k.0, k.1);
      accepted =
          λ ss js id state params padding e k.
          (each_set Accepted ss id _ (λ n. zero-padding (get_or ss id no_stream).info params padding e) k.0, k.1);
    }

-- ---- the backlog

pub remembered-kept : (x : Bool) (id backlog : ℕ) (r : Rest) → Reached r → Reached (remembered_if x id backlog r)
remembered-kept true id backlog r k = (
  each_set Accepted r.streams id (with_backlog backlog (stream_at r id)) (stream-accepted r.streams id k.0) k.0,
  k.1,
)
remembered-kept false id backlog r k = k

-- ---- any call

pub affected-kept : (e : Effect) (r : Rest) → Reached r → Reached (affected_rest e r)
affected-kept Nothing r k = k
affected-kept Reset r k =
    (each_map Accepted stream_reset (λ s. fresh-accepted s.info) r.streams, each_map Described jack_reset reset-described r.jacks)
affected-kept (Based q) r k = k
affected-kept (Rung q) r k = k

pub power-reached : (d : Description) (len : ℕ) → Reached (rest_at_power d len)
power-reached d len = (
  each_take Accepted (d.output_count + d.input_count) (map fresh_stream d.streams)
      (each_map Accepted fresh_stream fresh-accepted d.streams),
  each_take Described d.jack_count (map jack_at_power d.jacks) (each_map Described jack_at_power power-described d.jacks),
)
