-- No message, and the parts that power-up and a reset leave, are fit.
use mathlib.Core.Path.{◌≡◌, refl, ◌∙◌}
use mathlib.Core.List.{List, map}
use mathlib.Core.Bool.{true, ◌&&◌, and-eq-true_iff}
use Prim.Native.Nat.{ℕ, ◌≤◌}
use native.Mathlib.Omega.{arith}
use borrow.Author.Tests.{leb-true}
use lib.Dec.{leb}
use lib.ListN.{length, get_or, replicate, length-map, get_or-map}
use Rattle.description.specs.Lawful.{lawful, lawful_counts, lawful_streams}
use Rattle.description.specs.declared.Description.{Description}
use Rattle.ranges.specs.Ranges.{all_inside}
use Rattle.ranges.proofs.Laws.{ranges_of-none, sound_none}
use Rattle.card.specs.Card.{parts_at_power, no_parts, no_message, no_stream, fresh_stream, jack_at_power}
use Rattle.card.specs.Fit.{FitParts, FitMessage}
use Rattle.card.specs.Rules.{jack_reset, stream_reset, parts_reset}
use Rattle.card.specs.declared.Parts.{Parts}
use Rattle.card.specs.declared.Stream.{Stream}

pub no-message-fit : (len : ℕ) (ws : List ℕ) → FitMessage len ws no_message
unfolding all_inside
no-message-fit len ws =
    record {
      one = omega arith;
      idle = λ h. refl;
      request = sound_none ws;
      reply = sound_none ws;
      few = omega arith;
      short-request = omega arith;
      short-reply = omega arith;
      moved = omega arith;
      request-inside = rw (ranges_of-none ws);
      reply-inside = rw (ranges_of-none ws);
    }

-- ---- parts

-- streams that a function makes Fresh
fresh-states : {A : Type 0} (f : A → Stream) (d : A) → f d ≡ no_stream → ((a : A) → (f a).state ≡ 0) → (l : List A) (i : ℕ)
    → (get_or (map f l) i no_stream).state ≤ 5
fresh-states f d e z l i = rw (← e, get_or-map f l i d, z (get_or l i d)) (omega arith)

pub no-parts-fit : FitParts no_parts
no-parts-fit =
    record {
      jacks = omega arith;
      maps = omega arith;
      streams = omega arith;
      outputs = omega arith;
      some = omega arith;
      inputs = omega arith;
      four-jacks = refl;
      four-maps = refl;
      six-streams = refl;
      states = fresh-states fresh_stream no_stream.info refl (λ a. refl) (replicate 6 no_stream.info);
    }

pub parts-at-power-fit : (d : Description) → lawful d ≡ true → length d.jacks ≡ 4 → length d.maps ≡ 4 → length d.streams ≡ 6
    → FitParts (parts_at_power d)
unfolding lawful lawful_counts
parts-at-power-fit d h j m s =
    let o = d.output_count in
    let n = d.input_count in
    let counts = ((and-eq-true_iff _ _).0 ((and-eq-true_iff _ _).0 ((and-eq-true_iff _ _).0 h).0).0).0 in
    let c = (and-eq-true_iff (leb d.jack_count 4 && leb d.map_count 4) (lawful_streams o n)).0 counts in
    let a = (and-eq-true_iff (leb d.jack_count 4) (leb d.map_count 4)).0 c.0 in
    let b = (and-eq-true_iff (leb 1 o && leb o 4) (leb n 2)).0 c.1 in
    let few = leb-true o 4 ((and-eq-true_iff (leb 1 o) (leb o 4)).0 b.0).1 in
    let two = leb-true n 2 b.1 in
    record {
      jacks = leb-true _ _ a.0;
      maps = leb-true _ _ a.1;
      streams = omega (arith, few, two);
      outputs = few;
      some = omega arith;
      inputs = omega (arith, two);
      four-jacks = length-map d.jacks jack_at_power ∙ j;
      four-maps = m;
      six-streams = length-map d.streams fresh_stream ∙ s;
      states = fresh-states fresh_stream no_stream.info refl (λ a. refl) d.streams;
    }

pub parts-reset-fit : (p : Parts) → FitParts p → FitParts (parts_reset p)
parts-reset-fit p f =
    record {
      jacks = f.jacks;
      maps = f.maps;
      streams = f.streams;
      outputs = f.outputs;
      some = f.some;
      inputs = f.inputs;
      four-jacks = length-map p.jacks jack_reset ∙ f.four-jacks;
      four-maps = f.four-maps;
      six-streams = length-map p.streams stream_reset ∙ f.six-streams;
      states = fresh-states stream_reset no_stream refl (λ a. refl) p.streams;
    }
