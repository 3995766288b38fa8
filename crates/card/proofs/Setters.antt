-- Parts with one of them replaced are fit.
use mathlib.Core.Path.{◌≡◌, refl, ◌∙◌}
use mathlib.Core.Bool.{Bool, true, false}
use mathlib.Core.List.{List}
use Prim.Native.Nat.{ℕ, ◌≤◌}
use native.Mathlib.Omega.{arith}
use borrow.Author.Tests.{ltb-true, ltb-false, eqb-true, eqb-false}
use lib.Dec.{eqb, ltb}
use lib.ListN.{length, get_or, set, length-set}
use lib.Seq.{get_or-set_same, get_or-set_other, set_out}
use Rattle.card.specs.Card.{no_stream}
use Rattle.card.specs.Fit.{FitParts}
use Rattle.card.specs.Setters.{with_jack_at, with_stream_at}
use Rattle.card.specs.declared.Jack.{Jack}
use Rattle.card.specs.declared.Parts.{Parts}
use Rattle.card.specs.declared.Stream.{Stream}

pub fit-with-jack : (p : Parts) (i : ℕ) (j : Jack) → FitParts p → FitParts (with_jack_at i j p)
fit-with-jack p i j f =
    record {
      jacks = f.jacks;
      maps = f.maps;
      streams = f.streams;
      outputs = f.outputs;
      some = f.some;
      inputs = f.inputs;
      four-jacks = length-set p.jacks i j ∙ f.four-jacks;
      four-maps = f.four-maps;
      six-streams = f.six-streams;
      states = f.states;
    }

-- one stream replaced by one in one of the six states
module _ (i : ℕ) (s : Stream) (b : s.state ≤ 5) where
  states-with : (l : List Stream) → ((k : ℕ) → (get_or l k no_stream).state ≤ 5) → (j : ℕ) → (get_or (set l i s) j no_stream).state ≤ 5
  states-with l h j = by (eqb j i) refl where
    by : (t : Bool) → eqb j i ≡ t → (get_or (set l i s) j no_stream).state ≤ 5
    by true e = same (ltb i (length l)) refl where
      at : j ≡ i
      at = eqb-true j i e

      same : (t : Bool) → ltb i (length l) ≡ t → (get_or (set l i s) j no_stream).state ≤ 5
      same true k = rw (at, get_or-set_same l i s no_stream (ltb-true i (length l) k)) b
      same false k = rw (set_out l i s (omega (arith, ltb-false i (length l) k))) (h j)
    by false e = rw (get_or-set_other l i j s no_stream (eqb-false j i e)) (h j)

  pub fit-with-stream : (p : Parts) → FitParts p → FitParts (with_stream_at i s p)
  fit-with-stream p f =
      record {
        jacks = f.jacks;
        maps = f.maps;
        streams = f.streams;
        outputs = f.outputs;
        some = f.some;
        inputs = f.inputs;
        four-jacks = f.four-jacks;
        four-maps = f.four-maps;
        six-streams = length-set p.streams i s ∙ f.six-streams;
        states = states-with p.streams f.states;
      }
