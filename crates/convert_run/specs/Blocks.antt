-- A block of samples, converted: what is to be written of the output buffer, by the converter's outcome.
use Rattle.std.specs.Prelude.{◌≡◌, List, Bool, true, false, cond, ℕ, ◌*◌, ◌≤◌, eqb, length, Result, Ok, Err}
use Rattle.samples.specs.Formats.{Coding}
use Rattle.samples.specs.Outcome.{converted_by, samples_in}
use Rattle.samples.specs.declared.Refusal.{Refusal}

-- the bytes at the start of `out`, whether they are the block's conversion, and the buffer
pub record Made : Type 0 where
  pub count : ℕ
  pub sound : Bool
  pub out : List ℕ

abbrev pub made_of : Result ℕ Refusal → List ℕ → Made
made_of (Ok count) out = record { count = count; sound = true; out = out }
made_of (Err refusal) out = record { count = 0; sound = false; out = out }

-- the whole block, or nothing where the converter refuses it
abbrev pub made : Coding → List ℕ → List ℕ → Made
made c from to = record {
  count = cond (eqb (converted_by c from to).answer 0) (2 * samples_in c from) 0;
  sound = eqb (converted_by c from to).answer 0;
  out = (converted_by c from to).out;
}

-- what is made of a block: what is answered and the buffer after it, with the bytes to write inside the buffer
abbrev pub MadeBy : Coding → List ℕ → List ℕ → Result ℕ Refusal → List ℕ → Type 0
MadeBy c from to result out = (made_of result out ≡ made c from to) × ((made_of result out).count ≤ length out)
