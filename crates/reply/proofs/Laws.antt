-- Laws of replies: bytes in front of others, a status as bytes; what a reply with other jacks or streams serves.
use mathlib.Core.Path.{◌≡◌, refl, sym, ◌∙◌, ap}
use mathlib.Core.List.{List, [], ◌∷◌, ◌++◌}
use Prim.Native.Nat.{ℕ, zero, suc, ◌+◌, ◌/◌, ◌%◌, ◌≤◌, ◌<◌}
use native.Mathlib.Numerals.{add-one}
use native.Mathlib.Omega.{arith}
use lib.ListN.{length, get_or, set, take, drop, length-take}
use lib.Seq.{sets, take-set-lt, get_or-take}
use Rattle.memory.specs.Bytes.{put}
use Rattle.ranges.specs.Ranges.{put_at}
use Rattle.ranges.proofs.Laws.{put_at-nil}
use Rattle.ring.specs.Rules.{Completion, completion}
use Rattle.ring.specs.declared.Posted.{Posted}
use Rattle.card.specs.Fit.{FitParts}
use Rattle.card.specs.Setters.{with_jack_at, with_stream_at}
use Rattle.card.specs.declared.Jack.{Jack}
use Rattle.card.specs.declared.Parts.{Parts}
use Rattle.card.specs.declared.Stream.{Stream}
use Rattle.card.proofs.Setters.{fit-with-jack, fit-with-stream}
use Rattle.rules.specs.Parts.{parts_of}
use Rattle.rules.specs.Control as rules
use Rattle.device.specs.Device.{bytes_of}
use Rattle.reply.specs.Reply.{Outcome, outcome, completed_with, posted_by, parts_with, Serves}
use Rattle.reply.specs.declared.Kind.TheVariants as kinds
use Rattle.reply.specs.declared.Pending.{Pending}
use Rattle.reply.specs.declared.Served.{Served}

-- ---- bytes

-- the front of the places is filled by the front of a byte string
pub put_at-front : (n : ℕ) (m as' bs : List ℕ) → put_at m (take n as') bs ≡ put_at m as' (take n bs)
unfolding put_at
put_at-front zero m as' bs = sym (put_at-nil m as')
put_at-front (suc n) m [] bs = refl
put_at-front (suc n) m (a ∷ as') [] = refl
put_at-front (suc n) m (a ∷ as') (b ∷ bs) = put_at-front n (set m a b) as' bs

-- bytes behind others fill the places behind theirs
pub put_at-behind : (m ps xs ys : List ℕ) → put_at m ps (xs ++ ys) ≡ put_at (put_at m ps xs) (drop (length xs) ps) ys
unfolding put_at
put_at-behind m ps [] ys = ap (λ (t : List ℕ). put_at t ps ys) (sym (put_at-nil m ps))
put_at-behind m [] (x ∷ xs) ys = refl
put_at-behind m (p ∷ ps) (x ∷ xs) ys = put_at-behind (set m p x) ps xs ys

pub put-sets : (n : ℕ) (m : List ℕ) (at v : ℕ) → put n m at v ≡ sets m at (bytes_of n v)
unfolding put bytes_of
put-sets zero m at v = refl
put-sets (suc n) m at v = rw (put-sets n (set m at (v % 256)) (at + 1) (v / 256), add-one at)

pub length-status : (code : ℕ) → length (rules.status code) ≡ 4
unfolding bytes_of
length-status code = refl

-- ---- the rules' jacks and streams in the parts

module _ {A : Type 0} where
  sets-cons : (x : A) (l : List A) (i : ℕ) (vs : List A) → sets (x ∷ l) (suc i) vs ≡ x ∷ sets l i vs
  sets-cons x l i [] = refl
  sets-cons x l i (v ∷ vs) = sets-cons x (set l i v) (suc i) vs

  -- the first of a list, put where they stand
  pub sets-take : (l : List A) (n : ℕ) → sets l 0 (take n l) ≡ l
  sets-take [] zero = refl
  sets-take [] (suc n) = refl
  sets-take (x ∷ l) zero = refl
  sets-take (x ∷ l) (suc n) = sets-cons x l 0 (take n l) ∙ ap (λ (r : List A). x ∷ r) (sets-take l n)

  -- and with one of them changed
  pub sets-take-set : (l : List A) (n i : ℕ) (x : A) → i < n → sets l 0 (set (take n l) i x) ≡ set l i x
  sets-take-set l zero i x h = absurd (omega arith)
  sets-take-set [] (suc n) i x h = refl
  sets-take-set (y ∷ l) (suc n) zero x h = sets-cons x l 0 (take n l) ∙ ap (λ (r : List A). x ∷ r) (sets-take l n)
  sets-take-set (y ∷ l) (suc n) (suc i) x h =
      sets-cons y l 0 (set (take n l) i x) ∙ ap (λ (r : List A). y ∷ r) (sets-take-set l n i x (omega arith))

module _ (p : Parts) where
  pub parts_same : parts_with (parts_of p) p ≡ p
  parts_same = rw (sets-take p.jacks p.jack_count, sets-take p.streams p.stream_count)

  module _ (f : FitParts p) where
    pub jack-total : length (parts_of p).jacks ≡ p.jack_count
    jack-total = rw length-take (omega (arith, f.jacks, f.four-jacks))

    pub stream-total : length (parts_of p).streams ≡ p.stream_count
    stream-total = rw length-take (omega (arith, f.streams, f.six-streams))

  pub jack-at : (i : ℕ) → i < p.jack_count → rules.jack_in (parts_of p) i ≡ get_or p.jacks i rules.no_jack
  jack-at i h = get_or-take p.jack_count p.jacks i rules.no_jack h

  pub jack-set : (i : ℕ) (j : Jack) → i < p.jack_count → parts_of (with_jack_at i j p) ≡ rules.with_jack i j (parts_of p)
  jack-set i j h = rw (take-set-lt p.jack_count p.jacks i j h)

  pub stream-set : (i : ℕ) (s : Stream) → i < p.stream_count → parts_of (with_stream_at i s p) ≡ rules.with_stream_in i s (parts_of p)
  stream-set i s h = rw (take-set-lt p.stream_count p.streams i s h)

  pub jack-with : (i : ℕ) (j : Jack) → i < p.jack_count → parts_with (rules.with_jack i j (parts_of p)) p ≡ with_jack_at i j p
  jack-with i j h = rw (sets-take-set p.jacks p.jack_count i j h, sets-take p.streams p.stream_count)

  pub stream-with : (i : ℕ) (s : Stream) → i < p.stream_count → parts_with (rules.with_stream_in i s (parts_of p)) p ≡ with_stream_at i s p
  stream-with i s h = rw (sets-take-set p.streams p.stream_count i s h, sets-take p.jacks p.jack_count)

-- ---- what is served

module _ (ws : List ℕ) (pending : Pending) (parts : Parts) (r : Served) (before after : List ℕ) where
  -- a completion with parts that stand for the rule's
  pub serves :
      (next : Parts) (rule : rules.Parts) (bytes : List ℕ)
      → FitParts next → parts_of next ≡ rule → parts_with rule parts ≡ next → outcome after r ≡ completed_with ws pending next bytes before
      → Serves ws pending parts (rules.Reply rule bytes) r before after
  serves next rule bytes f e w o =
      let same : r.parts ≡ next = ap (λ (x : Outcome). x.served.parts) o in
      record { whole = rw w o; stand = rw same e; fit = rw same f }

  -- "A refusal keeps state and parameters."
  pub serves-same :
      (bytes : List ℕ) → FitParts parts → outcome after r ≡ completed_with ws pending parts bytes before
      → Serves ws pending parts (rules.Reply (parts_of parts) bytes) r before after
  serves-same bytes f o = serves parts (parts_of parts) bytes f refl (parts_same parts) o

  pub serves-jack :
      (i : ℕ) (j : Jack) (bytes : List ℕ) → FitParts parts → i < parts.jack_count
      → outcome after r ≡ completed_with ws pending (with_jack_at i j parts) bytes before
      → Serves ws pending parts (rules.Reply (rules.with_jack i j (parts_of parts)) bytes) r before after
  serves-jack i j bytes f h o =
      serves (with_jack_at i j parts) _ bytes (fit-with-jack parts i j f) (jack-set parts i j h) (jack-with parts i j h) o

  pub serves-stream :
      (i : ℕ) (s : Stream) (bytes : List ℕ) → FitParts parts → i < parts.stream_count → s.state ≤ 5
      → outcome after r ≡ completed_with ws pending (with_stream_at i s parts) bytes before
      → Serves ws pending parts (rules.Reply (rules.with_stream_in i s (parts_of parts)) bytes) r before after
  serves-stream i s bytes f h b o =
      serves (with_stream_at i s parts) _ bytes (fit-with-stream i s b parts f) (stream-set parts i s h) (stream-with parts i s h) o

-- a completion's entry in what is served
pub completed-outcome : (k : Completion) (parts : Parts) (m : List ℕ) (p : Posted) → completion m p ≡ k
    → outcome m (record { parts = parts; kind = kinds.Completed p })
    ≡ outcome k.memory (record { parts = parts; kind = kinds.Completed (posted_by k) })
completed-outcome k parts m p e =
    ap (λ (x : Completion). outcome x.memory (record { parts = parts; kind = kinds.Completed (posted_by x) })) e
