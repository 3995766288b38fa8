-- What a walk and the tests behind it make of a chain, in the rules' terms.
use Rattle.std.specs.Prelude.{None, Some}
use mathlib.Core.Path.{◌≡◌, ◌∙◌, refl, sym, ap}
use mathlib.Core.Bool.{Bool, true, false, cond, ◌&&◌, and-eq-true_iff}
use mathlib.Core.List.{List, []}
use Prim.Native.Nat.{ℕ, ◌+◌}
use lib.Dec.{eqb, leb}
use lib.ListN.{length}
use Rattle.chain.specs.Walk.{Outcome, whole, SoundChain}
use Rattle.chain.specs.declared.Chain.{Chain}
use Rattle.counts.specs.declared.DescriptorNumber.{DescriptorNumber}
use Rattle.ranges.specs.Ranges.{ranges_of, total, all_inside}
use Rattle.ranges.specs.declared.Range.{Range}
use Rattle.device.specs.Device as device
use Rattle.device.specs.Transfer.{id_of, sized, status_of}
use Rattle.device.proofs.Cases.{none-some}
use Rattle.message.specs.Message.{form_in, FitTaken}
use Rattle.message.specs.declared.Form.{Form}
use Rattle.message.specs.declared.Form.TheVariants.{WellFormed}
use Rattle.message.proofs.Laws.{both-tests}
use Rattle.queue_lines.specs.Chains.{Virtqueue, walked, judged, line_of, is_on, Arrival, in_line, at_once, arrival, arrival_of, reading}
use Rattle.queue_lines.specs.Chains.{reading_of}
use Rattle.line_chains.specs.Queue.{joined_line, place_of, own_status}

module _ (v : Virtqueue) (m : List ℕ) (head : ℕ) where
  -- arrivals and readings go by the outcome of the walk
  pub arrived-by : (o : Outcome) → o ≡ walked v m head → arrival v m head o ≡ arrival_of v m head
  unfolding arrival_of
  arrived-by o h = ap (arrival v m head) h

  pub read_by : (i : ℕ) (o : Outcome) → o ≡ walked v m head → reading v i m head o ≡ reading_of v i m head
  unfolding reading_of
  read_by i o h = ap (reading v i m head) h

  -- a whole chain goes by the line that its request names
  module _ (request reply : List Range) where
    abbrev joining : Bool
    joining = all_inside (length m) request && leb 4 (total request) && is_on v (id_of m request)

    -- answered at once, with this head and reply
    abbrev refusal : ℕ → List Range → Arrival
    refusal h r = at_once (record { head = h; request = request; reply = r; form = judged m r false })

    pub in-line : (i : ℕ) → Some i ≡ place_of v m request → in_line i ≡ arrival v m head (whole request reply)
    in-line i h = by joining h where
      by : (b : Bool) → Some i ≡ joined_line (cond b (in_line (line_of v (id_of m request))) (refusal 0 []))
          → in_line i ≡ cond b (in_line (line_of v (id_of m request))) (refusal head reply)
      by true e = cc
      by false e = absurd (none-some i (sym e))

    pub at-once : None ≡ place_of v m request
        → at_once (record { head = head; request = request; reply = reply; form = judged m reply false })
        ≡ arrival v m head (whole request reply)
    at-once h = by joining h where
      by : (b : Bool) → None ≡ joined_line (cond b (in_line (line_of v (id_of m request))) (refusal 0 []))
          → refusal head reply ≡ cond b (in_line (line_of v (id_of m request))) (refusal head reply)
      by true e = absurd (none-some _ e)
      by false e = refl

    -- the front of line i by the tests of its request, `a` and `b` bytes long
    pub of-line : (i a b : ℕ) (sound : Bool) (form : Form) → a ≡ total request → b ≡ total reply
        → sound ≡ (all_inside (length m) request && eqb (id_of m request) (v.first + i) && sized v.direction a b)
        → form_in form ≡ judged m reply sound
        → record { head = head; request = request; reply = reply; form = form_in form } ≡ reading v i m head (whole request reply)
    of-line i a b sound form e f s g = rw (g, s, e, f)

-- a chain that was walked whole and judged; `sound` tells that its request lies inside memory
pub judged-fit : (m ws : List ℕ) (c : Chain) (form : Form) (head : DescriptorNumber) (sound : Bool) → SoundChain ws c
    → form_in form ≡ judged m (ranges_of ws c.reply) sound
    → (sound ≡ true → all_inside (length m) (ranges_of ws c.request) ≡ true)
    → FitTaken (length m) ws (record { form = form; head = head; request = c.request; reply = c.reply })
judged-fit m ws c form head sound s e inside =
    let answers : Bool = all_inside (length m) (ranges_of ws c.reply) && leb 8 (total (ranges_of ws c.reply)) in
    let tests : form ≡ WellFormed → (answers ≡ true) × (sound ≡ true) = λ w. both-tests answers sound (sym e ∙ ap form_in w) in
    record {
      request = s.request;
      reply = s.reply;
      few = s.few;
      short-request = s.readable;
      short-reply = s.writable;
      request-inside = λ w. inside (tests w).1;
      reply-inside = λ w. ((and-eq-true_iff (all_inside (length m) (ranges_of ws c.reply)) _).0 (tests w).0).0;
    }

-- an ill-formed message's own answer does not ask for the direction
pub own-status : (d : device.Direction) (form : device.Form) → own_status form ≡ status_of d device.ill_formed form
own-status d device.well_formed = refl
own-status d device.refused = refl
own-status d device.silent = refl
own-status d (device.unwalked f) = refl
