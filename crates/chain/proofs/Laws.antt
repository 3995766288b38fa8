-- Laws of the walk: what a table holds, one turn in either table, and the bounds of a whole chain.
use mathlib.Core.Path.{◌≡◌, ◌∙◌, refl, sym}
use mathlib.Core.List.{List, [], ◌∷◌, ◌++◌}
use mathlib.Core.Bool.{Bool, true, false, cond}
use Prim.Native.Nat.{ℕ, zero, suc, ◌+◌, ◌*◌, ◌/◌, ◌≤◌, ◌<◌}
use native.Mathlib.Numerals.{add-one}
use native.Mathlib.Omega.{arith}
use borrow.Author.Tests.{le-leb, lt-leb, leb-true}
use lib.Dec.{eqb, leb}
use lib.ListN.{length, get_or, length-append}
use Rattle.ranges.specs.declared.Range.{Range}
use Rattle.ranges.specs.Ranges.{ranges_of, ranges_in, put_range, total}
use Rattle.ranges.proofs.Laws.{total-append, ranges_in-none, ranges_in-before, ranges_in-snoc}
use Rattle.chain.specs.declared.Fault.{Fault}
use Rattle.chain.specs.declared.Fault.TheVariants.{PastTable, TooMany, Nested}
use Rattle.std.specs.Prelude.{Result, Ok, Err}
use Rattle.chain.specs.declared.Descriptor.{Descriptor}
use Rattle.chain.specs.declared.Chain.{Chain}
use Rattle.chain.specs.Walk.{descriptor_at, descriptors, no_descriptor, has_next, is_writable, is_indirect, range_of, Outcome, whole}
use Rattle.chain.specs.Walk.{faulted, and_then, by_end, joined_of, enter_of, onward, in_table, direct, walk_of, empty_chain, SoundChain}
use Rattle.chain.specs.Walk.{reply_with, request_with, Joins}

-- ---- tables

pub length-descriptors : (m : List ℕ) (a n : ℕ) → length (descriptors m a n) ≡ n
unfolding descriptors
length-descriptors m a zero = refl
length-descriptors m a (suc n) = rw (length-descriptors m (a + 16) n)

pub get_d-descriptors : (m : List ℕ) (a n i : ℕ) (d : Descriptor) → i < n → get_or (descriptors m a n) i d ≡ descriptor_at m (a + 16 * i)
unfolding descriptors
get_d-descriptors m a zero i d h = absurd (omega arith)
get_d-descriptors m a (suc n) zero d h = let e : a + 16 * 0 ≡ a = omega arith in rw e
get_d-descriptors m a (suc n) (suc i) d h =
    let e : a + 16 + 16 * i ≡ a + 16 * suc i = omega arith in
    rw (get_d-descriptors m (a + 16) n i d (omega arith), e)

-- ---- one turn in a table of memory

module _ (m : List ℕ) (a size number : ℕ) where
  past-size : size ≤ number → leb (length (descriptors m a size)) number ≡ true
  past-size h = rw (length-descriptors m a size) (le-leb size number h)

  module _ (there : number < size) where
    in_size : leb (length (descriptors m a size)) number ≡ false
    in_size = rw (length-descriptors m a size) (lt-leb size number there)

    at-number : (d : Descriptor) → d ≡ descriptor_at m (a + number * 16) → get_or (descriptors m a size) number no_descriptor ≡ d
    at-number d e =
        let i : a + 16 * number ≡ a + number * 16 = omega arith in
        get_d-descriptors m a size number no_descriptor there ∙ rw i (sym e)

in_table-none : (n : ℕ) (table : List Descriptor) (number : ℕ) (rd wr : List Range) → n ≡ 0 → in_table n table number rd wr
    ≡ faulted TooMany
unfolding in_table
in_table-none n table number rd wr h = rw h

direct-none : (m : List ℕ) (negotiated : Bool) (n : ℕ) (table : List Descriptor) (number : ℕ) (rd wr : List Range) → n ≡ 0
    → direct m negotiated n table number rd wr ≡ faulted TooMany
unfolding direct
direct-none m negotiated n table number rd wr h = rw h

-- what the walk makes of a descriptor, where k more may come after it
abbrev in_table_turn : ℕ → List Descriptor → Descriptor → List Range → List Range → Outcome
in_table_turn k table d rd wr = cond (is_indirect d) (faulted Nested) (onward d rd wr (in_table k table d.next.0))

abbrev direct_turn : List ℕ → Bool → ℕ → ℕ → List Descriptor → Descriptor → List Range → List Range → Outcome
direct_turn m negotiated n k table d rd wr =
    cond (is_indirect d)
    (by_end (enter_of (length m) negotiated d) (in_table n (descriptors m d.at.0 (d.len / 16)) 0 rd wr))
    (onward d rd wr (direct m negotiated k table d.next.0))

module _ (m : List ℕ) (a size n k number : ℕ) (rd wr : List Range) (fuel : n ≡ k + 1) where
  in_table-past : size ≤ number → in_table n (descriptors m a size) number rd wr ≡ faulted PastTable
  unfolding in_table
  in_table-past h = rw (fuel, add-one, past-size m a size number h)

  direct-past : (negotiated : Bool) → size ≤ number → direct m negotiated n (descriptors m a size) number rd wr ≡ faulted PastTable
  unfolding direct
  direct-past negotiated h = rw (fuel, add-one, past-size m a size number h)

  module _ (d : Descriptor) (there : number < size) (e : d ≡ descriptor_at m (a + number * 16)) where
    in_table-more : in_table n (descriptors m a size) number rd wr ≡ in_table_turn k (descriptors m a size) d rd wr
    unfolding in_table
    in_table-more = rw (fuel, add-one, in_size m a size number there, at-number m a size number there d e)

    direct-more : (negotiated : Bool) → direct m negotiated n (descriptors m a size) number rd wr
        ≡ direct_turn m negotiated n k (descriptors m a size) d rd wr
    unfolding direct
    direct-more negotiated = rw (fuel, add-one, in_size m a size number there, at-number m a size number there d e)

-- ---- the walk in either table: in an indirect one where it may not go deeper

module _ (m : List ℕ) (negotiated : Bool) where
  abbrev pub onwards : ℕ → ℕ → List Descriptor → ℕ → List Range → List Range → Outcome
  onwards zero n table number rd wr = in_table n table number rd wr
  onwards (suc _) n table number rd wr = direct m negotiated n table number rd wr

  abbrev pub turned : ℕ → ℕ → ℕ → List Descriptor → Descriptor → List Range → List Range → Outcome
  turned zero n k table d rd wr = in_table_turn k table d rd wr
  turned (suc _) n k table d rd wr = direct_turn m negotiated n k table d rd wr

  pub onwards-none : (deeper n : ℕ) (table : List Descriptor) (number : ℕ) (rd wr : List Range) → n ≡ 0
      → onwards deeper n table number rd wr ≡ faulted TooMany
  onwards-none zero n table number rd wr h = in_table-none n table number rd wr h
  onwards-none (suc _) n table number rd wr h = direct-none m negotiated n table number rd wr h

  module _ (deeper a size n k number : ℕ) (rd wr : List Range) (fuel : n ≡ k + 1) where
    pub onwards-past : size ≤ number → onwards deeper n (descriptors m a size) number rd wr ≡ faulted PastTable
    onwards-past h = by deeper where
      by : (e : ℕ) → onwards e n (descriptors m a size) number rd wr ≡ faulted PastTable
      by zero = in_table-past m a size n k number rd wr fuel h
      by (suc _) = direct-past m a size n k number rd wr fuel negotiated h

    pub onwards-more : (d : Descriptor) → number < size → d ≡ descriptor_at m (a + number * 16)
        → onwards deeper n (descriptors m a size) number rd wr ≡ turned deeper n k (descriptors m a size) d rd wr
    onwards-more d there e = by deeper where
      by : (e : ℕ) → onwards e n (descriptors m a size) number rd wr ≡ turned e n k (descriptors m a size) d rd wr
      by zero = in_table-more m a size n k number rd wr fuel d there e
      by (suc _) = direct-more m a size n k number rd wr fuel d there e negotiated

  -- a turn by what the descriptor is
  module _ (deeper n k : ℕ) (table : List Descriptor) (d : Descriptor) (rd wr : List Range) where
    pub turned-joins : is_indirect d ≡ false → turned deeper n k table d rd wr ≡ onward d rd wr (onwards deeper k table d.next.0)
    turned-joins h = by deeper where
      by : (e : ℕ) → turned e n k table d rd wr ≡ onward d rd wr (onwards e k table d.next.0)
      by zero = rw h
      by (suc _) = rw h

    pub turned-nested : is_indirect d ≡ true → deeper ≡ 0 → turned deeper n k table d rd wr ≡ faulted Nested
    turned-nested h e = rw (e, h)

    pub turned-enters : (end : Result Unit Fault) → enter_of (length m) negotiated d ≡ end → is_indirect d ≡ true → (deeper ≡ 0 → ⊥)
        → turned deeper n k table d rd wr ≡ by_end end (in_table n (descriptors m d.at.0 (d.len / 16)) 0 rd wr)
    turned-enters end e h some = by deeper some where
      by : (i : ℕ) → (i ≡ 0 → ⊥)
          → turned i n k table d rd wr ≡ by_end end (in_table n (descriptors m d.at.0 (d.len / 16)) 0 rd wr)
      by zero z = absurd (z refl)
      by (suc _) z = rw (h, e)

-- ---- one descriptor joined to a chain

-- how the walk goes on after a descriptor that the code joined
module _ {ws ws' : List ℕ} {c : Chain} {d : Descriptor} {w : Result Chain Fault} (j : Joins ws c d ws' w)
    (go : List Range → List Range → Outcome) where
  pub onward-fault : {f : Fault} → w ≡ Err f → onward d (ranges_of ws c.request) (ranges_of ws c.reply) go ≡ faulted f
  onward-fault e = rw (← j.outcome, e)

  pub onward-last : {n : Chain} → w ≡ Ok n → has_next d ≡ false
      → onward d (ranges_of ws c.request) (ranges_of ws c.reply) go ≡ whole (ranges_of ws' n.request) (ranges_of ws' n.reply)
  onward-last e h = rw (← j.outcome, e, h)

  pub onward-next : {n : Chain} → w ≡ Ok n → has_next d ≡ true
      → onward d (ranges_of ws c.request) (ranges_of ws c.reply) go ≡ go (ranges_of ws' n.request) (ranges_of ws' n.reply)
  onward-next e h = rw (← j.outcome, e, h)

module _ {ws ws' : List ℕ} {c : Chain} {d : Descriptor} {w : Result Chain Fault} (j : Joins ws c d ws' w) {n : Chain} (e : w ≡ Ok n) where
  pub joined-sound : SoundChain ws' n
  joined-sound = rw e at j.sound

  pub joined-few : n.request.count + n.reply.count ≤ c.request.count + c.reply.count + 1
  joined-few = rw e at j.more

-- ---- no descriptor, and a side with one range more

pub sound_empty : (ws : List ℕ) → SoundChain ws empty_chain
unfolding total ranges_in
sound_empty ws =
    record {
      start = refl;
      behind = refl;
      few = omega arith;
      request = refl;
      reply = refl;
      readable = omega arith;
      writable = omega arith;
    }

total-snoc : (rs : List Range) (x : Range) → total (rs ++ (x ∷ [])) ≡ total rs + x.len
unfolding total
total-snoc rs x = rw total-append (omega arith)

length-snoc : (rs : List Range) (x : Range) → length (rs ++ (x ∷ [])) ≡ length rs + 1
length-snoc rs x = length-append rs (x ∷ [])

module _ (ws : List ℕ) (c : Chain) (x : Range) (s : SoundChain ws c) (few : c.request.count + c.reply.count < 34)
    (room : 68 ≤ length ws) where
  -- a range put behind the reply
  module _ (fits : c.reply.bytes + x.len ≤ 1048576) (ws' : List ℕ) (e : ws' ≡ put_range ws (c.reply.first + c.reply.count) x) where
    pub reply-kept : ranges_of ws' c.request ≡ ranges_of ws c.request
    reply-kept = rw e (ranges_in-before ws (c.reply.first + c.reply.count) x c.request.count c.request.first
        (omega (arith, s.start, s.behind)))

    pub reply-more : ranges_in ws' c.reply.first (c.reply.count + 1) ≡ ranges_of ws c.reply ++ (x ∷ [])
    reply-more = rw e (ranges_in-snoc ws (c.reply.first + c.reply.count) x c.reply.count c.reply.first refl
        (omega (arith, s.behind)))

    pub reply-sound : SoundChain ws' (reply_with c x.len)
    reply-sound =
        record {
          start = s.start;
          behind = s.behind;
          few = omega arith;
          request = rw reply-kept s.request;
          reply = rw (reply-more, total-snoc (ranges_of ws c.reply) x, s.reply);
          readable = s.readable;
          writable = fits;
        }

  -- a range put behind the request, while there is no reply
  module _ (none : c.reply.count ≡ 0) (fits : c.request.bytes + x.len ≤ 1048576) (ws' : List ℕ)
      (e : ws' ≡ put_range ws (c.request.first + c.request.count) x) where
    pub request-more : ranges_in ws' c.request.first (c.request.count + 1) ≡ ranges_of ws c.request ++ (x ∷ [])
    request-more = rw e (ranges_in-snoc ws (c.request.first + c.request.count) x c.request.count c.request.first refl
        (omega (arith, s.start)))

    pub request-kept : ranges_in ws' (c.reply.first + 1) c.reply.count ≡ ranges_of ws c.reply
    request-kept = ranges_in-none ws' _ _ none ∙ sym (ranges_in-none ws _ _ none)

    pub request-sound : SoundChain ws' (request_with c x.len)
    request-sound =
        record {
          start = s.start;
          behind = rw s.behind;
          few = omega arith;
          request = rw (request-more, total-snoc (ranges_of ws c.request) x, s.request);
          reply = rw request-kept s.reply;
          readable = fits;
          writable = s.writable;
        }

-- ---- the bounds of a whole chain, by induction over the definition

-- at most n ranges, and no side above 1,048,576 bytes, unless there was a fault
Within : ℕ → Outcome → Type 0
Within n (whole rd wr) = (length rd + length wr ≤ n) × (total rd ≤ 1048576) × (total wr ≤ 1048576)
Within n (faulted f) = Unit {0}

cond-within : (n : ℕ) (b : Bool) (x y : Outcome) → (b ≡ true → Within n x) → Within n y → Within n (cond b x y)
cond-within n true x y f h = f refl
cond-within n false x y f h = h

joined-within : (n : ℕ) (d : Descriptor) (rd wr : List Range) → Within n (whole rd wr) → Within (n + 1) (joined_of d rd wr)
unfolding joined_of Within
joined-within n d rd wr h =
    cond-within (n + 1) (is_writable d) _ _
    (λ w. cond-within (n + 1) (leb (total wr + d.len) 1048576) _ _
    (λ t. rw (length-snoc wr (range_of d), total-snoc wr (range_of d)) (omega arith, h.1, leb-true _ _ t)) tt)
    (cond-within (n + 1) (eqb (length wr) 0) _ _
    (λ w. cond-within (n + 1) (leb (total rd + d.len) 1048576) _ _
    (λ t. rw (length-snoc rd (range_of d), total-snoc rd (range_of d)) (omega arith, leb-true _ _ t, h.2)) tt)
    tt)

-- after n ranges one more, then what follows
onward-within : (n : ℕ) (d : Descriptor) (rd wr : List Range) (go : List Range → List Range → Outcome) → n < 34 → Within n (whole rd wr)
    → ((rd' wr' : List Range) → Within (n + 1) (whole rd' wr') → Within 34 (go rd' wr')) → Within 34 (onward d rd wr go)
unfolding Within
onward-within n d rd wr go room h then = by (joined_of d rd wr) (joined-within n d rd wr h) where
  by : (o : Outcome) → Within (n + 1) o → Within 34 (and_then o (λ rd' wr'. cond (has_next d) (go rd' wr') (whole rd' wr')))
  by (whole rd' wr') w = cond-within 34 (has_next d) _ _ (λ e. then rd' wr' w) (omega arith, w.1, w.2)
  by (faulted f) w = tt

in_table-within : (k : ℕ) (table : List Descriptor) (number n : ℕ) (rd wr : List Range) → n + k ≤ 34 → Within n (whole rd wr)
    → Within 34 (in_table k table number rd wr)
unfolding in_table Within
in_table-within zero table number n rd wr b h = tt
in_table-within (suc k) table number n rd wr b h =
    let d = get_or table number no_descriptor in
    cond-within 34 (leb (length table) number) _ _ (λ e. tt)
    (cond-within 34 (is_indirect d) _ _ (λ e. tt)
    (onward-within n d rd wr _ (omega arith) h (λ rd' wr' h'. in_table-within k table d.next.0 (n + 1) rd' wr' (omega arith) h')))

direct-within : (m : List ℕ) (negotiated : Bool) (k : ℕ) (table : List Descriptor) (number n : ℕ) (rd wr : List Range) → n + k ≤ 34
    → Within n (whole rd wr) → Within 34 (direct m negotiated k table number rd wr)
unfolding direct Within
direct-within m negotiated zero table number n rd wr b h = tt
direct-within m negotiated (suc k) table number n rd wr b h =
    let d = get_or table number no_descriptor in
    cond-within 34 (leb (length table) number) _ _ (λ e. tt)
    (cond-within 34 (is_indirect d) _ _
    (λ e. end-within (enter_of (length m) negotiated d) _ (in_table-within (suc k) (descriptors m d.at.0 (d.len / 16)) 0 n rd wr b h))
    (onward-within n d rd wr _ (omega arith) h
    (λ rd' wr' h'. direct-within m negotiated k table d.next.0 (n + 1) rd' wr' (omega arith) h')))
  where
    end-within : (e : Result Unit Fault) (o : Outcome) → Within 34 o → Within 34 (by_end e o)
    end-within (Ok x) o w = w
    end-within (Err f) o w = tt

pub walk-bounds : (m : List ℕ) (table size head : ℕ) (negotiated : Bool) (rd wr : List Range) → walk_of m table size head negotiated
    ≡ whole rd wr
    → (length rd + length wr ≤ 34) × (total rd ≤ 1048576) × (total wr ≤ 1048576)
unfolding Within total
walk-bounds m table size head negotiated rd wr e =
    rw e at (direct-within m negotiated 34 (descriptors m table size) head 0 [] [] (omega arith) (omega arith))
