-- What a form says of the ranges, and the bytes of ids and statuses.
use Rattle.std.specs.Prelude.{Some}
use mathlib.Core.Path.{◌≡◌, ◌∙◌, refl, ap}
use mathlib.Core.List.{List, [], ◌∷◌, ◌++◌, append-nil}
use mathlib.Core.Bool.{Bool, true, false, cond, false≢true}
use Prim.Native.Nat.{ℕ, zero, suc, ◌+◌, ◌-◌, ◌≤◌, ◌<◌, min}
use native.Mathlib.Nat.{add_assoc, add-zero}
use native.Mathlib.Omega.{arith}
use lib.ListN.{length, take, drop, replicate}
use lib.Seq.{sets, drop-append-add}
use Rattle.chain.specs.declared.Fault.{Fault}
use Rattle.counts.specs.declared.PageNumber.{PageNumber}
use Rattle.registers.specs.Map.{size_of}
use Rattle.ring.specs.Rules.{post_of}
use Rattle.ranges.proofs.Laws.{put_at-take, ranges_of-none, sound_none, ranges_in-more, up_from-add, drop-up_from, total-append}
use Rattle.ranges.proofs.Laws.{places-append}
use Rattle.ranges.proofs.Laws.{length-places}
use Rattle.message.specs.Message.{answered_of, answered_length, FitTaken}
use Rattle.message.specs.declared.Form.TheVariants.{Unwalked}
use Rattle.counts.specs.declared.DescriptorNumber.{DescriptorNumber}
use Rattle.memory.specs.Bytes.{le, put}
use Rattle.ranges.specs.Ranges.{all_inside, total, places, no_ranges, range_in, ranges_in, up_from, bytes_at, put_at}
use Rattle.ranges.specs.declared.Range.{Range}
use Rattle.device.specs.Device as rules
use Rattle.device.specs.Transfer.{id_of, is_well, status_bytes, status_in_reply}

-- four bytes put at the start of four zeros, or fewer, read as they do by themselves
pub le-of-four : (bs : List ℕ) → length bs ≤ 4 → le 4 (sets (replicate 4 0) 0 bs) 0 ≡ le 4 bs 0
unfolding le
le-of-four [] h = refl
le-of-four (a ∷ []) h = refl
le-of-four (a ∷ b ∷ []) h = refl
le-of-four (a ∷ b ∷ c ∷ []) h = refl
le-of-four (a ∷ b ∷ c ∷ e ∷ []) h = refl
le-of-four (a ∷ b ∷ c ∷ e ∷ f ∷ l) h = absurd (omega arith)

-- the first four bytes are the number at the first range's address, where it has them
id-of : (m : List ℕ) (a k : ℕ) (ys : List ℕ) → le 4 (bytes_at m (take 4 (up_from a (4 + k) ++ ys))) 0 ≡ le 4 m a
unfolding le up_from
id-of m a k ys = rw (up_from-add a 4 k)

pub id-first : (m : List ℕ) (x : Range) (xs : List Range) → 4 ≤ x.len → id_of m (x ∷ xs) ≡ le 4 m x.at.0
unfolding places
id-first m x xs h =
    let e : x.len ≡ 4 + (x.len - 4) = omega arith in
    rw e (id-of m x.at.0 (x.len - 4) (places xs))

-- a status is its code, then its latency
pub io-status-put : (code latency : ℕ) → put 4 (put 4 (replicate 8 0) 0 code) 4 latency ≡ status_bytes code latency
unfolding put rules.bytes_of
io-status-put code latency = refl

-- a status in eight addresses in a row is two numbers
status-at : (m : List ℕ) (b code latency : ℕ) → put_at m (up_from b 8) (status_bytes code latency) ≡ put 4 (put 4 m b code) (b + 4) latency
unfolding put_at up_from put rules.bytes_of
status-at m b code latency = simp add_assoc

-- the last eight addresses, where the last range has them
last-places : (xs : List Range) (x : Range) → 8 ≤ x.len
    → drop (total (xs ++ (x ∷ [])) - 8) (places (xs ++ (x ∷ []))) ≡ up_from (x.at.0 + (x.len - 8)) 8
unfolding total places
last-places xs x h =
    let e : total xs + (x.len + 0) - 8 ≡ length (places xs) + (x.len - 8) = rw length-places (omega arith) in
    let f : min (x.len - 8) x.len ≡ x.len - 8 = omega arith in
    let g : x.len - (x.len - 8) ≡ 8 = omega arith in
    rw (total-append, places-append, e, drop-append-add, append-nil, drop-up_from, f, g)

-- the last of k + 1 ranges
ranges-last : (ws : List ℕ) (i k : ℕ) → ranges_in ws i (k + 1) ≡ ranges_in ws i k ++ (range_in ws (i + k) ∷ [])
unfolding ranges_in
ranges-last ws i zero = rw add-zero
ranges-last ws i (suc k) =
    let e : i + 1 + k ≡ i + suc k = omega arith in
    rw (ranges_in-more ws i (suc k + 1) (k + 1) (omega arith), ranges-last ws (i + 1) k, e)

-- a status in the last range's last eight bytes is one in the reply's
pub status-last : (m ws : List ℕ) (i n : ℕ) (x : Range) (code latency : ℕ) → 0 < n → x ≡ range_in ws (i + (n - 1)) → 8 ≤ x.len
    → put 4 (put 4 m (x.at.0 + (x.len - 8)) code) (x.at.0 + (x.len - 4)) latency
    ≡ put_at m (drop (total (ranges_in ws i n) - 8) (places (ranges_in ws i n))) (status_bytes code latency)
status-last m ws i n x code latency p w h =
    let e : n ≡ n - 1 + 1 = omega arith in
    let r : ranges_in ws i n ≡ ranges_in ws i (n - 1) ++ (x ∷ []) = ap (ranges_in ws i) e ∙ ranges-last ws i (n - 1) ∙ rw w in
    let f : x.at.0 + (x.len - 4) ≡ x.at.0 + (x.len - 8) + 4 = omega arith in
    rw (r, last-places (ranges_in ws i (n - 1)) x h, status-at m (x.at.0 + (x.len - 8)) code latency, f)

-- of the addresses a status takes eight
pub status-take : (m as' : List ℕ) (code latency : ℕ)
    → put_at m (take 8 as') (status_bytes code latency) ≡ put_at m as' (status_bytes code latency)
unfolding rules.bytes_of
status-take m as' code latency = put_at-take 8 m as' (status_bytes code latency) (omega arith)

-- a status in the reply's last eight bytes, then the used entry, is an answer
pub posted-answer : (d : rules.Direction) (m : List ℕ) (page : PageNumber) (completed : ℕ) (head : DescriptorNumber) (reply : List Range)
    (code latency recorded : ℕ)
    → post_of (status_in_reply (Some code) latency reply m) page (size_of (rules.queue_number d)) completed head
    (answered_length d recorded)
    ≡ answered_of d m page completed head.0 reply (Some code) latency recorded
unfolding post_of answered_of
posted-answer rules.output m page completed head reply code latency recorded = refl
posted-answer rules.input m page completed head reply code latency recorded = refl

-- a chain without ranges, that can't be walked
pub no-ranges-fit : (len : ℕ) (ws : List ℕ) (f : Fault) (head : DescriptorNumber)
    → FitTaken len ws (record { form = Unwalked f; head = head; request = no_ranges; reply = no_ranges })
unfolding all_inside
no-ranges-fit len ws f head =
    record {
      request = sound_none ws;
      reply = sound_none ws;
      few = omega arith;
      short-request = omega arith;
      short-reply = omega arith;
      request-inside = λ e. rw (ranges_of-none ws);
      reply-inside = λ e. rw (ranges_of-none ws);
    }

-- only where both tests hold is a message well-formed
pub both-tests : (a b : Bool) → cond a (cond b rules.well_formed rules.refused) rules.silent ≡ rules.well_formed → (a ≡ true) × (b ≡ true)
both-tests true true w = (refl, refl)
both-tests true false w = absurd (false≢true (ap is_well w))
both-tests false b w = absurd (false≢true (ap is_well w))
