-- The P cases are proved as one statement: the rules compute, once the tests that the hypotheses decide are in place.
use mathlib.Core.Path.{◌≡◌, refl, ap}
use mathlib.Core.List.{List, []}
use mathlib.Core.Logic.{◌⊎◌, inl, inr}
use mathlib.Core.Bool.{Bool, true, false, cond, ◌&&◌}
use Prim.Native.Nat.{ℕ, ◌+◌, ◌-◌, ◌<◌}
use native.Mathlib.Omega.{arith}
use borrow.Author.Tests.{eq-eqb, ne_eqb, le-ltb, lt-ltb, le-leb, lt-leb}
use lib.Dec.{eqb, leb}
use lib.ListN.{length}
use Rattle.chain.specs.Walk.{whole, faulted}
use Rattle.chain.specs.declared.Fault.{Fault}
use Rattle.ranges.specs.Ranges.{total, all_inside}
use Rattle.ranges.specs.declared.Range.{Range}
use Rattle.registers.specs.Map.{size_of}
use Rattle.ring.specs.Layout.{end_at}
use Rattle.ring.specs.Rules.{base_of, found_of, new_of, entries_of}
use Rattle.ring.specs.declared.Cause.{Cause}
use Rattle.device.specs.Device.{output, well_formed, refused, silent, unwalked}
use Rattle.device.specs.Transfer.{Run, begun, id_of, sized}
use Rattle.device.proofs.Cases.{and-false}
use Rattle.queue_lines.specs.Chains.{Virtqueue, queue_size, walked, is_on, in_line, at_once, arrival_of, reading_of}
use Rattle.queue_lines.specs.Claim.{card}
use Rattle.queue_lines.specs.Counters.{Queue, sum_of}
use Rattle.queue_lines.specs.Rules.{unread, stopped, posted, completed, opened, transfer_step, release_step, transferred, emptied}
use Rattle.queue_lines.specs.Table.{finds, Changed, refused_in, Readable, Unfit, outside, short, below, beyond, read_as}
use Rattle.queue_lines.specs.Table.{Table}

-- with its region inside memory, the number of entries decides what is found
entries-decide : (index one two : ℕ) → finds index one two (entries_of 256 (new_of index 256) (one + (two + 0)))
unfolding found_of size_of sum_of
entries-decide index one two m page negotiated latency completed a b s p q =
    rw (s.reads, ne_eqb page.0 0 (λ e. omega arith), le-ltb (length m) (base_of page + 6664) (omega arith), p, q)

none-of-three : (x y : Bool) → (x && false && y) ≡ false
none-of-three true y = refl
none-of-three false y = refl

-- ---- the check

module _ (v : Virtqueue) (i : ℕ) (q : Queue) (m host : List ℕ) where
  idle : v.page.0 ≡ 0 → (transferred (card v) v i q m host ≡ begun q m host) × (emptied (card v) v i q m ≡ begun q m [])
  unfolding transferred emptied found_of
  idle e = rw (eq-eqb v.page.0 0 e) (refl, refl)

  past-ram : 0 < v.page.0 → length m < base_of v.page + end_at (queue_size v)
      → (transferred (card v) v i q m host ≡ stopped Cause.Region (begun q m host))
      × (emptied (card v) v i q m ≡ stopped Cause.Region (begun q m []))
  unfolding transferred emptied found_of
  past-ram b l =
      rw (ne_eqb v.page.0 0 (λ e. omega arith), lt-ltb (length m) (base_of v.page + end_at (queue_size v)) l) (refl, refl)

-- ---- taking

module _ (v : Virtqueue) (m : List ℕ) (head : ℕ) (request reply : List Range) where
  -- what is asked of a message that joins a line
  abbrev fit : Bool
  fit = all_inside (length m) request && leb 4 (total request) && is_on v (id_of m request)

  abbrev answerable : Bool
  answerable = all_inside (length m) reply && leb 8 (total reply)

  unfit-false : Unfit v m request → fit ≡ false
  unfit-false (outside e) = rw e
  unfit-false (short e) = rw (lt-leb 4 (total request) e) (none-of-three (all_inside (length m) request) (is_on v (id_of m request)))
  unfit-false (below e) = rw (lt-leb v.first (id_of m request) e) (and-false (all_inside (length m) request && leb 4 (total request)))
  unfit-false (beyond e) =
      rw (le-ltb (id_of m request - v.first) v.streams (omega arith), and-false (leb v.first (id_of m request)))
      (and-false (all_inside (length m) request && leb 4 (total request)))

  silent-false : (all_inside (length m) reply ≡ false) ⊎ (total reply < 8) → answerable ≡ false
  silent-false (inl e) = rw e
  silent-false (inr e) = rw (lt-leb 8 (total reply) e) (and-false (all_inside (length m) reply))

  joins-line : (i : ℕ) → Readable v m head request reply → id_of m request ≡ v.first + i → i < v.streams → arrival_of v m head ≡ in_line i
  unfolding arrival_of
  joins-line i r e l =
      let z : v.first + i - v.first ≡ i = omega arith in
      rw (
        r.chain,
        r.inside,
        le-leb 4 (total request) r.long,
        e,
        le-leb v.first (v.first + i) (omega arith),
        z,
        lt-ltb i v.streams l,
      )

  at-once : walked v m head ≡ whole request reply → Unfit v m request → (b : Bool) → answerable ≡ b
      → arrival_of v m head ≡ at_once (read_as head request reply (cond b refused silent))
  unfolding arrival_of
  at-once c u b e = rw (c, unfit-false u, e)

walk-faults : (v : Virtqueue) (m : List ℕ) (head : ℕ) (f : Fault) → walked v m head ≡ faulted f
    → arrival_of v m head ≡ at_once (read_as head [] [] (unwalked f))
unfolding arrival_of
walk-faults v m head f e = rw e

-- ---- beginning

module _ (v : Virtqueue) (i : ℕ) (r : Run Queue) (head : ℕ) (request reply : List Range) (play : v.direction ≡ output)
    (front : (card v).front i r.queue ≡ unread head) (c : Changed v i r.mem head request reply) where
  abbrev m : List ℕ
  m = r.mem

  -- the id is not the line's
  unsound : (all_inside (length m) request && eqb (id_of m request) (v.first + i) && sized v.direction (total request) (total reply)) ≡
      false
  unsound =
      rw (ne_eqb (id_of m request) (v.first + i) c.id)
      (none-of-three (all_inside (length m) request) (sized v.direction (total request) (total reply)))

  -- what is read then
  now : reading_of v i m head ≡ read_as head request reply refused
  unfolding reading_of
  now =
      rw (c.chain, c.writable, le-leb 8 (total reply) c.answerable)
      (ap (λ (b : Bool). read_as head request reply (cond b well_formed refused)) unsound)

  swapped : 0 < r.room → ((transfer_step (card v) v i r).mem ≡ refused_in v r.queue.completed r.mem head reply) ×
      ((transfer_step (card v) v i r).bytes ≡ r.bytes)
  unfolding transfer_step opened completed posted size_of
  swapped l = rw (lt-ltb 0 r.room l, front, now, play) (refl, refl)

  swapped-released : (release_step (card v) v i r).mem ≡ refused_in v r.queue.completed r.mem head reply
  unfolding release_step opened completed posted size_of
  swapped-released = rw (front, now, play)

begins :
    (v : Virtqueue) (m : List ℕ) (head i : ℕ) (request reply : List Range)
    → v.direction ≡ output
    → Readable v m head request reply
    → id_of m request ≡ v.first + i
    → all_inside (length m) reply ≡ true
    → total reply ≡ 8
    → reading_of v i m head ≡ read_as head request reply well_formed
unfolding reading_of
begins v m head i request reply p r e a l =
    rw (r.chain, a, l, r.inside, e, eq-eqb (v.first + i) (v.first + i) refl, p, le-leb 4 (total request) r.long)

pub table : Table
table =
    record {
      idle = idle;
      past-ram = past-ram;
      joins = λ v m head i request reply r e l. joins-line v m head request reply i r e l;
      walk-fault = walk-faults;
      bad-refused = λ v m head request reply c u a l. at-once v m head request reply c u true (rw (a, le-leb 8 (total reply) l));
      bad-silent = λ v m head request reply c u b. at-once v m head request reply c u false (silent-false v m head request reply b);
      begins = begins;
      full = entries-decide 256 200 56;
      one_more = entries-decide 257 200 56;
      one-fits = entries-decide 257 200 55;
      swapped = λ v i r head request reply play front l c. swapped v i r head request reply play front c l;
      swapped-released = λ v i r head request reply play front c. swapped-released v i r head request reply play front c;
    }
