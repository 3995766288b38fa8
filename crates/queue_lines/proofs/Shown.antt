-- Each entry that a call takes is as memory then shows it: an answer at once is an entry more, and no other is written before all are
-- taken.
use Rattle.std.specs.Prelude.{Ok}
use mathlib.Core.Path.{◌≡◌, refl, sym, ap, ◌∙◌, subst}
use mathlib.Core.Bool.{Bool, ◌&&◌}
use mathlib.Core.List.{List, [], ◌∷◌, ◌++◌, append-nil, append_assoc}
use Prim.Native.Nat.{ℕ, ◌+◌, ◌%◌, ◌≤◌, ◌<◌}
use native.Mathlib.Omega.{arith}
use native.Mathlib.Decide.{ℕ_discrete}
use lib.Dec.{leb}
use lib.ListN.{length, take, drop, get_or, length-append, take-append-drop, get_or-append}
use lib.Seq.{take-length, length-take-le, take-append-le, drop-append-le, drop-append_seam, get_or-append_seam}
use Rattle.registers.proofs.Keeps.{by_cond}
use Rattle.chain.specs.Walk.{Outcome, whole, faulted}
use Rattle.ranges.specs.Ranges.{total, all_inside}
use Rattle.ring.specs.Rules.{head_at}
use Rattle.device.specs.Account.{Grows}
use Rattle.device.specs.Device.{Ending}
use Rattle.device.specs.Transfer.{id_of}
use Rattle.device.proofs.Grown.{grows_none, grows-more, grows-length}
use Rattle.queue_lines.specs.Chains.{Virtqueue, queue_size, walked, is_on, Arrival, in_line, at_once, arrival, arrival_of}
use Rattle.queue_lines.specs.Claim.{those}
use Rattle.queue_lines.specs.Histories.{Taken, untaken, Answer, History, line_at, taking, joining, bounced, beginning, handing}
use Rattle.queue_lines.specs.Histories.{answer_to, completing}
use Rattle.queue_lines.specs.Shown.{is_at_once, answered_below, memory_at, Took}
use Rattle.queue_lines.specs.Turn.{entries_written, answer_at_once, Takes, start, joins, bounces, Acts, taken, reads, moves, ends}
use Rattle.queue_lines.proofs.Added.{entry-written}
use Rattle.queue_lines.proofs.Lists.{those-append, those-more, those-same}

-- a message answered at once names its head
abbrev Names : ℕ → Arrival → Type 0
Names head (in_line i) = Unit {0}
Names head (at_once t) = t.head ≡ head

arrival-head : (v : Virtqueue) (m : List ℕ) (head : ℕ) → Names head (arrival_of v m head)
unfolding arrival_of
arrival-head v m head = go (walked v m head)
  where
    go : (o : Outcome) → Names head (arrival v m head o)
    go (faulted f) = refl
    go (whole request reply) = by_cond (Names head) (all_inside (length m) request && leb 4 (total request) && is_on v (id_of m request))
        (λ e. tt) (λ e. refl)

module _ (v : Virtqueue) (m₀ : List ℕ) (h₀ : History) where
  abbrev pub first : ℕ
  first = length h₀.takings

  abbrev pub base : ℕ
  base = length h₀.entries

  abbrev pub Bounced : Taken → Bool
  Bounced x = is_at_once x.arrival

  -- each taking so far has been shown; those answered at once have their entries
  pub record Sofar (h : History) : Type 0 where
    pub takings : Grows h₀.takings h.takings
    pub entries : Grows h₀.entries h.entries
    pub few : length (those Bounced takings.added) ≤ length entries.added
    pub took : (k : ℕ) → first ≤ k → k < length h.takings → Took v m₀ h₀ k h

  -- .. while entries are taken these are all entries
  pub record Now (m : List ℕ) (h : History) : Type 0 where
    pub sofar : Sofar h
    pub count : length sofar.entries.added ≡ length (those Bounced sofar.takings.added)
    pub memory : m ≡ entries_written v base sofar.entries.added m₀

  module _ (h : History) (p : Sofar h) where
    -- the entries since, and the takings since
    pub since-entries : drop base h.entries ≡ p.entries.added
    since-entries = rw p.entries.is (drop-append_seam h₀.entries p.entries.added)

    pub since-takings : drop first h.takings ≡ p.takings.added
    since-takings = rw p.takings.is (drop-append_seam h₀.takings p.takings.added)

    few-below : (k : ℕ) → first ≤ k → k ≤ length h.takings → answered_below v m₀ h₀ k h ≤ length p.entries.added
    few-below k a b =
        let few-all : length (those Bounced p.takings.added) ≤ length p.entries.added = p.few in
        let t : length (take k h.takings) ≡ k = length-take-le k h.takings b in
        let e : p.takings.added ≡ drop first (take k h.takings) ++ drop k h.takings =
        sym since-takings ∙ ap (drop first) (sym (take-append-drop k h.takings))
        ∙ drop-append-le first (take k h.takings) (drop k h.takings) (omega arith) in
        omega (arith, rw (e, those-append, length-append) at few-all)

    -- one taking more, and perhaps entries
    module _ (n : History) (x : Taken) (zs : List Answer) (ts : n.takings ≡ h.takings ++ x ∷ []) (es : n.entries ≡ h.entries ++ zs)
      where
        below-same : (k : ℕ) → k ≤ length h.takings → answered_below v m₀ h₀ k n ≡ answered_below v m₀ h₀ k h
        below-same k l = rw (ts, take-append-le k h.takings (x ∷ []) l)

        memory-same : (c : ℕ) → c ≤ length p.entries.added → memory_at v m₀ h₀ c n ≡ memory_at v m₀ h₀ c h
        memory-same c l =
            rw (
              es,
              drop-append-le base h.entries zs (grows-length h₀.entries h.entries p.entries),
              since-entries,
              take-append-le c p.entries.added zs l,
            )

        -- memory for a taking at or below the new one
        then : (k : ℕ) → first ≤ k → k ≤ length h.takings
            → memory_at v m₀ h₀ (answered_below v m₀ h₀ k n) n ≡ memory_at v m₀ h₀ (answered_below v m₀ h₀ k h) h
        then k a b = rw (below-same k b) (memory-same (answered_below v m₀ h₀ k h) (few-below k a b))

        took-old : (k : ℕ) → first ≤ k → k < length h.takings → Took v m₀ h₀ k n
        took-old k a b =
            let o = p.took k a b in
            let g : get_or n.takings k untaken ≡ get_or h.takings k untaken = rw ts (get_or-append h.takings (x ∷ []) untaken k b)
            in
            record { head = rw (then k a (omega arith), g) o.head; arrival = rw (then k a (omega arith), g) o.arrival }

  -- memory now is memory once all of them are written
  memory-now : (m : List ℕ) (h : History) (p : Now m h) → memory_at v m₀ h₀ (answered_below v m₀ h₀ (length h.takings) h) h ≡ m
  memory-now m h p =
      rw (take-length, since-takings h p.sofar, since-entries h p.sofar, ← p.count, take-length) (sym p.memory)

  module _ (m : List ℕ) (h n : History) (p : Now m h) (x : Taken) (zs : List Answer) (ts : n.takings ≡ h.takings ++ x ∷ [])
      (es : n.entries ≡ h.entries ++ zs)
      (e : head_at m v.page (queue_size v) (length h.takings % queue_size v) ≡ Ok (record { 0 = x.head }))
      (q : arrival_of v m x.head ≡ x.arrival) where
    took-new : Took v m₀ h₀ (length h.takings) n
    took-new =
        let a : first ≤ length h.takings = grows-length h₀.takings h.takings p.sofar.takings in
        let z = then h p.sofar n x zs ts es (length h.takings) a (omega arith) ∙ memory-now m h p in
        let g : get_or n.takings (length h.takings) untaken ≡ x = rw ts (get_or-append_seam h.takings x [] untaken) in
        record { head = rw (z, g) e; arrival = rw (z, g) q }

    took-all : (k : ℕ) → first ≤ k → k < length n.takings → Took v m₀ h₀ k n
    took-all k a b = go (ℕ_discrete k (length h.takings))
      where
        short : k < length h.takings + 1
        short = rw (ts, length-append) at b

        go : Dec (k ≡ length h.takings) → Took v m₀ h₀ k n
        go (yes z) = rw z took-new
        go (no z) = took-old h p.sofar n x zs ts es k a (omega (arith, z, short))

  pub takes-now : {m : List ℕ} {h : History} {signal : Bool} → Takes v m₀ h₀ m h signal → Now m h
  unfolding joining bounced those entries_written
  takes-now start =
      record {
        sofar =
            record {
              takings = grows_none h₀.takings;
              entries = grows_none h₀.entries;
              few = omega arith;
              took = λ k a b. absurd (omega arith);
            };
        count = refl;
        memory = refl;
      }
  takes-now (joins {m = m} {h = h} {head = head} {line = line} s e q) =
      let p = takes-now s in
      let x : Taken = taking head.0 (in_line line) h in
      let c : those Bounced (p.sofar.takings.added ++ x ∷ []) ≡ those Bounced p.sofar.takings.added =
      those-same Bounced p.sofar.takings.added x refl in
      record {
        sofar =
            record {
              takings = grows-more h₀.takings h.takings (x ∷ []) p.sofar.takings;
              entries = p.sofar.entries;
              few = rw c p.sofar.few;
              took = took-all m h (joining line head.0 h) p x [] refl (sym (append-nil h.entries)) e q;
            };
        count = rw c p.count;
        memory = p.memory;
      }
  takes-now (bounces {m = m} {h = h} {head = head} {t = t} s e q) =
      let p = takes-now s in
      let x : Taken = taking t.head (at_once t) h in
      let a : Answer = answer_at_once v t h in
      let g = p.sofar.entries in
      let name : t.head ≡ head.0 = rw q at (arrival-head v m head.0) in
      let c : those Bounced (p.sofar.takings.added ++ x ∷ []) ≡ those Bounced p.sofar.takings.added ++ x ∷ [] =
      those-more Bounced p.sofar.takings.added x refl in
      let l : length (g.added ++ a ∷ []) ≡ length (those Bounced (p.sofar.takings.added ++ x ∷ [])) =
      simp (c, length-append) (omega (arith, p.count)) in
      record {
        sofar =
            record {
              takings = grows-more h₀.takings h.takings (x ∷ []) p.sofar.takings;
              entries = grows-more h₀.entries h.entries (a ∷ []) g;
              few = omega arith;
              took = took-all m h (bounced v.direction t v.latency h) p x (a ∷ []) refl refl (rw name e)
                  (subst (λ (n : ℕ). arrival_of v m n ≡ at_once t) (sym name) q);
            };
        count = l;
        memory = entry-written v m₀ h₀ m h a g p.memory;
      }

  -- what comes after the takings takes nothing, and adds entries behind
  module _ (h n : History) (p : Sofar h) (zs : List Answer) (ts : n.takings ≡ h.takings) (es : n.entries ≡ h.entries ++ zs) where
    later : Sofar n
    later =
        record {
          takings = record { added = p.takings.added; is = ts ∙ p.takings.is };
          entries = record { added = p.entries.added ++ zs; is = rw (es, p.entries.is, append_assoc) };
          few = rw length-append (omega (arith, p.few));
          took = λ k a b. later-took k a (rw ts at b);
        }
      where
        later-took : (k : ℕ) → first ≤ k → k < length h.takings → Took v m₀ h₀ k n
        later-took k a b =
            let o = p.took k a b in
            let z : memory_at v m₀ h₀ (answered_below v m₀ h₀ k n) n ≡ memory_at v m₀ h₀ (answered_below v m₀ h₀ k h) h =
            rw (
              ts,
              es,
              drop-append-le base h.entries zs (grows-length h₀.entries h.entries p.entries),
              since-entries h p,
              take-append-le (answered_below v m₀ h₀ k h) p.entries.added zs (few-below h p k a (omega arith)),
            ) in
            record { head = rw (z, ts) o.head; arrival = rw (z, ts) o.arrival }

  module _ (i : ℕ) (call : Ending) (host : List ℕ) where
    pub acts-sofar : {m : List ℕ} {h : History} {bytes : List ℕ} {signal : Bool} → Acts v m₀ h₀ i call host m h bytes signal → Sofar h
    unfolding beginning handing completing
    acts-sofar (taken s) = (takes-now s).sofar
    acts-sofar (reads {h = h} s o e) = later h _ (acts-sofar s) [] refl (sym (append-nil h.entries))
    acts-sofar (moves {h = h} s c o e z q) = later h _ (acts-sofar s) [] refl (sym (append-nil h.entries))
    acts-sofar (ends {h = h} {e = e} s f due) = later h _ (acts-sofar s) (answer_to v.direction e v.latency (line_at h i) ∷ []) refl
        refl

    -- every entry that the call took, as memory then showed it
    pub acts-took :
        {m : List ℕ} {h : History} {bytes : List ℕ} {signal : Bool}
        → Acts v m₀ h₀ i call host m h bytes signal
        → (k : ℕ)
        → length h₀.takings ≤ k
        → k < length h.takings
        → Took v m₀ h₀ k h
    acts-took s = (acts-sofar s).took
