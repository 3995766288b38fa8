-- 01, Rings and chains, from "Walk faults" on: the walk of a descriptor chain, over lists of descriptors and of ranges.
-- It is `walk_of`; `Walks` is what the code's walk promises of its result.
use Rattle.std.specs.Prelude.{Result, Ok, Err, ◌≡◌, List, [], ◌∷◌, ◌++◌, Bool, cond, not, ◌||◌, ℕ, zero, suc}
use Rattle.std.specs.Prelude.{◌+◌, ◌/◌, ◌%◌, ◌≤◌, eqb, leb, length, get_or}
use Rattle.memory.specs.Bytes.{le, inside_of}
use Rattle.ranges.specs.Ranges.{no_ranges, ranges_of, total, Sound}
use Rattle.ranges.specs.declared.Range.{Range}
use Rattle.ranges.specs.declared.Ranges.{Ranges}
use Rattle.chain.specs.declared.Fault.{Fault}
use Rattle.chain.specs.declared.Fault.TheVariants.{PastTable, TooMany, Order, TooLong, NotNegotiated, WithNext, Nested}
use Rattle.chain.specs.declared.Fault.TheVariants.{TableLength, TableOutside}
use Rattle.chain.specs.declared.Descriptor.{Descriptor}
use Rattle.chain.specs.declared.Chain.{Chain}

-- ---- descriptors: 002, 2.2 and 2.3

-- the 16 bytes at a: address, length, flags, number of the next
unfoldable pub descriptor_at : List ℕ → ℕ → Descriptor
descriptor_at m a =
    record { at = record { 0 = le 8 m a }; len = le 4 m (a + 8); flags = le 2 m (a + 12); next = record { 0 = le 2 m (a + 14) } }

-- the table of n descriptors at a
unfoldable pub descriptors : List ℕ → ℕ → ℕ → List Descriptor
descriptors m a zero = []
descriptors m a (suc n) = descriptor_at m a ∷ descriptors m (a + 16) n

abbrev pub has_next : Descriptor → Bool
has_next d = eqb (d.flags % 2) 1

abbrev pub is_writable : Descriptor → Bool
is_writable d = eqb (d.flags / 2 % 2) 1

abbrev pub is_indirect : Descriptor → Bool
is_indirect d = eqb (d.flags / 4 % 2) 1

abbrev pub range_of : Descriptor → Range
range_of d = record { at = d.at; len = d.len }

abbrev pub no_descriptor : Descriptor
no_descriptor = record { at = record { 0 = 0 }; len = 0; flags = 0; next = record { 0 = 0 } }

-- ---- the outcome of a walk

-- "The readable bytes joined are the request, the writable bytes joined the reply": the ranges of either side in order; or the fault found
pub data Outcome : Type 0 where
  whole : List Range → List Range → Outcome
  faulted : Fault → Outcome

-- "The walk stops at once, from inside an indirect table too."; else it goes on with the ranges so far
abbrev pub and_then : Outcome → (List Range → List Range → Outcome) → Outcome
and_then (whole rd wr) go = go rd wr
and_then (faulted f) go = faulted f

-- the same where nothing is found but a fault
abbrev pub by_end : Result Unit Fault → Outcome → Outcome
by_end (Ok x) o = o
by_end (Err f) o = faulted f

-- ---- the rules

-- "a readable one after a writable one; readable or writable lengths adding above 1,048,576"
unfoldable pub joined_of : Descriptor → List Range → List Range → Outcome
joined_of d rd wr =
    cond (is_writable d)
    (cond (leb (total wr + d.len) 1048576) (whole rd (wr ++ (range_of d ∷ []))) (faulted TooLong))
    (cond (eqb (length wr) 0)
    (cond (leb (total rd + d.len) 1048576) (whole (rd ++ (range_of d ∷ [])) wr) (faulted TooLong))
    (faulted Order))

-- "an indirect one without bit 28 negotiated, with NEXT, .. of length 0 or not a multiple of 16, or with its table
-- outside RAM". "WRITE on it is ignored, as are unknown flags."
unfoldable pub enter_of : ℕ → Bool → Descriptor → Result Unit Fault
enter_of ram negotiated d =
    cond negotiated
    (cond (has_next d) (Err WithNext)
    (cond (eqb d.len 0 || not (eqb (d.len % 16) 0)) (Err TableLength)
    (cond (inside_of ram d.at.0 d.len) (Ok tt) (Err TableOutside))))
    (Err NotNegotiated)

-- "a descriptor number past its table", else what is made of the descriptor
abbrev pub entry : List Descriptor → ℕ → (Descriptor → Outcome) → Outcome
entry table number go = cond (leb (length table) number) (faulted PastTable) (go (get_or table number no_descriptor))

-- the descriptor joins its side; then the walk goes on at its next, or the chain is whole
abbrev pub onward : Descriptor → List Range → List Range → (List Range → List Range → Outcome) → Outcome
onward d rd wr go = and_then (joined_of d rd wr) (λ rd' wr'. cond (has_next d) (go rd' wr') (whole rd' wr'))

-- ---- the walk, from a descriptor number on, with the readable and writable ranges so far. The fuel is how many
-- descriptors may still come.

-- in an indirect table, whose end ends the chain; an indirect one "inside an indirect table" is a fault
unfoldable pub in_table : ℕ → List Descriptor → ℕ → List Range → List Range → Outcome
in_table zero table number rd wr = faulted TooMany
in_table (suc k) table number rd wr =
    entry table number
    (λ d. cond (is_indirect d) (faulted Nested) (onward d rd wr (in_table k table d.next.0)))

-- in the direct table: "Direct descriptors may come before one indirect." "those naming an indirect table not counted", so its table has
-- the same fuel. With none left one that names a table is a fault too: the table has at least one descriptor more.
unfoldable pub direct : List ℕ → Bool → ℕ → List Descriptor → ℕ → List Range → List Range → Outcome
direct m negotiated zero table number rd wr = faulted TooMany
direct m negotiated (suc k) table number rd wr =
    entry table number
    (λ d. cond (is_indirect d)
    (by_end (enter_of (length m) negotiated d) (in_table (suc k) (descriptors m d.at.0 (d.len / 16)) 0 rd wr))
    (onward d rd wr (direct m negotiated k table d.next.0)))

-- "more than 34 descriptors": the chain at `head` of the table of `size` descriptors at `table`
abbrev pub walk_of : List ℕ → ℕ → ℕ → ℕ → Bool → Outcome
walk_of m table size head negotiated = direct m negotiated 34 (descriptors m table size) head [] []

-- ---- what the code's structs stand for, over the list of words that the walk fills

abbrev pub empty_chain : Chain
empty_chain = record { request = no_ranges; reply = no_ranges }

-- one side with a range of `len` bytes more
abbrev pub longer_by : ℕ → Ranges → Ranges
longer_by len r = record { first = r.first; count = r.count + 1; bytes = r.bytes + len }

abbrev pub reply_with : Chain → ℕ → Chain
reply_with c len = record { request = c.request; reply = longer_by len c.reply }

abbrev pub request_with : Chain → ℕ → Chain
request_with c len =
    record {
      request = longer_by len c.request;
      reply = record { first = c.reply.first + 1; count = c.reply.count; bytes = c.reply.bytes };
    }

-- the reply stands right behind the request; at most 34 ranges in all, and no side above 1,048,576 bytes
pub record SoundChain (ws : List ℕ) (c : Chain) : Type 0 where
  pub start : c.request.first ≡ 0
  pub behind : c.reply.first ≡ c.request.count
  pub few : c.request.count + c.reply.count ≤ 34
  pub request : Sound ws c.request
  pub reply : Sound ws c.reply
  pub readable : c.request.bytes ≤ 1048576
  pub writable : c.reply.bytes ≤ 1048576

-- what a walk gives: the ranges of its chain, or the fault
abbrev pub outcome_of : List ℕ → Result Chain Fault → Outcome
outcome_of ws (Ok c) = whole (ranges_of ws c.request) (ranges_of ws c.reply)
outcome_of ws (Err f) = faulted f

-- a chain that is given is sound
abbrev pub SoundWalk : List ℕ → Result Chain Fault → Type 0
SoundWalk ws (Ok c) = SoundChain ws c
SoundWalk ws (Err f) = Unit

-- no more than so many ranges are given
abbrev pub Few : ℕ → Result Chain Fault → Type 0
Few n (Ok c) = c.request.count + c.reply.count ≤ n
Few n (Err f) = Unit

-- one descriptor joined to a chain: at most one range more
pub record Joins (ws : List ℕ) (c : Chain) (d : Descriptor) (ws' : List ℕ) (w : Result Chain Fault) : Type 0 where
  pub outcome : outcome_of ws' w ≡ joined_of d (ranges_of ws c.request) (ranges_of ws c.reply)
  pub sound : SoundWalk ws' w
  pub more : Few (c.request.count + c.reply.count + 1) w

-- the whole walk: its outcome is the rule's
pub record Walks (m : List ℕ) (table size head : ℕ) (negotiated : Bool) (ws : List ℕ) (w : Result Chain Fault) : Type 0 where
  pub outcome : outcome_of ws w ≡ walk_of m table size head negotiated
  pub sound : SoundWalk ws w
