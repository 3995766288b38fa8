-- Whatever blocks the input came in, what is handed to the write is the report of the bytes read.
use mathlib.Core.Path.{◌≡◌, refl, ◌∙◌, ap}
use mathlib.Core.Bool.{Bool, true, false}
use mathlib.Core.List.{List, [], ◌++◌}
use Prim.Native.Nat.{ℕ, ◌+◌, ◌-◌, ◌%◌, ◌^◌, ◌≤◌, ◌<◌}
use native.Mathlib.Omega.{arith}
use borrow.Author.Tests.{ltb-true, ltb-false}
use lib.Dec.{ltb}
use lib.ListN.{length, get_or, take, length-append, length-take, get_or-append, get_or-eq_default}
use lib.Seq.{get_or-append-add, get_or-take}
use Rattle.latency_tally.specs.Tally.{opened, taken}
use Rattle.latency_tally.specs.declared.Input.{Input}
use Rattle.latency_tally.proofs.Joined.{taken_none, taken-joined}
use Rattle.latency.specs.Report.{input_text}
use Rattle.latency.specs.Reading.{Bytes, Behind, Reported}
use Rattle.latency.proofs.Reports.{report-short, report-whole}

-- ---- bytes

pub bytes-joined : (a b : List ℕ) → Bytes a → Bytes b → Bytes (a ++ b)
bytes-joined a b p q i = by (ltb i (length a)) refl where
  by : (x : Bool) → ltb i (length a) ≡ x → get_or (a ++ b) i 0 < 256
  by true e = rw (get_or-append a b 0 i (ltb-true i (length a) e)) (p i)
  by false e =
      let k : length a + (i - length a) ≡ i = omega (arith, ltb-false i (length a) e) in
      rw (← k, get_or-append-add a b (i - length a) 0) (q (i - length a))

pub bytes-taken : (n : ℕ) (s : List ℕ) → Bytes s → Bytes (take n s)
bytes-taken n s p i = by (ltb i n) refl where
  by : (x : Bool) → ltb i n ≡ x → get_or (take n s) i 0 < 256
  by true e = rw (get_or-take n s i 0 (ltb-true i n e)) (p i)
  by false e = rw (get_or-eq_default (take n s) 0 {n = i} (rw length-take (omega (arith, ltb-false i n e)))) (omega arith)

-- ---- one block behind others

abbrev pub behind-none : (i : Input) → i.bytes ≡ 8 → (n : Behind i i) × (length n.read ≡ 0)
behind-none i h = (record { read = []; bytes = λ n. omega arith; few = omega arith; same = taken_none i (omega arith) }, refl)

module _ (i r next : Input) (eight : i.bytes ≡ 8) (b : Behind i r) (whole : length b.read % 8 ≡ 0) (below : r.bytes ≤ 8000008) where
  abbrev pub behind_more : (block : List ℕ) → Bytes block → length block ≤ 65536 → next ≡ taken r block
      → (n : Behind i next) × (length n.read ≡ length b.read + length block)
  behind_more block p few e =
      let n : r.bytes ≡ (8 + length b.read) % 2 ^ 64 = ap (λ (x : Input). x.bytes) b.same ∙ rw eight in
      let l = length-append b.read block in (
        record {
          read = b.read ++ block;
          bytes = bytes-joined b.read block b.bytes p;
          few = omega (arith, b.few);
          same = e ∙ ap (λ (x : Input). taken x block) b.same ∙ taken-joined i b.read block whole;
        },
        l,
      )

-- ---- what was read in all

-- the first n bytes of the input
pub record Head (i : Input) (n : ℕ) : Type 0 where
  pub read : List ℕ
  pub bytes : Bytes read
  pub long : length read ≡ n
  pub same : i ≡ opened read

abbrev pub reported-short : (i : Input) (n : ℕ) → Head i n → n < 8 → Reported i
reported-short i n h few =
    record { read = h.read; bytes = h.bytes; same = ap input_text h.same ∙ report-short h.read (omega (arith, h.long)) }

pub head-eight : (i : Input) → Head i 8 → i.bytes ≡ 8
head-eight i h = ap (λ (x : Input). x.bytes) h.same ∙ h.long

abbrev pub reported-more : (i r : Input) → Head i 8 → Behind i r → Reported r
reported-more i r h b =
    let all = bytes-joined h.read b.read h.bytes b.bytes in
    let l = length-append h.read b.read in
    record {
      read = h.read ++ b.read;
      bytes = all;
      same = ap input_text (b.same ∙ ap (λ (x : Input). taken x b.read) h.same)
          ∙ report-whole h.read b.read h.long all (omega (arith, b.few, h.long));
    }
