-- The tally of at most 1,000,000 records, kept record by record in 32 and 64 bits, is that of all of them at once: no sum wraps.
use Rattle.std.proofs.Common.{◌≡◌, ℕ, suc, ◌+◌, ◌*◌, ◌^◌, ◌<◌, ◌≤◌, min, max, Bool, true, false, List, [], ◌∷◌, length, refl, ◌∙◌, arith}
use Rattle.std.proofs.Common.{eqb-true}
use mathlib.Core.List.{foldl}
use Rattle.latency_tally.specs.Records.{Status, is_ok, is_io_err, count, ok_latencies, smallest, largest, sum}
use Rattle.latency_tally.specs.Tally.{no_tally, with_code, with_latency, with_record, tally_of}
use Rattle.latency_tally.specs.declared.Tally.{Tally}

-- every latency has 32 bits
unfoldable pub Small : List Status → Type 0
Small [] = Unit
Small (r ∷ l) = (r.latency < 2 ^ 32) × Small l

-- the tally of some records and of others behind them
abbrev both : Tally → Tally → Tally
both t u =
    record {
      ok = t.ok + u.ok;
      io_err = t.io_err + u.io_err;
      others = t.others + u.others;
      smallest = min t.smallest u.smallest;
      largest = max t.largest u.largest;
      sum = t.sum + u.sum;
    }

-- room for n records more
record Room (t : Tally) (n : ℕ) : Type 0 where
  counts : (t.ok + n < 2 ^ 32) × (t.io_err + n < 2 ^ 32) × (t.others + n < 2 ^ 32)
  top : t.smallest < 2 ^ 32
  added : t.sum + n * 2 ^ 32 < 2 ^ 64

same : {a a' b b' c c' d d' e e' f f' : ℕ} → (a ≡ a') × (b ≡ b') × (c ≡ c') × (d ≡ d') × (e ≡ e') × (f ≡ f')
    → ◌≡◌ {A = Tally} (record { ok = a; io_err = b; others = c; smallest = d; largest = e; sum = f })
    (record { ok = a'; io_err = b'; others = c'; smallest = d'; largest = e'; sum = f' })
same (p, q, r, s, t, u) = cc

-- a record is of one of three kinds
data Kind (r : Status) : Type 0 where
  ok : is_ok r ≡ true → is_io_err r ≡ false → Kind r
  io-err : is_ok r ≡ false → is_io_err r ≡ true → Kind r
  other : is_ok r ≡ false → is_io_err r ≡ false → Kind r

kind : (r : Status) → Kind r
kind r = by (is_ok r) (is_io_err r) refl refl where
  by : (x y : Bool) → is_ok r ≡ x → is_io_err r ≡ y → Kind r
  by true y p q = ok p (rw (eqb-true r.code 32768 p))
  by false true p q = io-err p q
  by false false p q = other p q

module _ (t : Tally) (r : Status) (n : ℕ) (room : Room t (suc n)) (small : r.latency < 2 ^ 32) where
  kept : Kind r → Room (with_record t r) n
  unfolding with_record with_code with_latency
  kept (ok p q) = rw p (omega arith)
  kept (io-err p q) = rw (p, q) (omega arith)
  kept (other p q) = rw (p, q) (omega arith)

  moved : (l : List Status) → Kind r → both (with_record t r) (tally_of l) ≡ both t (tally_of (r ∷ l))
  unfolding with_record with_code with_latency tally_of count ok_latencies smallest largest sum
  moved l (ok p q) = rw (p, q) (same (omega arith))
  moved l (io-err p q) = rw (p, q) (same (omega arith))
  moved l (other p q) = rw (p, q) (same (omega arith))

exact : (l : List Status) (t : Tally) → Room t (length l) → Small l → foldl with_record t l ≡ both t (tally_of l)
unfolding Small tally_of count ok_latencies smallest largest sum
exact [] t room small = same (omega arith)
exact (r ∷ l) t room small =
    exact l (with_record t r) (kept t r (length l) room small.0 (kind r)) small.1
    ∙ moved t r (length l) room small.0 l (kind r)

smallest-top : (l : List ℕ) → smallest l ≤ 4294967295
unfolding smallest
smallest-top [] = omega arith
smallest-top (x ∷ l) = omega (arith, smallest-top l)

-- 02, order 12: "At most 1,000,000 records"
pub tally-exact : (l : List Status) → length l ≤ 1000000 → Small l → foldl with_record no_tally l ≡ tally_of l
unfolding tally_of
tally-exact l h small =
    let top = smallest-top (ok_latencies l) in
    exact l no_tally (omega arith) small ∙ same (omega arith)
