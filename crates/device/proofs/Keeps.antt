-- Each change of a history keeps what is claimed of it.
use mathlib.Core.Path.{◌≡◌, refl, sym, ap, ◌∙◌}
use mathlib.Core.Bool.{true, false}
use mathlib.Core.List.{List, [], ◌∷◌, ◌++◌, map, append-nil, map-append}
use Prim.Native.Nat.{ℕ, suc, ◌+◌, ◌-◌, ◌≤◌, ◌<◌}
use native.Mathlib.Nat.{le_refl, sub-zero}
use native.Mathlib.Numerals.{add-one}
use native.Mathlib.Omega.{arith}
use native.Mathlib.Decide.{ℕ_discrete}
use borrow.Author.Tests.{eq-eqb, ne_eqb, leb-true, leb-false}
use lib.Dec.{eqb, leb}
use lib.ListN.{length, take, drop, get_or, length-append, length-take, length-drop, get_or-eq_default, get_or-map, length-map}
use lib.Seq.{take-suc, take-append-le, take-add, get_or-append_seam}
use Rattle.ranges.specs.Ranges.{up_from}
use Rattle.ranges.proofs.Laws.{length-up_from}
use Rattle.device.specs.Device.{Direction, Taking, nobody, Ending, released}
use Rattle.device.specs.Transfer.{is_well, payload_of}
use Rattle.device.specs.Histories.{Note, History, blank, unanswered, handed_of, addresses_of, lost_of, notes_of, losses_of, number}
use Rattle.device.specs.Histories.{current, handed_now, waiting, took, noted, with_entry}
use Rattle.device.specs.Claim.{Good, waiting_of, payload_at}
use Rattle.device.proofs.Cases.{cond_same}
use Rattle.device.proofs.Lists.{nil-left, take-self, get_d-snoc-other, only-append, handed_of-same, addresses_of-same, notes_of-other}
use Rattle.device.proofs.Lists.{bytes-notes_of, lost_of-same, lost_of-other, hand_on}

module _ (d : Direction) where
  -- no message, no payload
  pub nobody-none : payload_of d nobody ≡ []
  unfolding payload_of
  nobody-none = refl

  -- nor has an ill-formed message one
  pub ill-formed-none : (t : Taking) → is_well t.form ≡ false → payload_of d t ≡ []
  unfolding payload_of
  ill-formed-none t e = rw e

  pub blank-good : Good d [] blank
  unfolding waiting handed_now payload_of up_from
  blank-good =
      record {
        few = omega arith;
        one = omega arith;
        heads = refl;
        once = λ t. cond_same (eqb t 0) [];
        read = λ t. refl;
        blamed = λ t h. refl;
        bytes = refl;
      }

  -- ---- the message in work

  module _ (said : List ℕ) (h : History) (g : Good d said h) where
    -- nothing of it is given up yet
    none-lost : lost_of (number h) h.losses ≡ []
    none-lost =
        g.blamed (number h)
        (rw (get_or-eq_default h.entries unanswered (le_refl _)) (λ e. let z : ◌≡◌ {A = ℕ} 0 1 = cc in absurd (omega arith)))

    once-now : handed_of (number h) h.notes ++ waiting d h ≡ up_from 0 (length (payload_of d (current h)))
    once-now = rw (eq-eqb (number h) (number h) refl, none-lost) at (g.once (number h))

    -- what was handed on is part of it
    pub done-le : handed_now h ≤ length (payload_of d (current h))
    unfolding handed_now waiting
    done-le = omega (arith, simp (length-append, length-up_from) at (ap length once-now))

  -- nothing waits once all is handed on, nor with no message in work
  pub none_left : (h : History) → length (payload_of d (current h)) ≤ handed_now h → waiting d h ≡ []
  unfolding waiting up_from
  none_left h f =
      let z : length (payload_of d (current h)) - handed_now h ≡ 0 = omega arith in
      rw z

  none-waits : (h : History) → length h.takings ≤ number h → waiting d h ≡ []
  none-waits h f = none_left h (rw (get_or-eq_default h.takings nobody f, nobody-none) (omega arith))

  -- ---- handing on

  module _ (said : List ℕ) (h : History) (g : Good d said h) (bytes : List ℕ) (room : ℕ) where
    abbrev xs : List ℕ
    xs = take room (drop (handed_now h) (payload_of d (current h)))

    some_fit : handed_now h + length xs ≤ length (payload_of d (current h))
    some_fit = rw (length-take, length-drop) (omega (arith, done-le said h g))

    noted-once :
        (t : ℕ)
        → Dec (t ≡ number h)
        → handed_of t (h.notes ++ notes_of (number h) (handed_now h) bytes xs)
        ++ (lost_of t h.losses ++ waiting_of d t (noted d bytes xs h))
        ≡ up_from 0 (length (payload_at d t h))
    unfolding noted waiting handed_now
    noted-once t (yes q) =
        rw (q, eq-eqb (number h) (number h) refl, none-lost said h g, only-append, handed_of-same)
        (hand_on (handed_of (number h) h.notes) (length xs) (length (payload_of d (current h))) some_fit (once-now said h g))
    noted-once t (no n) =
        rw (ne_eqb t (number h) n, only-append, notes_of-other t _ (number h) _ bytes xs n, append-nil (handed_of t h.notes))
        (rw (ne_eqb t (number h) n) at (g.once t))

    noted_read :
        (t : ℕ)
        → Dec (t ≡ number h)
        → addresses_of t (h.notes ++ notes_of (number h) (handed_now h) bytes xs)
        ≡ take (length (handed_of t (h.notes ++ notes_of (number h) (handed_now h) bytes xs))) (payload_at d t h)
    unfolding handed_now
    noted_read t (yes q) =
        rw (
          q,
          only-append,
          addresses_of-same,
          only-append,
          handed_of-same,
          length-append,
          length-up_from,
          take-add,
          take-self,
          g.read (number h),
        )
    noted_read t (no n) =
        simp (
          only-append,
          notes_of-other t (λ (n : Note). n.from) (number h) (handed_now h) bytes xs n,
          notes_of-other t (λ (n : Note). n.pos) (number h) (handed_now h) bytes xs n,
          append-nil,
        )
        (g.read t)

    pub noted-good : length bytes ≡ length xs → Good d (said ++ bytes) (noted d bytes xs h)
    unfolding noted
    noted-good all =
        record {
          few = g.few;
          one = g.one;
          heads = g.heads;
          once = λ t. noted-once t (ℕ_discrete t (number h));
          read = λ t. noted_read t (ℕ_discrete t (number h));
          blamed = g.blamed;
          bytes = rw (map-append, bytes-notes_of (number h) (handed_now h) bytes xs all, g.bytes);
        }

  -- ---- an entry: nothing may wait, unless it is a Release's

  module _ (said : List ℕ) (h : History) (g : Good d said h) (e : Ending) (latency : ℕ)
      (busy : leb (length h.takings) (number h) ≡ false)
      (all : (e ≡ released → ⊥) → waiting d h ≡ []) where
    with-entry-waits : waiting d (with_entry d e latency h) ≡ []
    unfolding with_entry
    with-entry-waits = none-waits (with_entry d e latency h) (rw length-append (omega (arith, g.one)))

    with-entry-once :
        (t : ℕ)
        → Dec (t ≡ number h)
        → handed_of t h.notes ++ (lost_of t (h.losses ++ losses_of (number h) (waiting d h)) ++ waiting_of d t (with_entry d e latency h))
        ≡ up_from 0 (length (payload_at d t h))
    with-entry-once t (yes q) =
        rw (q, only-append, lost_of-same, with-entry-waits, cond_same, append-nil)
        (rw (eq-eqb (number h) (number h) refl) at (g.once (number h)))
    with-entry-once t (no n) =
        rw (only-append, lost_of-other t (number h) (waiting d h) n, append-nil, with-entry-waits, cond_same)
        (rw (ne_eqb t (number h) n) at (g.once t))

    with-entry-blamed :
        (t : ℕ)
        → Dec (t ≡ number h)
        → ((get_or (with_entry d e latency h).entries t unanswered).ending ≡ released → ⊥)
        → lost_of t (with_entry d e latency h).losses ≡ []
    unfolding with_entry
    with-entry-blamed t (yes q) k = rw (q, only-append, none-lost said h g, all (rw (q, get_or-append_seam) at k))
    with-entry-blamed t (no n) k =
        rw (only-append, lost_of-other t (number h) (waiting d h) n, append-nil)
        (g.blamed t (rw (get_d-snoc-other h.entries _ t unanswered n) at k))

    pub with-entry-good : Good d said (with_entry d e latency h)
    unfolding with_entry
    with-entry-good =
        let b : number h < length h.takings = leb-false (length h.takings) (number h) busy in
        let o : length h.takings ≤ suc (number h) = g.one in
        record {
          few = rw length-append (omega arith);
          one = rw length-append (omega arith);
          heads =
              rw (
                map-append,
                g.heads,
                length-append,
                add-one,
                take-suc (map (λ (t : Taking). t.head) h.takings) (number h) 0 (rw length-map b),
                get_or-map (λ (t : Taking). t.head) h.takings (number h) nobody,
              );
          once = λ t. with-entry-once t (ℕ_discrete t (number h));
          read = g.read;
          blamed = λ t. with-entry-blamed t (ℕ_discrete t (number h));
          bytes = g.bytes;
        }

  -- ---- a taking

  module _ (said : List ℕ) (h : History) (g : Good d said h) (free : leb (length h.takings) (number h) ≡ true) (x : Taking) where
    all-entered : length h.takings ≤ number h
    all-entered = leb-true (length h.takings) (number h) free

    pub same_number : number h ≡ length h.takings
    same_number = omega (arith, all-entered, g.few)

    -- a taking that is yet to be made has no notes
    pub none-noted : handed_of (number h) h.notes ≡ []
    unfolding up_from
    none-noted = nil-left _ _ (rw (get_or-eq_default h.takings nobody all-entered, nobody-none) at (once-now said h g))

    took-once :
        (t : ℕ)
        → Dec (t ≡ number h)
        → handed_of t h.notes ++ (lost_of t h.losses ++ waiting_of d t (took d x h))
        ≡ up_from 0 (length (payload_of d (get_or (h.takings ++ x ∷ []) t nobody)))
    unfolding took waiting handed_now
    took-once t (yes q) =
        rw (q, eq-eqb (number h) (number h) refl, none-noted, none-lost said h g, same_number, get_or-append_seam, sub-zero)
    took-once t (no n) =
        rw (ne_eqb t (number h) n, get_d-snoc-other h.takings x t nobody (λ e. n (e ∙ sym same_number)))
        (rw (ne_eqb t (number h) n) at (g.once t))

    took-read :
        (t : ℕ)
        → Dec (t ≡ number h)
        → addresses_of t h.notes ≡ take (length (handed_of t h.notes)) (payload_of d (get_or (h.takings ++ x ∷ []) t nobody))
    took-read t (yes q) = rw (q, none-noted) (rw none-noted at (g.read (number h)))
    took-read t (no n) = rw (get_d-snoc-other h.takings x t nobody (λ e. n (e ∙ sym same_number))) (g.read t)

    pub took-good : Good d said (took d x h)
    unfolding took
    took-good =
        let s = same_number in
        record {
          few = rw length-append (omega arith);
          one = rw length-append (omega arith);
          heads = rw (
            map-append,
            take-append-le (number h) (map (λ (t : Taking). t.head) h.takings) _ (rw length-map g.few),
          ) g.heads;
          once = λ t. took-once t (ℕ_discrete t (number h));
          read = λ t. took-read t (ℕ_discrete t (number h));
          blamed = g.blamed;
          bytes = g.bytes;
        }
