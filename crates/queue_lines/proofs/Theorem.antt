-- A transfer, and a Release, of the card and of the account run alike, and do to the histories what is claimed.
use Rattle.std.specs.Prelude.{Result, Option, Ok, Err, Some, None}
use Rattle.ring.specs.declared.Cause.{Cause}
use mathlib.Core.Path.{◌≡◌, refl, sym, ap, ◌∙◌}
use mathlib.Core.List.{List, [], ◌∷◌, ◌++◌, map, map-append}
use Prim.Native.Nat.{ℕ}
use native.Mathlib.Decide.{ℕ_discrete}
use borrow.Author.Tests.{eq-eqb}
use lib.ListN.{drop}
use Rattle.device.specs.Account.{Grows}
use Rattle.device.specs.Claim.{work_of}
use Rattle.device.specs.Device.{Direction, Ending, finished, released, Message}
use Rattle.device.specs.Histories.{Note}
use Rattle.device.specs.Transfer.{Run, begun}
use Rattle.queue_lines.specs.Chains.{Virtqueue}
use Rattle.queue_lines.specs.Claim.{account, card, queue_of, Good, also}
use Rattle.queue_lines.specs.Histories.{History, line_at}
use Rattle.queue_lines.specs.Rules.{Ops, stopped, transfer_run, release_run, found, on_found, transferred, emptied}
use Rattle.queue_lines.specs.Turn.{Waits, Ordered, Book, start, Turn}
use Rattle.queue_lines.proofs.Added.{acts-add, acts-answer, acts-order}
use Rattle.queue_lines.proofs.Histories.{pair}
use Rattle.queue_lines.proofs.Keeps.{also-none}
use Rattle.queue_lines.proofs.Natural.{transferred-same, emptied-same, begun-right, begun-fine}
use Rattle.queue_lines.proofs.Traced.{Taking', stopped-told, Told, Done, taking-done, transfer_run-done, release_run-done}

module _ (v : Virtqueue) (i : ℕ) (said : ℕ → List ℕ) (h : History) (m : List ℕ) (good : Good v.direction v.streams said h)
    (book : Book v.direction h) where
  abbrev d : Direction
  d = v.direction

  abbrev ops : Ops History
  ops = account v

  -- by what the call's check finds
  module _ (call : Ending) (g : List ℕ → ℕ → List ℕ) (host : List ℕ) where
    found-done :
        (run : ℕ → Run History → Run History)
        → ((new : ℕ) (s : Run History) → Taking' v i m h g host s → Done v i call m h g host (run new s))
        → (c : Result (Option ℕ) Cause) (s : Run History)
        → Taking' v i m h g host s
        → Done v i call m h g host (on_found ops v run s c)
    found-done run k (Ok None) s p = taking-done v i call m h g host s p
    found-done run k (Err cause) s p = taking-done v i call m h g host (stopped cause s) (stopped-told v i m h g host cause s p)
    found-done run k (Ok (Some n)) s p = k n s p

    -- the book after a call
    told-book : (s : Run History) → Told v i call m h g host s → Book d s.queue
    told-book s p =
        record {
          answers = acts-answer v i call host m h p.acts book.answers;
          in-work = λ j w e. in-work j w e (ℕ_discrete j i);
          in_order = λ j. in_order j (ℕ_discrete j i);
        }
      where
        in_order : (j : ℕ) → Dec (j ≡ i) → Ordered (line_at s.queue j).story
        in_order j (yes q) = rw q (acts-order v i call host m h p.acts (book.in_order i))
        in_order j (no n) = rw ((acts-add v i call host m h p.acts).others j n).story (book.in_order j)

        in-work : (j : ℕ) (w : Message) → work_of (line_at s.queue j).story ≡ Some w → Dec (j ≡ i) → Waits d w
        in-work j w e (yes q) = p.waits w (rw q at e)
        in-work j w e (no n) =
            book.in-work j w (rw ((acts-add v i call host m h p.acts).others j n).story at e)

  -- what was said of the line before, and what was said in this call
  append-same : (xs ys zs : List ℕ) → xs ++ ys ≡ xs ++ zs → ys ≡ zs
  append-same [] ys zs e = e
  append-same (x ∷ xs) ys zs e = append-same xs ys zs (ap (drop 1) e)

  abbrev byte_of : Note → ℕ
  byte_of x = x.byte

  -- the bytes noted are those moved
  told-handed :
      (q : History) (bytes : List ℕ) (a : Grows (line_at h i).story.notes (line_at q i).story.notes)
      → Good d v.streams (also i said bytes) q
      → map (λ (x : Note). x.byte) a.added ≡ bytes
  told-handed q bytes a g =
      append-same (said i) (map (λ (x : Note). x.byte) a.added) bytes
      (ap (λ (l : List ℕ). l ++ map byte_of a.added) (sym (good.line i).story.bytes)
      ∙ sym (map-append byte_of (line_at h i).story.notes a.added)
      ∙ ap (map byte_of) (sym a.is)
      ∙ (g.line i).story.bytes
      ∙ rw (eq-eqb i i refl))

  -- ---- a transfer

  module _ (host : List ℕ) where
    transfer-done : Done v i finished m h (also i said) host (transferred ops v i h m host)
    unfolding transferred
    transfer-done =
        found-done finished (also i said) host (transfer_run ops v i) (transfer_run-done v i m h said host) (found ops v h m)
        (begun h m host)
        (record {
          fine = begun-right v (pair v) said i h m good host;
          takes = start;
          mute = refl;
          waits = book.in-work i;
        })

    pub transfer-turn : Turn v i finished said m host h (transferred (card v) v i (queue_of h) m host) (transferred ops v i h m host)
    transfer-turn =
        record {
          same = transferred-same v (pair v) said i h m good host;
          acts = transfer-done.told.acts;
          broke = transfer-done.broke;
          adds = acts-add v i finished host m h transfer-done.told.acts;
          handed =
              told-handed (transferred ops v i h m host).queue (transferred ops v i h m host).bytes
              (acts-add v i finished host m h transfer-done.told.acts).own.notes transfer-done.told.fine.kept;
          good = transfer-done.told.fine.kept;
          book = told-book finished (also i said) host (transferred ops v i h m host) transfer-done.told;
        }

  -- ---- a Release

  release-done : Done v i released m h (λ bytes. said) [] (emptied ops v i h m)
  unfolding emptied
  release-done =
      found-done released (λ bytes. said) [] (release_run ops v i) (release_run-done v i released m h (λ bytes. said) [] refl)
      (found ops v h m) (begun h m [])
      (record {
        fine = begun-fine v (pair v) said i h m good;
        takes = start;
        mute = refl;
        waits = book.in-work i;
      })

  pub release-turn : Turn v i released said m [] h (emptied (card v) v i (queue_of h) m) (emptied ops v i h m)
  release-turn =
      let a = acts-add v i released [] m h release-done.told.acts in
      let g : Good d v.streams (also i said (emptied ops v i h m).bytes) (emptied ops v i h m).queue =
      rw (a.mute refl) (also-none d v.streams said (emptied ops v i h m).queue i release-done.told.fine.kept) in
      record {
        same = emptied-same v (pair v) said i h m good;
        acts = release-done.told.acts;
        broke = release-done.broke;
        adds = a;
        handed = told-handed (emptied ops v i h m).queue (emptied ops v i h m).bytes a.own.notes g;
        good = g;
        book = told-book released (λ bytes. said) [] (emptied ops v i h m) release-done.told;
      }
