-- The outcomes of a transfer of a card that is lent, of either direction: by the checks and the queue, in terms of the small state and
-- the words.
use mathlib.Core.Path.{◌≡◌, ◌∙◌, refl, sym}
use mathlib.Core.List.{List}
use mathlib.Core.Bool.{Bool, true, false, cond}
use Prim.Native.Nat.{ℕ, ◌-◌, ◌<◌}
use lib.Dec.{eqb}
use borrow.Author.Tests.{ne_eqb}
use lib.ListN.{length, set, length-set}
use Rattle.registers.specs.Answers.{done}
use Rattle.registers.specs.Fit.{FitRegisters}
use Rattle.registers.specs.declared.Registers.{Registers}
use Rattle.card.specs.declared.Parts.{Parts}
use Rattle.live.specs.Setters.{with_registers, with_backlogs}
use Rattle.live.specs.declared.Live.{Live}
use Rattle.live.proofs.Laws.{board-with-registers}
use Rattle.live.proofs.Streams.{board-with-backlogs}
use Rattle.message.specs.Message.{direction_of}
use Rattle.message.specs.declared.Direction.{Direction}
use Rattle.message.specs.declared.Direction.TheVariants.{Output, Input}
use Rattle.flow.specs.declared.Job.TheVariants.{Transfer}
use Rattle.line_taking.specs.declared.Progress.{Progress}
use Rattle.line_calls.specs.Streams.{first_of}
use Rattle.meaning.specs.Fit.{streams_live}
use Rattle.meaning.proofs.Words.{relaid}
use Rattle.stream.specs.Queue.{RunsOn, card_with, FitsWith}
use Rattle.stream.proofs.Fits.{board-with, progressed-fits}
use Rattle.pcm.specs.declared.TransferAnswer.{TransferAnswer}
use Rattle.pcm.specs.Entry.{refusal_of, RefusesOn, registers_after, untouched_by, worked_answer}
use Rattle.pcm.specs.Entry.{with_backlog_at, remembered_by, MovesOn, TransfersOn}
use Rattle.pcm.proofs.Backlog.{remembered-says, noted_in}
use Rattle.pcm.proofs.Outcomes.{registers-fit, transfer-refused, transfer-worked}

-- ---- the cards of a small state, by the direction

module _ (l : Live) (p : Parts) (ws other : List ℕ) where
  -- what the checks say
  refuses-in : (d : Direction) (m : List ℕ) (len id number : ℕ) → RefusesOn l (direction_of d) len id number → length m ≡ len
      → FitsWith d l p ws other → refusal_of (card_with d l p ws other) (direction_of d) id m ≡ number
  refuses-in Output m len id number h e f = sym (h p ws other m f e)
  refuses-in Input m len id number h e f = sym (h p other ws m f e)

  -- with other registers, and other backlogs
  with-registers : (d : Direction) → FitsWith d l p ws other → (r : Registers) → FitRegisters r → FitsWith d (with_registers r l) p ws other
  with-registers Output f r g = record { board = board-with-registers l p f.board r g; play = f.play; capture = f.capture }
  with-registers Input f r g = record { board = board-with-registers l p f.board r g; play = f.play; capture = f.capture }

  with-backlogs : (d : Direction) → FitsWith d l p ws other → (bs : List ℕ) → length bs ≡ 6 → FitsWith d (with_backlogs bs l) p ws other
  with-backlogs Output f bs n = record { board = board-with-backlogs l p f.board bs n; play = f.play; capture = f.capture }
  with-backlogs Input f bs n = record { board = board-with-backlogs l p f.board bs n; play = f.play; capture = f.capture }

-- ---- the outcomes

module _ (d : Direction) (id backlog : ℕ) (l : Live) (ws m host : List ℕ) (refused : ℕ)
    (h : RefusesOn l (direction_of d) (length m) id refused) where
  lent-refused : (refused ≡ 0 → ⊥) → MovesOn d id backlog l ws m host ws m host (untouched_by refused l)
  lent-refused n p other f =
      let b = board-with l p ws other d f in
      (transfer-refused d id backlog l p ws other b m host refused (refuses-in l p ws other d m (length m) id refused h refl f) n, f)

  lent-worked : refused ≡ 0 → length m ≡ l.ram_len → (ws' m' host' : List ℕ) (g : Progress)
      → RunsOn d backlog (id - first_of (streams_live l) (direction_of d)) Transfer l ws m host ws' m' host' g
      → MovesOn d id backlog l ws m host ws' m' host' (worked_answer d g l)
  lent-worked ok long ws' m' host' g s p other f =
      let b = board-with l p ws other d f in
      let e = refuses-in l p ws other d m (length m) id refused h refl f ∙ ok in
      let after = registers_after g l.registers in
      let fit = registers-fit d id backlog l p ws other b m host e ws' m' host' g s in (
        transfer-worked d id backlog l p ws other b m host e ws' m' host' g s,
        progressed-fits (with_registers after l) p ws other backlog g ws' d (with-registers l p ws other d f after fit)
            (relaid (direction_of d) _ _ _ _ ws' g.counters l.ram_len (rw long at s.fit)),
      )

-- ---- the backlog remembered

module _ (l : Live) (p : Parts) (ws other : List ℕ) (six : length l.backlogs ≡ 6) (id backlog : ℕ) (there : id < 6) where
  noted-with : (d : Direction) (b : Bool)
      → cond b (with_backlog_at id backlog (card_with d l p ws other)) (card_with d l p ws other)
      ≡ card_with d (with_backlogs (cond b (set l.backlogs id backlog) l.backlogs) l) p ws other
  noted-with Output b = noted_in l p ws other six backlog id b there
  noted-with Input b = noted_in l p other ws six backlog id b there

six-kept : (b : Bool) (bs : List ℕ) (i v : ℕ) → length (cond b (set bs i v) bs) ≡ length bs
six-kept true bs i v = length-set bs i v
six-kept false bs i v = refl

-- a transfer whose backlog is remembered is the call
lent-remembered : (d : Direction) (id backlog : ℕ) → id < 6 → (l : Live) (ws m host ws' m' host' : List ℕ) (t : TransferAnswer)
    → MovesOn d id backlog l ws m host ws' m' host' t
    → TransfersOn d id backlog l ws m host ws' m' host' (remembered_by id backlog t)
lent-remembered d id backlog there l ws m host ws' m' host' t moves p other f =
    let e = moves p other f in
    let b = eqb t.answer.number done in
    let six = (board-with t.live p ws' other d e.1).live.backlogs in (
      remembered-says (direction_of d) id backlog (card_with d l p ws other) host m (card_with d t.live p ws' other) t.answer t.count
          _ _ m' e.0
          ∙ rw (noted-with t.live p ws' other six id backlog there d b),
      with-backlogs t.live p ws' other d e.1 _ (six-kept b t.live.backlogs id backlog ∙ six),
    )

-- ---- the calls

module _ (d : Direction) (id backlog : ℕ) (l : Live) (ws m host : List ℕ) (refused : ℕ)
    (h : RefusesOn l (direction_of d) (length m) id refused) where
  -- a refused call is not remembered
  pub call-refused : (refused ≡ 0 → ⊥) → TransfersOn d id backlog l ws m host ws m host (untouched_by refused l)
  call-refused n p other f =
      let e = lent-refused d id backlog l ws m host refused h n p other f in
      let c = card_with d l p ws other in
      (remembered-says (direction_of d) id backlog c host m c _ 0 _ _ m e.0 ∙ rw (ne_eqb refused done n), f)

  pub call-worked : refused ≡ 0 → length m ≡ l.ram_len → id < 6 → (ws' m' host' : List ℕ) (g : Progress)
      → RunsOn d backlog (id - first_of (streams_live l) (direction_of d)) Transfer l ws m host ws' m' host' g
      → TransfersOn d id backlog l ws m host ws' m' host' (remembered_by id backlog (worked_answer d g l))
  call-worked ok long there ws' m' host' g s =
      lent-remembered d id backlog there l ws m host ws' m' host' (worked_answer d g l)
      (lent-worked d id backlog l ws m host refused h ok long ws' m' host' g s)
