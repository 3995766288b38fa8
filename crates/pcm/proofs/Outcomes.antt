-- The outcomes of a transfer, of either direction, each as the rules' step.
use mathlib.Core.Path.{◌≡◌, refl, sym, ◌∙◌, ap}
use mathlib.Core.List.{List, []}
use Prim.Native.Nat.{ℕ, ◌-◌}
use native.Mathlib.Omega.{arith}
use lib.ListN.{length, take, drop, length-take}
use Rattle.registers.specs.Answers.{plain}
use Rattle.registers.specs.Fit.{FitRegisters}
use Rattle.card.specs.declared.Card.{Card}
use Rattle.card.specs.declared.Parts.{Parts}
use Rattle.live.specs.Live.{FitBoard}
use Rattle.live.specs.Setters.{with_registers}
use Rattle.live.specs.declared.Live.{Live}
use Rattle.live.proofs.Laws.{board-with-registers}
use Rattle.message.specs.Message.{direction_of}
use Rattle.message.specs.declared.Direction.{Direction}
use Rattle.message.specs.declared.Direction.TheVariants.{Output, Input}
use Rattle.device.specs.Answers.{answer_by}
use Rattle.device.specs.Device as rules
use Rattle.device.specs.Transfer.{Run, transferred_by}
use Rattle.rules.specs.Calls.{host_after, transfer_step, untouched}
use Rattle.queue_lines.specs.Chains.{Virtqueue, line_of}
use Rattle.queue_lines.specs.Claim.{card}
use Rattle.queue_lines.specs.Counters.{Queue}
use Rattle.queue_lines.specs.Rules.{transferred}
use Rattle.flow.specs.declared.Job.TheVariants.{Transfer}
use Rattle.line_words.specs.Slots.{queue_in}
use Rattle.line_taking.specs.Progress.{run_in, run_with}
use Rattle.line_taking.specs.declared.Progress.{Progress}
use Rattle.line_calls.specs.Streams.{first_of}
use Rattle.meaning.specs.Card.{queue_with, rest_of, device_of, leaves}
use Rattle.meaning.specs.Fit.{streams_live, dropped_live, counters_live}
use Rattle.stream.specs.Queue.{virtqueue_in, RunsOn, card_with}
use Rattle.stream.proofs.Fits.{signal-fit, broken-by-fit}
use Rattle.stream.proofs.Laws.{virtqueue-in, queue-in, progressed}
use Rattle.pcm.specs.Entry.{refusal_of, buffer_of, registers_after, worked_live, moved_by}
use Rattle.pcm.proofs.Host.{host-after, transferred-past}
use Rattle.pcm.proofs.Laws.{passed, refused-transfer, passed-transfer}

module _ (way : Direction) (id backlog : ℕ) (l : Live) (p : Parts) (ws other : List ℕ) (f : FitBoard l p) (m host : List ℕ) where
  abbrev d : rules.Direction
  d = direction_of way

  abbrev c : Card
  c = card_with way l p ws other

  abbrev v : Virtqueue
  v = virtqueue_in l way backlog

  -- nothing moved
  unmoved : (a : ℕ) → transfer_step d host (device_of c) (untouched (plain a) (rest_of c).registers (rules.queue_for d (device_of c)) m)
      ≡ leaves c (plain a) 0 [] (buffer_of d host) m
  unfolding transfer_step device_of rest_of
  unmoved a = by d where
    by : (e : rules.Direction)
        → transfer_step e host (device_of c) (untouched (plain a) (rest_of c).registers (rules.queue_for e (device_of c)) m)
        ≡ leaves c (plain a) 0 [] (buffer_of e host) m
    by rules.output = refl
    by rules.input = refl

  -- refused by a check
  pub transfer-refused : (a : ℕ) → refusal_of c d id m ≡ a → (a ≡ 0 → ⊥)
      → moved_by d id backlog c host m ≡ leaves c (plain a) 0 [] (buffer_of d host) m
  transfer-refused a h n = ap (transfer_step d host (device_of c)) (refused-transfer c d id backlog m host a h n) ∙ unmoved a

  -- past the checks: what the job leaves
  module _ (ok : refusal_of c d id m ≡ 0) (ws' m' host' : List ℕ) (g : Progress)
      (s : RunsOn way backlog (id - first_of (streams_live l) d) Transfer l ws m host ws' m' host' g) where
    -- the rules' run
    abbrev ran : Run Queue
    ran = transferred (card v) v (line_of v id) (queue_with v (dropped_live d l) ws (counters_live d l)) m host

    passed-run : passed c d id backlog m host ≡ transferred_by (rules.queue_number d) (rest_of c).registers (run_in v ws' g m' host')
    passed-run =
        ap (λ (x : Virtqueue). transferred_by (rules.queue_number d) (rest_of c).registers
        (transferred (card x) x (line_of x id) (rules.queue_for d (device_of c)) m host)) (virtqueue-in l p ws other f backlog way)
        ∙ ap (λ (x : Queue). transferred_by (rules.queue_number d) (rest_of c).registers (transferred (card v) v (line_of v id) x m host))
        (queue-in l p ws other f backlog way)
        ∙ ap (transferred_by (rules.queue_number d) (rest_of c).registers) (sym s.run)

    counted : length (take g.moved host') ≡ g.moved
    counted = rw length-take (omega (arith, s.inside, s.host-long))

    -- the buffer past the bytes is as it was
    kept : drop g.moved host' ≡ drop g.moved host
    unfolding run_with
    kept =
        rw counted at
        (ap (λ (r : Run Queue). r.host) s.run
        ∙ (transferred-past (card v) v host (line_of v id) (queue_with v (dropped_live d l) ws (counters_live d l)) m).past
        ∙ ap (λ (r : Run Queue). drop (length r.bytes) host) (sym s.run))

    buffer : (e : rules.Direction) → host_after e host (take g.moved host') ≡ buffer_of e host'
    buffer rules.output = host-after host host' g.moved s.inside s.host-long kept
    buffer rules.input = refl

    pub registers-fit : FitRegisters (registers_after g l.registers)
    registers-fit =
        broken-by-fit g.stop (rules.signalled_if g.signal l.registers) (signal-fit g.signal l.registers f.live.registers)

    -- with other registers
    abbrev l₁ : Live
    l₁ = with_registers (registers_after g l.registers) l

    after : (w : Direction) → let e = direction_of w in let k = card_with w l p ws other in
        device_of (card_with w (worked_live w g l) p ws' other)
        ≡ rules.with_queue e (rules.with_registers (registers_after g l.registers) (rest_of k))
        (queue_in (virtqueue_in l w backlog) ws' g.counters) (device_of k)
    unfolding device_of rest_of queue_in
    after Output = progressed l₁ p ws other (board-with-registers l p f _ registers-fit) backlog g ws' Output
    after Input = progressed l₁ p ws other (board-with-registers l p f _ registers-fit) backlog g ws' Input

    told : (w : Direction) → let e = direction_of w in let k = card_with w l p ws other in
        transfer_step e host (device_of k) (transferred_by (rules.queue_number e) (rest_of k).registers
        (run_in (virtqueue_in l w backlog) ws' g m' host'))
        ≡ leaves (card_with w (worked_live w g l) p ws' other) (answer_by (rules.queue_number e) g.stop) g.moved (take g.moved host')
        (buffer_of e host') m'
    unfolding transfer_step run_with queue_in device_of rest_of
    told Output = rw (after Output, counted, buffer rules.output)
    told Input = rw (after Input, counted)

    pub transfer-worked : moved_by d id backlog c host m
        ≡ leaves (card_with way (worked_live way g l) p ws' other) (answer_by (rules.queue_number d) g.stop) g.moved
        (take g.moved host') (buffer_of d host') m'
    transfer-worked =
        ap (transfer_step d host (device_of c)) (passed-transfer c d id backlog m host ok ∙ passed-run) ∙ told way
