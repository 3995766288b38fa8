-- A job on a queue of a card that is lent, in terms of the small state and the words.
use mathlib.Core.Path.{◌≡◌, ◌∙◌, refl, sym, ap}
use mathlib.Core.Bool.{Bool}
use mathlib.Core.List.{List}
use Prim.Native.Nat.{ℕ}
use lib.ListN.{length}
use Rattle.card.specs.declared.Counters.{Counters}
use Rattle.card.specs.declared.Parts.{Parts}
use Rattle.live.specs.declared.Live.{Live}
use Rattle.device.specs.Device as rules
use Rattle.device.specs.Transfer.{Run}
use Rattle.message.specs.Message.{direction_of}
use Rattle.message.specs.declared.Direction.{Direction}
use Rattle.message.specs.declared.Direction.TheVariants.{Output, Input}
use Rattle.queue_lines.specs.Chains.{Virtqueue}
use Rattle.queue_lines.specs.Claim.{card}
use Rattle.queue_lines.specs.Counters.{Queue}
use Rattle.queue_lines.specs.Rules.{emptied}
use Rattle.flow.specs.declared.Job.{Job}
use Rattle.flow.specs.declared.Job.TheVariants.{Release}
use Rattle.line_chains.specs.Queue as chains
use Rattle.line_chains.specs.declared.LineQueue.{LineQueue}
use Rattle.line_words.specs.Slots.{queue_in}
use Rattle.line_taking.specs.Progress.{run_with}
use Rattle.line_taking.specs.declared.Progress.{Progress}
use Rattle.line_queue.specs.Between.{FitLines}
use Rattle.line_queue.specs.Runs.{ran_of, Ran}
use Rattle.meaning.specs.Card.{queue_with, rest_of, device_of}
use Rattle.meaning.specs.Fit.{dropped_live, counters_live}
use Rattle.meaning.proofs.Words.{words-relaid}
use Rattle.stream.specs.Queue.{line_queue_in, virtqueue_in, Settles, RunsOn, progress_live, card_with, FitsWith, FitOwn}
use Rattle.stream.specs.Queue.{emptied_in, Empties, EmptiesOn}
use Rattle.stream.proofs.Fits.{board-with, progressed-fits}
use Rattle.stream.proofs.Laws.{virtqueue-in, queue-in, progressed, queue-for-with}
use Rattle.stream.proofs.Settled.{settled-queue, settled-fit}

-- ---- a job, by what the code knows of the queue

module _ (d : Direction) (latency : ℕ) (l : Live) (ws ws₁ : List ℕ) (q : LineQueue) (c : Counters) (dropped : Bool)
    (laid : q ≡ line_queue_in l d latency) (counts : c ≡ counters_live (direction_of d) l)
    (drops : dropped ≡ dropped_live (direction_of d) l)
    (s : Settles (chains.virtqueue_of q) dropped ws ws₁) where
  settles : Settles (virtqueue_in l d latency) (dropped_live (direction_of d) l) ws ws₁
  settles = rw (laid, drops) at s

  pub own-lines : (len : ℕ) → FitOwn d l ws → len ≡ l.ram_len → FitLines (chains.virtqueue_of q) len ws₁ c
  own-lines len f e =
      rw (laid, counts, e)
      (settled-fit (virtqueue_in l d latency) ws ws₁ _ l.ram_len _ (words-relaid (direction_of d) _ _ _ _ ws _ l.ram_len _ f.1)
      settles)

  pub runs_by : (line : ℕ) (job : Job) (m host ws' m' host' : List ℕ) (r : Progress)
      → Ran (chains.virtqueue_of q) line job ws₁ m host c ws' m' host' r
      → RunsOn d latency line job l ws m host ws' m' host' r
  runs_by line job m host ws' m' host' r t =
      let v = virtqueue_in l d latency in
      let u : Ran v line job ws₁ m host (counters_live (direction_of d) l) ws' m' host' r = rw (laid, counts) at t in
      record {
        run = u.run ∙ ap (λ (x : Queue). ran_of job v line x m host) (settled-queue v ws ws₁ _ _ settles);
        fit = u.fit;
        inside = u.inside;
        long = u.long;
        host-long = u.host-long;
        read = u.read;
      }

-- ---- in every card with this small state and these words

-- a job changes its queue alone
kept : (d : Direction) (r : Progress) (l : Live) (p : Parts) (ws ws' other : List ℕ) → let c = card_with d l p ws other in
    let n = card_with d (progress_live d r l) p ws' other in
    (n.ram_len ≡ c.ram_len) × (n.registers ≡ c.registers) × (n.parts ≡ c.parts)
kept Output r l p ws ws' other = (refl, refl, refl)
kept Input r l p ws ws' other = (refl, refl, refl)

module _ (d : Direction) (line latency : ℕ) (l : Live) (ws m host ws' m' host' : List ℕ) (r : Progress)
    (s : RunsOn d latency line Release l ws m host ws' m' host' r) (long : length m ≡ l.ram_len) where
  -- the rules' run
  abbrev ended : Run Queue
  ended =
      let v = virtqueue_in l d latency in
      emptied (card v) v line (queue_with v (dropped_live (direction_of d) l) ws (counters_live (direction_of d) l)) m

  -- what the job leaves of it
  left : (queue_in (virtqueue_in l d latency) ws' r.counters ≡ ended.queue) × (m' ≡ ended.mem) × (r.stop ≡ ended.stop)
      × (r.signal ≡ ended.signal)
  unfolding run_with queue_in
  left = (
    ap (λ (x : Run Queue). x.queue) s.run,
    ap (λ (x : Run Queue). x.mem) s.run,
    ap (λ (x : Run Queue). x.stop) s.run,
    ap (λ (x : Run Queue). x.signal) s.run,
  )

  module _ (p : Parts) (other : List ℕ) (f : FitsWith d l p ws other) where
    emptied-in : emptied_in (direction_of d) line latency (card_with d l p ws other) m ≡ ended
    emptied-in =
        let b = board-with l p ws other d f in
        let v = virtqueue_in l d latency in
        ap (λ (x : Virtqueue). emptied (card x) x line (rules.queue_for (direction_of d) (device_of (card_with d l p ws other))) m)
        (virtqueue-in l p ws other b latency d)
        ∙ ap (λ (x : Queue). emptied (card v) v line x m) (queue-in l p ws other b latency d)

    queue-after : rules.queue_for (direction_of d) (device_of (card_with d (progress_live d r l) p ws' other))
        ≡ queue_in (virtqueue_in l d latency) ws' r.counters
    queue-after =
        ap (rules.queue_for (direction_of d)) (progressed l p ws other (board-with l p ws other d f) latency r ws' d)
        ∙ queue-for-with (direction_of d) _ _ _

    empties : Empties (direction_of d) line latency (card_with d l p ws other) m m' r.stop r.signal
        (card_with d (progress_live d r l) p ws' other)
    empties =
        let k = kept d r l p ws ws' other in
        record {
          queue = ap (λ (x : Run Queue). x.queue) emptied-in ∙ sym left.0 ∙ sym queue-after;
          memory = ap (λ (x : Run Queue). x.mem) emptied-in ∙ sym left.1;
          stops = ap (λ (x : Run Queue). x.stop) emptied-in ∙ sym left.2;
          signals = ap (λ (x : Run Queue). x.signal) emptied-in ∙ sym left.3;
          device =
              progressed l p ws other (board-with l p ws other d f) latency r ws' d
              ∙ ap (λ x. rules.with_queue (direction_of d) (rest_of (card_with d l p ws other)) x (device_of (card_with d l p ws other)))
              (sym queue-after);
          ram = k.0;
          registers = k.1;
          parts = k.2;
          long = s.long;
        }

  -- a Release empties the line
  pub lent-emptied : EmptiesOn d line latency l ws m ws' m' (record { stop = r.stop; signal = r.signal; live = progress_live d r l })
  lent-emptied p other f =
      (empties p other f, progressed-fits l p ws other latency r ws' d f (rw long at s.fit))
