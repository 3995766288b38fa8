-- A front read, opened and worked, in the rules' terms.
use mathlib.Core.Path.{◌≡◌, ◌∙◌, refl, sym, ap}
use mathlib.Core.Logic.{◌≢◌}
use mathlib.Core.Bool.{Bool, true, false, true≢false}
use mathlib.Core.List.{List, ◌∷◌}
use Prim.Native.Nat.{ℕ, ◌-◌, ◌<◌}
use native.Mathlib.Omega.{arith}
use borrow.Author.Tests.{ltb-true, ltb-false, lt-ltb, le-ltb, ne_eqb}
use lib.ListN.{length}
use Rattle.card.specs.Fit.{FitMessage}
use Rattle.flow.specs.Flow.{run_of, reaches_of, job_worked}
use Rattle.flow.specs.declared.Flow.{Flow}
use Rattle.flow.specs.declared.Job.{Job}
use Rattle.flow.specs.declared.Job.TheVariants.{Transfer, Release}
use Rattle.message.specs.Message.{form_in, taking_in, answered_of, FitTaken}
use Rattle.message.specs.declared.Form.{Form}
use Rattle.message.specs.declared.Form.TheVariants.{WellFormed, Refused, Silent, Unwalked}
use Rattle.message.specs.declared.Taken.{Taken}
use Rattle.waiting.specs.Waiting.{heads_in, heads_from}
use Rattle.device.specs.Device as device
use Rattle.device.specs.Transfer.{Run, is_well, completed}
use Rattle.queue_lines.specs.Chains.{Virtqueue, reading_of}
use Rattle.queue_lines.specs.Counters.{Line}
use Rattle.queue_lines.specs.Rules.{times}
use Rattle.queue_lines.proofs.Lists.{times-fixed}
use Rattle.line_chains.specs.Queue.{single, refused_of}
use Rattle.line_words.specs.Slots.{chain_in, ring_in}
use Rattle.line_work.specs.Work.{Station, lifted, job_step, read_run, open_run, opened, begun_flow, refused_flow, station_of, Aside}
use Rattle.line_work.specs.declared.Front.{Front}
use Rattle.line_work.proofs.Lift.{reachable, step-up, step-none}

-- ---- a front that is read

-- a well-formed message begun
pub begun-fit : (len : ℕ) (ws : List ℕ) (t : Taken) (f : Flow) → t.form ≡ WellFormed → FitTaken len ws t
    → FitMessage len ws (begun_flow t f).message
begun-fit len ws t f w g =
    record {
      one = omega arith;
      idle = λ z. absurd (omega (arith, z));
      request = g.request;
      reply = g.reply;
      few = g.few;
      short-request = g.short-request;
      short-reply = g.short-reply;
      moved = omega arith;
      request-inside = g.request-inside w;
      reply-inside = g.reply-inside w;
    }

pub well-only : (form : Form) → is_well (form_in form) ≡ true → form ≡ WellFormed
well-only WellFormed e = refl
well-only Refused e = absurd (true≢false (sym e))
well-only Silent e = absurd (true≢false (sym e))
well-only (Unwalked f) e = absurd (true≢false (sym e))

module _ (v : Virtqueue) (ws m host : List ℕ) (f : Flow) where
  pub begun-read : (t : Taken) → t.form ≡ WellFormed → run_of ws (begun_flow t f) m host ≡ read_run v (taking_in ws t) (run_of ws f m host)
  unfolding run_of read_run
  begun-read t w = rw w

  pub refused-read : (t : device.Taking) → f.message.count ≡ 0 → is_well t.form ≡ false
      → run_of ws (refused_flow (refused_of v m f.counters.completed t) f) (refused_of v m f.counters.completed t).memory host
      ≡ read_run v t (run_of ws f m host)
  unfolding run_of read_run completed answered_of
  refused-read t free ill = rw (ill, free)

  -- .. as memory has its chain
  pub read-open : (i head : ℕ) (t : device.Taking) → t ≡ reading_of v i m head
      → read_run v t (run_of ws f m host) ≡ open_run v i head (run_of ws f m host)
  unfolding run_of
  read-open i head t e = rw e

-- ---- a front that is opened

module _ (v : Virtqueue) (i : ℕ) (s m host : List ℕ) (t : Front) where
  pub open-busy : t.flow.message.count ≢ 0 → station_of s t m host ≡ opened v i (station_of s t m host)
  unfolding opened run_of
  open-busy h = rw (ne_eqb _ _ h)

  pub open-vacant : t.flow.message.count ≡ 0 → t.line.count ≡ 0 → station_of s t m host ≡ opened v i (station_of s t m host)
  unfolding opened run_of heads_from
  open-vacant h e = rw (h, e)

  pub open-read : (head : ℕ) (heads : List ℕ) → t.flow.message.count ≡ 0 → heads_in (ring_in s) t.line ≡ head ∷ heads
      → record { heads = heads; run = open_run v i head (run_of (chain_in s) t.flow m host) } ≡ opened v i (station_of s t m host)
  unfolding opened run_of
  open-read head heads h e = rw (h, e)

pub aside_none : (s : List ℕ) → Aside s s
aside_none s = record { marks = refl; ring = refl; long = refl }

pub aside-both : (s s' s'' : List ℕ) → Aside s s' → Aside s' s'' → Aside s s''
aside-both s s' s'' a b = record { marks = b.marks ∙ a.marks; ring = b.ring ∙ a.ring; long = b.long ∙ a.long }

-- ---- a turn

reach-room : (job : Job) (moved room : ℕ) (b : Bool) → reaches_of job moved room ≡ b → reachable job (room - moved) ≡ b
reach-room Transfer moved room true e = lt-ltb 0 (room - moved) (omega (arith, ltb-true moved room e))
reach-room Transfer moved room false e = le-ltb 0 (room - moved) (omega (arith, ltb-false moved room e))
reach-room Release moved room b e = e

module _ (v : Virtqueue) (i : ℕ) (job : Job) (s m host : List ℕ) (t : Front) (lines : List Line) (there : i < length lines) where
  reach-station : (b : Bool) → reaches_of job t.flow.moved (length host) ≡ b → reachable job (station_of s t m host).run.room ≡ b
  unfolding run_of
  reach-station b e = reach-room job t.flow.moved (length host) b e

  -- the front is opened, then worked
  pub turn_up : (s' m' : List ℕ) (o : Front) (m'' host'' : List ℕ) (f : Flow) → reaches_of job t.flow.moved (length host) ≡ true
      → station_of s' o m' host ≡ opened v i (station_of s t m host)
      → run_of (chain_in s') f m'' host'' ≡ job_worked job (single v) (run_of (chain_in s') o.flow m' host)
      → lifted lines i (station_of s' (record { flow = f; line = o.line }) m'' host'')
      ≡ job_step job v i (lifted lines i (station_of s t m host))
  turn_up s' m' o m'' host'' f reach e w =
      ap (λ (r : Run device.Queue). lifted lines i (record { heads = heads_in (ring_in s') o.line; run = r })) w
      ∙ ap (λ (z : Station). lifted lines i (record { heads = z.heads; run = job_worked job (single v) z.run })) e
      ∙ sym (step-up v lines i there job (station_of s t m host) (reach-station true reach))

  -- out of reach nothing is left to do
  pub turn-none : (n : ℕ) → reaches_of job t.flow.moved (length host) ≡ false
      → lifted lines i (station_of s t m host) ≡ times (job_step job v i) n (lifted lines i (station_of s t m host))
  turn-none n e = sym (times-fixed (job_step job v i) n _ (step-none v lines i there job (station_of s t m host) (reach-station false e)))
