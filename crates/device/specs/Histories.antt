-- 01, The play queue's account, of the messages of one line whose chains were read: histories without bound. Takings, used entries and
-- handed bytes are lists; how many were taken or completed is the length of a list; the message in work is the first taking without an
-- entry.
use Rattle.std.specs.Prelude.{Option, None, cond, List, [], ◌∷◌, ◌++◌, map, ℕ, ◌+◌, ◌-◌, eqb, drop, get_or}
use Rattle.std.proofs.Math.ListN.{length}
use Rattle.ranges.specs.Ranges.{up_from}
use Rattle.device.specs.Device.{Direction, Taking, nobody, Ending, finished}
use Rattle.device.specs.Transfer.{payload_of, status_of, used_length}

-- a used entry: the head it names, its length, why the message was completed, the status it was given and the latency beside that
pub record Entry : Type 0 where
  pub head : ℕ
  pub length : ℕ
  pub ending : Ending
  pub status : Option ℕ
  pub latency : ℕ

-- position `pos` of the payload of taking number `of` was handed on (for capture, recorded): its address, and the byte. "A payload position
-- is a place in the payload, no address."
pub record Note : Type 0 where
  pub of : ℕ
  pub pos : ℕ
  pub from : ℕ
  pub byte : ℕ

-- a position that a Release gave up: "positions not handed are given up"
pub record Loss : Type 0 where
  pub of : ℕ
  pub pos : ℕ

pub record History : Type 0 where
  pub takings : List Taking
  pub entries : List Entry
  pub notes : List Note
  pub losses : List Loss

abbrev pub blank : History
blank = record { takings = []; entries = []; notes = []; losses = [] }

-- what stands past the end of the entries
abbrev pub unanswered : Entry
unanswered = record { head = 0; length = 0; ending = finished; status = None; latency = 0 }

-- of the elements with this key, in order, the values
abbrev pub only : {A : Type 0} → (A → ℕ) → (A → ℕ) → ℕ → List A → List ℕ
only key val t [] = []
only key val t (x ∷ xs) = cond (eqb (key x) t) (val x ∷ only key val t xs) (only key val t xs)

-- the positions of taking t that were handed on, their addresses, and the positions given up
abbrev pub handed_of : ℕ → List Note → List ℕ
handed_of t l = only (λ (n : Note). n.of) (λ n. n.pos) t l

abbrev pub addresses_of : ℕ → List Note → List ℕ
addresses_of t l = only (λ (n : Note). n.of) (λ n. n.from) t l

abbrev pub lost_of : ℕ → List Loss → List ℕ
lost_of t l = only (λ (n : Loss). n.of) (λ n. n.pos) t l

-- how many were completed, which is the number of the taking in work
abbrev pub number : History → ℕ
number h = length h.entries

abbrev pub current : History → Taking
current h = get_or h.takings (number h) nobody

unfoldable pub handed_now : History → ℕ
handed_now h = length (handed_of (number h) h.notes)

-- these bytes, at these addresses, from position p of taking t on
abbrev pub notes_of : ℕ → ℕ → List ℕ → List ℕ → List Note
notes_of t p bytes [] = []
notes_of t p bytes (x ∷ xs) = record { of = t; pos = p; from = x; byte = get_or bytes 0 0 } ∷ notes_of t (p + 1) (drop 1 bytes) xs

abbrev pub losses_of : ℕ → List ℕ → List Loss
losses_of t ps = map (λ (p : ℕ). record { of = t; pos = p }) ps

module _ (d : Direction) where
  -- "the rest wait": the positions of the message in work that were not handed
  unfoldable pub waiting : History → List ℕ
  unfolding handed_now
  waiting h = up_from (handed_now h) (length (payload_of d (current h)) - handed_now h)

  unfoldable pub took : Taking → History → History
  took t h = record { takings = h.takings ++ t ∷ []; entries = h.entries; notes = h.notes; losses = h.losses }

  -- "A position handed notes the byte memory then holds"
  unfoldable pub noted : List ℕ → List ℕ → History → History
  unfolding handed_now
  noted bytes xs h =
      record {
        takings = h.takings;
        entries = h.entries;
        notes = h.notes ++ notes_of (number h) (handed_now h) bytes xs;
        losses = h.losses;
      }

  -- the taking in work gets its entry; what still waits is given up
  unfoldable pub with_entry : Ending → ℕ → History → History
  unfolding waiting
  with_entry e latency h =
      record {
        takings = h.takings;
        entries =
            h.entries
            ++ record {
              head = (current h).head;
              length = used_length d (status_of d e (current h).form) (handed_now h);
              ending = e;
              status = status_of d e (current h).form;
              latency = latency;
            }
            ∷ [];
        notes = h.notes;
        losses = h.losses ++ losses_of (number h) (waiting h);
      }
