-- Control messages decided, chains walked and descriptions judged, on small cases, by computation.
use Rattle.std.specs.Prelude.{Option, None, Some}
use mathlib.Core.Path.{◌≡◌, refl}
use mathlib.Core.Bool.{Bool, true, false}
use mathlib.Core.List.{List, [], ◌∷◌, ◌++◌, map}
use Prim.Native.Nat.{ℕ, zero, suc, ◌+◌, ◌-◌, ◌*◌}
use lib.ListN.{length, take, replicate}
use Rattle.chain.specs.Walk.{Outcome, whole, faulted, walk_of}
use Rattle.chain.specs.declared.Fault.TheVariants.{PastTable, TooMany, Order, TooLong, NotNegotiated, WithNext, Nested, TableLength}
use Rattle.chain.specs.declared.Fault.TheVariants.{TableOutside}
use Rattle.description.specs.Lawful.{lawful_stream, lawful_jack, lawful_positions, lawful_map, lawful_counts, lawful}
use Rattle.formats.specs.Widths.{physical_bits}
use Rattle.memory.specs.Bytes.{le}
use Rattle.ranges.specs.Ranges.{total}
use Rattle.card.specs.Card.{fresh_state, set_state, prepared_state, running_state, stopped_state, released_state}
use Rattle.card.specs.Rules.{powered_of}
use Rattle.device.specs.Numbers.{s_ok, s_bad_msg, s_not_supp}
use Rattle.rules.specs.Control.{Parts, Served, Reply, Release}
use Rattle.line_calls.specs.Calls.{served}
use Rattle.line_calls.specs.Table.{one_output}
use Rattle.examples.proofs.Blocks.{block, memory, words, ok, bad_msg, descriptor, range, jack, stream, both, runs}

-- ---- control messages, decided

-- the status of a reply; none for a RELEASE
abbrev pub answered : Served → Option ℕ
answered (Reply r bytes) = Some (le 4 bytes 0)
answered (Release id) = None

-- a jack with the remap feature and one without; one stream, in this state, with these features selected
abbrev pub parts : ℕ → ℕ → Parts
parts state features =
    record { jacks = jack 1 18956319 1 ∷ jack 0 18956319 1 ∷ []; maps = []; streams = stream state features ∷ [] }

abbrev pub asks : ℕ → List ℕ → Option ℕ
asks state request = answered (served one_output (parts state 0) request 4)

-- SET_PARAMS: buffer, period, features, channels, format, rate, padding
abbrev pub params : ℕ → ℕ → ℕ → ℕ → ℕ → ℕ → ℕ → List ℕ
params buffer period features channels format rate padding =
    words (257 ∷ 0 ∷ buffer ∷ period ∷ features ∷ []) ++ channels ∷ format ∷ rate ∷ padding ∷ []

-- a request wrong in two ways gets the earlier answer: the transition, then what is BAD_MSG, then what is NOT_SUPP
pub params-in-order :
    (asks running_state (params 8 4 0 2 5 8 0) ≡ Some s_bad_msg)
    × (asks fresh_state (params 262148 4 0 2 5 7 1) ≡ Some s_bad_msg)
    × (asks fresh_state (params 0 4 1 2 5 7 0) ≡ Some s_bad_msg)
    × (asks fresh_state (params 8 0 0 3 5 7 0) ≡ Some s_bad_msg)
    × (asks fresh_state (params 10 4 0 2 4 8 0) ≡ Some s_bad_msg)
    × (asks fresh_state (params 262148 4 0 2 5 7 0) ≡ Some s_not_supp)
    × (asks fresh_state (params 8 4 17 2 5 7 0) ≡ Some s_not_supp)
    × (asks fresh_state (params 8 4 0 0 5 7 0) ≡ Some s_not_supp)
    × (asks fresh_state (params 8 4 0 3 5 7 0) ≡ Some s_not_supp)
    × (asks fresh_state (params 8 4 0 2 69 7 0) ≡ Some s_not_supp)
    × (asks fresh_state (params 8 4 0 2 5 71 0) ≡ Some s_not_supp)
    × (asks fresh_state (params 262144 262144 16 1 5 7 0) ≡ Some s_ok)
unfolding runs physical_bits
params-in-order = (refl, refl, refl, refl, refl, refl, refl, refl, refl, refl, refl, refl)

-- JACK_REMAP: jack, association, sequence
abbrev pub remaps : ℕ → ℕ → ℕ → List ℕ
remaps id association sequence = words (2 ∷ id ∷ association ∷ sequence ∷ [])

pub remap-in-order :
    (asks fresh_state (remaps 2 0 0) ≡ Some s_bad_msg)
    × (asks fresh_state (remaps 1 16 16) ≡ Some s_not_supp)
    × (asks fresh_state (remaps 0 16 0) ≡ Some s_bad_msg)
    × (asks fresh_state (remaps 0 0 16) ≡ Some s_bad_msg)
    × (asks fresh_state (remaps 0 15 15) ≡ Some s_ok)
unfolding runs
remap-in-order = (refl, refl, refl, refl, refl)

-- "A request shorter than its layout: BAD_MSG; extra bytes are ignored": each request, one byte longer and one shorter
abbrev pub requests : List (List ℕ)
requests =
    words (1 ∷ 0 ∷ 0 ∷ 24 ∷ [])
    ∷ remaps 0 0 0
    ∷ words (256 ∷ 0 ∷ 0 ∷ 32 ∷ [])
    ∷ params 8 4 0 2 5 7 0
    ∷ words (258 ∷ 0 ∷ [])
    ∷ words (259 ∷ 0 ∷ [])
    ∷ words (260 ∷ 0 ∷ [])
    ∷ words (512 ∷ 0 ∷ 0 ∷ 24 ∷ [])
    ∷ []

abbrev pub statuses : List (Option ℕ)
statuses = Some s_ok ∷ Some s_ok ∷ Some s_ok ∷ Some s_ok ∷ Some s_ok ∷ None ∷ Some s_ok ∷ Some s_ok ∷ []

pub layouts :
    (map (asks prepared_state) requests ≡ statuses)
    × (map (λ (q : List ℕ). asks prepared_state (q ++ 255 ∷ [])) requests ≡ statuses)
    × (map (λ (q : List ℕ). asks prepared_state (take (length q - 1) q)) requests ≡ replicate 8 (Some s_bad_msg))
    × (asks running_state (words (261 ∷ 0 ∷ [])) ≡ Some s_ok)
    × (asks running_state (take 7 (words (261 ∷ 0 ∷ []))) ≡ Some s_bad_msg)
unfolding runs physical_bits
layouts = (refl, refl, refl, refl, refl)

-- a lawful request leads to its state, SET_PARAMS with what it asks; another, or one for an absent stream, changes nothing. 258 is
-- PREPARE, 260 START, 261 STOP, 259 RELEASE.
abbrev pub leads : ℕ → ℕ → ℕ → Served
leads command id state = served one_output (parts state 16) (words (command ∷ id ∷ [])) 4

pub lifecycle :
    (served one_output (parts released_state 16) (params 8 4 0 2 5 7 0) 4 ≡ Reply (parts set_state 0) ok)
    × (leads 258 0 set_state ≡ Reply (parts prepared_state 16) ok)
    × (leads 260 0 stopped_state ≡ Reply (parts running_state 16) ok)
    × (leads 261 0 running_state ≡ Reply (parts stopped_state 16) ok)
    × (leads 259 0 prepared_state ≡ Release 0)
    × (leads 259 0 running_state ≡ Reply (parts running_state 16) bad_msg)
    × (served one_output (parts fresh_state 16) (words (257 ∷ 1 ∷ 8 ∷ 4 ∷ 0 ∷ []) ++ 2 ∷ 5 ∷ 7 ∷ 0 ∷ []) 4
    ≡ Reply (parts fresh_state 16) bad_msg)
unfolding runs physical_bits
lifecycle = (refl, refl, refl, refl, refl, refl, refl)

-- information, byte by byte: the second of two streams (an input), a remapped jack, a channel map, and one that is cut
abbrev pub informed : Parts
informed =
    record {
      jacks = jack 1 18956325 0 ∷ [];
      maps = record { nid = 6; direction = 1; channels = 2; positions = 3 ∷ 4 ∷ replicate 16 0 } ∷ [];
      streams = replicate 2 (stream running_state 0);
    }

abbrev pub informs : ℕ → ℕ → ℕ → ℕ → ℕ → Served
informs code start count size room = served both informed (words (code ∷ start ∷ count ∷ size ∷ [])) room

pub information-items :
    (informs 256 1 1 32 40
    ≡ Reply informed
    (0 ∷ 128 ∷ 0 ∷ 0 ∷ 8 ∷ 0 ∷ 0 ∷ 0 ∷ 16 ∷ 0 ∷ 0 ∷ 0 ∷ 32 ∷ 0 ∷ 0 ∷ 0 ∷ 0 ∷ 0 ∷ 0 ∷ 0 ∷ 128 ∷ 0 ∷ 0 ∷ 0 ∷ 0 ∷ 0 ∷ 0 ∷ 0
    ∷ 1 ∷ 1 ∷ 2 ∷ 0 ∷ 0 ∷ 0 ∷ 0 ∷ 0 ∷ []))
    × (informs 1 0 1 24 28
    ≡ Reply informed
    (0 ∷ 128 ∷ 0 ∷ 0 ∷ 7 ∷ 0 ∷ 0 ∷ 0 ∷ 1 ∷ 0 ∷ 0 ∷ 0 ∷ 37 ∷ 64 ∷ 33 ∷ 1 ∷ 9 ∷ 0 ∷ 0 ∷ 0 ∷ 0 ∷ 0 ∷ 0 ∷ 0 ∷ 0 ∷ 0 ∷ 0 ∷ 0 ∷ []))
    × (informs 512 0 1 24 28
    ≡ Reply informed (0 ∷ 128 ∷ 0 ∷ 0 ∷ 6 ∷ 0 ∷ 0 ∷ 0 ∷ 1 ∷ 2 ∷ 3 ∷ 4 ∷ replicate 16 0))
    × (informs 1 0 1 24 27 ≡ Reply informed bad_msg)
    × (informs 512 0 2 24 52 ≡ Reply informed bad_msg)
    × (informs 256 2 0 24 4 ≡ Reply informed ok)
    × (informs 512 0 1 6 10 ≡ Reply informed (0 ∷ 128 ∷ 0 ∷ 0 ∷ 6 ∷ 0 ∷ 0 ∷ 0 ∷ 1 ∷ 2 ∷ []))
unfolding runs
information-items = (refl, refl, refl, refl, refl, refl, refl)

-- ---- chains, in a table of 64 at address 0

-- the walk from descriptor 0 in memory of so many bytes
abbrev pub walk : Bool → ℕ → List ℕ → Outcome
walk negotiated n bytes = walk_of (memory n (block 0 bytes ∷ [])) 0 64 0 negotiated

-- of each side the number of descriptors and their lengths' sum
abbrev pub sides : Outcome → Option (List ℕ)
sides (whole request reply) = Some (length request ∷ total request ∷ length reply ∷ total reply ∷ [])
sides (faulted f) = None

-- n descriptors of one readable byte, from number i on, each with NEXT
abbrev pub linked : ℕ → ℕ → List ℕ
linked i zero = []
linked i (suc n) = descriptor 0 1 1 (i + 1) ++ linked (i + 1) n

-- one direct descriptor, one that names the table behind it, of n and one more
abbrev pub across_tables : ℕ → Outcome
across_tables n = walk true 1024 (descriptor 0 1 1 1 ++ descriptor 32 (16 * (n + 1)) 4 0 ++ linked 0 n ++ descriptor 0 1 2 0)

-- 34 descriptors without the indirect one, then 35; a chain that comes back to itself; the sums of each side; the order also at
-- length 0; numbers past the table; the largest address, with an unknown flag
pub walk-limits :
    (sides (across_tables 32) ≡ Some (33 ∷ 33 ∷ 1 ∷ 1 ∷ []))
    × (across_tables 33 ≡ faulted TooMany)
    × (walk true 16 (descriptor 0 1 1 0) ≡ faulted TooMany)
    × (sides (walk true 32 (descriptor 0 1048576 1 1 ++ descriptor 0 1048576 2 0)) ≡ Some (1 ∷ 1048576 ∷ 1 ∷ 1048576 ∷ []))
    × (walk true 32 (descriptor 0 1048576 1 1 ++ descriptor 0 1 0 0) ≡ faulted TooLong)
    × (walk true 32 (descriptor 0 1 3 1 ++ descriptor 0 1048576 2 0) ≡ faulted TooLong)
    × (walk true 32 (descriptor 0 0 3 1 ++ descriptor 0 0 0 0) ≡ faulted Order)
    × (walk true 16 (descriptor 0 1 1 64) ≡ faulted PastTable)
    × (walk true 16 (descriptor 0 1 1 256) ≡ faulted PastTable)
    × (walk true 16 (descriptor 18446744073709551615 4 8 7) ≡ whole (range 18446744073709551615 4 ∷ []) [])
unfolding runs
walk-limits = (refl, refl, refl, refl, refl, refl, refl, refl, refl, refl)

-- one direct descriptor, then one that names a table of this address and length, with these flags; 32 bytes at 32, where memory
-- ends at 64
abbrev pub indirect : Bool → ℕ → ℕ → ℕ → List ℕ → Outcome
indirect negotiated at len flags bytes = walk negotiated 64 (descriptor 0 1 1 1 ++ descriptor at len flags 9 ++ bytes)

pub indirect-tables :
    (indirect true 32 32 6 (descriptor 5 2 1 1 ++ descriptor 7 3 2 0) ≡ whole (range 0 1 ∷ range 5 2 ∷ []) (range 7 3 ∷ []))
    × (indirect false 32 16 4 (descriptor 5 2 0 0) ≡ faulted NotNegotiated)
    × (indirect true 32 16 5 (descriptor 5 2 0 0) ≡ faulted WithNext)
    × (indirect true 32 0 4 (descriptor 5 2 0 0) ≡ faulted TableLength)
    × (indirect true 32 24 4 (descriptor 5 2 0 0) ≡ faulted TableLength)
    × (indirect true 33 32 4 (descriptor 5 2 0 0) ≡ faulted TableOutside)
    × (indirect true 32 16 4 (descriptor 32 16 4 0) ≡ faulted Nested)
    × (indirect true 32 16 4 (descriptor 5 2 1 1 ++ descriptor 7 3 2 0) ≡ faulted PastTable)
    × (indirect true 32 32 4 (descriptor 5 2 3 1 ++ descriptor 7 3 0 0) ≡ faulted Order)
unfolding runs
indirect-tables = (refl, refl, refl, refl, refl, refl, refl, refl, refl)

-- ---- answer 10

-- a description with so many jacks, output streams and input streams; each stream with these formats and rates and up to so many
-- channels, one map with so many channels, whose 18th position is this
abbrev pub powers : ℕ → ℕ → ℕ → ℕ → ℕ → ℕ → ℕ → ℕ → ℕ
powers jacks outputs inputs formats rates high channels position =
    (powered_of
    (record {
      jack_count = jacks;
      map_count = 1;
      output_count = outputs;
      input_count = inputs;
      jacks = replicate 4 (jack 1 0 1).info;
      maps = replicate 4 (record { nid = 0; direction = 1; channels = channels; positions = replicate 17 36 ++ position ∷ [] });
      streams =
          replicate 6
          (record { nid = 0; features = 16; formats = formats; rates = rates; channels_min = 1; channels_max = high });
    })
    0).answer

pub descriptions :
    (powers 4 4 2 33554431 16383 18 18 36 ∷ powers 0 1 0 1 1 1 17 0 ∷ [] ≡ 0 ∷ 0 ∷ [])
    × (powers 5 1 1 1 1 1 18 36 ∷ powers 0 0 1 1 1 1 18 36 ∷ powers 0 5 0 1 1 1 18 36 ∷ powers 0 1 3 1 1 1 18 36 ∷ []
    ≡ replicate 4 10)
    × (powers 0 1 1 0 1 1 18 36 ∷ powers 0 1 1 33554432 1 1 18 36 ∷ powers 0 1 1 1 0 1 18 36 ∷ powers 0 1 1 1 16384 1 18 36 ∷ []
    ≡ replicate 4 10)
    × (powers 0 1 1 1 1 0 18 36 ∷ powers 0 1 1 1 1 19 18 36 ∷ powers 0 1 1 1 1 1 18 37 ∷ powers 0 1 1 1 1 1 17 1 ∷ [] ≡ replicate 4 10)
unfolding powered_of lawful lawful_counts lawful_jack lawful_map lawful_positions lawful_stream
descriptions = (refl, refl, refl, refl)
