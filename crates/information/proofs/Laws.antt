-- Laws of items: bytes behind each other, the items one after the other, and one item of a list.
use mathlib.Core.Path.{◌≡◌, refl, sym, ◌∙◌, ap}
use mathlib.Core.List.{List, [], ◌∷◌, ◌++◌, map}
use Prim.Native.Nat.{ℕ, zero, suc, ◌+◌, ◌-◌, ◌*◌, ◌≤◌, ◌<◌}
use native.Mathlib.Numerals.{add-one}
use native.Mathlib.Nat.{zero-add, add_comm, suc-mul}
use native.Mathlib.Omega.{arith}
use lib.ListN.{length, get_or, set, take, drop, replicate, length-take, length-map, length-append, length-replicate}
use Rattle.description.specs.declared.MapInfo.{MapInfo}
use lib.Seq.{take_all, take_at, sets, sets-eq, drop-cons, get_or-take}
use Rattle.memory.specs.Bytes.{put}
use Rattle.card.specs.Card.{no_stream}
use Rattle.card.specs.declared.Stream.{Stream}
use Rattle.card.specs.Fit.{FitParts}
use Rattle.card.specs.declared.Parts.{Parts}
use Rattle.live.specs.Live.{jack_now, stream_of, streams_now, parts_now}
use Rattle.live.specs.declared.Live.{Live}
use Rattle.rules.specs.Control.{fitted, jack_item, no_jack, pcm_item_of, pcm_items_by, map_item, joined, natural_size}
use Rattle.ranges.specs.Ranges.{bytes_at, up_from}
use Rattle.ranges.proofs.Laws.{take-append, bytes_at-up_from}
use Rattle.line_calls.specs.Streams.{streams_in, direction_number}
use Rattle.rules.specs.declared.Listing.{Listing}
use Rattle.rules.specs.declared.Listing.TheVariants.{Jacks, Streams, Maps}
use Rattle.device.specs.Device.{bytes_of}
use Rattle.information.specs.Items.{items_in, direction_in, jack_bytes, map_bytes, empty_map}

-- ---- items

-- a list's first item, then the others
pub joined-next : (items : List (List ℕ)) (n k i : ℕ) → n ≡ k + 1 → i < length items
    → joined (take n (drop i items)) ≡ get_or items i [] ++ joined (take k (drop (i + 1) items))
joined-next items n k i e h = rw (e, drop-cons items i [] h, add-one k, add-one i)

pub joined-none : (items : List (List ℕ)) (n i : ℕ) → n ≡ 0 → joined (take n (drop i items)) ≡ []
joined-none items n i e = rw e

pub get_d_map : {A B : Type 0} (f : A → B) (d : A) (e : B) (l : List A) (i : ℕ) → i < length l → get_or (map f l) i e ≡ f (get_or l i d)
get_d_map f d e [] i h = absurd (omega arith)
get_d_map f d e (x ∷ l) zero h = refl
get_d_map f d e (x ∷ l) (suc i) h = get_d_map f d e l i (omega arith)

module _ (direction : ℕ → ℕ) where
  pub length-pcm_items : (number : ℕ) (l : List Stream) → length (pcm_items_by direction number l) ≡ length l
  length-pcm_items number [] = refl
  length-pcm_items number (s ∷ l) = ap suc (length-pcm_items (suc number) l)

  pub get_d-pcm_items : (number : ℕ) (l : List Stream) (i : ℕ) → i < length l
      → get_or (pcm_items_by direction number l) i [] ≡ pcm_item_of (direction (number + i)) (get_or l i no_stream)
  get_d-pcm_items number [] i h = absurd (omega arith)
  get_d-pcm_items number (s ∷ l) zero h = let e : number + 0 ≡ number = omega arith in rw e
  get_d-pcm_items number (s ∷ l) (suc i) h =
      let e : number + suc i ≡ suc number + i = omega arith in
      rw e (get_d-pcm_items (suc number) l i (omega arith))

-- ---- items of another size

pub take-zeros : (k n : ℕ) → k ≤ n → take k (replicate {A = ℕ} n 0) ≡ replicate k 0
take-zeros zero n h = refl
take-zeros (suc k) zero h = absurd (omega arith)
take-zeros (suc k) (suc n) h = ap (λ (r : List ℕ). 0 ∷ r) (take-zeros k n (omega arith))

-- an item is cut, or zeros stand behind it
pub fitted-split : (size : ℕ) (xs : List ℕ) → fitted size xs ≡ take size xs ++ replicate (size - length xs) 0
fitted-split size xs = rw (take-append size xs (replicate size 0), take-zeros (size - length xs) size (omega arith))

pub length-fitted : (size : ℕ) (xs : List ℕ) → length (fitted size xs) ≡ size
length-fitted size xs = rw (fitted-split size xs, length-append, length-take, length-replicate) (omega arith)

-- so many items from one on, each of this size
abbrev pub row_of : ℕ → List (List ℕ) → ℕ → ℕ → List ℕ
row_of size items i n = joined (take n (drop i (map (fitted size) items)))

pub row_next : (size : ℕ) (items : List (List ℕ)) (n k i : ℕ) → n ≡ k + 1 → i < length items
    → row_of size items i n ≡ fitted size (get_or items i []) ++ row_of size items (i + 1) k
row_next size items n k i e h =
    let inside : i < length (map (fitted size) items) = rw length-map h in
    rw (joined-next (map (fitted size) items) n k i e inside, get_d_map (fitted size) [] [] items i h)

pub length-items : (size : ℕ) (items : List (List ℕ)) (count start : ℕ) → start + count ≤ length items
    → length (row_of size items start count) ≡ count * size
length-items size items zero start h = omega arith
length-items size items (suc k) start h =
    let e : size + k * size ≡ suc k * size = add_comm size (k * size) ∙ sym (suc-mul k size) in
    rw (
      row_next size items (suc k) k start (sym (add-one k)) (omega arith),
      length-append,
      length-fitted size (get_or items start []),
      length-items size items k (start + 1) (omega arith),
      e,
    )

-- zeros behind zeros
pub zeros-split : (k n : ℕ) → k ≤ n → replicate {A = ℕ} n 0 ≡ replicate k 0 ++ replicate (n - k) 0
zeros-split zero n h = let e : n - 0 ≡ n = omega arith in rw e
zeros-split (suc k) zero h = absurd (omega arith)
zeros-split (suc k) (suc n) h =
    let e : suc n - suc k ≡ n - k = omega arith in
    rw e (ap (λ (r : List ℕ). 0 ∷ r) (zeros-split k n (omega arith)))

-- a map's numbers, then its positions, over zeros
pub map-bytes : (m : MapInfo) → length m.positions ≡ 18
    → sets (put 4 (set (set (replicate 32 0) 4 m.direction) 5 m.channels) 0 m.nid) 6 (bytes_at m.positions (up_from 0 18))
    ≡ map_item m ++ replicate 8 0
unfolding put bytes_of
map-bytes m h =
    rw (
      bytes_at-up_from m.positions 0 18 (omega arith),
      take_all 18 m.positions (omega arith),
      sets-eq m.positions
          (put 4 (set (set (replicate 32 0) 4 m.direction) 5 m.channels) 0 m.nid) 6 (omega arith),
      h,
    )

pub length-map_item : (m : MapInfo) → length m.positions ≡ 18 → length (map_item m) ≡ 24
unfolding bytes_of
length-map_item m h = omega arith

-- the item of the part at i, where there is one
module _ {A : Type 0} (f : A → List ℕ) (d : A) (k : ℕ) (l : List A) (i : ℕ) (h : i < length (map f (take k l))) where
  inside : i < length (take k l)
  inside = rw length-map at h

  pub listed-inside : (i < k) × (i < length l)
  listed-inside = let b : i < length (take k l) = inside in (omega (arith, length-take k l), omega (arith, length-take k l))

  pub listed : get_or (map f (take k l)) i [] ≡ f (get_or l i d)
  listed = rw (get_d_map f d [] (take k l) i inside, get_or-take k l i d listed-inside.0)

module _ (direction : ℕ → ℕ) (k : ℕ) (l : List Stream) (i : ℕ) (h : i < length (pcm_items_by direction 0 (take k l))) where
  among : i < length (take k l)
  among = rw (length-pcm_items direction 0 (take k l)) at h

  pub streams-inside : (i < k) × (i < length l)
  streams-inside = let b : i < length (take k l) = among in (omega (arith, length-take k l), omega (arith, length-take k l))

  pub listed-stream : get_or (pcm_items_by direction 0 (take k l)) i [] ≡ pcm_item_of (direction i) (get_or l i no_stream)
  listed-stream = rw (get_d-pcm_items direction 0 (take k l) i among, zero-add, get_or-take k l i no_stream streams-inside.0)

-- how many items a listing can have
abbrev pub most : Listing → ℕ
most Jacks = 4
most Streams = 6
most Maps = 4

pub most-six : (l : Listing) → most l ≤ 6
most-six Jacks = omega arith
most-six Streams = omega arith
most-six Maps = omega arith

pub few-items : (l : Listing) (p : Parts) → FitParts p → length (items_in l p) ≤ most l
few-items Jacks p f = rw (length-map, length-take) (omega arith)
few-items Streams p f = rw (length-pcm_items (direction_number (streams_in p)) 0, length-take) (omega arith)
few-items Maps p f = rw (length-map, length-take) (omega arith)

-- ---- the bytes of an item

-- 32 bytes that begin with the item at i of a listing
abbrev pub Begins : Listing → Parts → ℕ → List ℕ → Type 0
Begins l p i bs = (length bs ≡ 32) × (take (natural_size l) bs ≡ get_or (items_in l p) i [])

-- .. where it is known which listing it is, and which bytes
pub begins : (l k : Listing) (p : Parts) (i : ℕ) (bs cs : List ℕ) → l ≡ k → bs ≡ cs → i < length (items_in l p)
    → (i < length (items_in k p) → Begins k p i cs) → Begins l p i bs
begins l k p i bs cs e b h f = let g : i < length (items_in k p) = rw e at h in rw (e, b) (f g)

-- a stream as it is has its place
stream-now : (v : Live) (l : List Stream) (i : ℕ) → i < 6 → get_or (streams_now v l) i no_stream ≡ stream_of v l i
stream-now v l zero h = refl
stream-now v l (suc zero) h = refl
stream-now v l (suc (suc zero)) h = refl
stream-now v l (suc (suc (suc zero))) h = refl
stream-now v l (suc (suc (suc (suc zero)))) h = refl
stream-now v l (suc (suc (suc (suc (suc zero))))) h = refl
stream-now v l (suc (suc (suc (suc (suc (suc i)))))) h = absurd (omega arith)

module _ (v : Live) (p : Parts) (i : ℕ) where
  pub jack-begins : i < length (items_in Jacks (parts_now v p))
      → Begins Jacks (parts_now v p) i (jack_bytes (jack_now v.fresh (get_or p.jacks i no_jack)))
  unfolding bytes_of
  jack-begins h =
      let jacks = map (jack_now v.fresh) p.jacks in
      let there : i < length p.jacks = rw length-map at (listed-inside jack_item no_jack p.jack_count jacks i h).1 in
      (refl, rw (listed jack_item no_jack p.jack_count jacks i h, get_d_map (jack_now v.fresh) no_jack no_jack p.jacks i there))

  pub stream-begins : i < length (items_in Streams (parts_now v p))
      → Begins Streams (parts_now v p) i (pcm_item_of (direction_in p.output_count i) (get_or p.streams i no_stream))
  unfolding bytes_of
  stream-begins h =
      let direction = direction_number (streams_in p) in
      let streams = streams_now v p.streams in
      let there = (streams-inside direction p.stream_count streams i h).1 in
      (refl, rw (listed-stream direction p.stream_count streams i h, stream-now v p.streams i there))

  pub map-begins : i < length (items_in Maps (parts_now v p)) → length (map_item (get_or p.maps i empty_map)) ≡ 24
      → Begins Maps (parts_now v p) i (map_bytes (get_or p.maps i empty_map))
  map-begins h n =
      let m = map_item (get_or p.maps i empty_map) in
      (rw length-append (omega (arith, n)), take_at m (replicate 8 0) 24 n ∙ rw (listed map_item empty_map p.map_count p.maps i h))
