-- 01, Control messages: what a request asks and is answered. The described parts and the request decide it alone; RELEASE,
-- whose stream's queue comes first, is told apart.
use Rattle.std.specs.Prelude.{Option, None, Some, Bool, cond, ◌&&◌, ◌||◌, not, List, [], ◌∷◌, ◌++◌, map, ℕ, suc}
use Rattle.std.specs.Prelude.{◌+◌, ◌*◌, ◌/◌, ◌%◌, ◌^◌, eqb, leb, ltb}
use Rattle.std.specs.Prelude.{length, get_or, set, take, drop, replicate}
use Rattle.description.specs.declared.MapInfo.{MapInfo}
use Rattle.description.specs.declared.StreamInfo.{StreamInfo}
use Rattle.formats.specs.Widths.{physical_bits}
use Rattle.memory.specs.Bytes.{le}
use Rattle.card.specs.Card.{jack_at_power, no_jack_info, no_stream}
use Rattle.card.specs.declared.Jack.{Jack}
use Rattle.card.specs.declared.Params.{Params}
use Rattle.card.specs.declared.Stream.{Stream}
use Rattle.rules.specs.Lifecycle.{transition}
use Rattle.device.specs.Device.{Rest, with_streams, bytes_of}
use Rattle.device.specs.Numbers.{jack_info, jack_remap, pcm_info, pcm_set_params, pcm_prepare, pcm_release, pcm_start, pcm_stop}
use Rattle.device.specs.Numbers.{chmap_info, s_ok}
use Rattle.device.specs.Numbers.{s_bad_msg, s_not_supp}
use Rattle.rules.specs.declared.Asked.{Asked}
use Rattle.rules.specs.declared.Asked.TheVariants.{Information, Remap, Pcm}
use Rattle.rules.specs.declared.Command.{Command}
use Rattle.rules.specs.declared.Command.TheVariants as command
use Rattle.rules.specs.declared.Listing.{Listing}
use Rattle.rules.specs.declared.Listing.TheVariants.{Jacks, Streams, Maps}

-- ---- what a request comes to

-- the described parts, as they are now
pub record Parts : Type 0 where
  pub jacks : List Jack
  pub maps : List MapInfo
  pub streams : List Stream

abbrev pub parts_in : Rest → Parts
parts_in r = record { jacks = r.jacks; maps = r.maps; streams = r.streams }

abbrev pub with_parts : Parts → Rest → Rest
with_parts p r =
    record {
      ram = r.ram;
      registers = r.registers;
      jacks = p.jacks;
      maps = p.maps;
      streams = p.streams;
      control = r.control;
      event = r.event;
    }

-- the parts after it and the reply's bytes; or the release of a stream
pub data Served : Type 0 where
  Reply : Parts → List ℕ → Served
  Release : ℕ → Served

-- the number in the request's bytes 4i to 4i + 3
abbrev pub word : List ℕ → ℕ → ℕ
word request i = le 4 request (4 * i)

-- "Replies have length 4, save information."
abbrev pub status : ℕ → List ℕ
status code = bytes_of 4 code

abbrev pub refusal : Parts → ℕ → Served
refusal p code = Reply p (status code)

-- "The first fault found ends the reading of that message.": past a check, or refused with its status
abbrev pub passing : Parts → Bool → ℕ → Served → Served
passing p ok code go = cond ok go (refusal p code)

-- ---- JACK_INFO, PCM_INFO, CHMAP_INFO: "header, start_id, count, size"

-- VIRTIO 1.2: struct virtio_snd_jack_info, 24 bytes
abbrev pub jack_item : Jack → List ℕ
jack_item j =
    bytes_of 4 j.info.nid ++ bytes_of 4 j.info.features ++ bytes_of 4 j.defconf ++ bytes_of 4 j.info.caps
    ++ (j.connected ∷ []) ++ replicate 7 0

-- struct virtio_snd_pcm_info, 32 bytes, of a stream of this direction
abbrev pub pcm_item_of : ℕ → Stream → List ℕ
pcm_item_of direction s =
    bytes_of 4 s.info.nid ++ bytes_of 4 s.info.features ++ bytes_of 8 s.info.formats ++ bytes_of 8 s.info.rates
    ++ (direction ∷ s.info.channels_min ∷ s.info.channels_max ∷ []) ++ replicate 5 0

-- of the streams from this number on, the direction of each told by its number
abbrev pub pcm_items_by : (ℕ → ℕ) → ℕ → List Stream → List (List ℕ)
pcm_items_by direction number [] = []
pcm_items_by direction number (s ∷ ss) = pcm_item_of (direction number) s ∷ pcm_items_by direction (suc number) ss

-- "Chmap item: nid, direction, channels, 18 positions."
abbrev pub map_item : MapInfo → List ℕ
map_item m = bytes_of 4 m.nid ++ (m.direction ∷ m.channels ∷ []) ++ m.positions

abbrev pub items_by : (ℕ → ℕ) → Listing → Parts → List (List ℕ)
items_by direction Jacks p = map jack_item p.jacks
items_by direction Streams p = pcm_items_by direction 0 p.streams
items_by direction Maps p = map map_item p.maps

abbrev pub joined : List (List ℕ) → List ℕ
joined [] = []
joined (x ∷ xs) = x ++ joined xs

-- order 1: "01's .. item sizes become the natural sizes."
abbrev pub natural_size : Listing → ℕ
natural_size Jacks = 24
natural_size Streams = 32
natural_size Maps = 24

-- order 1: "Items now stand size bytes apart; a longer one ends in zeros, a shorter one is cut."
abbrev pub fitted : ℕ → List ℕ → List ℕ
fitted size item = take size (item ++ replicate size 0)

-- order 1: "Size 0 with count above 0 is BAD_MSG, in the place of the old size check."
abbrev pub spaced : ℕ → ℕ → Bool
spaced count size = eqb count 0 || not (eqb size 0)

-- "start_id + count (no wrap) at most the total"
abbrev pub listed_in : List (List ℕ) → ℕ → ℕ → Bool
listed_in items start count = leb (start + count) (length items)

-- "reply room at least 4 + count·size"
abbrev pub roomy : ℕ → ℕ → ℕ → Bool
roomy count size room = leb (4 + count * size) room

-- "start_id + count ..; reply room ..; else BAD_MSG."
abbrev pub informed : Parts → List (List ℕ) → List ℕ → ℕ → Served
informed p items request room =
    let start = word request 1 in
    let count = word request 2 in
    let size = word request 3 in
    passing p (spaced count size) s_bad_msg
    (passing p (listed_in items start count) s_bad_msg
    (passing p (roomy count size room) s_bad_msg
    (Reply p (status s_ok ++ joined (take count (drop start (map (fitted size) items)))))))

abbrev pub inform_by : (Listing → Parts → List (List ℕ)) → Parts → Listing → List ℕ → ℕ → Served
inform_by items p l request room = informed p (items l p) request room

-- ---- JACK_REMAP: header, jack_id, association, sequence

abbrev pub no_jack : Jack
no_jack = jack_at_power no_jack_info

abbrev pub jack_in : Parts → ℕ → Jack
jack_in p i = get_or p.jacks i no_jack

abbrev pub with_jack : ℕ → Jack → Parts → Parts
with_jack i j p = record { jacks = set p.jacks i j; maps = p.maps; streams = p.streams }

-- "No remap feature"
abbrev pub remappable : Jack → Bool
remappable j = eqb j.info.features 1

abbrev pub four_bits : ℕ → Bool
four_bits v = leb v 15

abbrev pub remapped_to : ℕ → ℕ → ℕ → ℕ
remapped_to defconf association sequence = defconf / 256 * 256 + association * 16 + sequence

abbrev pub with_defconf : ℕ → Jack → Jack
with_defconf v j = record { info = j.info; defconf = v; connected = j.connected }

-- the remap of a jack that has the feature: "Association or sequence above 15: BAD_MSG. Else they replace defconf bits 7:4 and 3:0"
abbrev pub remap_at : Parts → ℕ → ℕ → ℕ → Served
remap_at p id association sequence =
    let j : Jack = jack_in p id in
    passing p (four_bits association) s_bad_msg
    (passing p (four_bits sequence) s_bad_msg
    (Reply (with_jack id (with_defconf (remapped_to j.defconf association sequence) j) p) (status s_ok)))

-- "jack absent: BAD_MSG. No remap feature: NOT_SUPP."
unfoldable pub remap : Parts → List ℕ → Served
remap p request =
    let id = word request 1 in
    passing p (ltb id (length p.jacks)) s_bad_msg
    (passing p (remappable (jack_in p id)) s_not_supp (remap_at p id (word request 2) (word request 3)))

-- ---- PCM commands: header, stream_id

abbrev pub stream_in : Parts → ℕ → Stream
stream_in p i = get_or p.streams i no_stream

abbrev pub with_stream_in : ℕ → Stream → Parts → Parts
with_stream_in i s p = record { jacks = p.jacks; maps = p.maps; streams = set p.streams i s }

abbrev pub with_state : ℕ → Stream → Stream
with_state v s = record { info = s.info; state = v; params = s.params; backlog = s.backlog }

abbrev pub with_params : ℕ → Params → Stream → Stream
with_params v p s = record { info = s.info; state = v; params = p; backlog = s.backlog }

abbrev pub with_backlog : ℕ → Stream → Stream
with_backlog v s = record { info = s.info; state = s.state; params = s.params; backlog = v }

-- a stream's entry in the list
abbrev pub with_stream : Rest → ℕ → Stream → Rest
with_stream r id s = with_streams (set r.streams id s) r

abbrev pub moves : Parts → ℕ → ℕ → Served
moves p id state = Reply (with_stream_in id (with_state state (stream_in p id)) p) (status s_ok)

-- ---- SET_PARAMS

-- struct virtio_snd_pcm_set_params: stream_id, buffer_bytes, period_bytes, features, channels, format, rate, padding
abbrev pub params_of : List ℕ → Params
params_of request =
    record {
      buffer_bytes = word request 2;
      period_bytes = word request 3;
      features = word request 4;
      channels = le 1 request 20;
      format = le 1 request 21;
      rate = le 1 request 22;
    }

-- bit i of a mask
abbrev pub offers : ℕ → ℕ → Bool
offers mask i = eqb (mask / 2 ^ i % 2) 1

-- "padding not 0"
abbrev pub unpadded : ℕ → Bool
unpadded padding = eqb padding 0

-- "buffer or period 0"
abbrev pub sized : Params → Bool
sized p = not (eqb p.buffer_bytes 0) && not (eqb p.period_bytes 0)

-- "buffer not a multiple of period"
abbrev pub periodic : Params → Bool
periodic p = eqb (p.buffer_bytes % p.period_bytes) 0

-- "buffer above 262,144"
abbrev pub buffer_offered : Params → Bool
buffer_offered p = leb p.buffer_bytes 262144

-- "features, channels, format, rate not offered"
abbrev pub features_offered : StreamInfo → Params → Bool
features_offered i p = eqb p.features 0 || eqb p.features i.features

abbrev pub channels_offered : StreamInfo → Params → Bool
channels_offered i p = leb i.channels_min p.channels && leb p.channels i.channels_max

abbrev pub format_offered : StreamInfo → Params → Bool
format_offered i p = offers i.formats p.format

abbrev pub rate_offered : StreamInfo → Params → Bool
rate_offered i p = offers i.rates p.rate

-- order 2: "SET_PARAMS must refuse unless period_bytes·8 is a multiple of channels times the format's physical width in bits"
abbrev pub frame_bits : Params → ℕ
frame_bits p = p.channels * physical_bits p.format

abbrev pub framed : Params → Bool
framed p = not (eqb (frame_bits p) 0) && eqb (p.period_bytes * 8 % frame_bits p) 0

-- a check, and the status of what does not pass it
abbrev pub need : Bool → ℕ → ℕ → ℕ
need ok code go = cond ok go code

-- ".. buffer above 262,144, features, channels, format, rate not offered: NOT_SUPP."; order 2: "BAD_MSG, after the rate check and last"
abbrev pub judged_offer : StreamInfo → Params → ℕ
judged_offer i p =
    need (buffer_offered p) s_not_supp
    (need (features_offered i p) s_not_supp
    (need (channels_offered i p) s_not_supp
    (need (format_offered i p) s_not_supp
    (need (rate_offered i p) s_not_supp
    (need (framed p) s_bad_msg s_ok)))))

-- "SET_PARAMS then checks, in order: padding not 0, buffer or period 0, buffer not a multiple of period: BAD_MSG; .."; its status
unfoldable pub judged_params : StreamInfo → Params → ℕ → ℕ
judged_params i p padding =
    need (unpadded padding) s_bad_msg (need (sized p) s_bad_msg (need (periodic p) s_bad_msg (judged_offer i p)))

-- "A refusal keeps state and parameters."
abbrev pub set_by : Parts → ℕ → ℕ → Params → ℕ → Served
set_by p id state params code =
    cond (eqb code s_ok) (Reply (with_stream_in id (with_params state params (stream_in p id)) p) (status s_ok)) (refusal p code)

unfoldable pub set_params : Parts → ℕ → ℕ → List ℕ → Served
set_params p id state request = set_by p id state (params_of request)
    (judged_params (stream_in p id).info (params_of request) (le 1 request 23))

-- a lawful command of a stream that is there, and the state that it leads to. A RELEASE leads there once the stream's queue is empty.
abbrev pub obeyed : Parts → Command → ℕ → ℕ → List ℕ → Served
obeyed p command.SetParams id state request = set_params p id state request
obeyed p command.Prepare id state request = moves p id state
obeyed p command.Start id state request = moves p id state
obeyed p command.Stop id state request = moves p id state
obeyed p command.Release id state request = Release id

-- "transition not lawful: BAD_MSG"
abbrev pub led : Parts → Command → ℕ → List ℕ → Option ℕ → Served
led p c id request None = refusal p s_bad_msg
led p c id request (Some state) = obeyed p c id state request

-- "stream absent: BAD_MSG; .."
unfoldable pub commanded : Parts → Command → List ℕ → Served
commanded p c request =
    let id = word request 1 in
    passing p (ltb id (length p.streams)) s_bad_msg (led p c id request (transition c (stream_in p id).state))

-- ---- a request

-- "Unknown code: NOT_SUPP"
unfoldable pub decoded_of : ℕ → Option Asked
decoded_of code =
    cond (eqb code jack_info) (Some (Information Jacks))
    (cond (eqb code jack_remap) (Some Remap)
    (cond (eqb code pcm_info) (Some (Information Streams))
    (cond (eqb code pcm_set_params) (Some (Pcm command.SetParams))
    (cond (eqb code pcm_prepare) (Some (Pcm command.Prepare))
    (cond (eqb code pcm_release) (Some (Pcm command.Release))
    (cond (eqb code pcm_start) (Some (Pcm command.Start))
    (cond (eqb code pcm_stop) (Some (Pcm command.Stop))
    (cond (eqb code chmap_info) (Some (Information Maps)) None))))))))

-- the length of a request's layout
abbrev pub command_layout : Command → ℕ
command_layout command.SetParams = 24
command_layout command.Prepare = 8
command_layout command.Start = 8
command_layout command.Stop = 8
command_layout command.Release = 8

abbrev pub layout_of : Asked → ℕ
layout_of (Information l) = 16
layout_of Remap = 16
layout_of (Pcm c) = command_layout c

-- by the way that information is given
module _ (inform : Parts → Listing → List ℕ → ℕ → Served) where
  -- a request of its layout's length
  abbrev pub answer_by : Asked → Parts → List ℕ → ℕ → Served
  answer_by (Information l) p request room = inform p l request room
  answer_by Remap p request room = remap p request
  answer_by (Pcm c) p request room = commanded p c request

  -- "Unknown code: NOT_SUPP. A request shorter than its layout: BAD_MSG; extra bytes are ignored."
  abbrev pub answered_by : Option Asked → Parts → List ℕ → ℕ → Served
  answered_by None p request room = refusal p s_not_supp
  answered_by (Some a) p request room = passing p (leb (layout_of a) (length request)) s_bad_msg (answer_by a p request room)

  abbrev pub served_by : Parts → List ℕ → ℕ → Served
  served_by p request room = answered_by (decoded_of (word request 0)) p request room
