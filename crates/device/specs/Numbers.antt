-- The numbers of the texts (001, Device Operation; VIRTIO 1.2, Sound Device), once.
use Rattle.std.specs.Prelude.{ℕ}

-- ---- requests

abbrev pub jack_info : ℕ
jack_info = 1

abbrev pub jack_remap : ℕ
jack_remap = 2

abbrev pub pcm_info : ℕ
pcm_info = 256

abbrev pub pcm_set_params : ℕ
pcm_set_params = 257

abbrev pub pcm_prepare : ℕ
pcm_prepare = 258

abbrev pub pcm_release : ℕ
pcm_release = 259

abbrev pub pcm_start : ℕ
pcm_start = 260

abbrev pub pcm_stop : ℕ
pcm_stop = 261

abbrev pub chmap_info : ℕ
chmap_info = 512

-- ---- statuses

abbrev pub s_ok : ℕ
s_ok = 32768

abbrev pub s_bad_msg : ℕ
s_bad_msg = 32769

abbrev pub s_not_supp : ℕ
s_not_supp = 32770

abbrev pub s_io_err : ℕ
s_io_err = 32771

-- ---- events

abbrev pub jack_connected : ℕ
jack_connected = 4096

abbrev pub jack_disconnected : ℕ
jack_disconnected = 4097

abbrev pub pcm_xrun : ℕ
pcm_xrun = 4353

-- ---- queues: 002, 3.4.2

abbrev pub control_queue : ℕ
control_queue = 0

abbrev pub event_queue : ℕ
event_queue = 1

abbrev pub play_queue : ℕ
play_queue = 2

abbrev pub capture_queue : ℕ
capture_queue = 3
