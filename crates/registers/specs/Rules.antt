-- 01, Registers (002, 1.3 to 2.1): what a read and a write do, sentence by sentence.
use Rattle.std.specs.Prelude.{List, Bool, cond, ◌&&◌, ◌||◌, not, ℕ, ◌+◌, ◌*◌, ◌/◌, ◌%◌, ◌^◌, eqb, ltb, get_or, set, replicate}
use Rattle.memory.specs.Bytes.{le, put}
use Rattle.registers.specs.Answers.{done, no_such_access, wrong_direction, value_too_wide}
use Rattle.register_map.specs.Map.{register_at, size_of}
use Rattle.register_map.specs.declared.Register.{Register}
use Rattle.register_map.specs.declared.Register.TheVariants.{HostFeatures, GuestFeatures, QueuePfn, QueueNum, QueueSel, QueueNotify}
use Rattle.register_map.specs.declared.Register.TheVariants.{Status, Isr, DeviceConfig, Absent}
use Rattle.registers.specs.declared.Effect.{Effect}
use Rattle.registers.specs.declared.Effect.TheVariants.{Nothing, Reset, Based, Rung}
use Rattle.registers.specs.declared.Registers.{Registers}
use Rattle.registers.specs.declared.Config.{Config}
use Rattle.registers.specs.declared.Read.{Read}
use Rattle.registers.specs.declared.Written.{Written}

-- ---- setters

abbrev pub with_status : Registers → ℕ → Registers
with_status r v = record { status = v; isr = r.isr; selector = r.selector; features = r.features; pages = r.pages }

abbrev pub with_isr : Registers → ℕ → Registers
with_isr r v = record { status = r.status; isr = v; selector = r.selector; features = r.features; pages = r.pages }

abbrev pub with_selector : Registers → ℕ → Registers
with_selector r v = record { status = r.status; isr = r.isr; selector = v; features = r.features; pages = r.pages }

abbrev pub with_features : Registers → ℕ → Registers
with_features r v = record { status = r.status; isr = r.isr; selector = r.selector; features = v; pages = r.pages }

abbrev pub with_page : Registers → ℕ → ℕ → Registers
with_page r q v =
    record { status = r.status; isr = r.isr; selector = r.selector; features = r.features; pages = set r.pages q (record { 0 = v }) }

-- ---- status and interrupts

abbrev pub has_bit : ℕ → ℕ → Bool
has_bit x i = eqb (x / 2 ^ i % 2) 1

abbrev pub driver_ok : Registers → Bool
driver_ok r = has_bit r.status 2

abbrev pub features_ok : Registers → Bool
features_ok r = has_bit r.status 3

-- "Live: DRIVER_OK and FEATURES_OK set, NEEDS_RESET and FAILED clear."
unfoldable pub live : Registers → Bool
live r = driver_ok r && features_ok r && not (has_bit r.status 6) && not (has_bit r.status 7)

-- "an indirect one without bit 28 negotiated": bit 28 as the guest features have it
abbrev pub indirect_negotiated : Registers → Bool
indirect_negotiated r = has_bit r.features 28

-- "The line is raised exactly while ISR is not 0."
unfoldable pub raised : Registers → Bool
raised r = not (eqb r.isr 0)

abbrev pub with_bit : ℕ → ℕ → ℕ
with_bit x i = cond (has_bit x i) x (x + 2 ^ i)

-- ISR bit 0 set
unfoldable pub signalled : Registers → Registers
signalled r = with_isr r (with_bit r.isr 0)

-- 01, Answers: a broken queue leaves "NEEDS_RESET and ISR bit 1 set"
unfoldable pub broken : Registers → Registers
broken r = with_isr (with_status r (with_bit r.status 6)) (with_bit r.isr 1)

-- ---- the state after power-up and after a reset: "status, ISR, selector, guest features, bases .. are cleared"

abbrev pub power_on : Registers
power_on = record { status = 0; isr = 0; selector = 0; features = 0; pages = replicate 4 (record { 0 = 0 }) }

-- ---- reading

-- "HOST_FEATURES is 0x10000000"
abbrev pub host_features : ℕ
host_features = 268435456

abbrev pub refused_read : Registers → ℕ → Read
refused_read r answer = record { answer = answer; value = 0; registers = r }

abbrev pub value_read : Registers → ℕ → Read
value_read r v = record { answer = done; value = v; registers = r }

-- "QUEUE_PFN reads that queue's page number, else 0"
unfoldable pub page_read : Registers → ℕ
page_read r = cond (ltb r.selector 4) (get_or r.pages r.selector (record { 0 = 0 })).0 0

-- "Config bytes: jacks, streams, chmaps as le32, then zeros."
unfoldable pub config_bytes : Config → List ℕ
config_bytes c = put 4 (put 4 (put 4 (replicate 12 0) 0 c.jacks) 4 c.streams) 8 c.chmaps

-- "widths 1, 2, 4"
unfoldable pub config_value : Config → ℕ → ℕ → ℕ
config_value c at width =
    cond (eqb width 1) (le 1 (config_bytes c) at) (cond (eqb width 2) (le 2 (config_bytes c) at) (le 4 (config_bytes c) at))

-- "ISR reads its bits and clears them."
unfoldable pub isr_read : Registers → Read
isr_read r = value_read (with_isr r 0) r.isr

-- "GUEST_FEATURES and QUEUE_NOTIFY can't be read."
abbrev pub read_register : Registers → Config → ℕ → Register → Read
read_register r c width HostFeatures = value_read r host_features
read_register r c width GuestFeatures = refused_read r wrong_direction
read_register r c width QueuePfn = value_read r (page_read r)
read_register r c width QueueNum = value_read r (size_of r.selector)
read_register r c width QueueSel = value_read r r.selector
read_register r c width QueueNotify = refused_read r wrong_direction
read_register r c width Status = value_read r r.status
read_register r c width Isr = isr_read r
read_register r c width (DeviceConfig at) = value_read r (config_value c at width)
read_register r c width Absent = refused_read r no_such_access

unfoldable pub read_of : Registers → Config → ℕ → ℕ → Read
read_of r c offset width = read_register r c width (register_at offset width)

-- ---- writing

abbrev pub refused_write : Registers → ℕ → Written
refused_write r answer = record { answer = answer; effect = Nothing; registers = r }

-- a write that is done, or "dropped": "A dropped write answers 0."
abbrev pub wrote : Registers → Effect → Written
wrote r e = record { answer = done; effect = e; registers = r }

-- "A write of GUEST_FEATURES is dropped while FEATURES_OK is set."
unfoldable pub wrote_features : Registers → ℕ → Written
wrote_features r v = wrote (cond (features_ok r) r (with_features r v)) Nothing

-- "writes are dropped for such a selector or while DRIVER_OK is set; else they set the base" (a base write)
unfoldable pub wrote_page : Registers → ℕ → Written
wrote_page r v = cond (ltb r.selector 4 && not (driver_ok r)) (wrote (with_page r r.selector v) (Based r.selector)) (wrote r Nothing)

unfoldable pub wrote_selector : Registers → ℕ → Written
wrote_selector r v = wrote (with_selector r v) Nothing

-- "NOTIFY answers the queue rung, or none above 3."
unfoldable pub wrote_notify : Registers → ℕ → Written
wrote_notify r v = wrote r (cond (ltb v 4) (Rung v) Nothing)

-- "Another value v stores its bits 0, 1, 2, 3 and 7; bit 3 is cleared if guest features have a bit outside 0x10000000. NEEDS_RESET stays as
-- it was."
abbrev pub only_offered : ℕ → Bool
only_offered features = eqb features 0 || eqb features host_features

unfoldable pub stored_status : ℕ → Bool → ℕ → ℕ
stored_status old good v = v % 8 + cond good (v / 8 % 2 * 8) 0 + old / 64 % 2 * 64 + v / 128 % 2 * 128

-- "Writing 0x00 to STATUS resets"
unfoldable pub wrote_status : Registers → ℕ → Written
wrote_status r v = cond (eqb v 0) (wrote power_on Reset)
    (wrote (with_status r (stored_status r.status (only_offered r.features) v)) Nothing)

-- answer 4: "value too wide for the access", of so many bytes
abbrev pub fitting : Registers → ℕ → ℕ → Written → Written
fitting r bytes v w = cond (ltb v (256 ^ bytes)) w (refused_write r value_too_wide)

-- "Config, HOST_FEATURES, QUEUE_NUM and ISR can't be written". "Register order: 2, 3, 4."
abbrev pub write_register : Registers → ℕ → Register → Written
write_register r v HostFeatures = refused_write r wrong_direction
write_register r v GuestFeatures = fitting r 4 v (wrote_features r v)
write_register r v QueuePfn = fitting r 4 v (wrote_page r v)
write_register r v QueueNum = refused_write r wrong_direction
write_register r v QueueSel = fitting r 2 v (wrote_selector r v)
write_register r v QueueNotify = fitting r 2 v (wrote_notify r v)
write_register r v Status = fitting r 1 v (wrote_status r v)
write_register r v Isr = refused_write r wrong_direction
write_register r v (DeviceConfig at) = refused_write r wrong_direction
write_register r v Absent = refused_write r no_such_access

unfoldable pub write_of : Registers → ℕ → ℕ → ℕ → Written
write_of r offset width v = write_register r v (register_at offset width)
