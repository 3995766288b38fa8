-- 01, Registers: "Offsets and widths as in 002's table, exact; from 0x14 to 0xff widths 1, 2, 4 wholly inside."
use Rattle.std.specs.Prelude.{cond, ◌&&◌, ◌||◌, ℕ, ◌+◌, ◌-◌, eqb, leb}
use Rattle.register_map.specs.declared.Register.{Register}
use Rattle.register_map.specs.declared.Register.TheVariants.{HostFeatures, GuestFeatures, QueuePfn, QueueNum, QueueSel}
use Rattle.register_map.specs.declared.Register.TheVariants.{QueueNotify, Status, Isr, DeviceConfig, Absent}

abbrev pub exactly : ℕ → ℕ → Register → Register
exactly width size r = cond (eqb width size) r Absent

unfoldable pub config_at : ℕ → ℕ → Register
config_at offset width =
    cond (leb 20 offset && leb (offset + width) 256 && (eqb width 1 || eqb width 2 || eqb width 4)) (DeviceConfig (offset - 20)) Absent

-- 002, 1.3
unfoldable pub register_at : ℕ → ℕ → Register
register_at offset width =
    cond (eqb offset 0) (exactly width 4 HostFeatures)
    (cond (eqb offset 4) (exactly width 4 GuestFeatures)
    (cond (eqb offset 8) (exactly width 4 QueuePfn)
    (cond (eqb offset 12) (exactly width 2 QueueNum)
    (cond (eqb offset 14) (exactly width 2 QueueSel)
    (cond (eqb offset 16) (exactly width 2 QueueNotify)
    (cond (eqb offset 18) (exactly width 1 Status)
    (cond (eqb offset 19) (exactly width 1 Isr)
    (config_at offset width))))))))

-- "QUEUE_NUM is 64, 64, 256, 64, and 0 for a selector above 3"
unfoldable pub size_of : ℕ → ℕ
size_of q = cond (eqb q 0) 64 (cond (eqb q 1) 64 (cond (eqb q 2) 256 (cond (eqb q 3) 64 0)))
