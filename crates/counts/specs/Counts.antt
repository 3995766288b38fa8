-- 01, The card at power-up: "A page number, a guest address and a descriptor number are three counts".
use Rattle.std.specs.Prelude.{ℕ, ◌*◌}
use Rattle.counts.specs.declared.PageNumber.{PageNumber}
use Rattle.counts.specs.declared.GuestAddress.{GuestAddress}
use Rattle.counts.specs.declared.DescriptorNumber.{DescriptorNumber}

-- 002, 2.1: the ring base is the page number times 4,096
abbrev pub address_of_page : PageNumber → GuestAddress
address_of_page p = record { 0 = p.0 * 4096 }

-- 002, 2.2: a descriptor is 16 bytes
abbrev pub offset_of_descriptor : DescriptorNumber → ℕ
offset_of_descriptor d = d.0 * 16
