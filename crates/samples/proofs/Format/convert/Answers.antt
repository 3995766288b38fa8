-- What the closure of each arm makes of a sample are the bits of its conversion.
use Rattle.std.proofs.Common.{◌≡◌, ◌+◌, ◌*◌, ◌/◌, ◌%◌, length, true, false, get_or, rules, arith, div-one}
use Rattle.samples.specs.Formats.{linear, mulaw}
use Rattle.samples.specs.MuLaw.{mu_law}
use Rattle.samples.specs.Values.{bits}
use Rattle.samples.proofs.Samples.{chunk-pair, made-mulaw, made-narrow, made-narrow-unsigned, made-wide, made-wide-unsigned}
use Rattle.samples.proofs.Format.convert.Goals as goal

pub returns-in-MuLaw : goal.returns-in-MuLaw
returns-in-MuLaw c =
    let s = c.args.from.now in
    rw (c.in-MuLaw.is, div-one) (c.convert_each.ensures mulaw s (λ i x v l e m.
    let f : v ≡ bits (mu_law x) = search rules in
    made-mulaw s (λ j. (c.type_inv.from j).fits) i v x l e f))

pub returns-in-S8 : goal.returns-in-S8
returns-in-S8 c =
    let s = c.args.from.now in
    rw (c.in-S8.is, div-one) (c.convert_each-in-S8.ensures (linear false 1) s (λ i x v l e m.
    let f : v ≡ x * 256 = search rules in
    made-narrow s (λ j. (c.type_inv.from j).fits) i v x l e f))

pub returns-in-U8 : goal.returns-in-U8
returns-in-U8 c =
    let s = c.args.from.now in
    rw (c.in-U8.is, div-one) (c.convert_each-in-U8.ensures (linear true 1) s (λ i x v l e m.
    let f : v ≡ (x * 256 + 32768) % 65536 = search rules in
    made-narrow-unsigned s (λ j. (c.type_inv.from j).fits) i v x l e f))

pub returns-in-S16 : goal.returns-in-S16
returns-in-S16 c =
    let s = c.args.from.now in
    let a = c.as_chunks.ensures in
    let h = c.convert_each-in-S16.ensures (linear false 2) s (λ i x v l e m.
    let f : v ≡ get_or x 0 0 + get_or x 1 0 * 256 = search rules in
    made-wide s (λ j. (c.type_inv.from j).fits) i v 2 (omega arith)
    (rw (← (chunk-pair 2 (length s / 2) s i 0 x (rw a.front_len at l) (omega arith) (rw a.front at e))) f)) in
    rw (c.in-S16.is, ← a.front_len) h

pub returns-in-U16 : goal.returns-in-U16
returns-in-U16 c =
    let s = c.args.from.now in
    let a = c.as_chunks-in-U16.ensures in
    let h = c.convert_each-in-U16.ensures (linear true 2) s (λ i x v l e m.
    let f : v ≡ (get_or x 0 0 + get_or x 1 0 * 256 + 32768) % 65536 = search rules in
    made-wide-unsigned s (λ j. (c.type_inv.from j).fits) i v 2 (omega arith)
    (rw (← (chunk-pair 2 (length s / 2) s i 0 x (rw a.front_len at l) (omega arith) (rw a.front at e))) f)) in
    rw (c.in-U16.is, ← a.front_len) h

pub returns-in-S24_3 : goal.returns-in-S24_3
returns-in-S24_3 c =
    let s = c.args.from.now in
    let a = c.as_chunks-in-S24_3.ensures in
    let h = c.convert_each-in-S24_3.ensures (linear false 3) s (λ i x v l e m.
    let f : v ≡ get_or x 1 0 + get_or x 2 0 * 256 = search rules in
    made-wide s (λ j. (c.type_inv.from j).fits) i v 3 (omega arith)
    (rw (← (chunk-pair 3 (length s / 3) s i 1 x (rw a.front_len at l) (omega arith) (rw a.front at e))) f)) in
    rw (c.in-S24_3.is, ← a.front_len) h

pub returns-in-S32 : goal.returns-in-S32
returns-in-S32 c =
    let s = c.args.from.now in
    let a = c.as_chunks-in-S32.ensures in
    let h = c.convert_each-in-S32.ensures (linear false 4) s (λ i x v l e m.
    let f : v ≡ get_or x 2 0 + get_or x 3 0 * 256 = search rules in
    made-wide s (λ j. (c.type_inv.from j).fits) i v 4 (omega arith)
    (rw (← (chunk-pair 4 (length s / 4) s i 2 x (rw a.front_len at l) (omega arith) (rw a.front at e))) f)) in
    rw (c.in-S32.is, ← a.front_len) h
