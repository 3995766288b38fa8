use Rattle.text.proofs.Laws.{kept_put, padded_put, room}
use Rattle.text.proofs.Text.push_bytes.Goals as goal

pub invariant_of-self : goal.invariant_of-self
invariant_of-self g c =
    padded_put c.put_bytes-self-inside.ensures (room _ _ _ c.self.view_is c.self.invariant.fits c.self.told c.requires) c.self.invariant

pub returns : goal.returns
returns g c = rw (← c.self.view_is) (kept_put c.put_bytes-self-inside.ensures
    (room _ _ _ c.self.view_is c.self.invariant.fits c.self.told c.requires))
