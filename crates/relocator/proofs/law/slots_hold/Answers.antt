use Rattle.relocator.proofs.SlotWords.{slot_holds}
use Rattle.relocator.proofs.law.slots_hold.Goals as goal

pub returns : goal.returns
returns c o base serial bindings places k r b accepted copied at fits = slot_holds o accepted bindings copied k r b at base serial places fits
