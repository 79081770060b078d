use Rattle.std.proofs.Common.{sym, subst}
use Rattle.history_calls.specs.Served.{AreImages}
use Rattle.world_memory.proofs.Remade.{both_installed}
use Rattle.world_memory.proofs.memory.PlainMemory.install.Goals as goal

pub returns : goal.returns
returns c = λ s added ranges are guest.
    both_installed s added ranges c.args.installs.now c.args.self.now c.put_images.new.self c.put_images-2.new.self are guest
    (λ rs images. c.put_images.ensures s rs (subst (AreImages s rs) (sym c.as_slice.ensures) images))
    (λ rs images. c.put_images-2.ensures s rs (subst (AreImages s rs) (sym c.as_slice-2.ensures) images))
