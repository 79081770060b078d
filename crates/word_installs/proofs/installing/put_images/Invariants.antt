use Rattle.word_installs.specs.Installed.{Puts}
use Rattle.word_installs.proofs.Putting.{OfFirstImages}
use Rattle.word_installs.proofs.installing.put_images.Given as goal

-- those in front are there
abbrev pub invariant-loop-image : goal.invariant-loop-image
invariant-loop-image g l = Puts (OfFirstImages l.image-index l.images) l.fn.keeper l.keeper
