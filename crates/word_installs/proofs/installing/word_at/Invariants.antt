use Rattle.std.proofs.Common.{ℕ, ◌<◌}
use Rattle.seg_image.specs.declared.image.Word.{Word}
use Rattle.word_installs.specs.Installed.{IsWordAt}
use Rattle.word_installs.proofs.installing.word_at.Given as goal

-- none of those in front has it
abbrev pub invariant-loop-image : goal.invariant-loop-image
invariant-loop-image l = (i j : ℕ) (x : Word) → i < l.image-index → IsWordAt l.images i j l.address x → ⊥
