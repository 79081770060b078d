use Rattle.history_state.specs.Lemmas.Imaged.{images_mapped}
use Rattle.history_state.proofs.law.images_are_mapped.Goals as goal

pub returns : goal.returns
returns c = images_mapped
