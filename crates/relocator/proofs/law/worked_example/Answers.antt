use Rattle.std.proofs.Common.{refl}
use Rattle.seg_image.specs.Pages.{segment_at}
use Rattle.seg_image.specs.Roles.{role_of}
use Rattle.seg_image.specs.Words.{byte_of, file_byte, file_word, word_of}
use Rattle.relocator.specs.Relocated.{copied_at, image_byte, image_word, linkers_at, moved_word, packed_at, rela_at, settled_word, slot_at, value_of, with_copies}
use Rattle.relocator.specs.Storage.{first_without_offset}
use Rattle.relocator.proofs.Premises.{example_accepted, example_bound, example_placed}
use Rattle.relocator.proofs.law.worked_example.Goals as goal

pub returns-clause-words : goal.returns-clause-words
unfolding segment_at byte_of file_byte file_word word_of copied_at image_byte image_word linkers_at moved_word packed_at rela_at settled_word slot_at value_of with_copies
returns-clause-words c = refl

pub returns-clause-roles : goal.returns-clause-roles
unfolding segment_at role_of
returns-clause-roles c = refl

pub returns-clause-unrefused : goal.returns-clause-unrefused
unfolding first_without_offset
returns-clause-unrefused c = refl

pub returns-clause-accepted : goal.returns-clause-accepted
returns-clause-accepted c = example_accepted

pub returns-clause-placed : goal.returns-clause-placed
returns-clause-placed c = example_placed

pub returns-clause-bound : goal.returns-clause-bound
returns-clause-bound c = example_bound
