use Rattle.std.proofs.Common.{refl}
use Rattle.seg_image.specs.Pages.{guest_address, own_address, segment_at}
use Rattle.seg_image.specs.Words.{byte_of, file_byte, file_word, word_of}
use Rattle.relocator.specs.Relocated.{copied_at, image_byte, image_word, linkers_at, moved_word, packed_at, rela_at, settled_word, slot_at, slot_word, value_of, with_copies}
use Rattle.history_state.specs.Memory.{word_in}
use Rattle.history_calls.specs.Functions.{constructors, destructors}
use Rattle.history_calls.proofs.worked_calls.runs_functions_in_order.Goals as goal

pub returns-clause-runs : goal.returns-clause-runs
unfolding constructors destructors word_in guest_address own_address segment_at byte_of file_byte file_word word_of copied_at image_byte image_word linkers_at moved_word packed_at rela_at settled_word slot_at slot_word value_of with_copies
returns-clause-runs c = (refl, refl)

pub returns-clause-passes : goal.returns-clause-passes
unfolding constructors
returns-clause-passes c = (refl, refl)
