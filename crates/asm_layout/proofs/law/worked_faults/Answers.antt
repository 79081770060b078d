-- By computation.
use Rattle.std.proofs.Common.{refl}
use Rattle.asm_layout.specs.Faults.{has_form, fault_at}
use Rattle.asm_layout.specs.Labels.{label}
use Rattle.asm_layout.specs.Expansions.{expansion}
use Rattle.asm_layout.specs.Contents.{entry_name, string_bytes, strings_of, contents_of}
use Rattle.asm_layout.specs.Fixes.{fixes_of}
use Rattle.asm_write.specs.HashBuild.Hashed.{by_bucket, buckets_of, gnu_of, sysv_of}
use Rattle.asm_layout.specs.Names.{kind_of, is_preemptible}
use Rattle.asm_layout.specs.Places.{words_in, directive_size, section_after, filling}
use Rattle.asm_layout.specs.Spots.{label_spot, section_align, sections_of}
use Rattle.asm_layout.specs.Symbols.{sorted_exports, symbol_index, label_size}
use Rattle.asm_layout.specs.Tables.{soname, needed, hash_of, flags_of, versions, entries, is_relr}
use Rattle.asm_layout.specs.Versions.{needed_files, file_versions, needed_number, strong_versions}
use Rattle.asm_write.specs.Relr.{relr_words, with_place}
use Rattle.asm_write.specs.Sizes.{dynamic_entries, segments_of, plain_size}
use Rattle.asm_write.specs.Starts.{align_of, third_starts, relr_size, size_of, starts_of}
use Rattle.sym_hash.specs.Hash.{gnu_hash, sysv_hash}
use Rattle.asm_layout.specs.Uses.{distinct, slots, got_uses, imports, exports, needs}
use Rattle.asm_layout.specs.Words.{label_address, slot_address, call_address, got_address, target, operand_value, words_at}
use Rattle.rv_isa.specs.Word.{bits}
use Rattle.asm_layout.proofs.law.worked_faults.Goals as goal

pub returns : goal.returns
unfolding has_form fault_at expansion label
    entry_name string_bytes strings_of contents_of fixes_of by_bucket buckets_of gnu_of sysv_of kind_of is_preemptible words_in directive_size section_after filling
    label_spot section_align sections_of sorted_exports symbol_index label_size soname needed hash_of flags_of versions entries is_relr
    needed_files file_versions needed_number strong_versions relr_words with_place dynamic_entries segments_of plain_size align_of third_starts relr_size size_of starts_of
    gnu_hash sysv_hash distinct slots got_uses imports exports needs label_address slot_address call_address got_address target operand_value
    words_at bits
returns c = record {
  twice = refl;
  first = refl;
  great = refl;
  nowhere = refl;
  misplaced = refl;
}
