use Rattle.std.proofs.Common.{◌≡◌, ◌++◌, take, flat_map}
use Rattle.asm_layout.specs.Contents.{string_bytes}
use Rattle.asm_contents.proofs.strings.append_versions.Given as goal

abbrev pub invariant-loop-file : goal.invariant-loop-file
invariant-loop-file l = l.out ≡ l.initial.out ++ flat_map string_bytes (flat_map (λ file. file.versions) (take l.file-index l.files))
