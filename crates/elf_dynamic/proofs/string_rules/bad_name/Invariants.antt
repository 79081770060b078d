use Rattle.std.proofs.Common.{◌≡◌, drop}
use Rattle.std.specs.Prelude.{find}
use Rattle.elf_dynamic.specs.Rules.{lacks_string, name_offsets}
use Rattle.elf_dynamic.proofs.string_rules.bad_name.Given as goal

-- the search of the rest is the search of all names
abbrev pub invariant-loop-index : goal.invariant-loop-index
invariant-loop-index l = find (lacks_string l.strings) (name_offsets (drop l.index l.tags)) ≡ find (lacks_string l.strings) (name_offsets l.tags)
