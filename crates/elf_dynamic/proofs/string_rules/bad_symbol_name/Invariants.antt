use Rattle.std.proofs.Common.{◌≡◌, None}
use Rattle.elf_dynamic.specs.Rules.{unnamed_symbol}
use Rattle.elf_dynamic.proofs.string_rules.bad_symbol_name.Given as goal

-- none of the names so far is missing
abbrev pub invariant-loop-index : goal.invariant-loop-index
invariant-loop-index l = unnamed_symbol l.strings l.part l.index ≡ None
