use Rattle.std.proofs.Common.{◌≡◌, ℕ, take, drop, nat_lt}
use Rattle.std.specs.List.{list_any}
use Rattle.elf_head.specs.DynTable.Tag.{has_tag}
use Rattle.elf_head.specs.DynTable.TagNumbers.{dt_soname}
use Rattle.elf_dynamic.proofs.string_rules.past_soname.Given as goal

abbrev pub invariant-loop-index : goal.invariant-loop-index
invariant-loop-index l = (k : ℕ) → list_any (has_tag dt_soname) (drop k (take l.index l.tags)) ≡ nat_lt k l.past
