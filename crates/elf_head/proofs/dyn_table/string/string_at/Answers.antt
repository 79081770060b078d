use Rattle.std.proofs.Common.{◌∙◌, sym}
use Rattle.elf_head.proofs.DynTable.Strings.{string_found}
use Rattle.elf_head.proofs.dyn_table.string.string_at.Goals as goal

pub returns-in-Some-clause-place : goal.returns-in-Some-clause-place
returns-in-Some-clause-place c =
    string_found c.args.strings.now c.window-window.result.now c.args.offset c.in-Some.end c.window-window.ensures (sym c.first_zero.ensures ∙ c.in-Some.is)
