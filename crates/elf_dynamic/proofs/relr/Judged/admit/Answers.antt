use Rattle.std.proofs.Common.{◌∙◌, ◌++◌, map, ◌+◌, sym, refl}
use Rattle.elf_dynamic.specs.Named.{doubleword}
use Rattle.elf_dynamic.proofs.Packed.{admit_bad, admit_kept}
use Rattle.elf_dynamic.proofs.relr.Judged.admit.Goals as goal

pub returns-then-refuses-clause-kept : goal.returns-then-refuses-clause-kept
returns-then-refuses-clause-kept c ranges places judged =
    admit_bad c.args.headers.now ranges places c.args.place c.args.self.now judged
    (sym (c.refuses.ensures.tells (ranges ++ map doubleword places) judged.marks) ∙ c.if-refuses.true)

pub returns-clause-kept : goal.returns-clause-kept
returns-clause-kept c ranges places judged =
    let good = sym (c.refuses.ensures.tells (ranges ++ map doubleword places) judged.marks) ∙ c.if-refuses.false in
    admit_kept c.args.headers.now ranges places c.args.place c.args.self.now judged
    (record { named = c.set.new.self; places = c.list.new.places; count = c.args.self.now.count + 1 }) good c.in_ok-set.ensures c.in_ok-list.ensures refl
