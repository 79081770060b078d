-- The lines that are left, told after those before them, give the whole.
use Rattle.std.proofs.Common.{◌≡◌, drop, fold, None}
use Rattle.std.specs.Prelude.{option_map}
use Rattle.asm_layout.specs.Tables.{soname_given}
use Rattle.asm_contents.proofs.object_words.soname.Given as goal

abbrev pub invariant-loop-line : goal.invariant-loop-line
invariant-loop-line l =
    fold (λ name line. soname_given name line.statement) (option_map (λ name. name.now) l.soname) (drop l.line-index l.line-items)
    ≡ fold (λ name line. soname_given name line.statement) None l.line-items
