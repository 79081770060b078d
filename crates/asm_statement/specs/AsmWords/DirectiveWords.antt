-- The words of directives.
use Rattle.std.specs.Prelude.{ℕ, List, [], ◌∷◌, Option, codes}
use Rattle.asm_statement.specs.AsmWords.Table.{named}
use Rattle.asm_statement.specs.declared.directive.Section.TheVariants as sections
use Rattle.asm_statement.specs.declared.directive.Export.TheVariants as exports
use Rattle.asm_statement.specs.declared.directive.Array.TheVariants as arrays
use Rattle.asm_statement.specs.declared.directive.DataSize.TheVariants as sizes
use Rattle.asm_statement.specs.declared.asm_words.directive_words.NameWord.TheVariants as names
use Rattle.asm_statement.specs.declared.asm_words.directive_words.NumberWord.TheVariants as numbers
use Rattle.asm_statement.specs.declared.asm_words.directive_words.LoneWord.TheVariants as lones
use Rattle.asm_statement.specs.declared.asm_words.directive_words.DirectiveWord.{DirectiveWord}
use Rattle.asm_statement.specs.declared.asm_words.directive_words.DirectiveWord.TheVariants as directives

-- directives
abbrev pub directive_word_rows : List (List ℕ × DirectiveWord)
directive_word_rows =
    (codes ".text", directives.Lone (lones.Section sections.Text)) ∷ (codes ".rodata", directives.Lone (lones.Section sections.Rodata)) ∷
    (codes ".relro", directives.Lone (lones.Section sections.Relro)) ∷ (codes ".data", directives.Lone (lones.Section sections.Data)) ∷
    (codes ".bss", directives.Lone (lones.Section sections.Bss)) ∷ (codes ".tdata", directives.Lone (lones.Section sections.Tdata)) ∷
    (codes ".tbss", directives.Lone (lones.Section sections.Tbss)) ∷ (codes ".soname", directives.Name names.Soname) ∷
    (codes ".needed", directives.Name names.Needed) ∷ (codes ".entry", directives.Name names.Entry) ∷
    (codes ".global", directives.Name (names.Export exports.Global)) ∷ (codes ".hidden", directives.Name (names.Export exports.Hidden)) ∷
    (codes ".protected", directives.Name (names.Export exports.Protected)) ∷ (codes ".weak", directives.Name names.Weak) ∷
    (codes ".version", directives.Name names.Version) ∷ (codes ".preinit", directives.Name (names.Entries arrays.Preinit)) ∷
    (codes ".init", directives.Name (names.Entries arrays.Init)) ∷ (codes ".fini", directives.Name (names.Entries arrays.Fini)) ∷
    (codes ".word", directives.Number (numbers.Data sizes.Word)) ∷ (codes ".half", directives.Number (numbers.Data sizes.Half)) ∷
    (codes ".byte", directives.Number (numbers.Data sizes.Byte)) ∷ (codes ".zero", directives.Number numbers.Zero) ∷
    (codes ".relr", directives.Lone lones.Relr) ∷ (codes ".kind", directives.Kind) ∷
    (codes ".hash", directives.Hash) ∷ (codes ".flags", directives.Flags) ∷
    (codes ".symver", directives.Symver) ∷ (codes ".need", directives.Need) ∷
    (codes ".dword", directives.Dword) ∷ (codes ".asciz", directives.Asciz) ∷
    (codes ".align", directives.Align) ∷ (codes ".copy", directives.Copy) ∷
    []

unfoldable pub directive_word : List ℕ → Option DirectiveWord
directive_word word = named word directive_word_rows
