use Rattle.std.proofs.Common.{◌∙◌, ◌++◌, List, ℕ, ap, refl}
use Rattle.asm_write.specs.declared.contents.SymbolEntry.{SymbolEntry}
use Rattle.asm_layout.specs.declared.uses.Exported.{Exported}
use Rattle.asm_layout.specs.Contents.{imports_at, exports_at}
use Rattle.asm_layout.specs.Symbols.{import_entries, export_entries, sorted_exports}
use Rattle.asm_layout.specs.Uses.{imports}
use Rattle.asm_layout.proofs.Offsets.{cut_imports, cut_exports}
use Rattle.asm_contents.proofs.Joined.{on_ok}
use Rattle.asm_contents.proofs.contents.Source.fill_symbols.Goals as goal

pub returns : goal.returns
returns c =
    let lines = c.args.self.statements.now in
    let old = c.args.contents.now.symbols in
    let marks = c.args.marks in
    let names = c.as_slice.ensures ∙ c.requires.source.uses.imports in
    let undefined = c.in_ok-push_imports.ensures lines (record { statements = refl; spots = c.spots.ensures; needed = c.requires.source.needed; facts = c.in_ok-facts.ensures })
    ∙ ap (λ (names : List (List ℕ)). old ++ import_entries lines marks.imports names) names
    ∙ ap (λ (at : ℕ). old ++ import_entries lines at (imports lines)) c.requires.marks.imports
    ∙ ap (λ (entries : List SymbolEntry). old ++ entries) (cut_imports lines (imports_at lines) (imports lines)) in
    let front = old ++ import_entries lines (imports_at lines) (imports lines) in
    on_ok c.push_exports.result c.push_exports.ensures (λ told.
    ap (λ (symbols : List SymbolEntry). record c.args.contents.now { symbols = symbols })
    (told lines (record { statements = refl; spots = c.spots.ensures; needed = c.requires.source.needed; facts = c.in_ok-facts.ensures })
    ∙ ap (λ (front : List SymbolEntry). front ++ export_entries lines marks.exports c.args.sorted.now) undefined
    ∙ ap (λ (sorted : List Exported). front ++ export_entries lines marks.exports sorted) c.requires.sorted
    ∙ ap (λ (at : ℕ). front ++ export_entries lines at (sorted_exports lines)) c.requires.marks.exports
    ∙ ap (λ (entries : List SymbolEntry). front ++ entries) (cut_exports lines (exports_at lines) (sorted_exports lines))))
