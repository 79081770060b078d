use Rattle.std.proofs.Common.{◌∙◌, ◌++◌, List, ℕ, ap, refl}
use Rattle.asm_layout.specs.Contents.{needed_at, offsets_from, strings_of}
use Rattle.asm_layout.specs.Tables.{needed}
use Rattle.asm_layout.proofs.Offsets.{cut_offsets}
use Rattle.asm_contents.proofs.contents.Source.fill_strings.Goals as goal

pub returns-clause-contents : goal.returns-clause-contents
returns-clause-contents c =
    let lines = c.args.self.statements.now in
    let old = c.args.contents.now in
    let marks = c.in_ok-marks.ensures lines (record {
      statements = refl;
      uses = c.requires.source.uses;
      needed = c.requires.source.needed;
      sorted = c.requires.sorted;
      empty = c.requires.empty;
    }) in
    ap (λ (strings : List ℕ). record old { strings = strings; needed = c.push_offsets.new.offsets }) marks.strings
    ∙ ap (λ (offsets : List ℕ). record old { strings = strings_of lines; needed = offsets })
    (c.in_ok-push_offsets.ensures
    ∙ ap (λ (at : ℕ). old.needed ++ offsets_from at (needed lines)) marks.needed
    ∙ ap (λ (offsets : List ℕ). old.needed ++ offsets) (cut_offsets (needed_at lines) (needed lines)))
