use Rattle.std.proofs.Common.{◌∙◌, ap, length, map, List}
use Rattle.std.proofs.lemmas.List.{length-map}
use Rattle.asm_places.specs.declared.asm_needs.needed_file.NeededFile.{NeededFile}
use Rattle.asm_places.specs.AsmNeeds.Filled.{running_counts}
use Rattle.asm_places.proofs.AsmNeeds.Built.{built_names, built_each, built_firsts, length-running_counts}
use Rattle.asm_places.proofs.asm_needs.needed_files.NeededFiles.of.Goals as goal

pub invariant_of-result-clause-all : goal.invariant_of-result-clause-all
invariant_of-result-clause-all c = c.in_ok-files.ensures.all

pub invariant_of-result-clause-counted : goal.invariant_of-result-clause-counted
invariant_of-result-clause-counted c =
    let files = c.deref.result.now in
    ap length c.in_ok-firsts.ensures
    ∙ length-running_counts 0 (map (λ (file : NeededFile). length file.versions) files)
    ∙ length-map files (λ (file : NeededFile). length file.versions)
    ∙ ap length c.deref.ensures.value
    ∙ c.in_ok-files.ensures.all

pub returns : goal.returns
returns c = λ lines same.
    let needs = c.args.needs.now in
    let files = c.in_ok-files.files.items in
    let names = built_names lines needs c.in_ok-names.names same c.in_ok-names.ensures in
    let each = built_each lines needs c.in_ok-names.names files same names c.in_ok-files.ensures in
    record {
      names = names;
      each = each;
      firsts = built_firsts lines files c.in_ok-firsts.firsts.items (c.in_ok-files.ensures.all ∙ ap length names) each
          (c.in_ok-firsts.ensures ∙ ap (λ (files : List NeededFile). running_counts 0 (map (λ (file : NeededFile). length file.versions) files)) c.deref.ensures.value);
    }
