use Rattle.std.proofs.Common.{◌≡◌, take}
use Rattle.scope_rule.specs.Finding.{in_folders}
use Rattle.load_walk.proofs.finding.fill_paths.Given as goal

-- those of the folders so far
abbrev pub invariant-loop-folder : goal.invariant-loop-folder
invariant-loop-folder l = l.paths ≡ in_folders (take l.folder-index l.folders) l.name
