use Rattle.std.proofs.Common.{List, Bool, true, false, replicate}
use Rattle.std.proofs.lemmas.List.{get_or-replicate}
use Rattle.address_space.proofs.FreePages.{marked_pages-all}
use Rattle.address_space.proofs.regions.Regions.new.Goals as goal

pub returns : goal.returns
returns c =
    let marks : List Bool = replicate 2047 true in
    marked_pages-all marks (λ k small. get_or-replicate 2047 k true false small)
