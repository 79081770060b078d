use Rattle.std.proofs.Common.{true, false}
use Rattle.sym_lookup.proofs.Searches.{none_kept}
use Rattle.sym_lookup.proofs.references.References.over.Goals as goal

pub invariant_of-result : goal.invariant_of-result
invariant_of-result c = (
  none_kept c.new-searching.result.seen c.new-searching.result.owner false c.in_ok-kept.kept.choices.items c.len.result c.in_ok-kept.ensures.length c.in_ok-kept.ensures.none,
  none_kept c.new-searching.result.seen c.new-searching.result.owner true c.in_ok-copied.copied.choices.items c.copied_symbols.result c.in_ok-copied.ensures.length c.in_ok-copied.ensures.none,
)
