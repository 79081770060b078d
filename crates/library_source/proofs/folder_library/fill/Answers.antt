use Rattle.std.proofs.Common.{rules, arith}
use Rattle.std.proofs.lemmas.List.{places, same_lists}
use Rattle.library_source.proofs.Reading.{filled_more}
use Rattle.library_source.proofs.folder_library.fill.Goals as goal

pub loop-filled-preserved : goal.loop-filled-preserved
loop-filled-preserved g c = record {
  inside = search (rules, places);
  taken =
      filled_more _ _ _ c.loop-filled.room c.read_once.new.piece _ c.loop-filled.filled c.in_ok-count.count
      (same_lists _ _ (search (rules, places)) (λ k d h. grind (arith, places)))
      c.loop-filled.invariant.taken c.in_ok-count.ensures.bytes.0;
}
