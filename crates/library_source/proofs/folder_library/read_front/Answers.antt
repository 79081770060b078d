use Rattle.std.proofs.Common.{rules, arith}
use Rattle.std.proofs.lemmas.List.{places, same_lists}
use Rattle.library_source.proofs.Reading.{filled_more}
use Rattle.library_source.proofs.folder_library.read_front.Goals as goal

pub loop-filled-preserved : goal.loop-filled-preserved
loop-filled-preserved g c = record {
  inside = search (rules, places);
  bound = search (rules, places);
  taken =
      filled_more _ _ _ c.loop-filled.bytes.items c.fill-in-loop-filled.new.room _ c.loop-filled.filled c.in_ok-filled-2.field-0
      (same_lists _ _ (search (rules, places)) (λ k d h. grind (arith, places)))
      c.loop-filled.invariant.taken c.in_ok-filled-2.ensures.taken;
  whole = λ short. c.in_ok-filled-2.ensures.whole (grind (arith, places));
}
