use Rattle.std.proofs.Common.{List, drop, subst}
use Rattle.std.specs.List.{Contains}
use Rattle.history_state.specs.After.{after}
use Rattle.history_state.specs.Lemmas.Lists.{at_in}
use Rattle.link_open_images.specs.Relocated.{MayRelocate}
use Rattle.link_open_laws.specs.Laws.{places_after}
use Rattle.relocator.specs.declared.binding.Binding.{Binding}
use Rattle.link_open_laws.proofs.law.openings_relocate.Goals as goal

pub returns : goal.returns
returns c harts past hart id root ask added ranges lawful next = record {
  each = λ k o at.
      let new : Contains added o = at_in added k o at in
      subst (λ (bs : List Binding). MayRelocate o bs (places_after (after past) hart ask id root added ranges))
      (c.copies_are_seen.ensures harts past hart id root ask added ranges lawful next o new) (c.images_relocate.ensures harts past hart id root ask added ranges lawful next o new);
  libraries = λ k o at. c.libraries_have_no_copies.ensures harts past hart id root ask added ranges lawful next o (at_in (drop 1 added) k o at);
}
