use Rattle.std.proofs.Common.{List, sym, subst}
use Rattle.history_state.specs.After.{after}
use Rattle.history_state.specs.Lemmas.Lists.{at_in}
use Rattle.link_open_images.specs.Relocated.{IsRelocated}
use Rattle.link_open_laws.specs.Laws.{places_after}
use Rattle.relocator.specs.declared.binding.Binding.{Binding}
use Rattle.link_open_laws.proofs.law.relocated_are_installs.Goals as goal

pub returns : goal.returns
returns c harts past hart id root ask added ranges lawful next images are =
    c.images_are_installs.ensures harts past hart id root ask added ranges lawful next images (record {
      count = are.count;
      each = λ k o image at there.
          subst (λ (bs : List Binding). IsRelocated o bs (places_after (after past) hart ask id root added ranges) image)
          (sym (c.copies_are_seen.ensures harts past hart id root ask added ranges lawful next o (at_in added k o at))) (are.each k o image at there);
    })
