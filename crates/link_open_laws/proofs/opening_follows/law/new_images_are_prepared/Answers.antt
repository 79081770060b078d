use Rattle.history_journal.specs.Following.{machine_of}
use Rattle.history_state.specs.After.{after}
use Rattle.link_open_laws.specs.Laws.{image_made}
use Rattle.link_open_laws.proofs.OpeningFollows.Found.{image_found}
use Rattle.link_open_laws.proofs.opening_follows.law.new_images_are_prepared.Goals as goal

pub returns : goal.returns
returns c harts past hart id root ask added ranges lawful next images are = record {
  count = are.count;
  each = λ k o image at there. record {
    linked = image_made (after past) hart ask id root added ranges o;
    found = image_found (after past) hart ask id root added ranges (c.serials_are_in_order.ensures.order (machine_of harts) past lawful) (c.images_are_mapped.ensures (machine_of harts) past lawful)
        (c.serials_are_in_order.ensures.new (machine_of harts) next.setting past hart id root ask added ranges next.machine lawful next.may) k o at;
    is = c.relocated_are_of_records.ensures harts past hart id root ask added ranges lawful next images are k o image at there;
  };
}
