use Rattle.hart_fits.proofs.Finals.{finals_begin_fit, own_moves_leave_finals}
use Rattle.hart_fits.specs.Lemmas.Settling.{all_settled}
use Rattle.hart_fits.proofs.law.finals_fit.Goals as goal

pub returns-clause-own : goal.returns-clause-own
returns-clause-own c = own_moves_leave_finals
    (λ m. record {
      follow = record { starts = c.constructors_follow.ensures.stay; finishes = c.destructors_follow.ensures.stay };
      apart = record { order = c.serials_are_in_order.ensures.order m; dies = c.each_dies_once.ensures m };
      next = record { starts = c.constructors_follow.ensures.next; finishes = c.destructors_follow.ensures.next; begins = c.constructors_follow.ensures.begins };
      load = record { serials = c.serials_follow.ensures; leads = c.found_stands.ensures.names; founds = c.found_stands.ensures.founds };
      new = λ w past hart id root ask added ranges. c.serials_are_in_order.ensures.new m w past hart id root ask added ranges;
      spare = λ w past hart handle set. c.closed_are_spare.ensures m w past hart handle set;
    })
    c.turns_append.ensures.events
    c.turns_append.ensures.finals

pub returns-clause-begin : goal.returns-clause-begin
returns-clause-begin c = finals_begin_fit

pub returns-clause-nobodys : goal.returns-clause-nobodys
returns-clause-nobodys c = all_settled
