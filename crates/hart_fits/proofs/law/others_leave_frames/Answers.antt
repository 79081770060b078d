use Rattle.hart_fits.proofs.Others.{others_leave}
use Rattle.hart_fits.proofs.law.others_leave_frames.Goals as goal

pub returns : goal.returns
returns c = others_leave
    (record { starts = c.constructors_follow.ensures.stay; finishes = c.destructors_follow.ensures.stay })
    (λ m. record { order = c.serials_are_in_order.ensures.order m; dies = c.each_dies_once.ensures m })
