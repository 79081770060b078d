use Rattle.std.proofs.Common.{arith}
use Rattle.address_space.proofs.FreePages.{AllInUse-cleared, IsFirstFit-marked, marked_pages-without, place_of_Fits}
use Rattle.address_space.proofs.regions.Regions.reserve.Goals as goal

pub returns-in_default-clause-full : goal.returns-in_default-clause-full
returns-in_default-clause-full c = rw (← c.self.view_is) (λ address fits.
    let place = place_of_Fits c.self.inside.free c.args.pages c.args.align address c.requires.some fits in
    c.in_default.ensures.none place.0 place.2)

pub returns-clause-fit : goal.returns-clause-fit
returns-clause-fit c = rw (← c.self.view_is, c.page_address.ensures)
    (IsFirstFit-marked c.self.inside.free c.args.pages c.args.align c.in-Some.start c.requires.some (omega arith) c.in-Some.ensures.fits c.in-Some.ensures.least)

pub returns-clause-taken : goal.returns-clause-taken
returns-clause-taken c = rw (← c.self.view_is)
    (marked_pages-without c.self.inside.free c.mark.new.marks c.page_address.result c.args.pages c.in-Some.start (λ _. c.page_address.ensures) c.mark.ensures)

pub returns-clause-in_use : goal.returns-clause-in_use
returns-clause-in_use c =
    AllInUse-cleared c.self.inside.free c.mark.new.marks c.page_address.result c.args.pages c.in-Some.start
    (λ _. c.page_address.ensures) (omega (arith, c.in-Some.ensures.within)) c.in-Some.ensures.fits.marked c.mark.ensures
