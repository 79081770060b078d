use Rattle.address_space.proofs.FreePages.{AllFree-marked, AllInUse-cleared, marked_pages-without}
use Rattle.address_space.proofs.regions.Regions.reserve_at.Goals as goal

pub returns-in_default-clause-full : goal.returns-in_default-clause-full
returns-in_default-clause-full c = rw (← c.self.view_is) c.in_default.ensures.none

pub returns-clause-free : goal.returns-clause-free
returns-clause-free c = rw (← c.self.view_is)
    (AllFree-marked c.self.inside.free c.args.address c.args.pages c.in-Some.start c.in-Some.ensures.place c.in-Some.ensures.within c.in-Some.ensures.marked)

pub returns-clause-taken : goal.returns-clause-taken
returns-clause-taken c = rw (← c.self.view_is)
    (marked_pages-without c.self.inside.free c.mark.new.marks c.args.address c.args.pages c.in-Some.start c.in-Some.ensures.place c.mark.ensures)

pub returns-clause-in_use : goal.returns-clause-in_use
returns-clause-in_use c =
    AllInUse-cleared c.self.inside.free c.mark.new.marks c.args.address c.args.pages c.in-Some.start
    c.in-Some.ensures.place c.in-Some.ensures.within c.in-Some.ensures.marked c.mark.ensures
