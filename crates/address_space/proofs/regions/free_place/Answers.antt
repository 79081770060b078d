use Rattle.std.proofs.lemmas.Bool.{false≢true}
use Rattle.address_space.proofs.FreePages.{AllFree-guest, AllMarked-free}
use Rattle.address_space.proofs.regions.free_place.Goals as goal

pub returns-in_default-clause-none : goal.returns-in_default-clause-none
returns-in_default-clause-none c = λ free.
    c.in_default.ensures.none (AllFree-guest c.args.marks.now c.args.address c.args.pages free)

pub returns-else-all_marked-clause-none : goal.returns-else-all_marked-clause-none
returns-else-all_marked-clause-none c = λ free.
    false≢true (c.if-all_marked.ensures.1
    (AllMarked-free c.args.marks.now c.args.address c.args.pages c.in-Some.start c.in-Some.ensures.place free))
