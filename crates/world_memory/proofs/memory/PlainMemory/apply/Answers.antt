use Rattle.std.proofs.Common.{List, subst}
use Rattle.history_event.specs.declared.event.Range.{Range}
use Rattle.history_state.specs.After.{after}
use Rattle.world_memory.specs.TurnAnswers.Changes.{Changes}
use Rattle.world_memory.specs.Pages.{AreGuest, RemakesEach, released_word}
use Rattle.world_memory.proofs.Remade.{made_comes, nothing_changes, pages_come, pages_go}
use Rattle.world_memory.proofs.memory.PlainMemory.apply.Goals as goal

pub returns-in-Nothing : goal.returns-in-Nothing
returns-in-Nothing c = λ w past given legal changes.
    nothing_changes w past given c.args.self.now (subst (Changes (after past) given c.args.made.now) c.in-Nothing.is changes)

pub returns-in-Installs : goal.returns-in-Installs
returns-in-Installs c = λ w past given legal changes.
    pages_come w past given c.in-Installs.installs c.args.self.now c.install.new.self legal (subst (Changes (after past) given c.args.made.now) c.in-Installs.is changes) c.install.ensures

pub returns-in-Made : goal.returns-in-Made
returns-in-Made c = λ w past given legal changes.
    made_comes w past given c.args.made.now c.args.self.now c.install-in-Made.new.self legal (subst (Changes (after past) given c.args.made.now) c.in-Made.is changes) c.install-in-Made.ensures

pub returns-in-Removes : goal.returns-in-Removes
returns-in-Removes c = λ w past given legal changes.
    pages_go w past given c.in-Removes.ranges c.args.self.now c.release.new.self legal (subst (Changes (after past) given c.args.made.now) c.in-Removes.is changes)
    (subst (λ (rs : List Range). AreGuest rs → RemakesEach released_word rs c.args.self.now c.release.new.self) c.as_slice.ensures c.release.ensures)
