use Rattle.world_answers.specs.GuestsPart.Lemmas.Turns.{counts_nothing, opens_nothing}
use Rattle.world_answers.proofs.GuestsPart.Waiting.{makes_call, wait_is_no_call, waits_again, waits_over, waits_tell}
use Rattle.world_answers.proofs.guests.serving.serve.Goals as goal

pub make_call-requires-clause-may : goal.make_call-requires-clause-may
make_call-requires-clause-may g c = makes_call _ _ _ _ c.requires.may c.in-None.ensures.none

pub returns-in-Some-clause-turns : goal.returns-in-Some-clause-turns
returns-in-Some-clause-turns g c =
    waits_over c.args.state.now c.args.folders.now (g.L.Library.files c.args.library.now) c.args.memory.now c.args.id c.args.hart.now.hart c.wait.new.hart.hart
    c.in-Some.shown c.in-Some.ensures.some c.wait.ensures.hart

pub returns-in-Some-clause-outcome : goal.returns-in-Some-clause-outcome
returns-in-Some-clause-outcome g c = waits_again _ _ _ _ c.wait.ensures.result c.wait.ensures.hart c.requires.may.runs

pub returns-in-Some-clause-tells : goal.returns-in-Some-clause-tells
returns-in-Some-clause-tells g c = λ w on. waits_tell w _ _ _ _ _ c.wait.ensures.result c.in-Some.ensures.some

pub returns-in-Some-clause-whole : goal.returns-in-Some-clause-whole
returns-in-Some-clause-whole g c = opens_nothing _ _ _ _ _ _ _ _ _ _ (wait_is_no_call _ _ c.in-Some.ensures.some)

pub returns-in-Some-clause-counts : goal.returns-in-Some-clause-counts
returns-in-Some-clause-counts g c = counts_nothing _ _ _ _ _ _ _ _ _ (wait_is_no_call _ _ c.in-Some.ensures.some)
