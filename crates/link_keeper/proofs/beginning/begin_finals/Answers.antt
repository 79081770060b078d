use Rattle.std.proofs.Common.{◌≡◌, inl, inr, ℕ, Bool, true, false, List, IsTrue, refl, sym, ap, subst, ◌∙◌}
use Rattle.std.specs.Bool.{OnFalse, OnTrue}
use Rattle.std.proofs.lemmas.Bool.{false≢true, true≢false}
use Rattle.history_event.specs.declared.event.Event.{Event}
use Rattle.history_state.specs.After.{after}
use Rattle.history_state.specs.Setting.{are_finals, have_exited}
use Rattle.hart_moves.specs.Moves.{all_finis}
use Rattle.hart_moves.specs.Starting.{starting_registers}
use Rattle.word_rule.specs.declared.view.HartView.{HartView}
use Rattle.word_rule.specs.declared.view.KeeperView.{KeeperView}
use Rattle.world_answers.specs.ReturnsPart.FinalTurns.Begins.{StartsFinals}
use Rattle.link_keeper.specs.Keeping.{KeepsState, OpensNothing}
use Rattle.link_keeper.specs.Settling.{SettlesFirst}
use Rattle.link_keeper.proofs.Begun.{are_last, begins_so, between_so}
use Rattle.link_keeper.proofs.Lacking.{lacks_between, lacks_longer, lacks_so, none_so, opens_none, runs_so, still_between}
use Rattle.link_keeper.proofs.beginning.begin_finals.Goals as goal

on_true : {P : Type 0} (b : Bool) → b ≡ true → OnTrue b P → P
on_true {P} true is x = x
on_true {P} false is x = absurd (false≢true is)

on_false : {P : Type 0} (b : Bool) → b ≡ false → OnFalse b P → P
on_false {P} true is x = absurd (true≢false is)
on_false {P} false is x = x

pub returns-then-not-have_exited-clause-keeps : goal.returns-then-not-have_exited-clause-keeps
returns-then-not-have_exited-clause-keeps g c =
    (subst (KeepsState g.J.RunNaming.setting g.J.RunNaming.journal c.args.state.now) (sym c.hear.ensures.keeper) c.requires.keeps)

pub returns-then-not-have_exited-clause-begins : goal.returns-then-not-have_exited-clause-begins
returns-then-not-have_exited-clause-begins g c =
    runs_so g.J.RunNaming.setting g.J.RunNaming.journal c.args.seat.now c.hear.new.seat c.hear.ensures.hears c.args.hart.now.hart c.args.hart.now.hart refl (starting_registers c.args.entry)
    (ap (λ (es : List Event). have_exited g.J.RunNaming.setting (after es)) (c.hear.ensures.all ∙ c.requires.keeps.same) ∙ sym (c.have_exited.ensures g.J.RunNaming.setting c.requires.keeps.machine) ∙ c.if-not-have_exited.true)

pub returns-then-not-have_exited-clause-same : goal.returns-then-not-have_exited-clause-same
returns-then-not-have_exited-clause-same g c =
    ap (λ (x : HartView). x.number) c.hear.ensures.hears.told

pub returns-then-not-have_exited-clause-longer : goal.returns-then-not-have_exited-clause-longer
returns-then-not-have_exited-clause-longer g c =
    c.hear.ensures.hears.longer

pub returns-then-not-have_exited-clause-calling : goal.returns-then-not-have_exited-clause-calling
returns-then-not-have_exited-clause-calling g c =
    ap (λ (x : HartView). x.lane.calling) c.hear.ensures.hears.told ∙ c.requires.calling

pub returns-then-not-have_exited-clause-opened : goal.returns-then-not-have_exited-clause-opened
returns-then-not-have_exited-clause-opened g c =
    subst (λ (x : KeeperView). OpensNothing c.args.keeper.now.events x.events) (sym c.hear.ensures.keeper) (opens_none c.args.keeper.now.events)

pub returns-then-not-have_exited-clause-between : goal.returns-then-not-have_exited-clause-between
returns-then-not-have_exited-clause-between g c =
    still_between g.J.RunNaming.setting g.J.RunNaming.journal c.args.seat.now c.hear.new.seat c.hear.ensures.hears c.args.hart.now.hart c.args.hart.now.hart refl c.args.blocks.now c.args.code c.requires.exited c.requires.calling c.hear.ensures.lane c.requires.between

pub returns-in-Ok-true-clause-keeps : goal.returns-in-Ok-true-clause-keeps
returns-in-Ok-true-clause-keeps g c =
    (subst (KeepsState g.J.RunNaming.setting g.J.RunNaming.journal c.args.state.now) (sym c.hear.ensures.keeper) c.requires.keeps)

pub returns-in-Ok-true-clause-begins : goal.returns-in-Ok-true-clause-begins
returns-in-Ok-true-clause-begins g c =
    begins_so c.running_is_not_over.ensures.runs g.J.RunNaming.setting g.J.RunNaming.journal c.args.keeper.now c.args.seat.now c.hear.new.seat c.requires.keeps.view c.hear.ensures.hears c.hear.ensures.all c.requires.first c.requires.some c.requires.once c.finals_fit.ensures.begin c.args.entry c.args.code c.args.hart.now.hart c.begin.new.hart.hart c.requires.exited (ap (λ (es : List Event). have_exited g.J.RunNaming.setting (after es)) (c.hear.ensures.all ∙ c.requires.keeps.same) ∙ sym (c.have_exited.ensures g.J.RunNaming.setting c.requires.keeps.machine) ∙ c.if-not-have_exited.false) (subst (λ (es : List Event). StartsFinals (after es) c.args.entry c.args.code c.args.hart.now.hart c.begin.new.hart.hart) (sym (c.hear.ensures.all ∙ c.requires.keeps.same)) (on_true c.in-Ok-true.field-0 c.in-Ok-true.field-0-test c.in-Ok-true.ensures.begins))

pub returns-in-Ok-true-clause-same : goal.returns-in-Ok-true-clause-same
returns-in-Ok-true-clause-same g c =
    ap (λ (x : HartView). x.number) c.hear.ensures.hears.told

pub returns-in-Ok-true-clause-longer : goal.returns-in-Ok-true-clause-longer
returns-in-Ok-true-clause-longer g c =
    c.hear.ensures.hears.longer

pub returns-in-Ok-true-clause-calling : goal.returns-in-Ok-true-clause-calling
returns-in-Ok-true-clause-calling g c =
    ap (λ (x : HartView). x.lane.calling) c.hear.ensures.hears.told ∙ c.requires.calling

pub returns-in-Ok-true-clause-opened : goal.returns-in-Ok-true-clause-opened
returns-in-Ok-true-clause-opened g c =
    subst (λ (x : KeeperView). OpensNothing c.args.keeper.now.events x.events) (sym c.hear.ensures.keeper) (opens_none c.args.keeper.now.events)

pub returns-in-Ok-true-clause-between : goal.returns-in-Ok-true-clause-between
returns-in-Ok-true-clause-between g c =
    between_so c.running_is_not_over.ensures.runs g.J.RunNaming.setting g.J.RunNaming.journal c.args.keeper.now c.args.seat.now c.hear.new.seat c.requires.keeps.view c.hear.ensures.hears c.hear.ensures.all c.requires.first c.requires.some c.requires.once c.finals_fit.ensures.begin c.args.entry c.args.code c.args.hart.now.hart c.begin.new.hart.hart c.requires.exited (ap (λ (es : List Event). have_exited g.J.RunNaming.setting (after es)) (c.hear.ensures.all ∙ c.requires.keeps.same) ∙ sym (c.have_exited.ensures g.J.RunNaming.setting c.requires.keeps.machine) ∙ c.if-not-have_exited.false) (subst (λ (es : List Event). StartsFinals (after es) c.args.entry c.args.code c.args.hart.now.hart c.begin.new.hart.hart) (sym (c.hear.ensures.all ∙ c.requires.keeps.same)) (on_true c.in-Ok-true.field-0 c.in-Ok-true.field-0-test c.in-Ok-true.ensures.begins)) c.modules_are_tidy.ensures.tidy c.nothing_comes_before_startup.ensures c.args.blocks.now c.begin-in-Ok-true.new.self c.generation.result
    (c.generation.ensures ∙ c.modules.ensures.generation ∙ ap (λ (es : List Event). (after es).generation) (sym c.requires.keeps.same)) c.begin-in-Ok-true.ensures.entries c.begin-in-Ok-true.ensures.generation c.requires.calling c.hear.ensures.lane c.hear.ensures.issued c.requires.between

pub returns-in-Ok-false-clause-keeps : goal.returns-in-Ok-false-clause-keeps
returns-in-Ok-false-clause-keeps g c =
    (subst (KeepsState g.J.RunNaming.setting g.J.RunNaming.journal c.args.state.now) (sym c.hear.ensures.keeper) c.requires.keeps)

pub returns-in-Ok-false-clause-begins : goal.returns-in-Ok-false-clause-begins
returns-in-Ok-false-clause-begins g c =
    none_so g.J.RunNaming.setting g.J.RunNaming.journal c.args.seat.now c.hear.new.seat c.hear.ensures.hears c.args.hart.now.hart c.begin.new.hart.hart (on_false c.in-Ok-false.field-0 c.in-Ok-false.field-0-test c.in-Ok-false.ensures.stays) (starting_registers c.args.entry) (ap (λ (es : List Event). all_finis (after es)) (c.hear.ensures.all ∙ c.requires.keeps.same) ∙ on_false c.in-Ok-false.field-0 c.in-Ok-false.field-0-test c.in-Ok-false.ensures.none)

pub returns-in-Ok-false-clause-same : goal.returns-in-Ok-false-clause-same
returns-in-Ok-false-clause-same g c =
    ap (λ (x : HartView). x.number) c.hear.ensures.hears.told

pub returns-in-Ok-false-clause-longer : goal.returns-in-Ok-false-clause-longer
returns-in-Ok-false-clause-longer g c =
    c.hear.ensures.hears.longer

pub returns-in-Ok-false-clause-calling : goal.returns-in-Ok-false-clause-calling
returns-in-Ok-false-clause-calling g c =
    ap (λ (x : HartView). x.lane.calling) c.hear.ensures.hears.told ∙ c.requires.calling

pub returns-in-Ok-false-clause-opened : goal.returns-in-Ok-false-clause-opened
returns-in-Ok-false-clause-opened g c =
    subst (λ (x : KeeperView). OpensNothing c.args.keeper.now.events x.events) (sym c.hear.ensures.keeper) (opens_none c.args.keeper.now.events)

pub returns-in-Ok-false-clause-between : goal.returns-in-Ok-false-clause-between
returns-in-Ok-false-clause-between g c =
    still_between g.J.RunNaming.setting g.J.RunNaming.journal c.args.seat.now c.hear.new.seat c.hear.ensures.hears c.args.hart.now.hart c.begin.new.hart.hart (on_false c.in-Ok-false.field-0 c.in-Ok-false.field-0-test c.in-Ok-false.ensures.stays) c.args.blocks.now c.args.code c.requires.exited c.requires.calling c.hear.ensures.lane c.requires.between

pub end_again-requires-clause-keeps : goal.end_again-requires-clause-keeps
end_again-requires-clause-keeps g c =
    (subst (KeepsState g.J.RunNaming.setting g.J.RunNaming.journal c.args.state.now) (sym c.hear.ensures.keeper) c.requires.keeps)

pub end_again-requires-clause-heard : goal.end_again-requires-clause-heard
end_again-requires-clause-heard g c =
    c.hear.ensures.hears.heard

pub end_again-requires-clause-calling : goal.end_again-requires-clause-calling
end_again-requires-clause-calling g c =
    ap (λ (x : HartView). x.lane.calling) c.hear.ensures.hears.told ∙ c.requires.calling

pub end_again-requires-clause-zeroth : goal.end_again-requires-clause-zeroth
end_again-requires-clause-zeroth g c =
    ap (λ (x : HartView). x.number) c.hear.ensures.hears.told ∙ c.requires.first

pub end_again-requires-clause-over : goal.end_again-requires-clause-over
end_again-requires-clause-over g c =
    subst (λ (es : List Event). IsTrue (are_finals g.J.RunNaming.setting (after es))) (c.hear.ensures.all ∙ ap (λ (x : KeeperView). x.events) (sym c.hear.ensures.keeper)) (are_last c.running_is_not_over.ensures.runs g.J.RunNaming.setting g.J.RunNaming.journal c.args.keeper.now c.args.seat.now c.hear.new.seat c.requires.keeps.view c.hear.ensures.hears c.hear.ensures.all c.requires.first c.requires.some c.requires.once (ap (λ (es : List Event). have_exited g.J.RunNaming.setting (after es)) (c.hear.ensures.all ∙ c.requires.keeps.same) ∙ sym (c.have_exited.ensures g.J.RunNaming.setting c.requires.keeps.machine) ∙ c.if-not-have_exited.false))

pub returns-in-Err-clause-begins : goal.returns-in-Err-clause-begins
returns-in-Err-clause-begins g c =
    lacks_so g.J.RunNaming.setting g.J.RunNaming.journal c.args.seat.now c.hear.new.seat c.end_again.new.seat c.hear.ensures.hears c.end_again.ensures.again c.requires.first c.args.hart.now.hart c.begin.new.hart.hart c.in-Err.ensures.err c.args.code c.requires.exited (starting_registers c.args.entry)

pub returns-in-Err-clause-same : goal.returns-in-Err-clause-same
returns-in-Err-clause-same g c =
    c.end_again.ensures.again.same ∙ ap (λ (x : HartView). x.number) c.hear.ensures.hears.told

pub returns-in-Err-clause-longer : goal.returns-in-Err-clause-longer
returns-in-Err-clause-longer g c =
    lacks_longer g.J.RunNaming.setting g.J.RunNaming.journal c.args.seat.now c.hear.new.seat c.end_again.new.seat c.hear.ensures.hears c.end_again.ensures.again c.requires.first c.args.hart.now.hart c.begin.new.hart.hart c.in-Err.ensures.err c.args.code c.requires.exited

pub returns-in-Err-clause-calling : goal.returns-in-Err-clause-calling
returns-in-Err-clause-calling g c =
    c.end_again.ensures.again.calling

pub returns-in-Err-clause-between : goal.returns-in-Err-clause-between
returns-in-Err-clause-between g c =
    lacks_between g.J.RunNaming.setting g.J.RunNaming.journal c.args.seat.now c.hear.new.seat c.end_again.new.seat c.hear.ensures.hears c.end_again.ensures.again c.requires.first c.args.hart.now.hart c.begin.new.hart.hart c.in-Err.ensures.err c.args.code c.requires.exited c.args.blocks.now c.requires.calling c.hear.ensures.lane c.requires.between

pub returns-in-Err-clause-opened : goal.returns-in-Err-clause-opened
returns-in-Err-clause-opened g c =
    subst (λ (x : KeeperView). OpensNothing x.events c.end_again.new.keeper.events) c.hear.ensures.keeper c.end_again.ensures.opened

pub returns-then-not-have_exited-clause-settled : goal.returns-then-not-have_exited-clause-settled
returns-then-not-have_exited-clause-settled g c = inl c.hear.ensures.keeper

pub returns-in-Ok-true-clause-settled : goal.returns-in-Ok-true-clause-settled
returns-in-Ok-true-clause-settled g c = inl c.hear.ensures.keeper

pub returns-in-Ok-false-clause-settled : goal.returns-in-Ok-false-clause-settled
returns-in-Ok-false-clause-settled g c = inl c.hear.ensures.keeper

pub returns-in-Err-clause-settled : goal.returns-in-Err-clause-settled
returns-in-Err-clause-settled g c = inr (subst (λ (k : KeeperView). SettlesFirst g.J.RunNaming.setting c.args.seat.now.number k c.end_again.new.keeper) c.hear.ensures.keeper
    (subst (λ (n : ℕ). SettlesFirst g.J.RunNaming.setting n c.hear.new.keeper c.end_again.new.keeper) (ap (λ (x : HartView). x.number) c.hear.ensures.hears.told) c.end_again.ensures.settled))
