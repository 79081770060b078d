use Rattle.std.proofs.Common.{◌≡◌, Bool, None, Ok, Err, refl, sym, ap, subst, ◌∙◌}
use Rattle.library_source.specs.Files.{Over}
use Rattle.load_walk.specs.Files.{load_unread}
use Rattle.load_walk.specs.Plan.{HasToWait, IsPlan, IsRefused}
use Rattle.load_walk.specs.declared.ask.LoadAsk.{LoadAsk}
use Rattle.load_walk.specs.declared.ask.LoadFault.TheVariants.{Refused}
use Rattle.elf_object.specs.Verdict.{object_verdict}
use Rattle.history_state.specs.Flags.{is_noload}
use Rattle.scope_rule.specs.Load.{Brings, Stops, refuses, waits}
use Rattle.scope_rule.specs.Loads.{alone, named_there}
use Rattle.ld_base.specs.declared.fault.DlFault.TheVariants.{MissingLibrary, ReadFault}
use Rattle.link_open_plan.proofs.OpeningLoad.Unread.{err_is, missed_each, no_read_fails, were_read}
use Rattle.link_open_plan.proofs.OpeningLoad.Loading.{plan_finds, plan_refused, plan_waits, stops_at, there_finds, there_is_none, there_refused, there_waits}
use Rattle.link_open_plan.proofs.opening_load.finding.find.Goals as goal

pub returns-in-Ok-Some-clause-found : goal.returns-in-Ok-Some-clause-found
returns-in-Ok-Some-clause-found g c = λ w s id made.
    there_finds c.preload_is_the_programs.ensures.brings w s c.args.hart c.args.ask.now c.args.name.now id c.in-Ok-Some.root c.args.namespace.now c.args.next c.args.folders.now _ made
    (sym c.is_noload.ensures ∙ c.if-is_noload.true)
    (subst (λ (a : LoadAsk). Brings (load_unread a c.args.namespace.now.objects) (alone c.in-Ok-Some.root)) c.in_ok-load.ensures
    (c.in-Ok-Some.ensures.found c.in-Ok-Some.root (ap (λ x. Ok x) c.in-Ok-Some.field-0-is)))

pub returns-in-Ok-None-clause-found : goal.returns-in-Ok-None-clause-found
returns-in-Ok-None-clause-found g c = λ w s id made.
    there_is_none c.nothing_leads_nowhere.ensures w s c.args.hart c.args.ask.now c.args.name.now id c.args.namespace.now c.args.next c.args.folders.now _ made
    (sym c.is_noload.ensures ∙ c.if-is_noload.true)
    (subst (λ (a : LoadAsk). named_there (load_unread a c.args.namespace.now.objects) ≡ None) c.in_ok-load.ensures
    (c.in-Ok-None.ensures.absent (ap (λ x. Ok x) c.in-Ok-None.field-0-is)).0)

pub returns-then-is_noload-clause-stopped : goal.returns-then-is_noload-clause-stopped
returns-then-is_noload-clause-stopped g c = λ w s id made.
    let noload : is_noload c.args.ask.now.flags ≡ Bool.true = sym c.is_noload.ensures ∙ c.if-is_noload.true in
    stops_at w s c.args.hart c.args.ask.now c.in-Err.fault
    (λ why is.
    there_refused c.preload_is_the_programs.ensures.stops w s c.args.hart c.args.ask.now c.args.name.now id c.args.namespace.now c.args.next c.args.folders.now _ why made noload
    (λ other e. c.in-Err.ensures.never_missing other (ap (λ x. Err x) (is ∙ ap Refused e))) c.one_outcome.ensures.one_stop
    (subst (λ (a : LoadAsk). Stops (load_unread a c.args.namespace.now.objects) (refuses why)) c.in_ok-load.ensures (c.in-Err.ensures.refused why (ap (λ x. Err x) is))))
    (λ shown is.
    there_waits c.preload_is_the_programs.ensures.stops w s c.args.hart c.args.ask.now c.args.name.now id c.args.namespace.now c.args.next c.args.folders.now _ shown made noload
    (subst (λ (a : LoadAsk). Stops (load_unread a c.args.namespace.now.objects) (waits shown)) c.in_ok-load.ensures (c.in-Err.ensures.waits shown (ap (λ x. Err x) is))))

pub returns-in-Ok-clause-found : goal.returns-in-Ok-clause-found
returns-in-Ok-clause-found g c = λ w s id made.
    plan_finds c.preload_is_the_programs.ensures.brings w s c.args.hart c.args.ask.now c.args.name.now id c.args.namespace.now c.args.next c.args.folders.now _ c.in-Ok.plan made
    (sym c.is_noload.ensures ∙ c.if-is_noload.false)
    (subst (λ (a : LoadAsk). Over (g.L.Library.files c.args.library.now) (IsPlan object_verdict a c.args.namespace.now c.in-Ok.plan)) c.in_ok-load.ensures c.in-Ok.ensures.plan)

pub returns-clause-stopped : goal.returns-clause-stopped
returns-clause-stopped g c = λ w s id made.
    stops_at w s c.args.hart c.args.ask.now c.in-Err-plan_load.fault
    (λ why is.
    plan_refused c.preload_is_the_programs.ensures.brings c.preload_is_the_programs.ensures.stops w s c.args.hart c.args.ask.now c.args.name.now id c.args.namespace.now c.args.next
    (g.L.Library.misses c.args.library.now) (g.L.Library.misses c.plan_load.new.library) c.args.folders.now _ why made (sym c.is_noload.ensures ∙ c.if-is_noload.false)
    (subst (λ (a : LoadAsk). Over (g.L.Library.files c.args.library.now)
    (IsRefused object_verdict a c.args.namespace.now.objects (g.L.Library.misses c.args.library.now) (g.L.Library.misses c.plan_load.new.library) why))
    c.in_ok-load.ensures (c.in-Err-plan_load.ensures.refused why (ap (λ x. Err x) is))))
    (λ shown is.
    plan_waits c.preload_is_the_programs.ensures.stops w s c.args.hart c.args.ask.now c.args.name.now id c.args.namespace.now c.args.next c.args.folders.now _ shown made
    (sym c.is_noload.ensures ∙ c.if-is_noload.false)
    (subst (λ (a : LoadAsk). Over (g.L.Library.files c.args.library.now) (HasToWait object_verdict a c.args.namespace.now.objects shown)) c.in_ok-load.ensures
    (c.in-Err-plan_load.ensures.waits shown (ap (λ x. Err x) is))))

pub returns-then-is_noload-clause-read_fault : goal.returns-then-is_noload-clause-read_fault
returns-then-is_noload-clause-read_fault g c = λ path is.
    absurd (no_read_fails
    (record { brings = c.finds_loaded.ensures.brings; stop = c.finds_loaded.ensures.stops; missing = c.finds_loaded.ensures.missing; one_stop = c.one_outcome.ensures.one_stop; not_both = c.one_outcome.ensures.not_both })
    (load_unread c.in_ok-load.load c.args.namespace.now.objects) path (λ path. refl)
    (c.in-Err.ensures.refused (ReadFault path) (ap (λ x. Err x) (err_is c.in-Err.fault (Refused (ReadFault path)) is))))

pub returns-clause-missed : goal.returns-clause-missed
returns-clause-missed g c = λ missing is.
    missed_each c.args.next c.args.hart c.args.ask.now c.args.name.now missing c.args.folders.now c.args.namespace.now.objects (g.L.Library.misses c.args.library.now) (g.L.Library.misses c.plan_load.new.library)
    (g.L.Library.files c.args.library.now)
    (subst (λ (a : LoadAsk). Over (g.L.Library.files c.args.library.now)
    (IsRefused object_verdict a c.args.namespace.now.objects (g.L.Library.misses c.args.library.now) (g.L.Library.misses c.plan_load.new.library) (MissingLibrary missing)))
    c.in_ok-load.ensures (c.in-Err-plan_load.ensures.refused (MissingLibrary missing) (ap (λ x. Err x) (err_is c.in-Err-plan_load.fault (Refused (MissingLibrary missing)) is))))

pub returns-in-Ok-clause-read : goal.returns-in-Ok-clause-read
returns-in-Ok-clause-read g c =
    were_read c.in_ok-load.load c.args.namespace.now c.in-Ok.plan (g.L.Library.files c.args.library.now) (ap (λ (a : LoadAsk). a.program) c.in_ok-load.ensures) c.in-Ok.ensures.plan
