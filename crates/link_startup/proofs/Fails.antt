-- A run that doesn't start: the first refusal, and what the library's counts show of it.
use Rattle.std.proofs.Common.{◌≡◌, ℕ, ◌+◌, List, [], ◌∷◌, ◌++◌, Option, Some, None, Result, Ok, Err, IfErr, refl, sym, ap, subst, ◌∙◌}
use Rattle.std.specs.Result.{IsErrAnd}
use Rattle.history_calls.specs.CallLaws.Counts.{FaultsShow}
use Rattle.history_calls.specs.CallLaws.Laws.{StartsUnlessReadsFail}
use Rattle.ld_base.specs.declared.fault.DlFault.{DlFault}
use Rattle.ld_base.specs.declared.linking.File.{File}
use Rattle.history_event.specs.declared.event.Event.{Event}
use Rattle.history_event.specs.declared.event.Event.TheVariants.{Open}
use Rattle.history_event.specs.declared.event.OpenAnswer.TheVariants.{Refused}
use Rattle.history_event.specs.declared.event.OpenAsk.{OpenAsk}
use Rattle.history_event.specs.declared.event.SymAsk.{SymAsk}
use Rattle.history_state.specs.After.{after}
use Rattle.history_state.specs.Lookup.{RefusesSymbol}
use Rattle.history_state.specs.Opening.{Refuses}
use Rattle.history_state.specs.Setting.{Setting}
use Rattle.history_state.specs.State.{State}
use Rattle.history_calls.specs.declared.link_served.startup.Setup.{Setup}
use Rattle.history_calls.specs.declared.link_served.startup.StartFault.{StartFault}
use Rattle.history_calls.specs.declared.link_served.startup.StartFault.TheVariants as starts
use Rattle.history_calls.specs.Startup.{FailsToStart, LacksHart, opening, program_ask}
use Rattle.link_state.specs.Table.{LinkTable, appended}
use Rattle.link_open_plan.specs.Planned.{ShowsInNoCount}
use Rattle.link_open_plan.specs.Startup.{run_of}
use Rattle.link_open_plan.specs.declared.planning.NewObjects.{NewObjects}
use Rattle.link_open_plan.specs.declared.planning.Unopened.TheVariants as unopened
use Rattle.link_startup.specs.StartParts.Harts.{IsLacking}
use Rattle.link_startup.specs.declared.start_parts.harts.Unstarted.{Unstarted}
use Rattle.link_startup.specs.declared.start_parts.harts.Unstarted.TheVariants as unstarted
use Rattle.link_startup.specs.Startup.{FailsAs, IsNotStarted, IsOfNoFile, IsUnstarted, PlansStart, StartsWhereItCan, refusal_of_start, refusal_unstarted, startup_refusal}
use Rattle.link_startup.proofs.First.{may_open, may_refuse}

-- ---- a hart lacks a place to start

symbols_need_none : (s : State) (hart : ℕ) (ask : SymAsk) (fault : DlFault) → RefusesSymbol s hart ask fault → ShowsInNoCount (unopened.Refused fault)
symbols_need_none s hart ask fault (RefusesSymbol.name_too_long long) = tt
symbols_need_none s hart ask fault (RefusesSymbol.bad_handle short other none) = tt
symbols_need_none s hart ask fault (RefusesSymbol.missing short none) = tt
symbols_need_none s hart ask fault (RefusesSymbol.no_room serial index pages short found stored none) = tt

harts_need_none : (w : Setting) (program : List ℕ) (past : List Event) (hart : ℕ) (names : List (List ℕ)) (events : List Event) (fault : DlFault)
    → LacksHart w program past hart names events fault → ShowsInNoCount (unopened.Refused fault)
harts_need_none w program past hart names events fault (LacksHart.is_refused p h name rest f may) = symbols_need_none _ h _ f may.1
harts_need_none w program past hart names events fault (LacksHart.is_not_code p h name rest serial index value may not) = tt
harts_need_none w program past hart names events fault (LacksHart.one_more p h name rest serial index value more f finds lacks) =
    harts_need_none w program _ (h + 1) rest more f lacks

pub lacking_needs_none : (past events : List Event) (setup : Setup) (why : Unstarted) → IsLacking past setup.program setup.harts why events → IsOfNoFile why
lacking_needs_none past events setup (unstarted.Refused fault) lacks =
    harts_need_none (run_of setup None) setup.program past 1 setup.harts lacks.given fault (lacks.lacks (run_of setup None))
lacking_needs_none past events setup unstarted.Memory lacks = tt

pub lacks_so : (setup : Setup) (files : Option (List File)) (news : NewObjects) (past events : List Event) (why : Unstarted) → PlansStart setup files news
    → past ≡ opening setup news.root news.added news.ranges ∷ [] → IsLacking past setup.program setup.harts why events → IsUnstarted (run_of setup files) setup events why
lacks_so setup files news past events (unstarted.Refused fault) plan are lacks =
    subst (λ (es : List Event). FailsToStart (run_of setup files) setup fault es) (sym (lacks.are ∙ ap (λ (es : List Event). es ++ lacks.given) are))
    (FailsToStart.lacks_hart news.root news.added news.ranges lacks.given fault refl (may_open setup files news plan)
    (subst (λ (es : List Event). LacksHart (run_of setup files) setup.program es 1 setup.harts lacks.given fault) are (lacks.lacks (run_of setup files))))
lacks_so setup files news past events unstarted.Memory plan are lacks = tt

-- the program isn't opened
pub refused_so : (setup : Setup) (files : Option (List File)) (ask : OpenAsk) (old new : LinkTable) (fault : DlFault) → old.events ≡ [] → ask ≡ program_ask setup
    → Refuses (run_of setup files) (after []) 0 ask fault → new ≡ appended old (Open 0 ask (Refused fault)) → FailsToStart (run_of setup files) setup fault new.events
refused_so setup files ask old new fault none asked refuses is =
    let events : new.events ≡ Open 0 (program_ask setup) (Refused fault) ∷ [] =
    ap (λ (t : LinkTable). t.events) is ∙ ap (λ (past : List Event). past ++ Open 0 ask (Refused fault) ∷ []) none ∙ ap (λ (a : OpenAsk). Open 0 a (Refused fault) ∷ []) asked in
    subst (FailsToStart (run_of setup files) setup fault) (sym events)
    (FailsToStart.is_not_opened fault refl (may_refuse setup files fault (subst (λ (a : OpenAsk). Refuses (run_of setup files) (after []) 0 a fault) asked refuses)))

-- ---- the same as callers get it

pub not_started : (w : Setting) (setup : Setup) (events : List Event) (why : Unstarted) (fault : StartFault) → FailsAs events why fault → IsUnstarted w setup events why → IsNotStarted w setup fault
not_started w setup events (unstarted.Refused fault) (starts.Refused other journal) same is =
    subst (λ (f : DlFault). FailsToStart w setup f journal.events) (sym same.0) (subst (FailsToStart w setup fault) (sym same.1) is)
not_started w setup events (unstarted.Refused fault) starts.Memory same is = tt
not_started w setup events unstarted.Memory (starts.Refused other journal) same is = absurd same
not_started w setup events unstarted.Memory starts.Memory same is = tt

pub same_fault : (events : List Event) (why : Unstarted) (fault : StartFault) → FailsAs events why fault → refusal_unstarted why ≡ refusal_of_start fault
same_fault events (unstarted.Refused fault) (starts.Refused other journal) same = ap (λ (f : DlFault). Some f) (sym same.0)
same_fault events (unstarted.Refused fault) starts.Memory same = absurd same
same_fault events unstarted.Memory (starts.Refused other journal) same = absurd same
same_fault events unstarted.Memory starts.Memory same = refl

-- only a read that failed stops a run that can start
pub whole_so : {X : Type 0} → StartsUnlessReadsFail → (setup : Setup) (files : Option (List File)) (failures failures' : ℕ) (r : Result X StartFault)
    → IfErr r (IsNotStarted (run_of setup files) setup) → FaultsShow (startup_refusal r) failures failures' → StartsWhereItCan setup files failures failures' r
whole_so law setup files failures failures' (Ok run) not shows = λ told is none may. tt
whole_so law setup files failures failures' (Err (starts.Refused fault journal)) not shows = λ told is none may.
    none (law (run_of setup files) setup told may.root may.added may.ranges may.found journal.events may.addresses fault failures failures' is may.opens may.finds not shows)
whole_so law setup files failures failures' (Err starts.Memory) not shows = λ told is none may. tt

pub err_as : {X E : Type 0} (r : Result X E) (x : E) (P : E → Type 0) → IsErrAnd r (λ e. e ≡ x) → P x → IfErr r P
err_as (Ok a) x P is h = absurd is
err_as (Err e) x P is h = subst P (sym is) h
