-- Startup's plan, in the words of the history: before the first event.
use Rattle.std.proofs.Common.{◌≡◌, ℕ, ◌||◌, Bool, true, false, List, [], Option, Some, refl, sym, ap, subst, ◌∙◌}
use Rattle.std.specs.List.{AllByRecursion}
use Rattle.elf_object.specs.Verdict.{object_verdict}
use Rattle.ld_base.specs.declared.fault.DlFault.{DlFault}
use Rattle.ld_base.specs.declared.fault.Shown.{Shown}
use Rattle.ld_base.specs.declared.linking.File.{File}
use Rattle.library_source.specs.Files.{Over}
use Rattle.history_event.specs.declared.event.OpenAsk.{OpenAsk}
use Rattle.history_state.specs.After.{after, after_from}
use Rattle.history_state.specs.Flags.{is_now}
use Rattle.history_state.specs.Legal.{Lawful}
use Rattle.history_state.specs.Setting.{Machine}
use Rattle.history_state.specs.State.{State, empty_namespace, empty_state}
use Rattle.history_calls.specs.declared.link_served.startup.Setup.{Setup}
use Rattle.history_calls.specs.Startup.{harts_of, program_ask}
use Rattle.load_walk.specs.Plan.{HasToWait, IsPlan, IsRefused}
use Rattle.load_walk.specs.declared.ask.LoadAsk.{LoadAsk}
use Rattle.load_walk.specs.declared.ask.LoadFault.{LoadFault}
use Rattle.load_walk.specs.declared.ask.LoadFault.TheVariants as loads
use Rattle.load_walk.specs.declared.ask.LoadPlan.{LoadPlan}
use Rattle.link_open_plan.specs.OpeningLoad.Finding.{FindsAll}
use Rattle.scope_rule.specs.declared.namespace.Namespace.{Namespace}
use Rattle.link_open_plan.specs.Before.{HasObjects, IsLent, IsObject}
use Rattle.link_open_plan.specs.Planned.{IsUnopened, load_fault}
use Rattle.link_open_plan.specs.Startup.{IsFirst, program_load, run_of}
use Rattle.link_open_plan.specs.declared.before.Before.{Before}
use Rattle.link_open_plan.proofs.FoundLemmas.{stopped_so}
use Rattle.link_open_plan.proofs.Program.{is_named, program_finds, program_stops}

pub nothing_yet : after [] ≡ empty_state
unfolding after_from
nothing_yet = refl

nothing_wrong : (m : Machine) → Lawful m []
unfolding Lawful
nothing_wrong m = λ k e at. absurd cc

or_same : (b : Bool) → b ≡ (b || b)
or_same true = refl
or_same false = refl

pub no_objects : (b : Before) → IsFirst b → HasObjects b
no_objects b first = subst (λ (ns : Namespace). AllByRecursion IsObject ns.objects) (sym first.namespace) tt

lent_for : (setup : Setup) (told : Option (List File)) (ask : OpenAsk) (harts : ℕ) (b : Before) → IsFirst b → ask ≡ program_ask setup → harts ≡ harts_of setup
    → IsLent (run_of setup told) [] (program_ask setup) setup.program 0 (Some harts) b
unfolding after_from
lent_for setup told ask harts b first asked count = record {
  lawful = nothing_wrong (run_of setup told).machine;
  named = is_named setup;
  startup = refl;
  count = λ n e. sym count ∙ (let same : harts ≡ n = cc in same);
  namespace = first.namespace;
  free = first.free;
  modules = first.modules;
  statics = first.statics;
  binds_are = ap (λ (now : Bool). now || is_now (program_ask setup).flags) first.binds ∙ or_same (is_now (program_ask setup).flags);
}

pub lent_first : (setup : Setup) (told : Option (List File)) (ask : OpenAsk) (harts : ℕ) (b : Before) → IsFirst b → ask ≡ program_ask setup → harts ≡ harts_of setup
    → IsLent (run_of setup told) [] ask setup.program 0 (Some harts) b
lent_first setup told ask harts b first asked count =
    subst (λ (a : OpenAsk). IsLent (run_of setup told) [] a setup.program 0 (Some harts) b) (sym asked) (lent_for setup told ask harts b first asked count)

-- the load that is asked for is the program's
pub load_is : (setup : Setup) (load : LoadAsk) (b : Before) → IsFirst b → load ≡ program_load b.next setup → load ≡ program_load 1 setup
load_is setup load b first are = are ∙ ap (λ (n : ℕ). program_load n setup) first.next

pub finds_first : (setup : Setup) (told : Option (List File)) (ask : OpenAsk) (load : LoadAsk) (b : Before) (plan : LoadPlan) → IsFirst b → ask ≡ program_ask setup
    → load ≡ program_load b.next setup → Over told (IsPlan object_verdict load b.namespace.now plan)
    → FindsAll (run_of setup told) (after []) 0 ask setup.program 0 plan.root plan.added
finds_first setup told ask load b plan first asked are p =
    subst (λ (s : State). FindsAll (run_of setup told) s 0 ask setup.program 0 plan.root plan.added) (sym nothing_yet)
    (subst (λ (a : OpenAsk). FindsAll (run_of setup told) empty_state 0 a setup.program 0 plan.root plan.added) (sym asked)
    (program_finds setup told plan
    (subst (λ (ns : Namespace). Over told (IsPlan object_verdict (program_load 1 setup) ns plan)) first.namespace
    (subst (λ (l : LoadAsk). Over told (IsPlan object_verdict l b.namespace.now plan)) (load_is setup load b first are) p))))

-- what a load among no objects comes to is what the program's comes to
among_none : (P : LoadAsk → Namespace → Type 0) (setup : Setup) (load : LoadAsk) (b : Before) → IsFirst b → load ≡ program_load b.next setup → P load b.namespace.now
    → P (program_load 1 setup) (empty_namespace 0)
among_none P setup load b first are h =
    subst (λ (ns : Namespace). P (program_load 1 setup) ns) first.namespace (subst (λ (l : LoadAsk). P l b.namespace.now) (load_is setup load b first are) h)

pub refused_first : (setup : Setup) (told : Option (List File)) (load : LoadAsk) (b : Before) (misses misses' : ℕ) (why : DlFault) → IsFirst b → load ≡ program_load b.next setup
    → Over told (IsRefused object_verdict load b.namespace.now.objects misses misses' why) → Over told (IsRefused object_verdict (program_load 1 setup) [] misses misses' why)
refused_first setup told load b misses misses' why first are h =
    among_none (λ l ns. Over told (IsRefused object_verdict l ns.objects misses misses' why)) setup load b first are h

pub stops_first : (setup : Setup) (told : Option (List File)) (ask : OpenAsk) (load : LoadAsk) (b : Before) (misses misses' : ℕ) (fault : LoadFault) → IsFirst b → ask ≡ program_ask setup
    → load ≡ program_load b.next setup
    → ((why : DlFault) → fault ≡ loads.Refused why → Over told (IsRefused object_verdict load b.namespace.now.objects misses misses' why))
    → ((shown : Shown) → fault ≡ loads.Wait shown → Over told (HasToWait object_verdict load b.namespace.now.objects shown))
    → IsUnopened (run_of setup told) (after []) 0 ask (load_fault fault)
stops_first setup told ask load b misses misses' fault first asked are refused waiting =
    subst (λ (s : State). IsUnopened (run_of setup told) s 0 ask (load_fault fault)) (sym nothing_yet)
    (subst (λ (a : OpenAsk). IsUnopened (run_of setup told) empty_state 0 a (load_fault fault)) (sym asked)
    (stopped_so (run_of setup told) empty_state 0 (program_ask setup) fault
    (program_stops setup told misses misses' fault
    (λ why is. refused_first setup told load b misses misses' why first are (refused why is))
    (λ shown is. among_none (λ l ns. Over told (HasToWait object_verdict l ns.objects shown)) setup load b first are (waiting shown is)))))
