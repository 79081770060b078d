-- The program's opening is the first event, and what comes of its plan.
use Rattle.std.proofs.Common.{◌≡◌, ◌⊎◌, inl, inr, ℕ, Bool, true, false, List, [], ◌∷◌, map, Option, Some, refl, sym, ap, subst, ◌∙◌}
use Rattle.std.specs.Prelude.{if◌then◌else◌, IsTrue}
use Rattle.std.specs.Option.{option_map}
use Rattle.std.proofs.lemmas.List.{length-map}
use Rattle.std.proofs.lemmas.Option.{slice_get-map}
use Rattle.history_calls.specs.CallLaws.Laws.{AreNumberedFrom}
use Rattle.history_journal.specs.Following.{MayFollow, machine_of}
use Rattle.ld_base.specs.declared.fault.DlFault.{DlFault}
use Rattle.ld_base.specs.declared.linking.Choice.{Choice}
use Rattle.ld_base.specs.declared.linking.File.{File}
use Rattle.ld_base.specs.declared.linking.Loaded.{Loaded}
use Rattle.history_event.specs.declared.event.Event.{Event}
use Rattle.history_event.specs.declared.event.Event.TheVariants.{Open}
use Rattle.history_event.specs.declared.event.OpenAnswer.TheVariants.{Refused}
use Rattle.history_state.specs.After.{after, after_from}
use Rattle.history_state.specs.Allowed.{Allowed}
use Rattle.history_state.specs.Asking.{IsAsked, MayAsk}
use Rattle.history_state.specs.Flags.{are_flags}
use Rattle.history_state.specs.Objects.{namespace_of}
use Rattle.history_state.specs.Opening.{Refuses}
use Rattle.history_state.specs.State.{State, Statics, empty_namespace, empty_state}
use Rattle.history_calls.specs.declared.link_served.startup.Setup.{Setup}
use Rattle.history_calls.specs.Startup.{harts_of, opening, program_ask}
use Rattle.history_calls.specs.LoadChoices.Choices.{choices_of}
use Rattle.link_open_images.specs.Relocated.{AreChoices}
use Rattle.link_open_plan.specs.Startup.{run_of}
use Rattle.link_open_plan.specs.declared.planning.NewObjects.{NewObjects}
use Rattle.scope_rule.specs.Seen.{Seen}
use Rattle.scope_rule.specs.declared.namespace.Namespace.{Namespace}
use Rattle.tls_blocks.specs.Numbers.{ModuleTable}
use Rattle.link_startup.specs.Startup.{PlansStart}

-- ---- the state before the first event

pub nothing_yet : (events : List Event) → events ≡ [] → after events ≡ empty_state
unfolding after_from
nothing_yet events none = ap after none

pub base_is : (events : List Event) (found : Option Namespace) → events ≡ [] → found ≡ namespace_of (after events) 0 → found ≡ Some (empty_namespace 0)
base_is events found none is = is ∙ ap (λ (s : State). namespace_of s 0) (nothing_yet events none)

-- ---- what the program's opening asks for

abbrev flags_by : Bool → ℕ
flags_by b = if b then 0x102 else 0x101

flags_are : (b : Bool) → (flags_by b ≡ 0x101) ⊎ (flags_by b ≡ 0x102)
flags_are true = inr refl
flags_are false = inl refl

are_right : (b : Bool) → IsTrue (are_flags (flags_by b))
are_right true = refl
are_right false = refl

may_ask : (setup : Setup) → MayAsk (after []) 0 (program_ask setup)
may_ask setup = λ startup. record { by_first = refl; base = refl; named = tt; flags = flags_are setup.bind_now }

is_asked : (setup : Setup) → IsAsked (after []) (program_ask setup) 0
unfolding after_from
is_asked setup = record { short = refl; flags = are_right setup.bind_now; namespace = (refl, refl) }

-- ---- the plan is what the history asks of the opening

pub may_open : (setup : Setup) (files : Option (List File)) (news : NewObjects) → PlansStart setup files news
    → Allowed (run_of setup files) [] (opening setup news.root news.added news.ranges)
may_open setup files news plan = record { may = may_ask setup; asked = is_asked setup; name = plan.loads }

pub may_refuse : (setup : Setup) (files : Option (List File)) (fault : DlFault) → Refuses (run_of setup files) (after []) 0 (program_ask setup) fault
    → Allowed (run_of setup files) [] (Open 0 (program_ask setup) (Refused fault))
may_refuse setup files fault refuses = record { may = may_ask setup; refuses = refuses }

-- on a machine with so many harts
pub may_follow : (setup : Setup) (files : Option (List File)) (harts : ℕ) (events : List Event) (e : Event) → harts ≡ harts_of setup → events ≡ []
    → Allowed (run_of setup files) [] e → MayFollow harts events e
may_follow setup files harts events e are none may = record {
  setting = run_of setup files;
  machine = ap machine_of (sym are);
  may = subst (λ (past : List Event). Allowed (run_of setup files) past e) (sym none) may;
}

pub are_choices : (ns : Seen) (now : Bool) (added : List Loaded) (choices : List (List Choice))
    → choices ≡ map (choices_of ns now) added → AreChoices ns now added choices
are_choices ns now added choices are = subst (AreChoices ns now added) (sym are) (record {
  count = length-map added (choices_of ns now);
  each = λ k o at. slice_get-map (choices_of ns now) added k ∙ ap (option_map (choices_of ns now)) at;
})

pub first_serial : (program : Loaded) (others : List Loaded) → AreNumberedFrom 1 (program ∷ others) → program.serial ≡ 1
first_serial program others numbered = cc

abbrev pub statics_from : ModuleTable → Statics
statics_from t = record { size = t.size; tp = t.tp }

pub statics_are : (t : ModuleTable) (st : Statics) → t.size ≡ st.size → t.tp ≡ st.tp → statics_from t ≡ st
statics_are t st size tp =
    let with_size : ℕ → Statics = λ n. record { size = n; tp = t.tp } in
    let with_tp : ℕ → Statics = λ n. record { size = st.size; tp = n } in
    ap with_size size ∙ ap with_tp tp
