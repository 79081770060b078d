-- No file is the cause of a refused relocation.
use Rattle.std.proofs.Common.{◌≡◌, Bool, true, false, List, [], ◌∷◌, map, Option, Some, None, refl, ap, subst, ◌∙◌}
use Rattle.std.proofs.lemmas.List.{append-nil}
use Rattle.std.specs.Prelude.{if◌then◌else◌}
use Rattle.std.specs.Option.{option_or}
use Rattle.ld_base.specs.declared.fault.DlFault.{DlFault}
use Rattle.ld_base.specs.declared.linking.Loaded.{Loaded}
use Rattle.ld_base.specs.declared.object.Reloc.{Reloc}
use Rattle.ld_base.specs.declared.object.Symbol.{Symbol}
use Rattle.ld_base.specs.declared.fault.DlFault.TheVariants as dl
use Rattle.history_state.specs.Addresses.{symbol_at}
use Rattle.history_state.specs.Bound.{binds_now, place_of}
use Rattle.history_state.specs.Relocating.{first_fault, is_missing, missing_of, missing_symbol, not_code, object_fault, reloc_fault, relocation_fault, slot_fault, slot_fault_by}
use Rattle.history_event.specs.declared.state.Module.{Module}
use Rattle.history_state.specs.State.{State, empty_state}
use Rattle.scope_rule.specs.Relocation.{choice_at}
use Rattle.scope_rule.specs.Loading.{with_serial}
use Rattle.scope_rule.specs.Seen.{Seen}
use Rattle.link_open_plan.specs.ObjectChoices.Choices.{IsFaultOf}
use Rattle.link_open_plan.specs.ObjectChoices.Sight.{Shows}
use Rattle.link_open_plan.specs.declared.object_choices.choosing.ChoiceFault.{ChoiceFault}
use Rattle.link_open_plan.specs.declared.object_choices.choosing.ChoiceFault.TheVariants as choosing
use Rattle.link_open_plan.specs.Planned.{ShowsInNoCount, choice_fault}
use Rattle.link_open_plan.specs.declared.planning.Unopened.TheVariants.{Refused}

abbrev IsOfNone : DlFault → Type 0
IsOfNone fault = ShowsInNoCount (Refused fault)

of_some : (a fault : DlFault) → IsOfNone a → Some a ≡ Some fault → IsOfNone fault
of_some a fault p e = let same : a ≡ fault = cc in subst IsOfNone same p

none_is : (fault : DlFault) → None ≡ Some fault → IsOfNone fault
none_is fault e = absurd cc

first_is : {X : Type 0} (faults : X → Option DlFault) → ((x : X) (fault : DlFault) → faults x ≡ Some fault → IsOfNone fault) → (xs : List X) (fault : DlFault) → first_fault faults xs ≡ Some fault → IsOfNone fault
first_is faults every [] fault is = none_is fault is
first_is {X} faults every (x ∷ xs) fault is = by (faults x) refl is (first_is faults every xs fault)
  where
    by : (f : Option DlFault) → faults x ≡ f → option_or f (first_fault faults xs) ≡ Some fault → (first_fault faults xs ≡ Some fault → IsOfNone fault) → IsOfNone fault
    by (Some a) e at rest = of_some a fault (every x a e) at
    by None e at rest = rest at

missing : (o : Loaded) (symbol : Option Symbol) → IsOfNone (missing_of o symbol)
missing o (Some symbol) = tt
missing o None = tt

one_of : (b c : Bool) (first second fault : DlFault) → IsOfNone first → IsOfNone second → (if b then Some first else if c then Some second else None) ≡ Some fault → IsOfNone fault
one_of true c first second fault p q is = of_some first fault p is
one_of false true first second fault p q is = of_some second fault q is
one_of false false first second fault p q is = none_is fault is

reloc_is : (s : State) (ns : Seen) (o : Loaded) (r : Reloc) (fault : DlFault) → reloc_fault s ns o r ≡ Some fault → IsOfNone fault
reloc_is s ns o r fault is =
    one_of (is_missing (choice_at ns o r)) _ (missing_symbol o r) (dl.NeedsStaticTls o.path) fault (missing o (symbol_at o.object r.symbol)) tt is

slot_is : (s : State) (ns : Seen) (now : Bool) (o : Loaded) (r : Reloc) (fault : DlFault) → slot_fault s ns now o r ≡ Some fault → IsOfNone fault
slot_is s ns now o r fault is = by (binds_now now o.object) is
  where
    by : (b : Bool) → (if b then slot_fault_by s o r (choice_at ns o r) else None) ≡ Some fault → IsOfNone fault
    by true at = one_of (is_missing (choice_at ns o r)) _ (missing_symbol o r) (not_code o r) fault (missing o (symbol_at o.object r.symbol)) tt at
    by false at = none_is fault at

object_is : (s : State) (ns : Seen) (now : Bool) (o : Loaded) (fault : DlFault) → object_fault s ns now o ≡ Some fault → IsOfNone fault
object_is s ns now o fault is = by (first_fault (reloc_fault s ns o) o.object.relocs) refl is
  where
    by : (f : Option DlFault) → first_fault (reloc_fault s ns o) o.object.relocs ≡ f → option_or f (first_fault (slot_fault s ns now o) o.object.plt_relocs) ≡ Some fault → IsOfNone fault
    by (Some a) e at = of_some a fault (first_is (reloc_fault s ns o) (reloc_is s ns o) o.object.relocs a e) at
    by None e at = first_is (slot_fault s ns now o) (slot_is s ns now o) o.object.plt_relocs fault at

needs_no_file : (s : State) (ns : Seen) (now : Bool) (added : List Loaded) (fault : DlFault) → relocation_fault s ns now added ≡ Some fault → ShowsInNoCount (Refused fault)
unfolding relocation_fault
needs_no_file s ns now added fault is = first_is (object_fault s ns now) (object_is s ns now) added fault is

-- ---- in a state that has what is seen

abbrev state_with : Seen → List Module → State
state_with ns modules = record empty_state { namespaces = record { id = 0; objects = ns.objects; global = []; opens = [] } ∷ []; modules = modules }

shows_it : (ns : Seen) (modules : List Module) → Shows (state_with ns modules) ns (map place_of modules)
shows_it ns modules = record { objects = λ d o is. ap (λ (os : List Loaded). with_serial os d) (append-nil ns.objects) ∙ is; modules = refl }

pub choice_needs_none : (ns : Seen) (now : Bool) (added : List Loaded) (modules : List Module) (fault : ChoiceFault)
    → ((s : State) → Shows s ns (map place_of modules) → IsFaultOf (relocation_fault s ns now added) fault) → ShowsInNoCount (choice_fault fault)
choice_needs_none ns now added modules (choosing.Refused fault) is = needs_no_file (state_with ns modules) ns now added fault (is (state_with ns modules) (shows_it ns modules))
choice_needs_none ns now added modules choosing.Memory is = tt
