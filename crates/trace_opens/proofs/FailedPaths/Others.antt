-- No file is the cause of a refused version or relocation.
use Rattle.std.proofs.Common.{◌≡◌, Bool, true, false, List, [], ◌∷◌, Option, Some, None, refl, subst}
use Rattle.std.specs.Prelude.{if◌then◌else◌}
use Rattle.std.specs.Option.{option_or}
use Rattle.ld_base.specs.declared.fault.DlFault.{DlFault}
use Rattle.ld_base.specs.declared.fault.DlFault.TheVariants as dl
use Rattle.ld_base.specs.declared.linking.Loaded.{Loaded}
use Rattle.ld_base.specs.declared.object.Reloc.{Reloc}
use Rattle.ld_base.specs.declared.object.Symbol.{Symbol}
use Rattle.history_state.specs.Addresses.{symbol_at}
use Rattle.history_state.specs.Bound.{binds_now}
use Rattle.history_state.specs.Relocating.{first_fault, is_missing, missing_of, missing_symbol, not_code, object_fault, reloc_fault, relocation_fault, slot_fault, slot_fault_by}
use Rattle.history_state.specs.State.{State}
use Rattle.scope_rule.specs.Needed.{first_lack, missing_version}
use Rattle.scope_rule.specs.Relocation.{choice_at}
use Rattle.scope_rule.specs.Seen.{Seen}

abbrev pub IsOther : DlFault → Type 0
IsOther (dl.ReadFault path) = ⊥
IsOther (dl.NotAccepted path broken) = ⊥
IsOther fault = Unit {0}

of_some : (a fault : DlFault) → IsOther a → Some a ≡ Some fault → IsOther fault
of_some a fault p e = let same : a ≡ fault = cc in subst IsOther same p

none_is : (fault : DlFault) → None ≡ Some fault → IsOther fault
none_is fault e = absurd cc

first_is : {X : Type 0} (faults : X → Option DlFault) → ((x : X) (fault : DlFault) → faults x ≡ Some fault → IsOther fault) → (xs : List X) (fault : DlFault) → first_fault faults xs ≡ Some fault → IsOther fault
first_is faults every [] fault is = none_is fault is
first_is {X} faults every (x ∷ xs) fault is = by (faults x) refl is (first_is faults every xs fault)
  where
    by : (f : Option DlFault) → faults x ≡ f → option_or f (first_fault faults xs) ≡ Some fault → (first_fault faults xs ≡ Some fault → IsOther fault) → IsOther fault
    by (Some a) e at rest = of_some a fault (every x a e) at
    by None e at rest = rest at

missing : (o : Loaded) (symbol : Option Symbol) → IsOther (missing_of o symbol)
missing o (Some symbol) = tt
missing o None = tt

one_of : (b c : Bool) (first second fault : DlFault) → IsOther first → IsOther second → (if b then Some first else if c then Some second else None) ≡ Some fault → IsOther fault
one_of true c first second fault p q is = of_some first fault p is
one_of false true first second fault p q is = of_some second fault q is
one_of false false first second fault p q is = none_is fault is

reloc_is : (s : State) (ns : Seen) (o : Loaded) (r : Reloc) (fault : DlFault) → reloc_fault s ns o r ≡ Some fault → IsOther fault
reloc_is s ns o r fault is =
    one_of (is_missing (choice_at ns o r)) _ (missing_symbol o r) (dl.NeedsStaticTls o.path) fault (missing o (symbol_at o.object r.symbol)) tt is

slot_is : (s : State) (ns : Seen) (now : Bool) (o : Loaded) (r : Reloc) (fault : DlFault) → slot_fault s ns now o r ≡ Some fault → IsOther fault
slot_is s ns now o r fault is = by (binds_now now o.object) is
  where
    by : (b : Bool) → (if b then slot_fault_by s o r (choice_at ns o r) else None) ≡ Some fault → IsOther fault
    by true at = one_of (is_missing (choice_at ns o r)) _ (missing_symbol o r) (not_code o r) fault (missing o (symbol_at o.object r.symbol)) tt at
    by false at = none_is fault at

object_is : (s : State) (ns : Seen) (now : Bool) (o : Loaded) (fault : DlFault) → object_fault s ns now o ≡ Some fault → IsOther fault
object_is s ns now o fault is = by (first_fault (reloc_fault s ns o) o.object.relocs) refl is
  where
    by : (f : Option DlFault) → first_fault (reloc_fault s ns o) o.object.relocs ≡ f → option_or f (first_fault (slot_fault s ns now o) o.object.plt_relocs) ≡ Some fault → IsOther fault
    by (Some a) e at = of_some a fault (first_is (reloc_fault s ns o) (reloc_is s ns o) o.object.relocs a e) at
    by None e at = first_is (slot_fault s ns now o) (slot_is s ns now o) o.object.plt_relocs fault at

pub relocation_is : (s : State) (ns : Seen) (now : Bool) (added : List Loaded) (fault : DlFault) → relocation_fault s ns now added ≡ Some fault → IsOther fault
unfolding relocation_fault
relocation_is s ns now added fault is = first_is (object_fault s ns now) (object_is s ns now) added fault is

pub version_is : (objects added : List Loaded) (fault : DlFault) → missing_version objects added ≡ Some fault → IsOther fault
version_is objects [] fault e = absurd cc
version_is objects (o ∷ rest) fault e =
    (elim (first_lack objects o) as (λ l. elim l as (λ x. Option DlFault) [ Some v ↦ Some (dl.MissingVersion o.path v.file v.name) | None ↦ missing_version objects rest ] ≡ Some fault → IsOther fault) [
      | Some v ↦ λ is. of_some (dl.MissingVersion o.path v.file v.name) fault tt is
      | None ↦ version_is objects rest fault
    ]) e
