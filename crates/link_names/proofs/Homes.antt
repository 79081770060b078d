-- The namespace of an object, and what a state shows of it.
use Rattle.std.proofs.Common.{◌≡◌, ℕ, ◌∙◌, Bor, Bool, true, List, [], ◌∷◌, Option, Some, None, ap, subst, sym, get_or}
use Rattle.std.specs.Prelude.{◌==◌, position, slice_get}
use Rattle.std.specs.List.{Contains}
use Rattle.std.specs.Option.{is_some, option_copied}
use Rattle.std.proofs.lemmas.Bool.{eqb-true, true≢false}
use Rattle.std.proofs.lemmas.List.Quantifiers.{position-Some}
use Rattle.std.proofs.lemmas.Option.{slice_get-get_or}
use Rattle.ld_base.specs.declared.linking.Loaded.{Loaded}
use Rattle.history_state.specs.Laws.{AreApart, IsIn}
use Rattle.history_state.specs.Lemmas.Lists.{at_in, found_in, in_any}
use Rattle.history_state.specs.Objects.{has_object, object_at}
use Rattle.history_state.specs.State.{State}
use Rattle.link_names.specs.Kept.{IsHome}
use Rattle.scope_rule.specs.Loading.{object_of}
use Rattle.scope_rule.specs.Seen.{Seen, seen_in}
use Rattle.scope_rule.specs.declared.namespace.Namespace.{Namespace}
use Rattle.link_finds.specs.SlotChoosing.Choosing.{HasNamespace, IsFaultOf, IsSlotFaultOf}
use Rattle.link_finds.specs.declared.slot_choosing.choosing.SlotFault.{SlotFault}
use Rattle.link_finds.specs.declared.slot_choosing.choosing.SlotFault.TheVariants.{Unloaded, NoSlot, Memory}

-- a namespace in which an object is found has it
pub has_it : (ns : Namespace) (view : Seen) (owner : ℕ) (x : Option (Bor Loaded)) (found : Bool) → view ≡ seen_in ns → option_copied x ≡ object_of view owner → found ≡ is_some x → found ≡ true → has_object owner ns ≡ true
has_it ns view owner None found same is some holds = absurd (true≢false (sym holds ∙ some))
has_it ns view owner (Some o) found same is some holds =
    let at = found_in (λ (y : Loaded). y.serial == owner) ns.objects o.now (sym (is ∙ ap (λ (v : Seen). object_of v owner) same)) in
    in_any (λ (y : Loaded). y.serial == owner) ns.objects o.now at.0 at.1

-- the first namespace with an object
pub first_has : (nss : List Namespace) (owner place : ℕ) → position (has_object owner) nss ≡ Some place → IsHome nss owner place
first_has [] owner place e = absurd (cc e)
first_has (ns ∷ rest) owner place e =
    let is = position-Some (has_object owner) (ns ∷ rest) place ns e in
    record { namespace = get_or (ns ∷ rest) place ns; at = slice_get-get_or (ns ∷ rest) place ns is.0; has = is.1 }

-- the namespace at a place is that of the place
pub one_there : (nss : List Namespace) (owner place : ℕ) (ns : Namespace) (home : IsHome nss owner place) → slice_get nss place ≡ Some ns → home.namespace ≡ ns
one_there nss owner place ns home at = let both : Some home.namespace ≡ Some ns = sym home.at ∙ at in cc both

-- a state whose objects are apart shows each of its namespaces
pub shows : (s : State) (nss : List Namespace) (place : ℕ) (ns : Namespace) → s.namespaces ≡ nss → AreApart s → slice_get nss place ≡ Some ns → HasNamespace s ns
shows s nss place ns are apart at =
    let there : Contains s.namespaces ns = subst (λ (all : List Namespace). Contains all ns) (sym are) (at_in nss place ns at) in
    record { there = there; objects = λ d o is. by there d o (found_in (λ (y : Loaded). y.serial == d) ns.objects o is) }
  where
    by : Contains s.namespaces ns → (d : ℕ) (o : Loaded) → Contains ns.objects o × ((o.serial == d) ≡ true) → object_at s d ≡ Some o
    by there d o found =
        let is_in : IsIn s ns o = record { there = there; inside = found.0 } in
        ap (object_at s) (sym (eqb-true o.serial d found.1)) ∙ apart.found ns o is_in

-- what its slot is refused for is what the object is
pub refused : (s : State) (owner eights : ℕ) (e : SlotFault) → IsSlotFaultOf s owner eights e → IsFaultOf s owner eights e
refused s owner eights Unloaded is = absurd is
refused s owner eights NoSlot is = is
refused s owner eights Memory is = tt
