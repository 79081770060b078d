-- What is known of a slot that is found.
use Rattle.std.proofs.Common.{Bor, Option, ap, refl, ◌≡◌, ℕ, ◌*◌, ◌<◌, ◌^◌, Bool, true, eqb, List, [], ◌∷◌, ◌++◌, length, Some, None, sym, subst, ◌∙◌, arith, ◌⊎◌, inl, inr}
use Rattle.std.specs.Prelude.{nat_lt}
use Rattle.std.specs.Option.{IsSome, option_copied}
use Rattle.std.specs.List.{Contains, list_all, slice_get}
use Rattle.std.proofs.lemmas.Bool.{and_parts, eqb-true, ltb-true, true≢false}
use Rattle.std.proofs.lemmas.List.Elements.{All-contains, Contains-append_right}
use Rattle.elf_object.specs.Object.{names_own_symbols}
use Rattle.ld_base.specs.declared.linking.Loaded.{Loaded}
use Rattle.ld_base.specs.declared.object.Object.{Object}
use Rattle.ld_base.specs.declared.object.Reloc.{Reloc}
use Rattle.history_state.specs.Objects.{has_object}
use Rattle.history_state.specs.State.{State}
use Rattle.history_state.specs.Lemmas.Lists.{any_in, at_in, first_or_later, found_in, not_found}
use Rattle.history_calls.specs.Ends.{LacksSlot}
use Rattle.scope_rule.specs.Loading.{object_of, with_serial}
use Rattle.scope_rule.specs.Seen.{Seen, seen_in}
use Rattle.link_finds.specs.SlotChoosing.Choosing.{IsSound}
use Rattle.sym_lookup.specs.Looking.{HaveTables}
use Rattle.scope_rule.specs.declared.namespace.Namespace.{Namespace}
use Rattle.seg_image.specs.Accepted.{Accepted, IsPlace, IsSegment}

-- a namespace that has the object has it
not_lacking : (ns : Namespace) (owner : ℕ) → has_object owner ns ≡ true → with_serial ns.objects owner ≡ None → ⊥
not_lacking ns owner has none =
    let one = any_in (λ (o : Loaded). eqb o.serial owner) ns.objects has in
    true≢false (sym one.2 ∙ not_found (λ (o : Loaded). eqb o.serial owner) ns.objects one.0 none one.1)

has_one : (ns : Namespace) (owner : ℕ) (o : Option Loaded) → has_object owner ns ≡ true → o ≡ with_serial ns.objects owner → IsSome o
has_one ns owner (Some o) has is = refl
has_one ns owner None has is = absurd (not_lacking ns owner has (sym is))

lent : (o : Option (Bor Loaded)) → IsSome (option_copied o) → IsSome o
lent (Some o) is = refl
lent None is = is

pub is_lent : (ns : Namespace) (view : Seen) (owner : ℕ) (o : Option (Bor Loaded)) → has_object owner ns ≡ true → view ≡ seen_in ns → option_copied o ≡ object_of view owner → IsSome o
is_lent ns view owner o has same is = lent o (has_one ns owner (option_copied o) has (is ∙ ap (λ (v : Seen). object_of v owner) same))

-- an object that is found has the serial
pub record IsFound (ns : Namespace) (owner : ℕ) (o : Loaded) : Type 0 where
  pub one : with_serial ns.objects owner ≡ Some o
  pub inside : Contains ns.objects o
  pub is : o.serial ≡ owner

pub found : (ns : Namespace) (view : Seen) (owner : ℕ) (x : Option (Bor Loaded)) (o : Bor Loaded) → view ≡ seen_in ns → option_copied x ≡ object_of view owner → x ≡ Some o → IsFound ns owner o.now
found ns view owner x o same is some =
    let one : with_serial ns.objects owner ≡ Some o.now = ap (λ (v : Seen). object_of v owner) (sym same) ∙ sym is ∙ ap (λ (y : Option (Bor Loaded)). option_copied y) some in
    let at = found_in (λ (y : Loaded). eqb y.serial owner) ns.objects o.now one in
    record { one = one; inside = at.0; is = eqb-true o.now.serial owner at.1 }

pub its_table : (ns : Namespace) (view : Seen) → ((o : Loaded) → Contains ns.objects o → IsSound o) → view ≡ seen_in ns → HaveTables view
its_table ns view sound same serial o is =
    (sound o (found_in (λ (y : Loaded). eqb y.serial serial) ns.objects o (ap (λ (v : Seen). object_of v serial) (sym same) ∙ is)).0).table

pub lacks : (s : State) (owner eights : ℕ) (ns : Namespace) (o : Loaded) → Contains s.namespaces ns → IsFound ns owner o → ((slot : ℕ) → eights ≡ 8 * slot → slice_get o.object.plt_relocs slot ≡ None)
    → LacksSlot s owner eights
lacks s owner eights ns o there its none = record { mapped = record { namespace = ns; object = o; there = there; inside = its.inside; is = its.is }; none = none }

passes : (p : Reloc → Bool) (xs : List Reloc) (x : Reloc) → list_all p xs ≡ true → Contains xs x → p x ≡ true
passes p [] x all (i, lt, at) = absurd (omega (arith, lt))
passes p (y ∷ xs) x all inside =
    let parts = and_parts (p y) (list_all p xs) all in
    by parts.0 (passes p xs x parts.1) (first_or_later y xs x inside)
  where
    by : p y ≡ true → (Contains xs x → p x ≡ true) → (y ≡ x) ⊎ Contains xs x → p x ≡ true
    by first rest (inl same) = subst (λ (z : Reloc). p z ≡ true) same first
    by first rest (inr later) = rest later

-- a slot's symbol is one of its object's
pub named : (o : Object) (slot : ℕ) (r : Reloc) → names_own_symbols o ≡ true → slice_get o.plt_relocs slot ≡ Some r → r.symbol < length o.symbols
named o slot r names at =
    ltb-true r.symbol (length o.symbols)
    (passes (λ (x : Reloc). nat_lt x.symbol (length o.symbols)) (o.relocs ++ o.plt_relocs) r names (Contains-append_right o.relocs o.plt_relocs r (at_in o.plt_relocs slot r at)))

-- and its place is low
pub low : (o : Object) (slot : ℕ) (r : Reloc) → Accepted o → slice_get o.plt_relocs slot ≡ Some r → r.place < 2 ^ 63
low o slot r accepted at =
    let place : IsPlace o r.place = All-contains (λ (x : Reloc). IsPlace o x.place) o.plt_relocs r accepted.slots (at_in o.plt_relocs slot r at) in
    let seg : IsSegment place.writable.segment = All-contains IsSegment o.segments place.writable.segment accepted.segments (at_in o.segments place.writable.at place.writable.segment place.writable.is) in
    omega (arith, seg.low, place.writable.high)
