-- Which refusal the tests of a relocation give.
use Rattle.std.proofs.Common.{◌≡◌, ℕ, ◌<◌, ◌^◌, Bool, true, false, List, [], ◌∷◌, ◌++◌, length, map, Option, Some, None, refl, sym, ap, ◌∙◌, nat_lt, arith}
use Rattle.std.specs.Prelude.{if◌then◌else◌}
use Rattle.std.specs.List.{Contains, list_all}
use Rattle.std.specs.Option.{option_or}
use Rattle.std.proofs.lemmas.Bool.{and_parts, ltb-true, true≢false}
use Rattle.std.proofs.lemmas.List.Elements.{All-contains}
use Rattle.ld_base.specs.declared.fault.DlFault.{DlFault}
use Rattle.ld_base.specs.declared.fault.DlFault.TheVariants.{NeedsStaticTls}
use Rattle.ld_base.specs.declared.linking.Choice.{Choice}
use Rattle.ld_base.specs.declared.linking.Loaded.{Loaded}
use Rattle.ld_base.specs.declared.object.Object.{Object}
use Rattle.ld_base.specs.declared.object.Reloc.{Reloc}
use Rattle.history_state.specs.Bound.{binding_of, binds_now, place_of}
use Rattle.history_state.specs.Relocating.{first_fault, is_missing, missing_symbol, object_fault, reloc_fault, reloc_fault_by, slot_fault}
use Rattle.history_state.specs.State.{State}
use Rattle.history_state.specs.Lemmas.Lists.{at_in, later, here}
use Rattle.relocator.specs.Bindings.{chosen}
use Rattle.relocator.specs.Storage.{lacks_offset}
use Rattle.relocator.specs.declared.binding.Binding.{Binding}
use Rattle.relocator.specs.declared.binding.ModulePlace.{ModulePlace}
use Rattle.scope_rule.specs.Relocation.{names_symbols}
use Rattle.scope_rule.specs.Seen.{Seen}
use Rattle.seg_image.specs.Accepted.{Accepted, IsPlace, IsSegment}
use Rattle.link_open_plan.specs.ObjectChoices.Sight.{AreNamed, AreSlots, faults_at}

second_of : (m l : Bool) (a b : Option DlFault) → m ≡ false → l ≡ true → (if m then a else if l then b else None) ≡ b
second_of true l a b e f = absurd (true≢false e)
second_of false true a b e f = refl
second_of false false a b e f = absurd (true≢false (sym f))

none_of : (m l : Bool) (a b : Option DlFault) → m ≡ false → l ≡ false → (if m then a else if l then b else None) ≡ None
none_of true l a b e f = absurd (true≢false e)
none_of false true a b e f = absurd (true≢false f)
none_of false false a b e f = refl

-- whether a relocation lacks an offset depends on what it chooses and on the places of modules alone
lacking : (s : State) (o : Loaded) (r : Reloc) (choice : Choice) (places : List ModulePlace) (l : Bool) → map place_of s.modules ≡ places
    → ((b : Binding) → b.object ≡ chosen choice → l ≡ lacks_offset o.serial places (r, b)) → lacks_offset o.serial (map place_of s.modules) (r, binding_of s r choice) ≡ l
lacking s o r choice places l are is = ap (λ (all : List ModulePlace). lacks_offset o.serial all (r, binding_of s r choice)) are ∙ sym (is (binding_of s r choice) refl)

pub needs_static : (s : State) (o : Loaded) (r : Reloc) (choice : Choice) (places : List ModulePlace) (l : Bool) (path : List ℕ) → is_missing choice ≡ false → l ≡ true → path ≡ o.path
    → map place_of s.modules ≡ places → ((b : Binding) → b.object ≡ chosen choice → l ≡ lacks_offset o.serial places (r, b)) → Some (NeedsStaticTls path) ≡ reloc_fault_by s o r choice
needs_static s o r choice places l path found lacks named are is =
    ap (λ (p : List ℕ). Some (NeedsStaticTls p)) named
    ∙ sym (second_of (is_missing choice) (lacks_offset o.serial (map place_of s.modules) (r, binding_of s r choice)) (Some (missing_symbol o r)) (Some (NeedsStaticTls o.path)) found
    (lacking s o r choice places l are is ∙ lacks))

pub passes : (s : State) (o : Loaded) (r : Reloc) (choice : Choice) (places : List ModulePlace) (l : Bool) → is_missing choice ≡ false → l ≡ false
    → map place_of s.modules ≡ places → ((b : Binding) → b.object ≡ chosen choice → l ≡ lacks_offset o.serial places (r, b)) → None ≡ reloc_fault_by s o r choice
passes s o r choice places l found lacks are is =
    sym (none_of (is_missing choice) (lacks_offset o.serial (map place_of s.modules) (r, binding_of s r choice)) (Some (missing_symbol o r)) (Some (NeedsStaticTls o.path)) found
    (lacking s o r choice places l are is ∙ lacks))

-- ---- the relocations of an object

named : (count : ℕ) (ys : List Reloc) → list_all (λ r. nat_lt r.symbol count) ys ≡ true → AreNamed count ys
named count [] h = tt
named count (r ∷ rest) h =
    let both = and_parts (nat_lt r.symbol count) (list_all (λ (x : Reloc). nat_lt x.symbol count) rest) h in
    (ltb-true r.symbol count both.0, named count rest both.1)

named_second : (count : ℕ) (xs ys : List Reloc) → list_all (λ r. nat_lt r.symbol count) (xs ++ ys) ≡ true → AreNamed count ys
named_second count [] ys h = named count ys h
named_second count (x ∷ xs) ys h = named_second count xs ys (and_parts (nat_lt x.symbol count) (list_all (λ (r : Reloc). nat_lt r.symbol count) (xs ++ ys)) h).1

named_first : (count : ℕ) (xs ys : List Reloc) → list_all (λ r. nat_lt r.symbol count) (xs ++ ys) ≡ true → AreNamed count xs
named_first count [] ys h = tt
named_first count (x ∷ xs) ys h =
    let both = and_parts (nat_lt x.symbol count) (list_all (λ (r : Reloc). nat_lt r.symbol count) (xs ++ ys)) h in
    (ltb-true x.symbol count both.0, named_first count xs ys both.1)

pub relocs_named : (o : Object) → names_symbols o ≡ true → AreNamed (length o.symbols) o.relocs
relocs_named o names = named_first (length o.symbols) o.relocs o.plt_relocs names

low : (o : Object) (r : Reloc) → Accepted o → IsPlace o r.place → r.place < 2 ^ 63
low o r accepted place =
    let seg : IsSegment place.writable.segment = All-contains IsSegment o.segments place.writable.segment accepted.segments (at_in o.segments place.writable.at place.writable.segment place.writable.is) in
    omega (arith, seg.low, place.writable.high)

slots : (o : Object) (count : ℕ) (rs : List Reloc) → Accepted o → ((r : Reloc) → Contains rs r → IsPlace o r.place) → AreNamed count rs → AreSlots count rs
slots o count [] accepted places all = tt
slots o count (r ∷ rest) accepted places all =
    ((all.0, low o r accepted (places r (here r rest))), slots o count rest accepted (λ x inside. places x (later r rest x inside)) all.1)

pub slots_named : (o : Object) → names_symbols o ≡ true → Accepted o → AreSlots (length o.symbols) o.plt_relocs
slots_named o names accepted =
    slots o (length o.symbols) o.plt_relocs accepted (λ r inside. All-contains (λ (x : Reloc). IsPlace o x.place) o.plt_relocs r accepted.slots inside)
    (named_second (length o.symbols) o.relocs o.plt_relocs names)

-- where no relocation of DT_RELA is refused, the object is for what a slot is refused for
pub by_slots : (s : State) (ns : Seen) (now bound : Bool) (o : Loaded) (fault : Option DlFault) → bound ≡ binds_now now o.object → None ≡ first_fault (reloc_fault s ns o) o.object.relocs
    → fault ≡ first_fault (faults_at s ns bound o) o.object.plt_relocs → fault ≡ object_fault s ns now o
by_slots s ns now bound o fault is relocs slot =
    slot ∙ ap (λ (b : Bool). first_fault (faults_at s ns b o) o.object.plt_relocs) is
    ∙ ap (λ (f : Option DlFault). option_or f (first_fault (slot_fault s ns now o) o.object.plt_relocs)) relocs
