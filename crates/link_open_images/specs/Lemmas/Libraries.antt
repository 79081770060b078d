-- Objects without copies.
use Rattle.std.proofs.Common.{◌≡◌, ℕ, Bool, true, false, List, [], ◌∷◌, ◌++◌, map, Option, Some, None, refl, sym, ap, ◌∙◌, OnOk, Result, Ok, Err, ◌↔◌}
use Rattle.std.specs.Prelude.{if◌then◌else◌, min}
use Rattle.std.specs.List.{Contains}
use Rattle.ld_base.specs.declared.linking.Loaded.{Loaded}
use Rattle.ld_base.specs.declared.object.Reloc.{Reloc}
use Rattle.history_state.specs.Lemmas.Lists.{here, later}
use Rattle.link_open_images.specs.ObjectBindings.Bindings.{Copies, binding_in, bindings_in, copies_from, none_copied, rela_binding, size_in, slot_binding, value_in}
use Rattle.relocator.specs.Bindings.{chosen, is_copy}
use Rattle.relocator.specs.declared.binding.Binding.{Binding}
use Rattle.relocator.specs.declared.binding.ModulePlace.{ModulePlace}
use Rattle.relocator.specs.declared.relocating.RelocFault.{RelocFault}
use Rattle.relocator.specs.declared.relocating.RelocFault.TheVariants.{NeedsStaticTls}
use Rattle.scope_rule.specs.Relocation.{choice_at}
use Rattle.scope_rule.specs.Seen.{Seen}
use Rattle.seg_image.specs.Accepted.{symbol_size}

pub map_same_in : {X Y : Type 0} (f g : X → Y) (xs : List X) → ((x : X) → Contains xs x → f x ≡ g x) → map f xs ≡ map g xs
map_same_in f g [] same = refl
map_same_in {X} {Y} f g (x ∷ xs) same =
    ap (λ (y : Y). y ∷ map f xs) (same x (here x xs)) ∙ ap (λ (ys : List Y). g x ∷ ys) (map_same_in f g xs (λ z inside. same z (later x xs z inside)))

-- where no relocation copies, it doesn't matter where bytes would be taken
pub copies_alike : (one more : Copies) (ns : Seen) (now : Bool) (o : Loaded) → ((r : Reloc) → Contains o.object.relocs r → is_copy r ≡ false) → bindings_in one ns now o ≡ bindings_in more ns now o
unfolding bindings_in
copies_alike one more ns now o none =
    ap (λ (bs : List Binding). bs ++ map (slot_binding ns now o) o.object.plt_relocs)
    (map_same_in (rela_binding one ns o) (rela_binding more ns o) o.object.relocs (λ r inside. same r (copied_now one r) (copied_now more r) (is_copy r) (none r inside)))
  where
    copied_now : Copies → Reloc → List ℕ
    copied_now bytes r = bytes (chosen (choice_at ns o r)) (value_in ns r (choice_at ns o r)) (min (symbol_size o.object r) (size_in ns (choice_at ns o r)))

    same : (r : Reloc) (xs ys : List ℕ) (b : Bool) → b ≡ false
        → (if b then record (binding_in ns r (choice_at ns o r)) { copied = xs } else binding_in ns r (choice_at ns o r))
        ≡ (if b then record (binding_in ns r (choice_at ns o r)) { copied = ys } else binding_in ns r (choice_at ns o r))
    same r xs ys true e = absurd (let d : true ≡ false = e in cc)
    same r xs ys false e = refl

-- without objects nothing is copied
pub no_sources : (ns : Seen) (now : Bool) (places : List ModulePlace) (o : Loaded) → bindings_in (copies_from ns now places []) ns now o ≡ bindings_in none_copied ns now o
unfolding bindings_in
no_sources ns now places o =
    ap (λ (bs : List Binding). bs ++ map (slot_binding ns now o) o.object.plt_relocs)
    (map_same_in (rela_binding (copies_from ns now places []) ns o) (rela_binding none_copied ns o) o.object.relocs (λ r inside. each r))
  where
    empty : (object : Option ℕ) (a count : ℕ) → copies_from ns now places [] object a count ≡ []
    empty None a count = refl
    empty (Some serial) a count = refl

    each : (r : Reloc) → rela_binding (copies_from ns now places []) ns o r ≡ rela_binding none_copied ns o r
    each r = ap (λ (bs : List ℕ). if is_copy r then record (binding_in ns r (choice_at ns o r)) { copied = bs } else binding_in ns r (choice_at ns o r))
        (empty (chosen (choice_at ns o r)) _ _)

-- a relocation that nothing refuses is made
pub relocates : {X : Type 0} (result : Result X RelocFault) (P : Type 0) (first : Option ℕ) → OnOk result P → ((place : ℕ) → (result ≡ Err (NeedsStaticTls place)) ↔ (first ≡ Some place)) → first ≡ None → P
relocates (Ok u) P first made refused none = made
relocates (Err (NeedsStaticTls place)) P first made refused none =
    absurd (let lacks : first ≡ Some place = (refused place).0 refl in let d : Some place ≡ None = sym lacks ∙ none in cc)
