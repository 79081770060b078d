-- Objects without copies, and images among those of a state.
use Rattle.std.proofs.Common.{◌≡◌, ℕ, Bool, true, false, List, [], ◌∷◌, ◌++◌, map, refl, ap, ◌∙◌}
use Rattle.std.specs.Prelude.{if◌then◌else◌, min}
use Rattle.std.specs.List.{Contains}
use Rattle.std.proofs.lemmas.Bool.{true≢false}
use Rattle.std.proofs.lemmas.List.Elements.{Contains-append_right}
use Rattle.ld_base.specs.declared.linking.Loaded.{Loaded}
use Rattle.ld_base.specs.declared.object.Object.{Object}
use Rattle.ld_base.specs.declared.object.Reloc.{Reloc}
use Rattle.history_event.specs.declared.event.OpenAsk.{OpenAsk}
use Rattle.history_event.specs.declared.event.Range.{Range}
use Rattle.history_state.specs.Bound.{bytes_from, copies_made, linked_with, uncopied, with_copies}
use Rattle.history_state.specs.State.{Linked, State}
use Rattle.history_state.specs.Step.{binds, loaded, open_done, seen_after}
use Rattle.history_state.specs.Lemmas.Lists.{here, in_map, later}
use Rattle.link_open_images.specs.ObjectBindings.Bindings.{Copies, bindings_in, none_copied, rela_binding, slot_binding}
use Rattle.relocator.specs.Bindings.{is_copy}
use Rattle.relocator.specs.declared.binding.Binding.{Binding}
use Rattle.seg_image.specs.Accepted.{symbol_size}
use Rattle.link_open_laws.specs.Laws.{image_made}
use Rattle.link_open_images.specs.Lemmas.Libraries.{copies_alike}

-- where no relocation copies, the bindings stay as they are
pub none_made : (images : List Linked) (o : Object) (relocs : List Reloc) (bindings : List Binding) → ((r : Reloc) → Contains relocs r → is_copy r ≡ false)
    → (f : Reloc → Binding) (rest : List Binding) → bindings ≡ map f relocs ++ rest → copies_made images o relocs bindings ≡ bindings
none_made images o [] bindings none f rest are = refl
none_made images o (r ∷ relocs) [] none f rest are = refl
none_made images o (r ∷ relocs) (b ∷ bindings) none f rest are =
    let more : bindings ≡ map f relocs ++ rest = cc in
    ap (λ (x : Binding). x ∷ copies_made images o relocs bindings) (plain (is_copy r) (none r (here r relocs)))
    ∙ ap (λ (bs : List Binding). b ∷ bs) (none_made images o relocs bindings (λ q inside. none q (later r relocs q inside)) f rest more)
  where
    plain : (t : Bool) → t ≡ false → (if t then record b { copied = bytes_from images b.object b.value (min (symbol_size o r) b.size) } else b) ≡ b
    plain true e = absurd (true≢false e)
    plain false e = refl

-- the bindings of an object without copies, as they are made
pub uncopied_made : (s : State) (hart : ℕ) (ask : OpenAsk) (id root : ℕ) (added : List Loaded) (ranges : List Range) (o : Loaded) (bytes : Copies)
    → ((r : Reloc) → Contains o.object.relocs r → is_copy r ≡ false)
    → (uncopied (loaded s hart ask id root added ranges) (seen_after s ask id root added) (binds s ask) o).bindings ≡ bindings_in none_copied (seen_after s ask id root added) (binds s ask) o
    → (image_made s hart ask id root added ranges o).bindings ≡ bindings_in bytes (seen_after s ask id root added) (binds s ask) o
unfolding bindings_in
uncopied_made s hart ask id root added ranges o bytes none are =
    none_made (s.images ++ map (uncopied (loaded s hart ask id root added ranges) (seen_after s ask id root added) (binds s ask)) added) o.object o.object.relocs
    (uncopied (loaded s hart ask id root added ranges) (seen_after s ask id root added) (binds s ask) o).bindings none
    (rela_binding none_copied (seen_after s ask id root added) o) (map (slot_binding (seen_after s ask id root added) (binds s ask) o) o.object.plt_relocs) are
    ∙ are ∙ copies_alike none_copied bytes (seen_after s ask id root added) (binds s ask) o none

-- the image of a new object is one of the state after the opening
pub image_inside : (s : State) (hart : ℕ) (ask : OpenAsk) (id root : ℕ) (added : List Loaded) (ranges : List Range) (o : Loaded) → Contains added o
    → Contains (open_done s hart ask id root added ranges).images (image_made s hart ask id root added ranges o)
unfolding linked_with loaded
image_inside s hart ask id root added ranges o new =
    let made = uncopied (loaded s hart ask id root added ranges) (seen_after s ask id root added) (binds s ask) in
    Contains-append_right s.images (map (with_copies (s.images ++ map made added)) (map made added)) (with_copies (s.images ++ map made added) (made o))
    (in_map (with_copies (s.images ++ map made added)) (map made added) (made o) (in_map made added o new))
