-- The pages of a new block hold no other block.
use Rattle.std.proofs.Common.{◌≡◌, ◌⊎◌, inl, inr, ℕ, ◌+◌, ◌<◌, ◌≤◌, ◌&&◌, true, false, List, Option, Some, None, refl, sym, ap, ◌∙◌}
use Rattle.std.specs.Prelude.{◌==◌, find, nat_le, nat_lt}
use Rattle.std.specs.Option.{option_and_then, option_map_or}
use Rattle.std.specs.List.{Contains}
use Rattle.std.proofs.lemmas.Bool.{eqb-true}
use Rattle.ld_base.specs.declared.object.TlsSeg.{TlsSeg}
use Rattle.history_event.specs.declared.event.Event.{Event}
use Rattle.history_event.specs.declared.event.Purpose.TheVariants as purposes
use Rattle.history_event.specs.declared.event.Range.{Range}
use Rattle.history_event.specs.declared.state.Module.{Module}
use Rattle.history_state.specs.State.{Linked, State}
use Rattle.history_state.specs.After.{after}
use Rattle.history_state.specs.Legal.{Lawful}
use Rattle.history_state.specs.Memory.{block_byte, covers, image_of, is_in_block, segment_byte, storage_byte}
use Rattle.history_state.specs.Setting.{Machine}
use Rattle.history_state.specs.Storage.{module_of, tls_block}
use Rattle.link_open_images.proofs.NewBlocks.Bytes.{beside}
use Rattle.history_state.specs.Lemmas.Brought.{LoadLaws}
use Rattle.history_state.specs.Lemmas.InBlocks.{IsLate, IsStatic, in_area, one_range, stands}
use Rattle.history_state.specs.Lemmas.Lists.{found_in, not_found}
use Rattle.history_state.specs.Lemmas.Moduled.{NumberLaws}
use Rattle.history_state.specs.Lemmas.Offsets.{modules_tidy}

module _ (numbers : NumberLaws) (loads : LoadLaws) (m : Machine) (journal : List Event) (lawful : Lawful m journal) where
  abbrev s : State
  s = after journal

  one_module : (x y : Module) → Contains s.modules x → Contains s.modules y → x.serial ≡ y.serial → x ≡ y
  one_module = (modules_tidy numbers loads m journal lawful).one

  stands_at : (hart a : ℕ) (x : Module) → Contains s.modules x → is_in_block s hart a x ≡ true → IsStatic s hart a x ⊎ IsLate s hart a x
  stands_at = stands numbers loads m journal lawful

  area_of : (hart a : ℕ) (x : Module) → hart < m.harts → IsStatic s hart a x → (r : Range) × Contains s.ranges r × (r.purpose ≡ purposes.StaticTls hart) × (covers a r ≡ true)
  area_of = in_area numbers loads m journal lawful

  purpose_is : (a : ℕ) (r q : Range) → Contains s.ranges r → Contains s.ranges q → covers a r ≡ true → covers a q ≡ true → r.purpose ≡ q.purpose
  purpose_is = one_range numbers loads m journal lawful

  -- a module whose block of the hart has an address in pages of a block is that block's
  same_module : (hart serial a : ℕ) (x y : Module) (r : Range) → hart < m.harts → Contains s.modules x → Contains s.modules y → y.serial ≡ serial → Contains s.ranges r
      → r.purpose ≡ purposes.Block hart serial → covers a r ≡ true → is_in_block s hart a x ≡ true → x ≡ y
  same_module hart serial a x y r few first second of there purpose in_r in_x = by (stands_at hart a x first in_x)
    where
      by : IsStatic s hart a x ⊎ IsLate s hart a x → x ≡ y
      by (inl b) =
          let q = area_of hart a x few b in
          let d : purposes.StaticTls hart ≡ purposes.Block hart serial = sym q.2 ∙ purpose_is a q.0 r q.1 there q.3 in_r ∙ purpose in absurd cc
      by (inr b) =
          let its : purposes.Block hart x.serial ≡ purposes.Block hart serial = sym b.purpose ∙ purpose_is a b.range r b.there there b.inside in_r ∙ purpose in
          let same : x.serial ≡ serial = cc in
          one_module x y first second (same ∙ sym of)

  -- the byte that was put first into pages of a block
  pub first_in_block : (hart serial block a : ℕ) (y : Module) (i : Linked) (seg : TlsSeg) (r : Range) → hart < m.harts → module_of s serial ≡ Some y → tls_block s hart serial ≡ Some block
      → image_of s serial ≡ Some i → i.object.tls ≡ Some seg → seg.filesz ≤ seg.memsz → Contains s.ranges r → r.purpose ≡ purposes.Block hart serial → covers a r ≡ true
      → storage_byte s hart a ≡ segment_byte i seg block a
  first_in_block hart serial block a y i seg r few module_is block_is image_is storage small there purpose in_r = by (find (is_in_block s hart a) s.modules) refl
    where
      at : Contains s.modules y × ((y.serial == serial) ≡ true)
      at = found_in (λ (q : Module). q.serial == serial) s.modules y module_is

      of : y.serial ≡ serial
      of = eqb-true y.serial serial at.1

      within : is_in_block s hart a y ≡ (nat_le block a && nat_lt a (block + seg.memsz))
      within =
          ap (λ (b : Option ℕ). option_map_or (λ (k : ℕ). option_map_or (λ (g : TlsSeg). nat_le k a && nat_lt a (k + g.memsz)) (option_and_then (λ (q : Linked). q.object.tls) (image_of s y.serial)) false) b false)
          (ap (tls_block s hart) of ∙ block_is)
          ∙ ap (λ (o : Option Linked). option_map_or (λ (g : TlsSeg). nat_le block a && nat_lt a (block + g.memsz)) (option_and_then (λ (q : Linked). q.object.tls) o) false) (ap (image_of s) of ∙ image_is)
          ∙ ap (λ (t : Option TlsSeg). option_map_or (λ (g : TlsSeg). nat_le block a && nat_lt a (block + g.memsz)) t false) storage

      its : block_byte s hart a y ≡ segment_byte i seg block a
      its =
          ap (λ (b : Option ℕ). option_map_or (λ (k : ℕ). option_map_or (λ (q : Linked). option_map_or (λ (g : TlsSeg). segment_byte q g k a) q.object.tls 0) (image_of s y.serial) 0) b 0)
          (ap (tls_block s hart) of ∙ block_is)
          ∙ ap (λ (o : Option Linked). option_map_or (λ (q : Linked). option_map_or (λ (g : TlsSeg). segment_byte q g block a) q.object.tls 0) o 0) (ap (image_of s) of ∙ image_is)
          ∙ ap (λ (t : Option TlsSeg). option_map_or (λ (g : TlsSeg). segment_byte i g block a) t 0) storage

      by : (found : Option Module) → find (is_in_block s hart a) s.modules ≡ found → storage_byte s hart a ≡ segment_byte i seg block a
      by None e =
          ap (λ (f : Option Module). option_map_or (block_byte s hart a) f 0) e
          ∙ sym (beside i seg block a small (sym within ∙ not_found (is_in_block s hart a) s.modules y e at.0))
      by (Some x) e =
          let in_x = found_in (is_in_block s hart a) s.modules x e in
          let one : x ≡ y = same_module hart serial a x y r few in_x.0 at.0 of there purpose in_r in_x.1 in
          ap (λ (f : Option Module). option_map_or (block_byte s hart a) f 0) e ∙ ap (block_byte s hart a) one ∙ its
