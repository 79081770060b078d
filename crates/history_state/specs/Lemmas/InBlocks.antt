-- Where the block of a hart stands that holds an address.
use Rattle.std.proofs.Common.{◌≡◌, ◌⊎◌, inl, inr, ℕ, ◌+◌, ◌<◌, ◌≤◌, ◌&&◌, true, false, List, Option, Some, None, refl, sym, ap, subst, ◌∙◌}
use Rattle.std.specs.Prelude.{◌==◌, find, nat_le, nat_lt}
use Rattle.std.specs.Option.{option_and_then, option_map, option_map_or}
use Rattle.std.specs.List.{Contains}
use Rattle.std.proofs.lemmas.Bool.{and_parts, eq-eqb, eqb-true, leb-true, ltb-true, true≢false}
use Rattle.ld_base.specs.declared.linking.Loaded.{Loaded}
use Rattle.ld_base.specs.declared.object.Object.{Object}
use Rattle.ld_base.specs.declared.object.TlsSeg.{TlsSeg}
use Rattle.history_event.specs.declared.event.Event.{Event}
use Rattle.history_event.specs.declared.event.Purpose.TheVariants as purposes
use Rattle.history_event.specs.declared.event.Range.{Range}
use Rattle.history_event.specs.declared.state.Block.{Block}
use Rattle.history_event.specs.declared.state.Module.{Module}
use Rattle.scope_rule.specs.declared.namespace.Namespace.{Namespace}
use Rattle.history_state.specs.State.{Linked, State}
use Rattle.history_state.specs.After.{after}
use Rattle.history_state.specs.Laws.{HasStatic, IsModule, ModulesAreTidy}
use Rattle.history_state.specs.Legal.{Lawful}
use Rattle.history_state.specs.Memory.{covers, image_of, is_in_block}
use Rattle.history_state.specs.Setting.{Machine}
use Rattle.history_state.specs.Step.{block_range}
use Rattle.history_state.specs.Storage.{late_block, module_of, tls_block, tp_of}
use Rattle.history_state.specs.Lemmas.Blocked.{blocks_placed}
use Rattle.history_state.specs.Lemmas.Brought.{LoadLaws}
use Rattle.history_state.specs.Lemmas.Calling.{images_found}
use Rattle.history_state.specs.Lemmas.Lists.{found_in, in_flat, not_found}
use Rattle.history_state.specs.Lemmas.Map.{one_cover, one_image}
use Rattle.history_state.specs.Lemmas.Moduled.{NumberLaws}
use Rattle.history_state.specs.Lemmas.Offsets.{modules_tidy}
use Rattle.history_state.specs.Lemmas.Ranges.{apart_after}
use Rattle.history_state.specs.Lemmas.StaticAreas.{areas_have_room}

-- a hart's block of a module that holds an address
record Holds (s : State) (hart a : ℕ) (x : Module) : Type 0 where
  block : ℕ
  seg : TlsSeg
  image : Linked
  is : tls_block s hart x.serial ≡ Some block
  found : image_of s x.serial ≡ Some image
  storage : image.object.tls ≡ Some seg
  from : block ≤ a
  to : a < block + seg.memsz

holds_of : (s : State) (hart a : ℕ) (x : Module) → is_in_block s hart a x ≡ true → Holds s hart a x
holds_of s hart a x e = by (tls_block s hart x.serial) refl (image_of s x.serial) refl e
  where
    within : (block : ℕ) → tls_block s hart x.serial ≡ Some block → (i : Linked) → image_of s x.serial ≡ Some i → (tls : Option TlsSeg) → i.object.tls ≡ tls
        → option_map_or (λ (seg : TlsSeg). nat_le block a && nat_lt a (block + seg.memsz)) tls false ≡ true → Holds s hart a x
    within block b i f None g inside = absurd (true≢false (sym inside))
    within block b i f (Some seg) g inside =
        let parts = and_parts (nat_le block a) (nat_lt a (block + seg.memsz)) inside in
        record { block = block; seg = seg; image = i; is = b; found = f; storage = g; from = leb-true block a parts.0; to = ltb-true a (block + seg.memsz) parts.1 }

    by : (b : Option ℕ) → tls_block s hart x.serial ≡ b → (i : Option Linked) → image_of s x.serial ≡ i
        → option_map_or (λ (block : ℕ). option_map_or (λ (seg : TlsSeg). nat_le block a && nat_lt a (block + seg.memsz)) (option_and_then (λ (m : Linked). m.object.tls) i) false) b false ≡ true → Holds s hart a x
    by None b i f inside = absurd (true≢false (sym inside))
    by (Some block) b None f inside = absurd (true≢false (sym inside))
    by (Some block) b (Some i) f inside = within block b i f i.object.tls refl inside

-- where it stands: at an offset behind tp, or in pages of its own
pub record IsStatic (s : State) (hart a : ℕ) (x : Module) : Type 0 where
  pub object : Loaded
  pub offset : ℕ
  pub seg : TlsSeg
  pub has : HasStatic s object offset seg
  pub serial : object.serial ≡ x.serial
  pub from : tp_of s hart + offset ≤ a
  pub to : a < tp_of s hart + offset + seg.memsz

pub record IsLate (s : State) (hart a : ℕ) (x : Module) : Type 0 where
  pub range : Range
  pub there : Contains s.ranges range
  pub purpose : range.purpose ≡ purposes.Block hart x.serial
  pub inside : covers a range ≡ true

module _ (numbers : NumberLaws) (loads : LoadLaws) (m : Machine) (journal : List Event) (lawful : Lawful m journal) where
  abbrev pub s : State
  s = after journal

  pub tidy : ModulesAreTidy s
  tidy = modules_tidy numbers loads m journal lawful

  -- the module of an object is the one that is found
  module_found : (x : Module) → Contains s.modules x → module_of s x.serial ≡ Some x
  module_found x there = by (module_of s x.serial) refl
    where
      by : (found : Option Module) → module_of s x.serial ≡ found → module_of s x.serial ≡ Some x
      by None e = absurd (true≢false (sym (eq-eqb x.serial x.serial refl) ∙ not_found (λ (q : Module). q.serial == x.serial) s.modules x e there))
      by (Some q) e =
          let at = found_in (λ (z : Module). z.serial == x.serial) s.modules q e in
          e ∙ ap (λ (z : Module). Some z) (tidy.one q x at.0 there (eqb-true q.serial x.serial at.1))

  held : (hart a : ℕ) (x : Module) → Contains s.modules x → Holds s hart a x → IsStatic s hart a x ⊎ IsLate s hart a x
  unfolding tls_block
  held hart a x there h = by x.offset refl (sym (ap (λ (found : Option Module). elim found [ Some q ↦ option_map_or (λ (offset : ℕ). Some (tp_of s hart + offset)) q.offset (late_block s hart x.serial) | None ↦ None ]) (module_found x there)) ∙ h.is)
    where
      its : IsModule s x
      its = tidy.mapped x there

      serial : its.object.serial ≡ x.serial
      serial = ap (λ (q : Module). q.serial) its.is

      -- its segment is the image's
      segment : its.object.object.tls ≡ Some h.seg
      segment =
          let i = images_found loads m journal lawful its.object (in_flat (λ (ns : Namespace). ns.objects) s.namespaces its.namespace its.object its.inside.there its.inside.inside) in
          let same : Some i.image ≡ Some h.image = sym i.found ∙ ap (image_of s) serial ∙ h.found in
          let one : i.image ≡ h.image = cc in
          ap (λ (o : Object). o.tls) (sym i.object) ∙ ap (λ (q : Linked). q.object.tls) one ∙ h.storage

      late : (b : Option Block) → find (λ (q : Block). q.hart == hart && q.serial == x.serial) s.blocks ≡ b → option_map (λ (q : Block). q.address) b ≡ Some h.block → IsLate s hart a x
      late None e is = absurd (let d : None ≡ Some h.block = is in cc)
      late (Some b) e is =
          let at = found_in (λ (q : Block). q.hart == hart && q.serial == x.serial) s.blocks b e in
          let parts = and_parts (b.hart == hart) (b.serial == x.serial) at.1 in
          let p = blocks_placed m journal lawful b at.0 in
          let block : b.address ≡ h.block = cc in
          let image = found_in (λ (q : Linked). q.serial == x.serial) s.images h.image h.found in
          let one : p.image ≡ h.image = one_image loads m journal lawful p.image h.image p.there image.0 (p.serial ∙ eqb-true b.serial x.serial parts.1 ∙ sym (eqb-true h.image.serial x.serial image.1)) in
          let segs : Some p.seg ≡ Some h.seg = sym p.storage ∙ ap (λ (q : Linked). q.object.tls) one ∙ h.storage in
          let seg : p.seg ≡ h.seg = cc in
          let from : h.block ≤ a = h.from in
          let to : a < h.block + h.seg.memsz = h.to in
          record {
            range = block_range b.hart b.serial b.address p.seg;
            there = p.range;
            purpose = ap (λ (n : ℕ). purposes.Block n b.serial) (eqb-true b.hart hart parts.0) ∙ ap (λ (n : ℕ). purposes.Block hart n) (eqb-true b.serial x.serial parts.1);
            inside = p.covered a (subst (λ (n : ℕ). n ≤ a) (sym block) from) (subst (λ (z : TlsSeg). a < b.address + z.memsz) (sym seg) (subst (λ (n : ℕ). a < n + h.seg.memsz) (sym block) to));
          }

      by : (o : Option ℕ) → x.offset ≡ o → option_map_or (λ (offset : ℕ). Some (tp_of s hart + offset)) o (late_block s hart x.serial) ≡ Some h.block → IsStatic s hart a x ⊎ IsLate s hart a x
      by None e is = inr (late (find (λ (q : Block). q.hart == hart && q.serial == x.serial) s.blocks) refl is)
      by (Some offset) e is =
          let block : tp_of s hart + offset ≡ h.block = cc in
          inl (record {
            object = its.object;
            offset = offset;
            seg = h.seg;
            has = record { namespace = its.namespace; inside = its.inside; place = its.place; of = its.has; at = ap (λ (q : Module). q.offset) its.is ∙ e; storage = segment };
            serial = serial;
            from = subst (λ (n : ℕ). n ≤ a) (sym block) h.from;
            to = subst (λ (n : ℕ). a < n + h.seg.memsz) (sym block) h.to;
          })

  pub stands : (hart a : ℕ) (x : Module) → Contains s.modules x → is_in_block s hart a x ≡ true → IsStatic s hart a x ⊎ IsLate s hart a x
  stands hart a x there inside = held hart a x there (holds_of s hart a x inside)

  -- the range that has it
  pub in_area : (hart a : ℕ) (x : Module) → hart < m.harts → IsStatic s hart a x → (r : Range) × Contains s.ranges r × (r.purpose ≡ purposes.StaticTls hart) × (covers a r ≡ true)
  in_area hart a x few b =
      let r = (areas_have_room loads m journal lawful).covered b.object b.offset b.seg hart b.has few in
      (r.0, r.1, r.2, r.3 a b.from b.to)

  pub one_range : (a : ℕ) (r q : Range) → Contains s.ranges r → Contains s.ranges q → covers a r ≡ true → covers a q ≡ true → r.purpose ≡ q.purpose
  one_range a r q first second in_r in_q = ap (λ (z : Range). z.purpose) (one_cover s.ranges (apart_after m journal lawful) a r q first second in_r in_q)
