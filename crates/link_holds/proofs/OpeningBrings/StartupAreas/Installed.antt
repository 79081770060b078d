-- The bytes of a hart's static area are those that were put there first.
use Rattle.std.proofs.Common.{◌≡◌, ◌≢◌, ◌⊎◌, inl, inr, ⊎_elim, ℕ, ◌+◌, ◌-◌, ◌<◌, ◌≤◌, ◌&&◌, Bool, true, false, cond, eqb, List, [], map, length, get_or, Option, Some, None, refl, sym, ap, subst, ◌∙◌, arith}
use Rattle.std.specs.Prelude.{nat_le, nat_lt}
use Rattle.std.specs.List.{Contains, find, range_with_len, slice_get}
use Rattle.std.specs.Option.{option_and_then, option_map, option_map_or}
use Rattle.std.proofs.lemmas.Bool.{and_from, and_parts, cases_lt, eq-eqb, eqb-true, le-leb, leb-true, lt-ltb, ltb-true, true≢false}
use Rattle.std.proofs.lemmas.List.{get_or_past}
use Rattle.std.proofs.lemmas.Option.{slice_get-get_or}
use Rattle.link_open_images.specs.AreaImages.Areas.{byte_among}
use Rattle.link_images.specs.Parts.{part_of, storage_of}
use Rattle.ld_base.specs.declared.linking.Loaded.{Loaded}
use Rattle.ld_base.specs.declared.linking.TlsPlace.{TlsPlace}
use Rattle.ld_base.specs.declared.object.TlsSeg.{TlsSeg}
use Rattle.history_event.specs.declared.event.OpenAsk.{OpenAsk}
use Rattle.history_event.specs.declared.event.Range.{Range}
use Rattle.history_event.specs.declared.state.Block.{Block}
use Rattle.history_event.specs.declared.state.Module.{Module}
use Rattle.history_state.specs.Flags.{is_global}
use Rattle.history_state.specs.Laws.{IsIn, IsModule, ModulesAreTidy, StaticsAreApart}
use Rattle.history_state.specs.Memory.{block_byte, image_of, is_in_block, segment_byte, storage_byte}
use Rattle.history_state.specs.Objects.{serial_of}
use Rattle.history_state.specs.Read.{IsUntouched}
use Rattle.history_state.specs.State.{Linked, State, empty_namespace}
use Rattle.history_state.specs.Step.{loaded, open_done}
use Rattle.history_state.specs.Storage.{late_block, module_of, module_of_place, tls_block, tp_of}
use Rattle.history_state.specs.Lemmas.Imaged.{objects_open}
use Rattle.history_state.specs.Lemmas.Lists.{found_in, none_in, not_found, only_in}
use Rattle.link_open_laws.specs.Laws.{CanBePlaced, image_made}
use Rattle.scope_rule.specs.declared.namespace.Namespace.{Namespace}
use Rattle.link_holds.specs.OpeningBrings.StartupAreas.Blocks.{HoldBlocks, IsBlock, static_offset}
use Rattle.link_holds.specs.OpeningBrings.StartupAreas.Laws.{parts_made}
use Rattle.link_holds.proofs.OpeningBrings.StartupAreas.New.{IsNew, KeptCounts, new_block, part_at, serials_differ}
use Rattle.link_holds.proofs.OpeningBrings.StartupAreas.Written.{same_block}

-- ---- bytes by their place

pub among_at : (at a : ℕ) (bytes : List ℕ) → at ≤ a → byte_among at bytes a ≡ get_or bytes (a - at) 0
unfolding byte_among
among_at at a bytes low = by (nat_le at a && nat_lt a (at + length bytes)) refl
  where
    by : (b : Bool) → (nat_le at a && nat_lt a (at + length bytes)) ≡ b → cond b (get_or bytes (a - at) 0) 0 ≡ get_or bytes (a - at) 0
    by true e = refl
    by false e = ⊎_elim
        (λ (inside : a < at + length bytes). absurd (true≢false (sym (and_from (nat_le at a) (nat_lt a (at + length bytes)) (le-leb at a low) (lt-ltb a (at + length bytes) inside)) ∙ e)))
        (λ (past : at + length bytes ≤ a). sym (get_or_past bytes (a - at) 0 (omega (arith, past))))
        (cases_lt a (at + length bytes))

pub among_none : (at a : ℕ) → byte_among at [] a ≡ 0
unfolding byte_among
among_none at a = by (nat_le at a && nat_lt a (at + 0))
  where
    none : List ℕ
    none = []

    by : (b : Bool) → cond {A = ℕ} b (get_or none (a - at) 0) 0 ≡ 0
    by true = get_or_past none (a - at) 0 (omega arith)
    by false = refl

-- ---- the state after startup's opening

module _ (s : State) (hart : ℕ) (ask : OpenAsk) (id root : ℕ) (added : List Loaded) (ranges : List Range) (untouched : IsUntouched s) (tidy : ModulesAreTidy (open_done s hart ask id root added ranges))
    (counts : KeptCounts) (placed : (o : Loaded) → Contains added o → CanBePlaced o) (statics : StaticsAreApart (open_done s hart ask id root added ranges))
    (row : map serial_of added ≡ range_with_len s.next (length added))
    (found : (k : ℕ) (o : Loaded) → slice_get added k ≡ Some o → image_of (open_done s hart ask id root added ranges) o.serial ≡ Some (image_made s hart ask id root added ranges o)) where
  abbrev t : State
  t = open_done s hart ask id root added ranges

  abbrev made : Loaded → Linked
  made o = image_made s hart ask id root added ranges o

  -- what is mapped is new
  is_new : (ns : Namespace) (o : Loaded) → IsIn t ns o → Contains added o
  unfolding loaded
  is_new ns o inside = ⊎_elim
      (λ (old : (ms : Namespace) × Contains s.namespaces ms × Contains ms.objects o).
      absurd (none_in o (subst (λ (n : Namespace). Contains n.objects o) (sym (only_in (empty_namespace 0) old.0 (subst (λ (xs : List Namespace). Contains xs old.0) untouched.namespaces old.1))) old.2)))
      (λ (i : Contains added o). i)
      (objects_open id added root (is_global ask.flags) s.namespaces ns o inside.there inside.inside)

  place_of_new : (o : Loaded) → Contains added o → (k : ℕ) × (slice_get added k ≡ Some o)
  place_of_new o new = (new.0, slice_get-get_or added new.0 o new.1 ∙ ap (λ (x : Loaded). Some x) new.2)

  module_found : (x : Module) → Contains t.modules x → module_of t x.serial ≡ Some x
  module_found x there = by (module_of t x.serial) refl
    where
      by : (f : Option Module) → module_of t x.serial ≡ f → module_of t x.serial ≡ Some x
      by None e = absurd (true≢false (sym (eq-eqb x.serial x.serial refl) ∙ not_found (λ (q : Module). eqb q.serial x.serial) t.modules x e there))
      by (Some q) e =
          let at = found_in (λ (z : Module). eqb z.serial x.serial) t.modules q e in
          e ∙ ap (λ (z : Module). Some z) (tidy.one q x at.0 there (eqb-true q.serial x.serial at.1))

  no_late : (h serial : ℕ) → late_block t h serial ≡ None
  unfolding loaded
  no_late h serial = ap (λ (bs : List Block). option_map (λ (b : Block). b.address) (find (λ (b : Block). eqb b.hart h && eqb b.serial serial) bs)) untouched.blocks

  -- a hart's block stands behind its tp
  stands : (h : ℕ) (x : Module) → Contains t.modules x → tls_block t h x.serial ≡ option_map (λ (n : ℕ). tp_of t h + n) x.offset
  unfolding tls_block
  stands h x there =
      ap (λ (f : Option Module). elim f [ Some m ↦ option_map_or (λ (offset : ℕ). Some (tp_of t h + offset)) m.offset (late_block t h x.serial) | None ↦ None ]) (module_found x there)
      ∙ ap (option_map_or (λ (offset : ℕ). Some (tp_of t h + offset)) x.offset) (no_late h x.serial) ∙ by x.offset
    where
      by : (o : Option ℕ) → option_map_or (λ (offset : ℕ). Some (tp_of t h + offset)) o None ≡ option_map (λ (n : ℕ). tp_of t h + n) o
      by None = refl
      by (Some n) = refl

  -- what holds an address, and with which byte
  abbrev within : ℕ → Option TlsSeg → Option ℕ → Bool
  within a tls block = option_map_or (λ (b : ℕ). option_map_or (λ (seg : TlsSeg). nat_le b a && nat_lt a (b + seg.memsz)) tls false) block false

  abbrev byte_in : Linked → ℕ → Option TlsSeg → Option ℕ → ℕ
  byte_in i a tls block = option_map_or (λ (b : ℕ). option_map_or (λ (seg : TlsSeg). segment_byte i seg b a) tls 0) block 0

  holds : (h a : ℕ) (x : Module) (o : Loaded) (k : ℕ) → Contains t.modules x → slice_get added k ≡ Some o → o.serial ≡ x.serial
      → is_in_block t h a x ≡ within a o.object.tls (option_map (λ (n : ℕ). tp_of t h + n) x.offset)
  holds h a x o k there at same =
      ap (λ (block : Option ℕ). option_map_or (λ (b : ℕ). option_map_or (λ (seg : TlsSeg). nat_le b a && nat_lt a (b + seg.memsz)) (option_and_then (λ (i : Linked). i.object.tls) (image_of t x.serial)) false) block false)
      (stands h x there)
      ∙ ap (λ (i : Option Linked). option_map_or (λ (b : ℕ). option_map_or (λ (seg : TlsSeg). nat_le b a && nat_lt a (b + seg.memsz)) (option_and_then (λ (m : Linked). m.object.tls) i) false)
      (option_map (λ (n : ℕ). tp_of t h + n) x.offset) false)
      (ap (image_of t) (sym same) ∙ found k o at)

  has_byte : (h a : ℕ) (x : Module) (o : Loaded) (k : ℕ) → Contains t.modules x → slice_get added k ≡ Some o → o.serial ≡ x.serial
      → block_byte t h a x ≡ byte_in (made o) a o.object.tls (option_map (λ (n : ℕ). tp_of t h + n) x.offset)
  has_byte h a x o k there at same =
      ap (λ (block : Option ℕ). option_map_or (λ (b : ℕ). option_map_or (λ (i : Linked). option_map_or (λ (seg : TlsSeg). segment_byte i seg b a) i.object.tls 0) (image_of t x.serial) 0) block 0)
      (stands h x there)
      ∙ ap (λ (i : Option Linked). option_map_or (λ (b : ℕ). option_map_or (λ (m : Linked). option_map_or (λ (seg : TlsSeg). segment_byte m seg b a) m.object.tls 0) i 0)
      (option_map (λ (n : ℕ). tp_of t h + n) x.offset) 0)
      (ap (image_of t) (sym same) ∙ found k o at)

  its_block : (k x : ℕ) (bytes : List ℕ) → IsBlock added (parts_made s hart ask id root added ranges) k x bytes → IsNew s hart ask id root added ranges k x bytes
  its_block k x bytes b = new_block s hart ask id root added ranges tidy counts placed k x bytes b

  -- ---- an area

  module _ (tp : ℕ) (area : List ℕ) (blocks : HoldBlocks tp added (parts_made s hart ask id root added ranges) area) (segments : (i : Linked) (seg : TlsSeg) (block a : ℕ) → i.object.tls ≡ Some seg
      → byte_among block (storage_of i) a ≡ segment_byte i seg block a) (h a start : ℕ) (tp_is : tp_of t h ≡ start + tp) (low : start ≤ a) where
    -- in a block
    in_one : (k n : ℕ) (o : Loaded) (seg : TlsSeg) → slice_get added k ≡ Some o → static_offset o ≡ Some n → o.object.tls ≡ Some seg → tp_of t h + n ≤ a → a < tp_of t h + n + seg.memsz
        → get_or area (a - start) 0 ≡ segment_byte (made o) seg (tp_of t h + n) a
    in_one k n o seg at offset tls from to = by (cases_lt (a - (tp_of t h + n)) (length (storage_of (made o)))) ∙ sym (among_at (tp_of t h + n) a (storage_of (made o)) from) ∙ segments (made o) seg (tp_of t h + n) a tls
      where
        own : IsBlock added (parts_made s hart ask id root added ranges) k n (storage_of (made o))
        own = record { object = o; there = at; stands = offset; part = part_of (made o); kept = part_at s hart ask id root added ranges k o at; are = refl }

        its : IsNew s hart ask id root added ranges k n (storage_of (made o))
        its = its_block k n (storage_of (made o)) own

        seg_same : its.seg ≡ seg
        seg_same =
            let objects : Some its.object ≡ Some o = sym its.there ∙ at in
            let object : its.object ≡ o = cc in
            let segs : Some its.seg ≡ Some seg = sym its.has.storage ∙ ap (λ (x : Loaded). x.object.tls) object ∙ tls in
            cc

        beyond : length (storage_of (made o)) ≤ a - (tp_of t h + n) → (l y : ℕ) (more : List ℕ) → IsBlock added (parts_made s hart ask id root added ranges) l y more
            → (a - start < tp + y) ⊎ (tp + y + length more ≤ a - start)
        beyond past l y more b = ⊎_elim
            (λ (below : l < k). other (λ e. omega (arith, below, e)))
            (λ (not_below : k ≤ l). ⊎_elim
            (λ (above : k < l). other (λ e. omega (arith, above, e)))
            (λ (not_above : l ≤ k). own_one (omega (arith, not_below, not_above)))
            (cases_lt k l))
            (cases_lt l k)
          where
            other : k ≢ l → (a - start < tp + y) ⊎ (tp + y + length more ≤ a - start)
            other differ =
                let theirs = its_block l y more b in
                ⊎_elim
                (λ (e : n + its.seg.memsz ≤ y). inl (omega (arith, e, to, tp_is, low, ap (λ (g : TlsSeg). g.memsz) seg_same)))
                (λ (e : y + theirs.seg.memsz ≤ n). inr (omega (arith, e, theirs.short, from, tp_is, low)))
                (statics.apart its.object theirs.object n y its.seg theirs.seg its.has theirs.has (serials_differ added s.next row k l its.object theirs.object its.there theirs.there differ))

            own_one : k ≡ l → (a - start < tp + y) ⊎ (tp + y + length more ≤ a - start)
            own_one e =
                let same = same_block added (parts_made s hart ask id root added ranges) k n y (storage_of (made o)) more own (subst (λ (m : ℕ). IsBlock added (parts_made s hart ask id root added ranges) m y more) (sym e) b) in
                inr (omega (arith, past, from, tp_is, low, same.0, ap (λ (bs : List ℕ). length bs) same.1))

        by : (a - (tp_of t h + n) < length (storage_of (made o))) ⊎ (length (storage_of (made o)) ≤ a - (tp_of t h + n)) → get_or area (a - start) 0 ≡ get_or (storage_of (made o)) (a - (tp_of t h + n)) 0
        by (inl less) =
            let place : a - start ≡ tp + n + (a - (tp_of t h + n)) = omega (arith, tp_is, from, low) in
            ap (λ (m : ℕ). get_or area m 0) place ∙ blocks.inside k n (storage_of (made o)) own (a - (tp_of t h + n)) less
        by (inr past) = blocks.beside (a - start) (beyond past) ∙ sym (get_or_past (storage_of (made o)) (a - (tp_of t h + n)) 0 past)

    -- in none
    in_none : find (is_in_block t h a) t.modules ≡ None → get_or area (a - start) 0 ≡ 0
    in_none none = blocks.beside (a - start) (λ k x bytes b. out k x bytes b)
      where
        out : (k x : ℕ) (bytes : List ℕ) → IsBlock added (parts_made s hart ask id root added ranges) k x bytes → (a - start < tp + x) ⊎ (tp + x + length bytes ≤ a - start)
        out k x bytes b = ⊎_elim
            (λ (before : a - start < tp + x). inl before)
            (λ (from : tp + x ≤ a - start). ⊎_elim
            (λ (inside : a - start < tp + x + length bytes). absurd (held from inside))
            (λ (past : tp + x + length bytes ≤ a - start). inr past)
            (cases_lt (a - start) (tp + x + length bytes)))
            (cases_lt (a - start) (tp + x))
          where
            its : IsNew s hart ask id root added ranges k x bytes
            its = its_block k x bytes b

            held : tp + x ≤ a - start → a - start < tp + x + length bytes → ⊥
            held from inside =
                let y : Module = module_of_place its.object.serial its.has.place in
                let there : Contains t.modules (module_of_place its.object.serial its.has.place) = tidy.there its.has.namespace its.object its.has.place its.has.inside its.has.of in
                let first : tp_of t h + x ≤ a = omega (arith, from, tp_is, low) in
                let last : a < tp_of t h + x + its.seg.memsz = omega (arith, inside, tp_is, low, its.short) in
                true≢false
                (sym (and_from (nat_le (tp_of t h + x) a) (nat_lt a (tp_of t h + x + its.seg.memsz)) (le-leb (tp_of t h + x) a first) (lt-ltb a (tp_of t h + x + its.seg.memsz) last))
                ∙ sym (ap (λ (tls : Option TlsSeg). within a tls (Some (tp_of t h + x))) its.has.storage)
                ∙ sym (ap (λ (o : Option ℕ). within a its.object.object.tls (option_map (λ (n : ℕ). tp_of t h + n) o)) its.has.at)
                ∙ sym (holds h a y its.object k there its.there refl)
                ∙ not_found (is_in_block t h a) t.modules y none there)

    pub area_byte : get_or area (a - start) 0 ≡ storage_byte t h a
    area_byte = by (find (is_in_block t h a) t.modules) refl
      where
        by : (f : Option Module) → find (is_in_block t h a) t.modules ≡ f → get_or area (a - start) 0 ≡ option_map_or (block_byte t h a) f 0
        by None e = in_none e
        by (Some x) e = there (found_in (is_in_block t h a) t.modules x e)
          where
            there : Contains t.modules x × (is_in_block t h a x ≡ true) → get_or area (a - start) 0 ≡ block_byte t h a x
            there at = of (place_of_new its.object new)
              where
                its : IsModule t x
                its = tidy.mapped x at.0

                new : Contains added its.object
                new = is_new its.namespace its.object its.inside

                serial : its.object.serial ≡ x.serial
                serial = ap (λ (q : Module). q.serial) its.is

                of : (k : ℕ) × (slice_get added k ≡ Some its.object) → get_or area (a - start) 0 ≡ block_byte t h a x
                of k =
                    go x.offset refl its.object.object.tls refl (sym (holds h a x its.object k.0 at.0 k.1 serial) ∙ at.1) ∙ sym (has_byte h a x its.object k.0 at.0 k.1 serial)
                  where
                    go : (off : Option ℕ) → x.offset ≡ off → (tls : Option TlsSeg) → its.object.object.tls ≡ tls → within a tls (option_map (λ (n : ℕ). tp_of t h + n) off) ≡ true
                        → get_or area (a - start) 0 ≡ byte_in (made its.object) a tls (option_map (λ (n : ℕ). tp_of t h + n) off)
                    go None e tls f inside = absurd (true≢false (sym inside))
                    go (Some n) e None f inside = absurd (true≢false (sym inside))
                    go (Some n) e (Some seg) f inside =
                        let parts = and_parts (nat_le (tp_of t h + n) a) (nat_lt a (tp_of t h + n + seg.memsz)) inside in
                        let offset : static_offset its.object ≡ Some n =
                        ap (λ (m : Option TlsPlace). option_and_then (λ (p : TlsPlace). p.offset) m) its.has ∙ ap (λ (q : Module). q.offset) its.is ∙ e in
                        in_one k.0 n its.object seg k.1 offset f (leb-true (tp_of t h + n) a parts.0) (ltb-true a (tp_of t h + n + seg.memsz) parts.1)
