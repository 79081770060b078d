-- What memory gets for a new block.
use Rattle.std.proofs.Common.{◌≡◌, ℕ, ◌+◌, ◌-◌, ◌<◌, ◌≤◌, ◌&&◌, Bool, true, false, List, [], ◌∷◌, ◌++◌, Option, Some, None, refl, sym, ap, subst, ◌∙◌}
use Rattle.std.specs.Prelude.{◌==◌, find, if◌then◌else◌, IsSome}
use Rattle.std.specs.List.{Contains}
use Rattle.std.specs.Option.{option_and_then, option_map, option_map_or}
use Rattle.std.proofs.lemmas.Bool.{and_from, eq-eqb, eqb-true, true≢false}
use Rattle.std.proofs.lemmas.List.Elements.{Contains-append_right}
use Rattle.link_open_images.specs.AreaImages.Areas.{IsArea, byte_among}
use Rattle.link_images.specs.Parts.{storage_of}
use Rattle.ld_base.specs.declared.linking.Loaded.{Loaded}
use Rattle.ld_base.specs.declared.object.Object.{Object}
use Rattle.ld_base.specs.declared.object.TlsSeg.{TlsSeg}
use Rattle.history_event.specs.declared.event.Event.{Event}
use Rattle.history_event.specs.declared.event.Event.TheVariants.{Tls}
use Rattle.history_event.specs.declared.event.Range.{Range}
use Rattle.history_event.specs.declared.state.Block.{Block}
use Rattle.history_event.specs.declared.state.Module.{Module}
use Rattle.history_state.specs.Accepted.{AcceptsOnly}
use Rattle.history_state.specs.After.{after}
use Rattle.history_state.specs.Legal.{Lawful}
use Rattle.history_state.specs.Lookup.{MayHaveBlock}
use Rattle.history_state.specs.Memory.{covers, first_byte, image_of}
use Rattle.history_state.specs.Objects.{mapped}
use Rattle.history_state.specs.Setting.{Machine, Setting}
use Rattle.history_state.specs.State.{Linked, State}
use Rattle.history_state.specs.Step.{add_block, block_range, block_ranges}
use Rattle.history_state.specs.Storage.{block_pages, late_block, module_of, residue, tls_block, tp_of}
use Rattle.history_state.specs.Lemmas.Accepting.{ReadLaw, accepted_after}
use Rattle.history_state.specs.Lemmas.Brought.{LoadLaws}
use Rattle.history_state.specs.Lemmas.Calling.{images_found}
use Rattle.history_state.specs.Lemmas.History.{after_push, lawful_push}
use Rattle.history_state.specs.Lemmas.Lazy.{PageLaws}
use Rattle.history_state.specs.Lemmas.Lists.{found_in, here, not_found}
use Rattle.history_state.specs.Lemmas.Lookups.{find_behind}
use Rattle.history_state.specs.Lemmas.Moduled.{NumberLaws}
use Rattle.history_calls.specs.Served.{AreBlockInstalls, AreInstalls, AreWordsOf}
use Rattle.seg_image.specs.declared.image.Image.{Image}
use Rattle.link_open_images.specs.NewBlocks.Laws.{area_alone}
use Rattle.link_open_images.proofs.NewBlocks.Blocks.{first_in_block}
use Rattle.link_open_images.proofs.NewBlocks.Bytes.{among_segment}
use Rattle.link_open_images.proofs.NewBlocks.Words.{area_words}

-- ---- a hart that got its block has it

late_is : (s : State) (hart serial : ℕ) → tls_block s hart serial ≡ None → (y : Module) → module_of s serial ≡ Some y → (y.offset ≡ None) × (late_block s hart serial ≡ None)
unfolding tls_block
late_is s hart serial none y is = by y.offset refl (sym (ap (λ (f : Option Module). elim f [ Some q ↦ option_map_or (λ (offset : ℕ). Some (tp_of s hart + offset)) q.offset (late_block s hart serial) | None ↦ None ]) is) ∙ none)
  where
    by : (o : Option ℕ) → y.offset ≡ o → option_map_or (λ (offset : ℕ). Some (tp_of s hart + offset)) o (late_block s hart serial) ≡ None → (y.offset ≡ None) × (late_block s hart serial ≡ None)
    by None e late = (e, late)
    by (Some offset) e late = absurd (let d : Some (tp_of s hart + offset) ≡ None = late in cc)

none_late : (hart serial : ℕ) (blocks : List Block) (b : Block) → option_map (λ (q : Block). q.address) (find (λ (q : Block). q.hart == hart && q.serial == serial) blocks) ≡ None → Contains blocks b
    → (b.hart == hart && b.serial == serial) ≡ false
none_late hart serial blocks b none inside = by (find (λ (q : Block). q.hart == hart && q.serial == serial) blocks) refl none
  where
    by : (found : Option Block) → find (λ (q : Block). q.hart == hart && q.serial == serial) blocks ≡ found → option_map (λ (q : Block). q.address) found ≡ None → (b.hart == hart && b.serial == serial) ≡ false
    by None e n = not_found (λ (q : Block). q.hart == hart && q.serial == serial) blocks b e inside
    by (Some q) e n = absurd (let d : Some q.address ≡ None = n in cc)

block_got : (s : State) (hart serial block : ℕ) → tls_block s hart serial ≡ None → (y : Module) → module_of s serial ≡ Some y → tls_block (add_block hart serial block s) hart serial ≡ Some block
unfolding tls_block
block_got s hart serial block none y is =
    let late = late_is s hart serial none y is in
    let b : Block = record { hart = hart; serial = serial; address = block } in
    let own : (hart == hart && serial == serial) ≡ true = and_from (hart == hart) (serial == serial) (eq-eqb hart hart refl) (eq-eqb serial serial refl) in
    let found : find (λ (q : Block). q.hart == hart && q.serial == serial) (s.blocks ++ b ∷ []) ≡ Some b =
    find_behind (λ (q : Block). q.hart == hart && q.serial == serial) s.blocks (b ∷ []) (λ q inside. none_late hart serial s.blocks q late.1 inside)
    ∙ ap (λ (t : Bool). if t then Some b else None) own in
    ap (λ (f : Option Module). elim f [
      | Some q ↦ option_map_or (λ (offset : ℕ). Some (tp_of (add_block hart serial block s) hart + offset)) q.offset (late_block (add_block hart serial block s) hart serial)
      | None ↦ None
    ]) is
    ∙ ap (λ (o : Option ℕ). option_map_or (λ (offset : ℕ). Some (tp_of (add_block hart serial block s) hart + offset)) o (late_block (add_block hart serial block s) hart serial)) late.0
    ∙ ap (option_map (λ (q : Block). q.address)) found

some_of : {X : Type 0} (o : Option X) → IsSome o → (x : X) × (o ≡ Some x)
some_of None is = absurd (true≢false (sym is))
some_of (Some x) is = (x, refl)

pub new_block_had : (past : List Event) (hart serial block : ℕ) → MayHaveBlock (after past) hart serial block → tls_block (after (past ++ Tls hart serial block ∷ [])) hart serial ≡ Some block
new_block_had past hart serial block may =
    let its = some_of (module_of (after past) serial) may.wants.has_module in
    ap (λ (x : State). tls_block x hart serial) (after_push past (Tls hart serial block)) ∙ block_got (after past) hart serial block may.wants.none its.0 its.1

-- ---- the words of its pages

abbrev bare : Machine → Setting
bare m = record { machine = m; folders = []; preload = []; files = None }

module _ (page_laws : PageLaws) (loads : LoadLaws) (reads : ReadLaw) (numbers : NumberLaws) where
  pub block_installed : (m : Machine) (past : List Event) (hart serial block : ℕ) (i : Linked) (image : Image) → AcceptsOnly m → Lawful m past → hart < m.harts
      → (may : MayHaveBlock (after past) hart serial block) → image_of (after past) serial ≡ Some i
      → IsArea (block - residue may.seg) (block_pages may.seg) block (storage_of i) image
      → AreBlockInstalls (after (past ++ Tls hart serial block ∷ [])) hart serial block (area_alone image)
  block_installed m past hart serial block i image only lawful few may image_is area =
      subst (λ (rs : List Range). AreInstalls t [] rs (area_alone image)) (sym ranges_t) (record { images = tt; slots = refl; areas = (words, tt) })
    where
      s : State
      s = after past

      e : Event
      e = Tls hart serial block

      t : State
      t = after (past ++ e ∷ [])

      state : t ≡ add_block hart serial block s
      state = after_push past e

      lawful_t : Lawful m (past ++ e ∷ [])
      lawful_t = lawful_push m (bare m) past e refl lawful may

      seg : TlsSeg
      seg = may.seg

      o : Loaded
      o = may.wants.object

      r : Range
      r = block_range hart serial block seg

      ranges_s : block_ranges s hart serial block ≡ r ∷ []
      ranges_s =
          ap (λ (x : Option Loaded). option_map_or (λ (g : TlsSeg). block_range hart serial block g ∷ []) (option_and_then (λ (q : Loaded). q.object.tls) x) []) may.wants.mapped
          ∙ ap (λ (x : Option TlsSeg). option_map_or (λ (g : TlsSeg). block_range hart serial block g ∷ []) x []) may.wants.storage

      ranges_t : block_ranges t hart serial block ≡ r ∷ []
      ranges_t = ap (λ (x : State). block_ranges x hart serial block) state ∙ ranges_s

      there : Contains t.ranges r
      there = subst (λ (rs : List Range). Contains rs r) (sym (ap (λ (x : State). x.ranges) state ∙ ap (λ (rs : List Range). s.ranges ++ rs) ranges_s)) (Contains-append_right s.ranges (r ∷ []) r (here r []))

      its : (y : Module) × (module_of s serial ≡ Some y)
      its = some_of (module_of s serial) may.wants.has_module

      module_t : module_of t serial ≡ Some its.0
      module_t = ap (λ (x : State). module_of x serial) state ∙ its.1

      block_t : tls_block t hart serial ≡ Some block
      block_t = new_block_had past hart serial block may

      image_t : image_of t serial ≡ Some i
      image_t = ap (λ (x : State). image_of x serial) state ∙ image_is

      at : Contains (mapped s) o × ((o.serial == serial) ≡ true)
      at = found_in (λ (q : Loaded). q.serial == serial) (mapped s) o may.wants.mapped

      object : i.object ≡ o.object
      object =
          let f = images_found loads m past lawful o at.0 in
          let same : Some i ≡ Some f.image = sym image_is ∙ ap (image_of s) (sym (eqb-true o.serial serial at.1)) ∙ f.found in
          let one : i ≡ f.image = cc in
          ap (λ (x : Linked). x.object) one ∙ f.object

      storage : i.object.tls ≡ Some seg
      storage = ap (λ (x : Object). x.tls) object ∙ may.wants.storage

      small : seg.filesz ≤ seg.memsz
      small = ((accepted_after reads m only past lawful i (found_in (λ (x : Linked). x.serial == serial) s.images i image_is).0).storage seg storage).bytes

      byte_is : (a : ℕ) → covers a r ≡ true → byte_among block (storage_of i) a ≡ first_byte t r.purpose a
      byte_is a in_r =
          among_segment i seg block a storage
          ∙ sym (first_in_block numbers loads m (past ++ e ∷ []) lawful_t hart serial block a its.0 i seg r few module_t block_t image_t storage small there refl in_r)

      words : AreWordsOf t r image
      words = area_words page_laws loads reads m (past ++ e ∷ []) r block (storage_of i) image only lawful_t there refl byte_is area
