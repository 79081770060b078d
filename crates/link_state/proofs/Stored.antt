-- Blocks of thread-local storage, in the words of the calls.
use Rattle.std.proofs.Common.{◌≡◌, ℕ, ◌+◌, ◌-◌, ◌<◌, true, List, [], ◌∷◌, ◌++◌, map, Option, Some, None, Result, Ok, Err, IfErr, IfOk, refl, sym, ap, subst, ◌∙◌, arith}
use Rattle.std.specs.Prelude.{◌==◌, find, IsSome}
use Rattle.std.specs.Result.{IsErrAnd}
use Rattle.std.proofs.lemmas.Bool.{eq-eqb, eqb-true, true≢false}
use Rattle.std.proofs.lemmas.List.{append-nil}
use Rattle.std.specs.List.{Contains, flat_map}
use Rattle.std.specs.Option.{option_and_then, option_map_or}
use Rattle.address_space.specs.Pages.{AllFree}
use Rattle.link_open_images.specs.AreaImages.Areas.{IsArea}
use Rattle.link_images.specs.Parts.{part_of, storage_of}
use Rattle.link_images.specs.declared.parts.Part.{Part}
use Rattle.ld_base.specs.declared.linking.Loaded.{Loaded}
use Rattle.ld_base.specs.declared.object.TlsSeg.{TlsSeg}
use Rattle.history_event.specs.declared.event.Event.{Event}
use Rattle.history_event.specs.declared.event.Event.TheVariants.{Tls}
use Rattle.history_event.specs.declared.event.Purpose.TheVariants as purposes
use Rattle.history_event.specs.declared.event.Range.{Range}
use Rattle.history_event.specs.declared.hart_end.HartEnd.TheVariants as ends
use Rattle.history_event.specs.declared.state.Module.{Module}
use Rattle.history_state.specs.Accepted.{AcceptsOnly, IsAccepted}
use Rattle.history_state.specs.After.{after}
use Rattle.history_state.specs.Areas.{free_pages}
use Rattle.history_state.specs.Laws.{FindsImage, IsIn}
use Rattle.history_state.specs.Legal.{Lawful}
use Rattle.history_state.specs.Lookup.{HasNoBlock, MayHaveBlock}
use Rattle.history_state.specs.Memory.{image_of}
use Rattle.history_state.specs.Objects.{mapped, object_at}
use Rattle.history_state.specs.State.{Linked, State}
use Rattle.history_state.specs.Step.{add_block, block_range, block_ranges}
use Rattle.history_state.specs.Storage.{block_pages, module_of, residue, tls_block}
use Rattle.history_state.specs.Lemmas.Lists.{found_in, from_flat, not_found}
use Rattle.history_journal.specs.Following.{machine_of}
use Rattle.history_calls.specs.declared.link_served.installs.Installs.{Installs}
use Rattle.history_calls.specs.Ends.{bad_module, no_room}
use Rattle.history_calls.specs.Gives.{HasBlock, in_block, in_new_block, to_end}
use Rattle.history_calls.specs.Served.{AreBlockInstalls, InstallsNothing, Makes, a_block, no_event}
use Rattle.link_open_images.specs.NewBlocks.Laws.{HartsHaveNewBlocks, NewBlocksAreInstalled}
use Rattle.link_open_images.specs.NewBlocks.Placing.{IsBlockFault, IsNewBlock, LacksPages}
use Rattle.link_open_images.specs.declared.new_blocks.placing.BlockFault.{BlockFault}
use Rattle.link_open_images.specs.declared.new_blocks.placing.BlockFault.TheVariants as blocks
use Rattle.link_open_images.specs.declared.new_blocks.placing.NewBlock.{NewBlock}
use Rattle.tls_blocks.specs.Numbers.{module_at}
use Rattle.link_state.specs.Locating.{EndsUnlocated, IsLocated, IsModuleOf, IsNotLocated, LacksBlock, PlansBlock, PlansNone}
use Rattle.link_state.specs.Table.{LinkTable}
use Rattle.link_state.specs.TlsFaults.{tls_fault}
use Rattle.link_holds.specs.Lemmas.Parts.{storage_found}
use Rattle.scope_rule.specs.Loading.{with_serial}
use Rattle.scope_rule.specs.declared.namespace.Namespace.{Namespace}

-- ---- a block that is made

abbrev pub may_have : (s : State) (hart serial : ℕ) (b : NewBlock) → PlansBlock s serial b → IsSome (module_of s serial) → tls_block s hart serial ≡ None → MayHaveBlock s hart serial b.address
may_have s hart serial b plan some none = record {
  seg = plan.stored.seg;
  wants = record { object = plan.stored.object; mapped = plan.stored.mapped; storage = plan.stored.storage; has_module = some; none = none };
  pages = b.start;
  first = plan.is.first;
  is = plan.is.address;
}

pub none_there : (s : State) (hart serial pages : ℕ) → LacksBlock s serial pages → IsSome (module_of s serial) → tls_block s hart serial ≡ None → HasNoBlock s hart serial pages
none_there s hart serial pages lacks some none = record {
  seg = lacks.stored.seg;
  wants = record { object = lacks.stored.object; mapped = lacks.stored.mapped; storage = lacks.stored.storage; has_module = some; none = none };
  none = lacks.lacks.none;
  is = lacks.lacks.is;
}

-- the object of a module has one
pub has_module : (s : State) (number serial : ℕ) → IsModuleOf s number serial → IsSome (module_of s serial)
has_module s number serial its = by (module_of s serial) refl
  where
    at : Contains s.modules its.of × ((its.of.number == number) ≡ true)
    at = found_in (λ (m : Module). m.number == number) s.modules its.of its.there

    by : (found : Option Module) → module_of s serial ≡ found → IsSome (module_of s serial)
    by None e = absurd (true≢false (sym (eq-eqb its.of.serial serial its.is) ∙ not_found (λ (m : Module). m.serial == serial) s.modules its.of e at.0))
    by (Some m) e = subst (λ (f : Option Module). IsSome f) (sym e) refl

-- where its pages are
pub range_is : (s : State) (hart serial : ℕ) (b : NewBlock) → PlansBlock s serial b
    → block_ranges s hart serial b.address ≡ record { address = b.start; pages = b.pages; purpose = purposes.Block hart serial } ∷ []
range_is s hart serial b plan =
    ap (λ (x : Option Loaded). option_map_or (λ (g : TlsSeg). block_range hart serial b.address g ∷ []) (option_and_then (λ (q : Loaded). q.object.tls) x) []) plan.stored.mapped
    ∙ ap (λ (x : Option TlsSeg). option_map_or (λ (g : TlsSeg). block_range hart serial b.address g ∷ []) x []) plan.stored.storage
    ∙ ap (λ a. record { address = a; pages = block_pages plan.stored.seg; purpose = purposes.Block hart serial } ∷ []) start
    ∙ ap (λ n. record { address = b.start; pages = n; purpose = purposes.Block hart serial } ∷ []) (sym plan.is.pages)
  where
    start : b.address - residue plan.stored.seg ≡ b.start
    start = let at = plan.is.address in omega (arith, at)

pub free_there : (s : State) (serial : ℕ) (b : NewBlock) (ranges : List Range) → PlansBlock s serial b → ranges ≡ s.ranges → AllFree (free_pages ranges) b.start b.pages
free_there s serial b ranges plan are =
    subst (λ n. AllFree (free_pages ranges) b.start n) (sym plan.is.pages)
    (subst (λ (rs : List Range). AllFree (free_pages rs) b.start (block_pages plan.stored.seg)) (sym are) plan.is.first.fits.room)

-- what memory gets
pub block_made : NewBlocksAreInstalled → (harts : ℕ) → AcceptsOnly (machine_of harts) → (past : List Event) (hart serial : ℕ) (b : NewBlock) → Lawful (machine_of harts) past → hart < harts
    → (plan : PlansBlock (after past) serial b) → IsSome (module_of (after past) serial) → tls_block (after past) hart serial ≡ None
    → AreBlockInstalls (after (past ++ Tls hart serial b.address ∷ [])) hart serial b.address b.installs
block_made law harts only past hart serial b lawful few plan some none =
    subst (AreBlockInstalls (after (past ++ Tls hart serial b.address ∷ [])) hart serial b.address) (sym plan.is.installs)
    (law (machine_of harts) past hart serial b.address plan.stored.image plan.is.image only lawful few (may_have (after past) hart serial b plan some none) plan.stored.of area)
  where
    area : IsArea (b.address - residue plan.stored.seg) (block_pages plan.stored.seg) b.address (storage_of plan.stored.image) plan.is.image
    area =
        let at = plan.is.address in
        let start : b.start ≡ b.address - residue plan.stored.seg = omega (arith, at) in
        subst (λ n. IsArea (b.address - residue plan.stored.seg) n b.address (storage_of plan.stored.image) plan.is.image) plan.is.pages
        (subst (λ a. IsArea a b.pages b.address (storage_of plan.stored.image) plan.is.image) start plan.is.area)

-- ---- what a request gives

pub is_got : (table new : LinkTable) (hart number serial block : ℕ) (installs : Installs) → IsModuleOf (after table.events) number serial → MayHaveBlock (after table.events) hart serial block
    → new.events ≡ table.events ++ Tls hart serial block ∷ [] → new.harts ≡ table.harts → AreBlockInstalls (after (table.events ++ Tls hart serial block ∷ [])) hart serial block installs → new.made ≡ installs
    → after new.events ≡ add_block hart serial block (after table.events) → HartsHaveNewBlocks → IsLocated table hart number block new
is_got table new hart number serial block installs its may events harts made is state law = record {
  given = Tls hart serial block ∷ [];
  gives = λ offset w same. in_new_block number offset block (Tls hart serial block)
      (record { of = its.of; there = its.there; is = ap (λ d. Tls hart d block) (sym its.is); may = may });
  events = events;
  harts = harts;
  made = subst (λ (es : List Event). Makes (after es) (Tls hart serial block ∷ []) new.made) (sym events)
      (a_block hart serial block [] new.made (subst (AreBlockInstalls (after (table.events ++ Tls hart serial block ∷ [])) hart serial block) (sym is) made));
  own = record {
    of = its.of;
    there = ap (λ (s : State). module_at s.modules number) state ∙ its.there;
    is = ap (tls_block (after new.events) hart) its.is ∙ ap (λ (es : List Event). tls_block (after es) hart serial) events ∙ law table.events hart serial block may;
  };
}

pub is_kept : (table new : LinkTable) (hart number serial block : ℕ) → IsModuleOf (after table.events) number serial → Some block ≡ tls_block (after table.events) hart serial → new.events ≡ table.events
    → new.harts ≡ table.harts → InstallsNothing new.made → IsLocated table hart number block new
is_kept table new hart number serial block its is events harts nothing = record {
  given = [];
  gives = λ offset w same. in_block number offset block
      (record { of = its.of; there = its.there; is = ap (tls_block (after table.events) hart) its.is ∙ sym is });
  events = events ∙ sym (append-nil table.events);
  harts = harts;
  made = no_event new.made nothing;
  own = subst (λ (es : List Event). HasBlock (after es) hart number block) (sym events)
      (record { of = its.of; there = its.there; is = ap (tls_block (after table.events) hart) its.is ∙ sym is });
}

pub is_bad : (table new : LinkTable) (hart number : ℕ) → module_at (after table.events).modules number ≡ None → new ≡ table → EndsUnlocated table hart number (ends.BadModule number) new
is_bad table new hart number none is = record { gives = λ offset w same. to_end _ _ (bad_module number offset none); is = is }

pub is_full : (table new : LinkTable) (hart number serial pages : ℕ) → IsModuleOf (after table.events) number serial → HasNoBlock (after table.events) hart serial pages → new ≡ table
    → EndsUnlocated table hart number (ends.AddressSpaceFull pages) new
is_full table new hart number serial pages its none is = record {
  gives = λ offset w same. to_end _ _ (no_room number offset pages (record {
    of = its.of;
    there = its.there;
    none = subst (λ d. HasNoBlock (after table.events) hart d pages) (sym its.is) none;
  }));
  is = is;
}

pub not_got : (table new : LinkTable) (hart number serial : ℕ) (e : BlockFault) → IsModuleOf (after table.events) number serial → tls_block (after table.events) hart serial ≡ None
    → PlansNone (after table.events) serial e → new ≡ table → IsNotLocated table hart number (tls_fault e) new
not_got table new hart number serial (blocks.NoRoom pages) its none lacks is =
    is_full table new hart number serial pages its (none_there (after table.events) hart serial pages lacks (has_module (after table.events) number serial its) none) is
not_got table new hart number serial blocks.Memory its none lacks is = is

-- ---- a block that is planned

pub object_is : (s : State) (namespaces : List Namespace) (serial : ℕ) (o : Loaded) → namespaces ≡ s.namespaces → Some o ≡ with_serial (flat_map (λ (ns : Namespace). ns.objects) namespaces) serial
    → object_at s serial ≡ Some o
object_is s namespaces serial o are at = sym (at ∙ ap (λ (nss : List Namespace). with_serial (flat_map (λ (ns : Namespace). ns.objects) nss) serial) are)

pub accepted_at : (s : State) (serial : ℕ) (o : Loaded) → object_at s serial ≡ Some o → ((ns : Namespace) → IsIn s ns o → IsAccepted o.object) → IsAccepted o.object
accepted_at s serial o at each =
    let found = found_in (λ (x : Loaded). x.serial == serial) (mapped s) o at in
    let of = from_flat (λ (ns : Namespace). ns.objects) s.namespaces o found.0 in
    each of.0 (record { there = of.1; inside = of.2 })

image_is : (s : State) (serial : ℕ) (o : Loaded) → object_at s serial ≡ Some o → ((x : Loaded) → Contains (mapped s) x → FindsImage s x) → (i : Linked) × (image_of s serial ≡ Some i)
image_is s serial o at finds =
    let found = found_in (λ (x : Loaded). x.serial == serial) (mapped s) o at in
    let f = finds o found.0 in
    (f.image, ap (image_of s) (sym (eqb-true o.serial serial found.1)) ∙ f.found)

pub plan_is : (s : State) (serial : ℕ) (o : Loaded) (seg : TlsSeg) (parts : List Part) (p : Part) (free : List ℕ) (bytes : List ℕ) (b : NewBlock) → object_at s serial ≡ Some o → o.object.tls ≡ Some seg
    → ((x : Loaded) → Contains (mapped s) x → FindsImage s x) → parts ≡ map part_of s.images → Some p ≡ find (λ (q : Part). q.serial == serial) parts → free ≡ free_pages s.ranges → bytes ≡ p.storage
    → IsNewBlock free seg bytes b → PlansBlock s serial b
plan_is s serial o seg parts p free bytes b at storage finds are found pages are_bytes is =
    let i = image_is s serial o at finds in
    record {
      stored = record { object = o; mapped = at; seg = seg; storage = storage; image = i.0; of = i.1 };
      is = subst (λ (xs : List ℕ). IsNewBlock (free_pages s.ranges) seg xs b) (are_bytes ∙ storage_found s parts serial p i.0 are found i.1)
          (subst (λ (ps : List ℕ). IsNewBlock ps seg bytes b) pages is);
    }

pub plan_none : (s : State) (serial : ℕ) (o : Loaded) (seg : TlsSeg) (free : List ℕ) (e : BlockFault) → object_at s serial ≡ Some o → o.object.tls ≡ Some seg
    → ((x : Loaded) → Contains (mapped s) x → FindsImage s x) → free ≡ free_pages s.ranges → IsBlockFault free seg e → PlansNone s serial e
plan_none s serial o seg free (blocks.NoRoom pages) at storage finds are lacks =
    let i = image_is s serial o at finds in
    record {
      stored = record { object = o; mapped = at; seg = seg; storage = storage; image = i.0; of = i.1 };
      lacks = subst (λ (ps : List ℕ). LacksPages ps seg pages) are lacks;
    }
plan_none s serial o seg free blocks.Memory at storage finds are lacks = tt

-- ---- results

pub if_ok : {X E : Type 0} (r : Result X E) (P Q : X → Type 0) → ((x : X) → P x → Q x) → IfOk r P → IfOk r Q
if_ok (Ok x) P Q every is = every x is
if_ok (Err e) P Q every is = tt

pub if_err : {X E : Type 0} (r : Result X E) (P Q : E → Type 0) → ((e : E) → P e → Q e) → IfErr r P → IfErr r Q
if_err (Ok x) P Q every is = tt
if_err (Err e) P Q every is = every e is

pub if_err_and : {X E : Type 0} (r : Result X E) (P Q : E → Type 0) → IsErrAnd r P → ((e : E) → P e → Q e) → IfErr r Q
if_err_and (Ok x) P Q is every = tt
if_err_and (Err e) P Q is every = every e is
