-- The static blocks of new objects, in the state after their opening.
use Rattle.std.proofs.Common.{◌≡◌, ◌≢◌, ◌⊎◌, inl, inr, ⊎_elim, ℕ, zero, suc, ◌+◌, ◌≤◌, List, [], ◌∷◌, map, length, Option, Some, None, refl, sym, ap, ◌∙◌, arith}
use Rattle.std.specs.List.{Contains, range_with_len, slice_get}
use Rattle.std.specs.Option.{is_some, option_and_then}
use Rattle.std.proofs.lemmas.Bool.{true≢false}
use Rattle.link_images.specs.Parts.{part_of, storage_of}
use Rattle.link_images.specs.declared.parts.Part.{Part}
use Rattle.ld_base.specs.declared.linking.Loaded.{Loaded}
use Rattle.ld_base.specs.declared.linking.TlsPlace.{TlsPlace}
use Rattle.ld_base.specs.declared.object.TlsSeg.{TlsSeg}
use Rattle.history_event.specs.declared.event.OpenAsk.{OpenAsk}
use Rattle.history_event.specs.declared.event.Range.{Range}
use Rattle.history_state.specs.Flags.{is_global}
use Rattle.history_state.specs.Laws.{HasStatic, IsIn, ModulesAreTidy, StaticsAreApart}
use Rattle.history_state.specs.Objects.{serial_of}
use Rattle.history_state.specs.State.{Linked, State}
use Rattle.history_state.specs.Step.{loaded, open_done}
use Rattle.history_state.specs.Lemmas.Imaged.{reached_open}
use Rattle.history_state.specs.Lemmas.Lists.{at_in}
use Rattle.link_open_laws.specs.Laws.{CanBePlaced, image_made}
use Rattle.scope_rule.specs.declared.namespace.Namespace.{Namespace}
use Rattle.link_holds.specs.OpeningBrings.StartupAreas.Blocks.{FitBlocks, IsBlock}
use Rattle.link_holds.specs.OpeningBrings.StartupAreas.Laws.{parts_made, statics_then}

map_at : {X Y : Type 0} (f : X → Y) (xs : List X) (k : ℕ) (x : X) → slice_get xs k ≡ Some x → slice_get (map f xs) k ≡ Some (f x)
map_at {X} f [] k x at = absurd (let d : None ≡ Some x = at in cc)
map_at f (y ∷ xs) zero x at = let same : y ≡ x = cc in ap (λ z. Some (f z)) same
map_at f (y ∷ xs) (suc k) x at = map_at f xs k x at

serial_at : (added : List Loaded) (next : ℕ) → map serial_of added ≡ range_with_len next (length added) → (k : ℕ) (o : Loaded) → slice_get added k ≡ Some o → o.serial ≡ next + k
serial_at [] next are k o at = absurd (let d : None ≡ Some o = at in cc)
serial_at (x ∷ added) next are zero o at =
    let same : x ≡ o = cc in
    let first : x.serial ≡ next = cc in
    omega (arith, ap serial_of same, first)
serial_at (x ∷ added) next are (suc k) o at =
    let rest : map serial_of added ≡ range_with_len (next + 1) (length added) = cc in
    omega (arith, serial_at added (next + 1) rest k o at)

pub serials_differ : (added : List Loaded) (next : ℕ) → map serial_of added ≡ range_with_len next (length added) → (k l : ℕ) (o p : Loaded) → slice_get added k ≡ Some o → slice_get added l ≡ Some p
    → k ≢ l → o.serial ≢ p.serial
serials_differ added next row k l o p one two differ same = differ (omega (arith, same, serial_at added next row k o one, serial_at added next row l p two))

-- a new object is mapped then
pub new_in : (s : State) (hart : ℕ) (ask : OpenAsk) (id root : ℕ) (added : List Loaded) (ranges : List Range) (o : Loaded) → Contains added o
    → (ns : Namespace) × IsIn (open_done s hart ask id root added ranges) ns o
unfolding loaded
new_in s hart ask id root added ranges o new =
    let home = (reached_open id added root (is_global ask.flags) s.namespaces).1 o new in
    (home.0, record { there = home.1; inside = home.2 })

-- what is kept of its image
pub part_at : (s : State) (hart : ℕ) (ask : OpenAsk) (id root : ℕ) (added : List Loaded) (ranges : List Range) (k : ℕ) (o : Loaded) → slice_get added k ≡ Some o
    → slice_get (parts_made s hart ask id root added ranges) k ≡ Some (part_of (image_made s hart ask id root added ranges o))
part_at s hart ask id root added ranges k o at =
    map_at part_of (map (image_made s hart ask id root added ranges) added) k (image_made s hart ask id root added ranges o) (map_at (image_made s hart ask id root added ranges) added k o at)

-- a static block with its object
pub record IsNew (s : State) (hart : ℕ) (ask : OpenAsk) (id root : ℕ) (added : List Loaded) (ranges : List Range) (k x : ℕ) (bytes : List ℕ) : Type 0 where
  pub object : Loaded
  pub there : slice_get added k ≡ Some object
  pub seg : TlsSeg
  pub has : HasStatic (open_done s hart ask id root added ranges) object x seg
  pub short : length bytes ≤ seg.memsz

abbrev pub KeptCounts : Type 0
KeptCounts = (i : Linked) (seg : TlsSeg) → i.object.tls ≡ Some seg → length (storage_of i) ≡ seg.filesz

pub new_block : (s : State) (hart : ℕ) (ask : OpenAsk) (id root : ℕ) (added : List Loaded) (ranges : List Range) → ModulesAreTidy (open_done s hart ask id root added ranges) → KeptCounts
    → ((o : Loaded) → Contains added o → CanBePlaced o) → (k x : ℕ) (bytes : List ℕ) → IsBlock added (parts_made s hart ask id root added ranges) k x bytes
    → IsNew s hart ask id root added ranges k x bytes
new_block s hart ask id root added ranges tidy counts placed k x bytes b = by b.object.«module» refl b.object.object.tls refl
  where
    new : Contains added b.object
    new = at_in added k b.object b.there

    home : (ns : Namespace) × IsIn (open_done s hart ask id root added ranges) ns b.object
    home = new_in s hart ask id root added ranges b.object new

    kept : bytes ≡ storage_of (image_made s hart ask id root added ranges b.object)
    kept =
        let same : Some b.part ≡ Some (part_of (image_made s hart ask id root added ranges b.object)) = sym b.kept ∙ part_at s hart ask id root added ranges k b.object b.there in
        let part : b.part ≡ part_of (image_made s hart ask id root added ranges b.object) = cc in
        b.are ∙ ap (λ (p : Part). p.storage) part

    by : (place : Option TlsPlace) → b.object.«module» ≡ place → (tls : Option TlsSeg) → b.object.object.tls ≡ tls → IsNew s hart ask id root added ranges k x bytes
    by None e tls f =
        let d : None ≡ Some x = sym (ap (λ (m : Option TlsPlace). option_and_then (λ (p : TlsPlace). p.offset) m) e) ∙ b.stands in absurd cc
    by (Some place) e None f = absurd (true≢false (sym (ap is_some e) ∙ tidy.some home.0 b.object home.1 ∙ ap is_some f))
    by (Some place) e (Some seg) f =
        let long : length (storage_of (image_made s hart ask id root added ranges b.object)) ≡ seg.filesz = counts (image_made s hart ask id root added ranges b.object) seg f in
        let small : seg.filesz ≤ seg.memsz = ((placed b.object new).accepted.storage seg f).bytes in
        record {
          object = b.object;
          there = b.there;
          seg = seg;
          has = record {
            namespace = home.0;
            inside = home.1;
            place = place;
            of = e;
            at = sym (ap (λ (m : Option TlsPlace). option_and_then (λ (p : TlsPlace). p.offset) m) e) ∙ b.stands;
            storage = f;
          };
          short = omega (arith, ap length kept, long, small);
        }

-- they fit into an area, each apart from the others
pub blocks_fit : (s : State) (hart : ℕ) (ask : OpenAsk) (id root : ℕ) (added : List Loaded) (ranges : List Range) → ModulesAreTidy (open_done s hart ask id root added ranges) → KeptCounts
    → ((o : Loaded) → Contains added o → CanBePlaced o) → StaticsAreApart (open_done s hart ask id root added ranges) → map serial_of added ≡ range_with_len s.next (length added)
    → FitBlocks (statics_then s added).tp ((statics_then s added).tp + (statics_then s added).size) added (parts_made s hart ask id root added ranges)
unfolding loaded
blocks_fit s hart ask id root added ranges tidy counts placed statics row = record { within = within; apart = apart }
  where
    its : (k x : ℕ) (bytes : List ℕ) → IsBlock added (parts_made s hart ask id root added ranges) k x bytes → IsNew s hart ask id root added ranges k x bytes
    its k x bytes b = new_block s hart ask id root added ranges tidy counts placed k x bytes b

    within : (k x : ℕ) (bytes : List ℕ) → IsBlock added (parts_made s hart ask id root added ranges) k x bytes
        → (statics_then s added).tp + x + length bytes ≤ (statics_then s added).tp + (statics_then s added).size
    within k x bytes b =
        let of = its k x bytes b in
        let ends : x + of.seg.memsz ≤ (statics_then s added).size = statics.within of.object x of.seg of.has in
        omega (arith, ends, of.short)

    apart : (k l x y : ℕ) (bytes more : List ℕ) → IsBlock added (parts_made s hart ask id root added ranges) k x bytes → IsBlock added (parts_made s hart ask id root added ranges) l y more
        → k ≢ l → (x + length bytes ≤ y) ⊎ (y + length more ≤ x)
    apart k l x y bytes more b c differ =
        let one = its k x bytes b in
        let two = its l y more c in
        ⊎_elim
        (λ (e : x + one.seg.memsz ≤ y). inl (omega (arith, e, one.short)))
        (λ (e : y + two.seg.memsz ≤ x). inr (omega (arith, e, two.short)))
        (statics.apart one.object two.object x y one.seg two.seg one.has two.has (serials_differ added s.next row k l one.object two.object one.there two.there differ))
