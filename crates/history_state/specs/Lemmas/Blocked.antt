-- Blocks that harts got at a first use have pages of their own, and stand in them whole.
use Rattle.std.proofs.Common.{◌≡◌, ⊎_elim, ℕ, ◌+◌, ◌*◌, ◌<◌, ◌≤◌, true, not, List, [], ◌∷◌, ◌++◌, Option, Some, refl, sym, ap, subst, ◌∙◌, arith}
use Rattle.std.specs.Prelude.{◌==◌, ◌/◌, max}
use Rattle.std.specs.List.{Contains}
use Rattle.std.specs.Option.{option_and_then, option_map_or}
use Rattle.std.proofs.lemmas.Bool.{eqb-true}
use Rattle.std.proofs.lemmas.List.Elements.{Contains-append_cases, Contains-append_left, Contains-append_right}
use Rattle.ld_base.specs.declared.linking.Loaded.{Loaded}
use Rattle.ld_base.specs.declared.object.Object.{Object}
use Rattle.ld_base.specs.declared.object.TlsSeg.{TlsSeg}
use Rattle.history_event.specs.declared.event.CloseAnswer.TheVariants as closes
use Rattle.history_event.specs.declared.event.Event.{Event}
use Rattle.history_event.specs.declared.event.Event.TheVariants as events
use Rattle.history_event.specs.declared.event.OpenAnswer.TheVariants as opens
use Rattle.history_event.specs.declared.event.Range.{Range}
use Rattle.history_event.specs.declared.event.SymAnswer.TheVariants as syms
use Rattle.history_event.specs.declared.state.Block.{Block}
use Rattle.scope_rule.specs.declared.namespace.Namespace.{Namespace}
use Rattle.history_state.specs.State.{Linked, State}
use Rattle.history_state.specs.After.{after}
use Rattle.history_state.specs.Allowed.{AllowedIn}
use Rattle.history_state.specs.Laws.{BlocksArePlaced, IsBlockPlaced}
use Rattle.history_state.specs.Legal.{Lawful}
use Rattle.history_state.specs.Lookup.{MayHaveBlock}
use Rattle.history_state.specs.Memory.{covers}
use Rattle.history_state.specs.Objects.{has, mapped, object_at}
use Rattle.history_state.specs.Setting.{Machine, Setting}
use Rattle.history_state.specs.Step.{block_range, block_ranges, die, goes_with, initialise, loaded, lower, step, unmap}
use Rattle.history_state.specs.Storage.{block_pages, residue}
use Rattle.history_state.specs.Lemmas.History.{by_lawful}
use Rattle.history_state.specs.Lemmas.Imaged.{images_mapped}
use Rattle.history_state.specs.Lemmas.Lists.{found_in, from_filter, from_flat, here, in_filter, none_in, only_in}
use Rattle.history_state.specs.Lemmas.Map.{covered}

-- images and ranges are more, or the same
kept : (s : State) (b : Block) (images : List Linked) (ranges : List Range) (t : State) → t.images ≡ s.images ++ images → t.ranges ≡ s.ranges ++ ranges → IsBlockPlaced s b → IsBlockPlaced t b
kept s b images ranges t is are p = record {
  seg = p.seg;
  image = p.image;
  there = subst (λ (xs : List Linked). Contains xs p.image) (sym is) (Contains-append_left s.images images p.image p.there);
  serial = p.serial;
  storage = p.storage;
  range = subst (λ (xs : List Range). Contains xs (block_range b.hart b.serial b.address p.seg)) (sym are) (Contains-append_left s.ranges ranges (block_range b.hart b.serial b.address p.seg) p.range);
  stands = p.stands;
  covered = p.covered;
}

-- nothing but other fields changes
same : (s t : State) → t.blocks ≡ s.blocks → t.images ≡ s.images → t.ranges ≡ s.ranges → BlocksArePlaced s → BlocksArePlaced t
same s t blocks is are placed b there =
    let p = placed b (subst (λ (xs : List Block). Contains xs b) blocks there) in
    record {
      seg = p.seg;
      image = p.image;
      there = subst (λ (xs : List Linked). Contains xs p.image) (sym is) p.there;
      serial = p.serial;
      storage = p.storage;
      range = subst (λ (xs : List Range). Contains xs (block_range b.hart b.serial b.address p.seg)) (sym are) p.range;
      stands = p.stands;
      covered = p.covered;
    }

whole : (hart serial at a : ℕ) (seg : TlsSeg) → residue seg ≤ at → at ≤ a → a < at + seg.memsz → covers a (block_range hart serial at seg) ≡ true
whole hart serial at a seg stands from to =
    let n : ℕ = residue seg in
    let most : n + seg.memsz ≤ 4096 * block_pages seg = pages (n + seg.memsz) in
    covered a (block_range hart serial at seg) (omega (arith, from, stands)) (omega (arith, from, to, stands, most))
  where
    pages : (bytes : ℕ) → bytes ≤ 4096 * max 1 ((bytes + 4095) / 4096)
    pages bytes = omega arith

unmap_placed : (s : State) (hart : ℕ) (set : List ℕ) → BlocksArePlaced s → BlocksArePlaced (unmap hart set s)
unfolding unmap
unmap_placed s hart set placed b there =
    let stays = from_filter (λ (q : Block). not (has set q.serial)) s.blocks b there in
    let p = placed b stays.0 in
    record {
      seg = p.seg;
      image = p.image;
      there = in_filter (λ (m : Linked). not (has set m.serial)) s.images p.image p.there (ap (λ (n : ℕ). not (has set n)) p.serial ∙ stays.1);
      serial = p.serial;
      storage = p.storage;
      range = in_filter (λ (q : Range). not (goes_with set q)) s.ranges (block_range b.hart b.serial b.address p.seg) p.range stays.1;
      stands = p.stands;
      covered = p.covered;
    }

new_placed : (m : Machine) (past : List Event) → Lawful m past → (hart serial address : ℕ) → MayHaveBlock (after past) hart serial address
    → (t : State) → t.images ≡ (after past).images → t.ranges ≡ (after past).ranges ++ block_ranges (after past) hart serial address → IsBlockPlaced t (record { hart = hart; serial = serial; address = address })
new_placed m past lawful hart serial address may t is are =
    let found = found_in (λ (o : Loaded). o.serial == serial) (mapped (after past)) may.wants.object may.wants.mapped in
    let home = from_flat (λ (ns : Namespace). ns.objects) (after past).namespaces may.wants.object found.0 in
    let i = (images_mapped m past lawful).mapped home.0 may.wants.object (record { there = home.1; inside = home.2 }) in
    let segment : option_and_then (λ (o : Loaded). o.object.tls) (object_at (after past) serial) ≡ Some may.seg =
    ap (option_and_then (λ (o : Loaded). o.object.tls)) may.wants.mapped ∙ may.wants.storage in
    let one : block_ranges (after past) hart serial address ≡ block_range hart serial address may.seg ∷ [] =
    ap (λ (seg : Option TlsSeg). option_map_or (λ seg. block_range hart serial address seg ∷ []) seg []) segment in
    let at : address ≡ may.pages + residue may.seg = may.is in
    let stands : residue may.seg ≤ address = behind may.pages (residue may.seg) at in
    record {
      seg = may.seg;
      image = i.image;
      there = subst (λ (xs : List Linked). Contains xs i.image) (sym is) i.there;
      serial = i.serial ∙ eqb-true may.wants.object.serial serial found.1;
      storage = ap (λ (o : Object). o.tls) i.object ∙ may.wants.storage;
      range = subst (λ (xs : List Range). Contains xs (block_range hart serial address may.seg)) (sym are)
          (Contains-append_right (after past).ranges (block_ranges (after past) hart serial address) (block_range hart serial address may.seg)
          (subst (λ (xs : List Range). Contains xs (block_range hart serial address may.seg)) (sym one) (here (block_range hart serial address may.seg) [])));
      stands = stands;
      covered = λ a from to. whole hart serial address a may.seg stands from to;
    }
  where
    behind : (pages n : ℕ) → address ≡ pages + n → n ≤ address
    behind pages n e = omega (arith, e)

placed_step : (m : Machine) (w : Setting) (past : List Event) (e : Event) → Lawful m past → AllowedIn w past (after past) e → BlocksArePlaced (after past) → BlocksArePlaced (step (after past) e)
unfolding die lower initialise loaded
placed_step m w past (events.Open hart ask (opens.Done id root added ranges)) lawful may placed = λ b there. kept (after past) b _ ranges (step (after past) (events.Open hart ask (opens.Done id root added ranges))) refl refl (placed b there)
placed_step m w past (events.Open hart ask opens.Absent) lawful may placed = placed
placed_step m w past (events.Open hart ask (opens.Refused fault)) lawful may placed = same (after past) (step (after past) (events.Open hart ask (opens.Refused fault))) refl refl refl placed
placed_step m w past (events.Close hart handle (closes.Done set)) lawful may placed = same (after past) (step (after past) (events.Close hart handle (closes.Done set))) refl refl refl placed
placed_step m w past (events.Close hart handle (closes.Refused fault)) lawful may placed = same (after past) (step (after past) (events.Close hart handle (closes.Refused fault))) refl refl refl placed
placed_step m w past (events.Unmapped hart set) lawful may placed = unmap_placed (after past) hart set placed
placed_step m w past (events.Grant number hart owner slot choice value) lawful may placed = same (after past) (step (after past) (events.Grant number hart owner slot choice value)) refl refl refl placed
placed_step m w past (events.Bound number) lawful may placed = same (after past) (step (after past) (events.Bound number)) refl refl refl placed
placed_step m w past (events.Lost number saw) lawful may placed = same (after past) (step (after past) (events.Lost number saw)) refl refl refl placed
placed_step m w past (events.Unresolved hart owner slot choice) lawful may placed = placed
placed_step m w past (events.Sym hart ask (syms.Found serial index value)) lawful may placed = placed
placed_step m w past (events.Sym hart ask (syms.Refused fault)) lawful may placed = same (after past) (step (after past) (events.Sym hart ask (syms.Refused fault))) refl refl refl placed
placed_step m w past (events.Tls hart owner address) lawful may placed = λ b there.
    let new : Block = record { hart = hart; serial = owner; address = address } in
    ⊎_elim
    (λ (old : Contains (after past).blocks b). grown b (placed b old))
    (λ (e : Contains (new ∷ []) b). subst (IsBlockPlaced (step (after past) (events.Tls hart owner address))) (only_in new b e) (new_placed m past lawful hart owner address may (step (after past) (events.Tls hart owner address)) refl refl))
    (Contains-append_cases (after past).blocks (new ∷ []) b there)
  where
    grown : (b : Block) → IsBlockPlaced (after past) b → IsBlockPlaced (step (after past) (events.Tls hart owner address)) b
    grown b p = record {
      seg = p.seg;
      image = p.image;
      there = p.there;
      serial = p.serial;
      storage = p.storage;
      range = Contains-append_left (after past).ranges (block_ranges (after past) hart owner address) (block_range b.hart b.serial b.address p.seg) p.range;
      stands = p.stands;
      covered = p.covered;
    }
placed_step m w past (events.Init hart object) lawful may placed = same (after past) (step (after past) (events.Init hart object)) refl refl refl placed
placed_step m w past (events.Fini hart object) lawful may placed = same (after past) (step (after past) (events.Fini hart object)) refl refl refl placed
placed_step m w past (events.Wrote hart bytes) lawful may placed = placed
placed_step m w past (events.Told hart fault) lawful may placed = same (after past) (step (after past) (events.Told hart fault)) refl refl refl placed
placed_step m w past (events.Ended hart reason) lawful may placed = same (after past) (step (after past) (events.Ended hart reason)) refl refl refl placed

pub blocks_placed : (m : Machine) (journal : List Event) → Lawful m journal → BlocksArePlaced (after journal)
blocks_placed m journal lawful = by_lawful m BlocksArePlaced (λ b there. absurd (none_in b there)) (λ w past e is past_lawful placed may. placed_step m w past e past_lawful may placed) journal lawful
