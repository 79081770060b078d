-- The lists with what an opening brings.
use Rattle.std.proofs.Common.{◌≡◌, ⊎_elim, ℕ, ◌+◌, ◌-◌, ◌^◌, ◌≤◌, Bool, false, eqb, List, [], ◌∷◌, ◌++◌, length, map, refl, sym, ap, subst, ◌∙◌, arith}
use Rattle.std.specs.Prelude.{if◌then◌else◌}
use Rattle.std.specs.List.{Contains, filter, flat_map}
use Rattle.std.proofs.lemmas.Bool.{ne_eqb}
use Rattle.std.proofs.lemmas.List.{map-append}
use Rattle.std.proofs.lemmas.List.Elements.{Contains-append_left, Contains-append_right, Contains-append_cases}
use Rattle.link_lists.specs.HeldEdgesPart.Roomy.{EdgesWithRoom}
use Rattle.link_images.specs.Parts.{PartsWithRoom, part_of}
use Rattle.link_images.specs.declared.parts.Part.{Part}
use Rattle.ld_base.specs.declared.linking.Loaded.{Loaded}
use Rattle.history_event.specs.declared.event.Event.TheVariants.{Open}
use Rattle.history_event.specs.declared.event.OpenAnswer.TheVariants.{Done}
use Rattle.history_event.specs.declared.event.OpenAsk.{OpenAsk}
use Rattle.history_event.specs.declared.event.Range.{Range}
use Rattle.history_event.specs.declared.state.Closing.{Closing}
use Rattle.history_event.specs.declared.state.Loading.{Loading}
use Rattle.history_graph.specs.declared.graph.Edge.{Edge}
use Rattle.history_state.specs.Flags.{is_global, is_now}
use Rattle.history_state.specs.Held.{EdgesFollow, gained}
use Rattle.history_state.specs.Links.{held_edges}
use Rattle.history_state.specs.Objects.{first_serials, is_none_loaded, is_startup, serial_of}
use Rattle.history_state.specs.State.{Linked, State, Statics}
use Rattle.history_state.specs.Step.{has_module, loaded, loading_of, open_done, pinned_by, with_namespace}
use Rattle.history_state.specs.Storage.{with_modules}
use Rattle.history_state.specs.Lemmas.Lists.{in_map}
use Rattle.link_lists.specs.LinkPending.Pending.{SerialsWithRoom}
use Rattle.link_lists.specs.LoadRecordPart.Loads.{LoadTable, Notes, is_first}
use Rattle.link_open_laws.specs.OpeningFollows.Laws.{TakesAsMuch}
use Rattle.link_open_laws.specs.OpeningFollows.Lemmas.Found.{images_after}
use Rattle.link_open_laws.specs.Laws.{image_made}
use Rattle.link_open_images.specs.OpeningSteps.Steps.{statics_after, statics_of}
use Rattle.link_spaces.specs.PendingClosingsPart.Pending.{closing_of}
use Rattle.link_spaces.specs.ReservedPagesPart.Laid.{RangeList}
use Rattle.scope_rule.specs.Opening.{opened}
use Rattle.scope_rule.specs.declared.namespace.Namespace.{Namespace}
use Rattle.tls_blocks.specs.Numbers.{ModuleTable}
use Rattle.close_mark.specs.ClosingPlans.Plans.{IsRoomy}
use Rattle.link_holds.specs.Holding.{HoldsAll, Lists}

-- ---- what is noted of openings

startup_after : (loadings : List Loading) (hart : ℕ) (added : List Loaded) (old new : LoadTable) → is_first old ≡ is_none_loaded loadings → old.startup ≡ first_serials loadings
    → new.startup ≡ (if is_first old then map serial_of added else old.startup) → new.startup ≡ first_serials (loadings ++ loading_of hart added)
startup_after [] hart added old new first was is = is ∙ ap (λ (b : Bool). if b then map serial_of added else old.startup) first ∙ by added
  where
    by : (os : List Loaded) → map serial_of os ≡ first_serials (loading_of hart os)
    by [] = refl
    by (o ∷ os) = refl
startup_after (l ∷ rest) hart added old new first was is = is ∙ ap (λ (b : Bool). if b then map serial_of added else old.startup) first ∙ was

first_after : (loadings : List Loading) (hart : ℕ) (added : List Loaded) (old new : LoadTable) → is_first old ≡ is_none_loaded loadings
    → new.startup ≡ (if is_first old then map serial_of added else old.startup) → is_first new ≡ is_none_loaded (loadings ++ loading_of hart added)
first_after [] hart added old new first is =
    ap (λ (ds : List ℕ). eqb (length ds) 0) (is ∙ ap (λ (b : Bool). if b then map serial_of added else old.startup) first) ∙ by added
  where
    by : (os : List Loaded) → eqb (length (map serial_of os)) 0 ≡ is_none_loaded (loading_of hart os)
    by [] = refl
    by (o ∷ os) = ne_eqb (length (map serial_of (o ∷ os))) 0 (λ e. omega (arith, e))
first_after (l ∷ rest) hart added old new first is =
    ap (λ (ds : List ℕ). eqb (length ds) 0) (is ∙ ap (λ (b : Bool). if b then map serial_of added else old.startup) first) ∙ first

-- ---- all lists

pub all_opened : (s : State) (hart id root : ℕ) (ask : OpenAsk) (added : List Loaded) (ranges : List Range) (l : Lists) (unfinished : SerialsWithRoom) (namespaces : List Namespace)
    (reserved : RangeList) (modules : ModuleTable) (parts : PartsWithRoom) (edges : EdgesWithRoom) (loads : LoadTable) → HoldsAll s l → s.next + length added ≤ 2 ^ 63
    → EdgesFollow s (Open hart ask (Done id root added ranges)) → ((c : Closing) → Contains s.closings c → TakesAsMuch c.set s (open_done s hart ask id root added ranges))
    → unfinished.serials ≡ l.unfinished.serials → l.unfinished.room + length added ≤ unfinished.room
    → namespaces ≡ with_namespace id (λ ns. opened ns added root (is_global ask.flags)) l.namespaces → reserved.ranges ≡ l.reserved.ranges ++ ranges
    → modules.modules ≡ with_modules added s.modules → statics_of modules ≡ statics_after (is_startup s) added s.statics → modules.generation ≡ s.generation + length (filter has_module added)
    → parts.parts ≡ l.parts.parts ++ map part_of (map (image_made s hart ask id root added ranges) added)
    → edges.edges ≡ l.edges.edges ++ gained s (Open hart ask (Done id root added ranges)) → l.edges.room ≤ edges.room → Notes l.loads ask.flags root added loads
    → HoldsAll (open_done s hart ask id root added ranges)
    (record l { unfinished = unfinished; namespaces = namespaces; reserved = reserved; modules = modules; parts = parts; edges = edges; loads = loads })
unfolding loaded
all_opened s hart id root ask added ranges l unfinished namespaces reserved modules parts edges loads holds few follow take serials room spaces laid numbered statics changes read is more notes =
    let new : List Linked = map (image_made s hart ask id root added ranges) added in
    record {
      faults = holds.faults;
      running = record {
        opens = holds.running.opens;
        count = holds.running.count;
        serials = serials ∙ holds.running.serials;
        room = roomy s.next (length added) (length s.inits) l.unfinished.room unfinished.room holds.running.room room;
        spaces = spaces ∙ ap (with_namespace id (λ ns. opened ns added root (is_global ask.flags))) holds.running.spaces;
      };
      memory = record {
        ranges = laid ∙ ap (λ (rs : List Range). rs ++ ranges) holds.memory.ranges;
        modules = numbered;
        size = ap (λ (st : Statics). st.size) statics;
        tp = ap (λ (st : Statics). st.tp) statics;
        generation = changes;
        blocks = holds.memory.blocks;
        parts = read ∙ ap (λ (ps : List Part). ps ++ map part_of new) holds.memory.parts ∙ sym (map-append part_of s.images new)
            ∙ ap (map part_of) (sym (images_after s hart ask id root added ranges));
      };
      keeping = record {
        every = λ x inside. subst (λ (es : List Edge). Contains es x) (sym is) (⊎_elim
            (λ (gains : Contains (gained s (Open hart ask (Done id root added ranges))) x). Contains-append_right l.edges.edges (gained s (Open hart ask (Done id root added ranges))) x gains)
            (λ (kept : Contains (held_edges s) x × (false ≡ false)).
            Contains-append_left l.edges.edges (gained s (Open hart ask (Done id root added ranges))) x (holds.keeping.every x kept.0))
            (follow.from x inside));
        only = λ x inside. ⊎_elim
            (λ (front : Contains l.edges.edges x). follow.keeps x (holds.keeping.only x front) refl)
            (λ (last : Contains (gained s (Open hart ask (Done id root added ranges))) x). follow.gains x last)
            (Contains-append_cases l.edges.edges (gained s (Open hart ask (Done id root added ranges))) x (subst (λ (es : List Edge). Contains es x) is inside));
        room = omega (arith, more, holds.keeping.room);
        closings = holds.keeping.closings;
        roomy = λ p inside.
            let there : Contains s.closings (closing_of p) = subst (λ (cs : List Closing). Contains cs (closing_of p)) holds.keeping.closings (in_map closing_of l.closings.closings p inside) in
            let same : TakesAsMuch p.set s (open_done s hart ask id root added ranges) = take (closing_of p) there in
            let was : IsRoomy (map serial_of (flat_map (λ (ns : Namespace). ns.objects) s.namespaces)) s.ranges p = holds.keeping.roomy p inside in
            record { objects = omega (arith, same.objects, was.objects); ranges = omega (arith, same.ranges, was.ranges) };
      };
      opening = record {
        binds = notes.binds ∙ ap (λ (b : Bool). if b then is_now ask.flags else l.loads.binds) holds.opening.first ∙ ap (λ (b : Bool). if is_startup s then is_now ask.flags else b) holds.opening.binds;
        next = notes.next ∙ ap (λ (n : ℕ). n + length added) holds.opening.next;
        few = few;
        startup = startup_after s.loadings hart added l.loads loads holds.opening.first holds.opening.startup notes.startup;
        pinned = notes.pinned ∙ ap (λ (ds : List ℕ). ds ++ pinned_by ds ask.flags root) holds.opening.pinned;
        first = first_after s.loadings hart added l.loads loads holds.opening.first notes.startup;
      };
    }
  where
    roomy : (next n done old new : ℕ) → next - 1 - done ≤ old → old + n ≤ new → next + n - 1 - done ≤ new
    roomy next n done old new was more = omega (arith, was, more)

-- only the room changed
pub all_with_room : (s : State) (l : Lists) (unfinished : SerialsWithRoom) (reserved : RangeList) (parts : PartsWithRoom) (edges : EdgesWithRoom) (loads : LoadTable) → HoldsAll s l
    → unfinished.serials ≡ l.unfinished.serials → l.unfinished.room ≤ unfinished.room → reserved.ranges ≡ l.reserved.ranges → parts.parts ≡ l.parts.parts → edges.edges ≡ l.edges.edges
    → l.edges.room ≤ edges.room → loads.binds ≡ l.loads.binds → loads.next ≡ l.loads.next → loads.startup ≡ l.loads.startup → loads.pinned ≡ l.loads.pinned
    → HoldsAll s (record l { unfinished = unfinished; reserved = reserved; parts = parts; edges = edges; loads = loads })
all_with_room s l unfinished reserved parts edges loads holds serials room ranges read same more binds next startup pinned = record {
  faults = holds.faults;
  running = record {
    opens = holds.running.opens;
    count = holds.running.count;
    serials = serials ∙ holds.running.serials;
    room = omega (arith, room, holds.running.room);
    spaces = holds.running.spaces;
  };
  memory = record {
    ranges = ranges ∙ holds.memory.ranges;
    modules = holds.memory.modules;
    size = holds.memory.size;
    tp = holds.memory.tp;
    generation = holds.memory.generation;
    blocks = holds.memory.blocks;
    parts = read ∙ holds.memory.parts;
  };
  keeping = record {
    every = λ x inside. subst (λ (es : List Edge). Contains es x) (sym same) (holds.keeping.every x inside);
    only = λ x inside. holds.keeping.only x (subst (λ (es : List Edge). Contains es x) same inside);
    room = omega (arith, more, holds.keeping.room);
    closings = holds.keeping.closings;
    roomy = holds.keeping.roomy;
  };
  opening = record {
    binds = binds ∙ holds.opening.binds;
    next = next ∙ holds.opening.next;
    few = holds.opening.few;
    startup = startup ∙ holds.opening.startup;
    pinned = pinned ∙ holds.opening.pinned;
    first = ap (λ (ds : List ℕ). eqb (length ds) 0) startup ∙ holds.opening.first;
  };
}

-- ---- what was brought, over plain lists

-- notes over a record with more room
pub notes_over : (old more new : LoadTable) (flags root : ℕ) (some added : List Loaded) → more.binds ≡ old.binds → more.next ≡ old.next → more.startup ≡ old.startup → more.pinned ≡ old.pinned
    → some ≡ added → Notes more flags root some new → Notes old flags root added new
notes_over old more new flags root some added binds next startup pinned same notes = record {
  binds = notes.binds ∙ ap (λ (ds : List ℕ). if eqb (length ds) 0 then is_now flags else more.binds) startup ∙ ap (λ (b : Bool). if is_first old then is_now flags else b) binds;
  next = notes.next ∙ ap (λ (n : ℕ). n + length some) next ∙ ap (λ (os : List Loaded). old.next + length os) same;
  startup = notes.startup ∙ ap (λ (ds : List ℕ). if eqb (length ds) 0 then map serial_of some else more.startup) startup
      ∙ ap (λ (ds : List ℕ). if is_first old then map serial_of some else ds) startup ∙ ap (λ (os : List Loaded). if is_first old then map serial_of os else old.startup) same;
  pinned = notes.pinned ∙ ap (λ (ds : List ℕ). ds ++ pinned_by ds flags root) pinned;
}
