-- What each event of a worked history asks for, from what computes.
use Rattle.std.proofs.Common.{◌≡◌, inr, ⊎_elim, ℕ, ◌+◌, Bool, true, false, not, ◌&&◌, ◌||◌, eqb, leb, List, [], ◌∷◌, ◌++◌, map, length, Option, Some, None, refl, sym, ap, subst, ◌∙◌, arith}
use Rattle.std.specs.Prelude.{Result, Ok, Err, ◌%◌, if◌then◌else◌}
use Rattle.std.specs.List.{Contains, flat_map, list_all, list_any, slice_get}
use Rattle.std.specs.Option.{is_some}
use Rattle.std.specs.Str.{bytes_eq}
use Rattle.std.proofs.lemmas.Bool.{and_from, and_parts, eq-eqb, eqb-true, le-leb, leb-true, not-true, or_cases, true≢false}
use Rattle.std.proofs.lemmas.List.{append-nil, append_assoc}
use Rattle.ld_base.specs.declared.fault.DlFault.TheVariants as faults
use Rattle.ld_base.specs.declared.fault.NotAccepted.{NotAccepted}
use Rattle.ld_base.specs.declared.linking.Choice.{Choice}
use Rattle.ld_base.specs.declared.linking.Choice.TheVariants.{Def, WeakZero, Missing}
use Rattle.ld_base.specs.declared.linking.File.{File}
use Rattle.ld_base.specs.declared.linking.Loaded.{Loaded}
use Rattle.ld_base.specs.declared.object.Object.{Object}
use Rattle.ld_base.specs.declared.object.TlsSeg.{TlsSeg}
use Rattle.address_space.specs.Pages.{IsFirstFit, page_at}
use Rattle.ld_base.specs.declared.parts.HashTable.{HashTable}
use Rattle.library_source.specs.Files.{file_at}
use Rattle.history_event.specs.declared.event.Event.{Event}
use Rattle.history_event.specs.declared.event.OpenAsk.{OpenAsk}
use Rattle.history_event.specs.declared.event.Range.{Range}
use Rattle.history_event.specs.declared.event.SymAsk.{SymAsk}
use Rattle.history_event.specs.declared.state.Closing.{Closing}
use Rattle.history_event.specs.declared.state.Granting.{Granting}
use Rattle.history_event.specs.declared.state.Loading.{Loading}
use Rattle.history_event.specs.declared.state.Standing.{Standing}
use Rattle.history_event.specs.declared.state.Standing.TheVariants.{Open, Bound, Lost}
use Rattle.scope_rule.specs.declared.arrival.Arrival.{Arrival}
use Rattle.scope_rule.specs.declared.namespace.Namespace.{Namespace}
use Rattle.scope_rule.specs.declared.namespace.OpenRec.{OpenRec}
use Rattle.scope_rule.specs.Finding.{Reading, here, unaccepted, absent}
use Rattle.scope_rule.specs.Load.{Load, asks, records_of, walk as walk_of}
use Rattle.scope_rule.specs.Needed.{version_fault}
use Rattle.history_state.specs.State.{State, empty_state}
use Rattle.history_state.specs.After.{after, after_from}
use Rattle.history_state.specs.Allowed.{AllowedIn, AtTheEnd, ByClosing, Closes, IsBadHandle, IsFirst, MayGrant, MayInitialise, MayUnmap, closable}
use Rattle.history_state.specs.Addresses.{address, leads_to_code}
use Rattle.history_state.specs.Bound.{lazy_word}
use Rattle.history_graph.specs.Initialised.{InitNext, MayStart, program_last}
use Rattle.ld_base.specs.declared.object.Reloc.{Reloc}
use Rattle.scope_rule.specs.Relocation.{choice_at}
use Rattle.scope_rule.specs.Seen.{seen_in}
use Rattle.history_state.specs.Lemmas.Chains.{in_all, init_next, is_all, left_alone, left_of, may_not_start, may_start, starts_not, unneeded}
use Rattle.history_state.specs.Areas.{AreBased, AreGiven, free_pages}
use Rattle.history_state.specs.Flags.{is_deepbind, is_noload}
use Rattle.history_state.specs.Grants.{is_bound, is_bound_standing, is_of, is_open}
use Rattle.history_state.specs.Legal.{IsOnlyBound, Legal, Settled, Whole}
use Rattle.history_state.specs.Links.{IsUnneeded, edges, finis_of, found_edges, roots}
use Rattle.history_state.specs.Lookup.{FindsSymbol, MayHaveBlock, search}
use Rattle.history_state.specs.Objects.{IsMapped, has, is_startup, mapped, object_at, serial_of}
use Rattle.history_state.specs.Opening.{Loads, refused, there, unplaced, wanted}
use Rattle.history_state.specs.Setting.{Machine, MayHold, MayRead, ReadingsBy, Setting, have_exited, load_of}
use Rattle.history_state.specs.Slots.{HasBound, HasNoGrant, IsOpenGrant, IsSlot, MayBind, MayLose, value_at_load}
use Rattle.history_state.specs.Step.{lower, step}
use Rattle.history_state.specs.Storage.{HaveModules, block_align, block_pages, module_of, residue, tls_block}
use Rattle.history_state.specs.Lemmas.History.{after_push, legal_push}
use Rattle.history_state.specs.Lemmas.InRow.{AreInRow, StandInRow, fits_next, free_from, given_in_row}
use Rattle.history_state.specs.Lemmas.Lists.{at_in, first_or_later, here as first_in, in_any, in_flat, none_in, only_in}
use Rattle.history_state.specs.Lemmas.Standing.{is_open_of}

-- ---- one event after another

abbrev pub AreAllowed : Setting → List Event → State → List Event → Type 0
AreAllowed w past s [] = Unit {0}
AreAllowed w past s (e ∷ rest) = AllowedIn w past s e × AreAllowed w (past ++ e ∷ []) (step s e) rest

legal_on : (w : Setting) (past rest : List Event) → Legal w past → AreAllowed w past (after past) rest → Legal w (past ++ rest)
legal_on w past [] legal all = subst (Legal w) (sym (append-nil past)) legal
legal_on w past (e ∷ rest) legal all =
    subst (Legal w) (append_assoc past (e ∷ []) rest)
    (legal_on w (past ++ e ∷ []) rest (legal_push w past e legal all.0)
    (subst (λ (s : State). AreAllowed w (past ++ e ∷ []) s rest) (sym (after_push past e)) all.1))

none_legal : (w : Setting) → Legal w []
unfolding Legal
none_legal w k e at = absurd (let d : None ≡ Some e = at in cc)

pub legal_by : (w : Setting) (events : List Event) → AreAllowed w [] empty_state events → Legal w events
unfolding after_from
legal_by w events all = legal_on w [] events (none_legal w) all

-- ---- openings over files that are told

abbrev pub reading_by : Result (Object × HashTable) NotAccepted → Reading
reading_by (Ok x) = here x.0 x.1
reading_by (Err broken) = unaccepted broken

abbrev pub told : Machine → Bool → Option (List ℕ) → Reading
told m program None = absent
told m program (Some bytes) = reading_by (m.verdict bytes program)

abbrev pub readings : Setting → List File → State → List ℕ → List ℕ → Reading
readings w files s name path = told w.machine (is_startup s && bytes_eq name path) (file_at files path)

pub may_read : (w : Setting) (files : List File) (program : Bool) (path : List ℕ) (found : Option (List ℕ)) → w.files ≡ Some files → file_at files path ≡ found
    → MayRead w program path (told w.machine program found)
may_read w files program path None are is = subst (λ all. MayHold all path None) (sym are) is
may_read w files program path (Some bytes) are is = at (w.machine.verdict bytes program) refl
  where
    hold : MayHold w.files path (Some bytes)
    hold = subst (λ all. MayHold all path (Some bytes)) (sym are) is

    at : (r : Result (Object × HashTable) NotAccepted) → w.machine.verdict bytes program ≡ r → MayRead w program path (reading_by r)
    at (Ok x) e = (bytes, hold, e)
    at (Err broken) e = (bytes, hold, e)

abbrev pub arrivals : List Loaded → List Arrival
arrivals added = map (λ (o : Loaded). record { path = o.path; object = o.object; table = o.table }) added

abbrev pub load_told : Setting → List File → State → ℕ → ℕ → List ℕ → Load
load_told w files s hart id name = load_of w s hart id name (readings w files s name)

-- an opening: the names lead to these serials, and the pages stand from the one of a number on
pub record Comes (w : Setting) (files : List File) (s : State) (hart : ℕ) (ask : OpenAsk) (name : List ℕ) (id root : ℕ) (added : List Loaded) (ranges : List Range) (leads : List ℕ) (first : ℕ)
    : Type 0 where
  pub told : w.files ≡ Some files
  pub reads : is_noload ask.flags ≡ false
  pub walked : walk_of (load_told w files s hart id name) (length leads) ≡ Ok (record { found = leads; arrivals = arrivals added })
  pub all : leb (length (asks (load_told w files s hart id name) (arrivals added))) (length leads) ≡ true
  pub root_is : slice_get leads 0 ≡ Some root
  pub are : map unplaced added ≡ records_of (load_told w files s hart id name) (is_deepbind ask.flags) (record { found = leads; arrivals = arrivals added })
  pub versions : version_fault (there s id) (map unplaced added) ≡ None
  pub modules : HaveModules (is_startup s) s.modules s.statics added
  pub row : AreInRow 0 s.ranges first
  pub stand : StandInRow first (wanted w s added) ranges
  pub based : AreBased added ranges
  pub relocated : refused s hart ask id root added ranges ≡ None

pub loads : (w : Setting) (files : List File) (s : State) (hart : ℕ) (ask : OpenAsk) (name : List ℕ) (id root : ℕ) (added : List Loaded) (ranges : List Range) (leads : List ℕ) (first : ℕ)
    → Comes w files s hart ask name id root added ranges leads first → Loads w s hart ask name id root added ranges
loads w files s hart ask name id root added ranges leads first c = record {
  news = map unplaced added;
  finds = record {
    reading = readings w files s name;
    read = by (is_noload ask.flags) c.reads;
    walk = record { found = leads; arrivals = arrivals added };
    brings = record { steps = length leads; are = c.walked; all = leb-true _ _ c.all };
    root_is = c.root_is;
    are = c.are;
  };
  versions = c.versions;
  storage = record { same = refl; modules = c.modules };
  placed = record { left = given.0; given = given.1; based = c.based };
  relocated = c.relocated;
}
  where
    given : (left : List ℕ) × AreGiven (free_pages s.ranges) (wanted w s added) ranges left
    given = given_in_row (free_pages s.ranges) first (wanted w s added) ranges (free_from s.ranges first c.row) c.stand

    by : (b : Bool) → b ≡ false → ReadingsBy b w s name (readings w files s name)
    by true e = absurd (true≢false e)
    by false e = λ path. may_read w files (is_startup s && bytes_eq name path) path (file_at files path) c.told refl

-- ---- grants

pub no_grant : (s : State) (hart : ℕ) → list_any (λ g. is_open g && eqb g.hart hart) s.grants ≡ false → HasNoGrant s hart
no_grant s hart none g there open_yet same =
    true≢false (sym (in_any (λ (x : Granting). is_open x && eqb x.hart hart) s.grants g there (and_from (is_open g) (eqb g.hart hart) (is_open_of g.standing open_yet) (eq-eqb g.hart hart same))) ∙ none)

bound_standing : (standing : Standing) → standing ≡ Bound → is_bound_standing standing ≡ true
bound_standing standing e = subst (λ (x : Standing). is_bound_standing x ≡ true) (sym e) refl

pub none_bound : (s : State) (owner slot : ℕ) → list_any (λ g. is_of owner slot g && is_bound g) s.grants ≡ false → HasBound s owner slot → ⊥
none_bound s owner slot none has =
    true≢false (sym (in_any (λ (x : Granting). is_of owner slot x && is_bound x) s.grants has.grant has.there
    (and_from (is_of owner slot has.grant) (is_bound has.grant) has.of (bound_standing has.grant.standing has.bound))) ∙ none)

-- a hart without an open grant is granted what its slot chooses
pub may_grant : {ns : Namespace} {o : Loaded} {r : Reloc} {choice : Choice} {value : ℕ} (s : State) (number hart owner slot n k : ℕ)
    → number ≡ length s.grants + 1 → list_any (λ g. is_open g && eqb g.hart hart) s.grants ≡ false
    → slice_get s.namespaces n ≡ Some ns → slice_get ns.objects k ≡ Some o → o.serial ≡ owner → slice_get o.object.plt_relocs slot ≡ Some r
    → choice ≡ choice_at (seen_in ns) o r → leads_to_code s (lazy_word o r) choice ≡ true → value ≡ address s choice
    → MayGrant s number hart owner slot choice value
may_grant {ns} {o} {r} s number hart owner slot n k numbered free there inside is at chooses code value_is = record {
  numbered = numbered;
  free = no_grant s hart free;
  may = record {
    is_slot = record {
      namespace = ns;
      object = o;
      there = at_in s.namespaces n ns there;
      inside = at_in ns.objects k o inside;
      is = is;
      reloc = r;
      at = at;
      chooses = chooses;
    };
    code = code;
  };
  is = value_is;
}

open_grant : {g : Granting} (s : State) (number k : ℕ) → slice_get s.grants k ≡ Some g → g.number ≡ number → g.standing ≡ Open → IsOpenGrant s number g
open_grant {g} s number k at is open_yet = record { there = at_in s.grants k g at; numbered = is; open_yet = open_yet }

pub may_bind : {g : Granting} (s : State) (number k : ℕ) → slice_get s.grants k ≡ Some g → g.number ≡ number → g.standing ≡ Open
    → value_at_load s g.owner g.slot ≡ None → list_any (λ x. is_of g.owner g.slot x && is_bound x) s.grants ≡ false → MayBind s number
may_bind {g} s number k at is open_yet lazy none = record {
  grant = g;
  is = open_grant s number k at is open_yet;
  lazy = lazy;
  first = none_bound s g.owner g.slot none;
}

-- an open grant is lost to another of its slot
pub may_lose : {g other : Granting} (s : State) (number saw k j : ℕ) → slice_get s.grants k ≡ Some g → g.number ≡ number → g.standing ≡ Open
    → slice_get s.grants j ≡ Some other → is_of g.owner g.slot other ≡ true → eqb other.number g.number ≡ false → other.standing ≡ Open → saw ≡ other.value
    → MayLose s number saw
may_lose {g} {other} s number saw k j at is open_yet there of differs open_too value = record {
  grant = g;
  is = open_grant s number k at is open_yet;
  found = inr (record {
    other = other;
    there = at_in s.grants j other there;
    of = of;
    differs = λ e. true≢false (sym (eq-eqb other.number g.number e) ∙ differs);
    kept = λ word e. let d : Open ≡ Lost word = sym open_too ∙ e in cc;
    value = value;
  });
}

-- ---- constructors

pub may_initialise : {loading : Loading} (s : State) (hart object k : ℕ) (before rest : List ℕ) → slice_get s.loadings k ≡ Some loading → loading.hart ≡ hart
    → program_last (Some 1) loading.serials ≡ before ++ object ∷ rest
    → may_start (flat_map found_edges (mapped s)) (before ++ object ∷ rest) s.inits object ≡ true
    → list_all (may_not_start (flat_map found_edges (mapped s)) (before ++ object ∷ rest) s.inits) before ≡ true
    → MayInitialise s hart object
may_initialise {loading} s hart object k before rest at by are may others = record {
  loading = loading;
  there = at_in s.loadings k loading at;
  by = by;
  next = subst (λ (news : List ℕ). InitNext (flat_map found_edges (mapped s)) news s.inits object) (sym are)
      (init_next (flat_map found_edges (mapped s)) s.inits before object rest may others);
}

-- ---- objects

pub mapped_at : (s : State) (ns : Namespace) (o : Loaded) (n k : ℕ) → slice_get s.namespaces n ≡ Some ns → slice_get ns.objects k ≡ Some o → IsMapped s o.serial
mapped_at s ns o n k there inside = record { namespace = ns; object = o; there = at_in s.namespaces n ns there; inside = at_in ns.objects k o inside; is = refl }

-- the final destructors
pub at_the_end : (w : Setting) (past : List Event) (s : State) (object : ℕ) → after past ≡ s → have_exited w s ≡ true
    → IsFirst (finis_of s (map serial_of (mapped s))) object → IsMapped s object → has s.inits object ≡ true → has s.finis object ≡ false
    → AtTheEnd w past s 0 object
at_the_end w past s object is over next stands initialised unfinished = record {
  first_hart = refl;
  mapped = stands;
  initialised = initialised;
  unfinished = unfinished;
  was = record {
    before = past;
    since = [];
    are = sym (append-nil past);
    over = subst (λ (x : State). have_exited w x ≡ true) (sym is) over;
    next = subst (λ (x : State). IsFirst (finis_of x (map serial_of (mapped x))) object) (sym is) next;
  };
}

-- ---- wrong grants

-- what a slot chooses, where an object has it
abbrev slot_chosen : Namespace → Loaded → Option Reloc → List Choice
slot_chosen ns o None = []
slot_chosen ns o (Some r) = choice_at (seen_in ns) o r ∷ []

abbrev chosen_by : ℕ → ℕ → Namespace → Loaded → List Choice
chosen_by owner slot ns o = if eqb o.serial owner then slot_chosen ns o (slice_get o.object.plt_relocs slot) else []

abbrev pub slot_choices : State → ℕ → ℕ → List Choice
slot_choices s owner slot = flat_map (λ ns. flat_map (chosen_by owner slot ns) ns.objects) s.namespaces

slot_chooses : {s : State} {owner slot : ℕ} {choice : Choice} → IsSlot s owner slot choice → Contains (slot_choices s owner slot) choice
slot_chooses {s} {owner} {slot} {choice} is =
    in_flat (λ (ns : Namespace). flat_map (chosen_by owner slot ns) ns.objects) s.namespaces is.namespace choice is.there
    (in_flat (chosen_by owner slot is.namespace) is.namespace.objects is.object choice is.inside
    (by (eqb is.object.serial owner) (eq-eqb is.object.serial owner is.is)))
  where
    chosen : Contains (slot_chosen is.namespace is.object (slice_get is.object.object.plt_relocs slot)) choice
    chosen = subst (λ found. Contains (slot_chosen is.namespace is.object found) choice) (sym is.at)
        (subst (λ x. Contains (x ∷ []) choice) is.chooses (first_in choice []))

    by : (b : Bool) → b ≡ true → Contains (if b then slot_chosen is.namespace is.object (slice_get is.object.object.plt_relocs slot) else []) choice
    by true e = chosen
    by false e = absurd (true≢false (sym e))

abbrev chosen_serial : Choice → ℕ
chosen_serial (Def serial index) = serial
chosen_serial WeakZero = 0
chosen_serial Missing = 0

-- a slot that chooses one object may not be granted another's definition
pub another_is_chosen : {s : State} {number hart owner slot serial index value : ℕ} (other at : ℕ) → slot_choices s owner slot ≡ Def other at ∷ []
    → eqb other serial ≡ false → MayGrant s number hart owner slot (Def serial index) value → ⊥
another_is_chosen {s} {number} {hart} {owner} {slot} {serial} {index} other at are differs may =
    let same : Def other at ≡ Def serial index = only_in (Def other at) (Def serial index)
    (subst (λ choices. Contains choices (Def serial index)) are (slot_chooses may.may.is_slot)) in
    let serials : other ≡ serial = ap chosen_serial same in
    true≢false (sym (eq-eqb other serial serials) ∙ differs)

-- ---- whole histories

abbrev SettledBy : State → Granting → Standing → Type 0
SettledBy s g Open = ⊥
SettledBy s g Bound = Unit {0}
SettledBy s g (Lost saw) = Settled s g saw

abbrev pub AreSettled : State → List Granting → Type 0
AreSettled s [] = Unit {0}
AreSettled s (g ∷ rest) = SettledBy s g g.standing × AreSettled s rest

each_settled : (s : State) (grants : List Granting) (g : Granting) → AreSettled s grants → Contains grants g → SettledBy s g g.standing
each_settled s [] g all h = absurd (none_in g h)
each_settled s (x ∷ rest) g all h = ⊎_elim
    (λ (same : x ≡ g). subst (λ y. SettledBy s y y.standing) same all.0)
    (λ (i : Contains rest g). each_settled s rest g all.1 i)
    (first_or_later x rest g h)

-- one grant of a slot is bound
pub only_bound : {g : Granting} (s : State) (owner slot value k : ℕ) → slice_get s.grants k ≡ Some g → is_of owner slot g ≡ true → g.standing ≡ Bound → g.value ≡ value
    → list_all (λ x. not (is_of owner slot x && is_bound x) || eqb x.number g.number) s.grants ≡ true → IsOnlyBound s owner slot value
only_bound {g} s owner slot value k at of bound holds all = record {
  grant = g;
  there = at_in s.grants k g at;
  of = of;
  bound = bound;
  holds = holds;
  only = λ other there is standing. ⊎_elim
      (λ (no : not (is_of owner slot other && is_bound other) ≡ true).
      absurd (true≢false (sym (and_from (is_of owner slot other) (is_bound other) is (bound_standing other.standing standing)) ∙ not-true _ no)))
      (λ (yes : eqb other.number g.number ≡ true). eqb-true other.number g.number yes)
      (or_cases (not (is_of owner slot other && is_bound other)) (eqb other.number g.number)
      (in_all (λ x. not (is_of owner slot x && is_bound x) || eqb x.number g.number) s.grants other all there));
}

pub whole_by : (w : Setting) (events : List Event) → AreSettled (after events) (after events).grants → finis_of (after events) (map serial_of (mapped (after events))) ≡ []
    → Whole w events
whole_by w events all done = record {
  settled = λ g there standing. subst (SettledBy (after events) g) standing (each_settled (after events) (after events).grants g all there);
  lost = λ g saw there standing stands. subst (SettledBy (after events) g) standing (each_settled (after events) (after events).grants g all there);
  finished = λ over. done;
}

-- ---- closings

pub some_in : (x : ℕ) (xs : List ℕ) → x ∷ xs ≡ [] → ⊥
some_in x xs e = let d : x ∷ xs ≡ [] = e in cc

-- an opening that may be closed; what its closing leaves without a chain from a root dies
pub may_close : {ns : Namespace} {opening : OpenRec} {dying : List ℕ} (s : State) (handle n k : ℕ) → slice_get s.namespaces n ≡ Some ns → slice_get ns.opens k ≡ Some opening
    → opening.root ≡ handle → leb 1 (closable opening) ≡ true → is_all (edges (lower handle s)) (roots (lower handle s)) ≡ true
    → dying ≡ left_of (edges (lower handle s)) (roots (lower handle s)) (map serial_of ns.objects) → Closes s handle dying
may_close {ns} {opening} s handle n k there inside of counts all are = record {
  namespace = ns;
  opened = record {
    there = at_in s.namespaces n ns there;
    opening = opening;
    inside = at_in ns.opens k opening inside;
    of = of;
    counts = leb-true _ _ counts;
  };
  exactly = subst (IsUnneeded (lower handle s) (map serial_of ns.objects)) (sym are)
      (unneeded (edges (lower handle s)) (roots (lower handle s)) (map serial_of ns.objects) all);
}

-- nothing else may die
pub only_dying : {dying : List ℕ} (s : State) (handle : ℕ) (ns : Namespace) → s.namespaces ≡ ns ∷ [] → is_all (edges (lower handle s)) (roots (lower handle s)) ≡ true
    → Closes s handle dying → dying ≡ left_of (edges (lower handle s)) (roots (lower handle s)) (map serial_of ns.objects)
only_dying {dying} s handle ns one all closes =
    left_alone (edges (lower handle s)) (roots (lower handle s)) (map serial_of ns.objects) dying all
    (subst (λ (n : Namespace). IsUnneeded (lower handle s) (map serial_of n.objects) dying) (sym same) closes.exactly)
  where
    same : ns ≡ closes.namespace
    same = only_in ns closes.namespace (subst (λ all. Contains all closes.namespace) one closes.opened.there)

pub bad_handle : (s : State) (handle : ℕ) → list_any (λ ns. list_any (λ r. eqb r.root handle && leb 1 (closable r)) ns.opens) s.namespaces ≡ false
    → IsBadHandle s handle (faults.BadHandle handle)
bad_handle s handle none = record {
  none = λ ns opened. true≢false (sym (in_any (λ (m : Namespace). list_any (λ r. eqb r.root handle && leb 1 (closable r)) m.opens) s.namespaces ns opened.there
      (in_any (λ r. eqb r.root handle && leb 1 (closable r)) ns.opens opened.opening opened.inside
      (and_from (eqb opened.opening.root handle) (leb 1 (closable opened.opening)) (eq-eqb _ _ opened.of) (le-leb _ _ opened.counts)))) ∙ none);
  is = refl;
}

pub may_finish : {closing : Closing} (s : State) (hart object k : ℕ) → slice_get s.closings k ≡ Some closing → closing.hart ≡ hart
    → IsFirst (finis_of s closing.set) object → ByClosing s hart object
may_finish {closing} s hart object k at by next = record { closing = closing; there = at_in s.closings k closing at; by = by; next = next }

-- while no grant is open
pub may_unmap : {closing : Closing} (s : State) (hart k first : ℕ) (rest : List ℕ) → slice_get s.closings k ≡ Some closing → closing.hart ≡ hart
    → closing.set ≡ first ∷ rest → finis_of s (first ∷ rest) ≡ [] → list_any is_open s.grants ≡ false → MayUnmap s hart (first ∷ rest)
may_unmap {closing} s hart k first rest at by whole done none = record {
  some = λ e. cc;
  closing = closing;
  there = at_in s.closings k closing at;
  by = by;
  whole = whole;
  done = done;
  free = λ g d there open_yet. absurd (true≢false (sym (in_any is_open s.grants g there (is_open_of g.standing open_yet)) ∙ none));
}

-- ---- wrong constructors, and wrong answers

-- while there is one loading, and the object waits
pub not_next : {loading : Loading} (s : State) (hart object : ℕ) → s.loadings ≡ loading ∷ []
    → may_not_start (flat_map found_edges (mapped s)) (program_last (Some 1) loading.serials) s.inits object ≡ true → MayInitialise s hart object → ⊥
not_next {loading} s hart object one waits may =
    starts_not (flat_map found_edges (mapped s)) (program_last (Some 1) loading.serials) s.inits object waits
    (subst (λ (l : Loading). MayStart (flat_map found_edges (mapped s)) (program_last (Some 1) l.serials) s.inits object) (sym same) may.next.may)
  where
    same : loading ≡ may.loading
    same = only_in loading may.loading (subst (λ all. Contains all may.loading) one may.there)

abbrev serial_found : Option (Option (ℕ × ℕ)) → ℕ
serial_found None = 0
serial_found (Some None) = 0
serial_found (Some (Some x)) = x.0

-- a search that finds one object's definition answers no other's
pub another_is_found : {hart serial index value : ℕ} (s : State) (ask : SymAsk) (other at : ℕ) → search s ask ≡ Some (Some (other, at))
    → eqb other serial ≡ false → FindsSymbol s hart ask serial index value → ⊥
another_is_found {hart} {serial} s ask other at found differs finds =
    let same : other ≡ serial = sym (ap serial_found found) ∙ ap serial_found finds.found in
    true≢false (sym (eq-eqb other serial same) ∙ differs)

-- ---- blocks

-- a first block, which stands in the next pages
pub may_block : {object : Loaded} {seg : TlsSeg} (s : State) (hart serial first : ℕ) → AreInRow 0 s.ranges first → object_at s serial ≡ Some object → object.object.tls ≡ Some seg
    → is_some (module_of s serial) ≡ true → tls_block s hart serial ≡ None → block_align seg ≡ 4096 → page_at first % 4096 ≡ 0
    → (leb 1 (block_pages seg) && leb (first + block_pages seg) 2047) ≡ true → residue seg ≡ 0 → MayHaveBlock s hart serial (page_at first)
may_block {object} {seg} s hart serial first row mapped storage has_module none align aligned few residue_is = record {
  seg = seg;
  wants = record { object = object; mapped = mapped; storage = storage; has_module = has_module; none = none };
  pages = page_at first;
  first = subst (λ (n : ℕ). IsFirstFit (free_pages s.ranges) (block_pages seg) n (page_at first)) (sym align)
      (fits_next (free_pages s.ranges) first (block_pages seg) (free_from s.ranges first row) aligned (leb-true _ _ parts.0) (leb-true _ _ parts.1));
  is = let zero_is : residue seg ≡ 0 = residue_is in omega (arith, zero_is);
}
  where
    parts : (leb 1 (block_pages seg) ≡ true) × (leb (first + block_pages seg) 2047 ≡ true)
    parts = and_parts _ _ few
