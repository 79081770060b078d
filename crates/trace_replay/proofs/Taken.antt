-- An event taken in.
use Rattle.std.proofs.Common.{◌≡◌, ℕ, ◌+◌, ◌-◌, ◌*◌, ◌^◌, ◌<◌, ◌≤◌, Bool, true, false, cond, eqb, List, [], ◌∷◌, ◌++◌, length, Option, Some, None, Ok, refl, sym, ap, subst, ◌∙◌, arith}
use Rattle.std.specs.List.{Contains, flat_map}
use Rattle.std.specs.Prelude.{IfSome}
use Rattle.std.specs.Option.{option_and_then}
use Rattle.address_space.specs.Pages.{AllFree}
use Rattle.history_calls.specs.Laws.{NextStarts, StartsStay}
use Rattle.history_event.specs.declared.event.CloseAnswer.TheVariants as closes
use Rattle.history_event.specs.declared.event.Event.{Event}
use Rattle.history_event.specs.declared.event.Event.TheVariants as events
use Rattle.history_event.specs.declared.event.Range.{Range}
use Rattle.history_event.specs.declared.state.Granting.{Granting}
use Rattle.history_journal.specs.Following.{MayFollow, machine_of}
use Rattle.history_state.specs.Accepted.{IsAccepted, IsStorage}
use Rattle.history_state.specs.After.{after}
use Rattle.history_state.specs.Allowed.{Allowed}
use Rattle.history_state.specs.Areas.{free_pages}
use Rattle.history_state.specs.Laws.{FinalisedOnce, ModulesAreFew, ModulesAreTidy, SerialsAreInOrder}
use Rattle.history_state.specs.Legal.{Lawful}
use Rattle.history_state.specs.Lemmas.History.{after_push}
use Rattle.history_state.specs.Lemmas.Lists.{found_in, from_flat}
use Rattle.history_state.specs.Lookup.{MayHaveBlock}
use Rattle.history_state.specs.Read.{ObjectsAreRead}
use Rattle.history_state.specs.Setting.{Machine, Setting}
use Rattle.history_state.specs.State.{State}
use Rattle.history_state.specs.Step.{step}
use Rattle.history_state.specs.Storage.{block_pages, residue}
use Rattle.ld_base.specs.declared.linking.Loaded.{Loaded}
use Rattle.ld_base.specs.declared.object.Object.{Object}
use Rattle.ld_base.specs.declared.object.TlsSeg.{TlsSeg}
use Rattle.ld_base.specs.declared.parts.HashTable.{HashTable}
use Rattle.scope_rule.specs.Loading.{with_serial}
use Rattle.scope_rule.specs.declared.namespace.Namespace.{Namespace}
use Rattle.tls_blocks.specs.Numbers.{AreNumbered}
use Rattle.trace_replay.specs.Heads.{exits_by, head_in, noted, with_head}
use Rattle.trace_replay.specs.Keeping.{IsKept}
use Rattle.trace_replay.specs.Lists.{Lists}
use Rattle.trace_replay.specs.Shown.{AreHeads, AreStarting, IsHistory, IsShown, Shows}
use Rattle.trace_replay.specs.Steps.{HasPages, IsReady, storage_in, stepped}
use Rattle.trace_replay.specs.Taken.{OpensNothing}
use Rattle.trace_replay.proofs.HeadsNoted.{heads_on}
use Rattle.trace_replay.proofs.Starting.{starting_on}
use Rattle.trace_replay.proofs.Stepped.{IsNew, from_shown, not_finished, stepped_shown, to_shown}

-- ---- laws

abbrev pub PushLaw : Type 0
PushLaw = (m : Machine) (w : Setting) (events : List Event) (e : Event) → w.machine ≡ m → Lawful m events → Allowed w events e → Lawful m (events ++ e ∷ [])

abbrev pub FinalisedLaw : Type 0
FinalisedLaw = (m : Machine) (events : List Event) → Lawful m events → FinalisedOnce (after events)

abbrev pub OrderLaw : Type 0
OrderLaw = (m : Machine) (events : List Event) → Lawful m events → SerialsAreInOrder (after events)

-- ---- what an event leaves

record Keeps (l m : Lists) : Type 0 where
  pub harts : m.harts ≡ l.harts
  pub next : m.next ≡ l.next
  pub heads : m.heads ≡ l.heads

keeps : (e : Event) (l : Lists) → Keeps l (stepped e l)
keeps (events.Close hart handle (closes.Done set)) l = record { harts = refl; next = refl; heads = refl }
keeps (events.Close hart handle (closes.Refused fault)) l = record { harts = refl; next = refl; heads = refl }
keeps e l = record { harts = refl; next = refl; heads = refl }

new_in : FinalisedLaw → (m : Machine) (w : Setting) (past : List Event) (e : Event) → Lawful m past → Allowed w past e → IsNew (after past) e
new_in finalised m w past (events.Init hart object) lawful may =
    not_finished (after past).inits (after past).finis object (finalised m past lawful).initialised may.next.may.undone
new_in finalised m w past e lawful may = tt

-- ---- with the head

record HeadOnly (l m : Lists) : Type 0 where
  pub harts : m.harts ≡ l.harts
  pub next : m.next ≡ l.next
  pub starting : m.starting ≡ l.starting
  pub state : (s : State) → IsShown s l → IsShown s m

head_only : (l : Lists) → HeadOnly l (with_head l)
head_only l = by (exits_by l.harts l.endings)
  where
    by : (b : Bool) → HeadOnly l (cond b (record l { heads = noted (head_in l.unfinished l.namespaces) l.heads }) l)
    by true = record {
      harts = refl;
      next = refl;
      starting = refl;
      state = λ s x. from_shown s (record l { heads = noted (head_in l.unfinished l.namespaces) l.heads }) (record l { heads = noted (head_in l.unfinished l.namespaces) l.heads })
          (λ i. record (to_shown s l x i) { heads = noted (head_in l.unfinished l.namespaces) l.heads });
    }
    by false = record { harts = refl; next = refl; starting = refl; state = λ s x. x }

pub head_keeps : (l : Lists) → (with_head l).next ≡ l.next
head_keeps l = (head_only l).next

pub head_harts : (l : Lists) → (with_head l).harts ≡ l.harts
head_harts l = (head_only l).harts

pub step_keeps : (e : Event) (l : Lists) → (stepped e l).next ≡ l.next
step_keeps e l = (keeps e l).next

-- ---- taken in

-- these lists show the history with the event, once the head is noted
pub shown_with : PushLaw → (past : List Event) (e : Event) (l m : Lists) → Shows past l → MayFollow l.harts past e → m.harts ≡ l.harts → m.heads ≡ l.heads → IsShown (step (after past) e) m
    → AreStarting (after (past ++ e ∷ [])) m.starting → Shows (past ++ e ∷ []) (with_head m)
shown_with push past e l m x may harts heads state starting =
    let only : HeadOnly m (with_head m) = head_only m in
    let here : IsShown (after (past ++ e ∷ [])) m = subst (λ (s : State). IsShown s m) (sym (after_push past e)) state in
    let were : AreHeads past m.harts m.heads = subst (λ n. AreHeads past n m.heads) (sym harts) (subst (AreHeads past l.harts) (sym heads) x.heads) in
    record {
      lawful = subst (λ n. Lawful (machine_of n) (past ++ e ∷ [])) (sym (only.harts ∙ harts)) (push (machine_of l.harts) may.setting past e may.machine x.lawful may.may);
      state = only.state (after (past ++ e ∷ [])) here;
      starting = subst (AreStarting (after (past ++ e ∷ []))) (sym only.starting) starting;
      heads = subst (λ n. AreHeads (past ++ e ∷ []) n (with_head m).heads) (sym only.harts) (heads_on past e m here were);
    }

pub taken : PushLaw → FinalisedLaw → OrderLaw → NextStarts → StartsStay → (past : List Event) (e : Event) (l m n : Lists) → Shows past l → MayFollow l.harts past e → OpensNothing e
    → m ≡ stepped e l → n ≡ with_head m → Shows (past ++ e ∷ []) n
taken push finalised order next stay past e l m n x may opens stepped_is noted_is =
    let kept : Keeps l (stepped e l) = keeps e l in
    let new : IsNew (after past) e = new_in finalised (machine_of l.harts) may.setting past e x.lawful may.may in
    let starting : AreStarting (after (past ++ e ∷ [])) (stepped e l).starting =
    starting_on next stay (machine_of l.harts) may.setting past e l opens may.machine x.lawful may.may (order (machine_of l.harts) past x.lawful) x.starting in
    subst (Shows (past ++ e ∷ [])) (sym (noted_is ∙ ap with_head stepped_is))
    (shown_with push past e l (stepped e l) x may kept.harts kept.heads (stepped_shown e (after past) l opens new x.state) starting)

-- ---- what events ask for

abbrev pub TidyLaw : Type 0
TidyLaw = (m : Machine) (events : List Event) → Lawful m events → ModulesAreTidy (after events)

abbrev pub FewLaw : Type 0
FewLaw = (m : Machine) (events : List Event) → Lawful m events → ModulesAreFew m (after events)

abbrev pub ReadLaw : Type 0
ReadLaw = (m : Machine) (events : List Event) → Lawful m events → ObjectsAreRead m (after events)

abbrev pub AcceptedLaw : Type 0
AcceptedLaw = (bytes : List ℕ) (program : Bool) (o : Object) (table : HashTable) → (machine_of 0).verdict bytes program ≡ Ok (o, table) → IsAccepted o

pub numbered : TidyLaw → (l : Lists) → IsHistory l → AreNumbered l.modules
numbered tidy l kept = subst AreNumbered (sym kept.shows.state.modules) (tidy (machine_of l.harts) kept.past kept.shows.lawful).numbered

pub few : FewLaw → (l : Lists) → IsKept l → l.generation + length l.modules < 2 ^ 64
few law l kept =
    let x = kept.history.shows in
    let few : (after kept.history.past).generation + length (after kept.history.past).modules ≤ 2 * ((after kept.history.past).next - 1) = (law (machine_of l.harts) kept.history.past x.lawful).changes in
    plain l.generation (after kept.history.past).generation (length l.modules) (length (after kept.history.past).modules) l.next (after kept.history.past).next x.state.generation
    (ap (λ (ms : List _). length ms) x.state.modules) x.state.next few kept.few
  where
    plain : (g h a b n m : ℕ) → g ≡ h → a ≡ b → n ≡ m → h + b ≤ 2 * (m - 1) → n ≤ 2 ^ 62 → g + a < 2 ^ 64
    plain g h a b n m e f k few low = omega (arith, e, f, k, few, low)

-- an object that is mapped was accepted
stored_is : ReadLaw → AcceptedLaw → (harts : ℕ) (past : List Event) (serial : ℕ) (o : Loaded) (seg : TlsSeg) → Lawful (machine_of harts) past
    → Contains (flat_map (λ (ns : Namespace). ns.objects) (after past).namespaces) o → o.object.tls ≡ Some seg → IsStorage o.object seg
stored_is read accepted harts past serial o seg lawful inside is =
    let at = from_flat (λ (ns : Namespace). ns.objects) (after past).namespaces o inside in
    let was = read (machine_of harts) past lawful at.0 o (record { there = at.1; inside = at.2 }) in
    (accepted was.bytes was.program o.object o.table was.is).storage seg is

-- so the segment of one fits
segment_is : ReadLaw → AcceptedLaw → (l : Lists) → IsHistory l → (serial : ℕ) (seg : TlsSeg) → storage_in l.namespaces serial ≡ Some seg → (o : Loaded) × IsStorage o.object seg
segment_is read accepted l kept serial seg is =
    by (with_serial (flat_map (λ (ns : Namespace). ns.objects) l.namespaces) serial) refl is
  where
    by : (found : Option Loaded) → with_serial (flat_map (λ (ns : Namespace). ns.objects) l.namespaces) serial ≡ found → option_and_then (λ (o : Loaded). o.object.tls) found ≡ Some seg
        → (o : Loaded) × IsStorage o.object seg
    by None e f = absurd (let d : None ≡ Some seg = f in cc)
    by (Some o) e f = (
      o,
      stored_is read accepted l.harts kept.past serial o seg kept.shows.lawful
          (subst (λ (nss : List Namespace). Contains (flat_map (λ (ns : Namespace). ns.objects) nss) o) kept.shows.state.namespaces (found_in (λ (p : Loaded). eqb p.serial serial) _ o e).0) f,
    )

pub aligned_so : ReadLaw → AcceptedLaw → (l : Lists) → IsHistory l → (serial : ℕ) (found : Option TlsSeg) → found ≡ storage_in l.namespaces serial → IfSome found (λ seg. seg.align ≤ 2 ^ 20)
aligned_so read accepted l kept serial None is = tt
aligned_so read accepted l kept serial (Some seg) is = (segment_is read accepted l kept serial seg (sym is)).1.align

pub sized_so : ReadLaw → AcceptedLaw → (l : Lists) → IsHistory l → (serial : ℕ) (found : Option TlsSeg) → found ≡ storage_in l.namespaces serial → IfSome found (λ seg. seg.memsz ≤ 2 ^ 20)
sized_so read accepted l kept serial None is = tt
sized_so read accepted l kept serial (Some seg) is = (segment_is read accepted l kept serial seg (sym is)).1.memory

pub ready : ReadLaw → AcceptedLaw → (past : List Event) (e : Event) (l : Lists) → Shows past l → MayFollow l.harts past e → IsReady e l
ready read accepted past (events.Grant number hart owner slot choice value) l x may = may.may.numbered ∙ ap (λ (gs : List Granting). length gs + 1) (sym x.state.grants)
ready read accepted past (events.Tls hart owner a) l x may = λ seg is.
    let block : MayHaveBlock (after past) hart owner a = may.may in
    let found : storage_in (after past).namespaces owner ≡ Some block.seg = ap (option_and_then (λ (o : Loaded). o.object.tls)) block.wants.mapped ∙ block.wants.storage in
    let both : Some block.seg ≡ Some seg = sym found ∙ ap (λ (nss : List Namespace). storage_in nss owner) (sym x.state.namespaces) ∙ is in
    let same : block.seg ≡ seg = cc in
    let stored : IsStorage block.wants.object.object block.seg = stored_is read accepted l.harts past owner block.wants.object block.seg x.lawful (found_in _ _ block.wants.object block.wants.mapped).0 block.wants.storage in
    let start : a - residue block.seg ≡ block.pages = (let e : a ≡ block.pages + residue block.seg = block.is in omega (arith, e)) in
    subst (HasPages l a) same (record {
      align = stored.align;
      memory = stored.memory;
      stands = (let e : a ≡ block.pages + residue block.seg = block.is in omega (arith, e));
      free = subst (λ (rs : List Range). AllFree (free_pages rs) (a - residue block.seg) (block_pages block.seg)) (sym x.state.ranges)
          (subst (λ n. AllFree (free_pages (after past).ranges) n (block_pages block.seg)) (sym start) block.first.fits.room);
    })
ready read accepted past e l x may = tt
