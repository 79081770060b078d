-- A run is sound when it starts.
use Rattle.std.proofs.Common.{◌≡◌, ℕ, suc, ◌+◌, zero, Bool, true, false, IsTrue, true≢false, List, [], ◌∷◌, ◌++◌, length, map, Some, refl, sym, ap, subst, ◌∙◌}
use Rattle.std.specs.Prelude.{if◌then◌else◌}
use Rattle.std.specs.List.{Contains, slice_get}
use Rattle.std.proofs.lemmas.Option.{none-some}
use Rattle.rv_hart.specs.declared.doubleword.Doubleword.{Doubleword}
use Rattle.ld_base.specs.declared.linking.Role.TheVariants.{None as NoRole, Rx}
use Rattle.history_event.specs.declared.event.Event.{Event}
use Rattle.history_event.specs.declared.handed.Function.{Function}
use Rattle.history_event.specs.declared.handed.HartEntry.{HartEntry}
use Rattle.history_event.specs.declared.state.Granting.{Granting}
use Rattle.history_calls.specs.declared.link_served.startup.Setup.{Setup}
use Rattle.history_state.specs.Accepted.{AcceptsOnly}
use Rattle.history_state.specs.Addresses.{is_linkers_page}
use Rattle.history_state.specs.After.{after, after_from}
use Rattle.history_state.specs.Legal.{Lawful, Legal}
use Rattle.history_state.specs.Memory.{ebreaks}
use Rattle.history_state.specs.Setting.{Machine, Setting}
use Rattle.history_state.specs.Slots.{HasNoGrant}
use Rattle.history_state.specs.State.{State, empty_state}
use Rattle.history_state.specs.Step.{loaded, step}
use Rattle.history_state.specs.Lemmas.Lists.{none_in}
use Rattle.history_calls.specs.Startup.{FindHarts, found_at, opening}
use Rattle.history_calls.specs.Lemmas.Serving.{harts_have_entries, starts_legal}
use Rattle.history_memory.specs.Holds.{Holds}
use Rattle.history_memory.specs.Memory.{Memory}
use Rattle.history_memory.specs.Remade.{Begins}
use Rattle.hart_moves.specs.Harts.{Frame, HartState, Purpose, Resolving}
use Rattle.hart_moves.specs.Moves.{AreAllowed, settled_resolving, after_all, runs, with_first}
use Rattle.world_turns.specs.Memory.{AreFresh, memory_of}
use Rattle.hart_moves.specs.Starting.{starting_hart, starting_harts, starting_registers}
use Rattle.world_turns.specs.Run.{IsStarted}
use Rattle.world_turns.specs.Sound.{Fits, Sound}
use Rattle.world_turns.specs.World.{World, won_by, winners}
use Rattle.world_turns.specs.Lemmas.Events.{EventsKeep, OfHarts, events_hold, remakes_length}

-- ---- harts

all_idle : (purpose : Purpose) (below : List Frame) (b : HartState) → (after_all purpose below b).resolving ≡ b.resolving
all_idle (Purpose.of_startup registers) below b = refl
all_idle (Purpose.of_opening to root) below b = refl
all_idle (Purpose.of_closing to set) below b = refl
all_idle (Purpose.of_end code) below b = refl

first_idle : (purpose : Purpose) (object : ℕ) (addresses : List ℕ) (rest : List Function) (below : List Frame) (b : HartState) → (with_first purpose object addresses rest below b).resolving ≡ b.resolving
first_idle purpose object [] rest below b = refl
first_idle purpose object (function ∷ more) rest below b = refl

pub runs_idle : (purpose : Purpose) (functions : List Function) (below : List Frame) (b : HartState) → (runs purpose functions below b).resolving ≡ b.resolving
runs_idle purpose [] below b = all_idle purpose below b
runs_idle purpose (f ∷ rest) below b = first_idle purpose f.object f.addresses rest below b

abbrev AllIdle : List HartState → Type 0
AllIdle harts = (h : ℕ) (b : HartState) → slice_get harts h ≡ Some b → b.resolving ≡ Resolving.idle

others_idle : (fuel : ℕ) (entries : List HartEntry) → AllIdle (map (starting_hart fuel) entries)
others_idle fuel [] h b at = absurd (none-some b at)
others_idle fuel (entry ∷ rest) zero b at = let same : starting_hart fuel entry ≡ b = cc in ap (λ (x : HartState). x.resolving) (sym same)
others_idle fuel (entry ∷ rest) (suc h) b at = others_idle fuel rest h b at

start_idle : (fuel : ℕ) (functions : List Function) (entries : List HartEntry) → AllIdle (starting_harts fuel functions entries)
start_idle fuel functions [] h b at = absurd (none-some b at)
start_idle fuel functions (entry ∷ rest) zero b at =
    let same : runs (Purpose.of_startup (starting_registers entry)) functions [] (starting_hart fuel entry) ≡ b = cc in
    ap (λ (x : HartState). x.resolving) (sym same) ∙ runs_idle (Purpose.of_startup (starting_registers entry)) functions [] (starting_hart fuel entry)
start_idle fuel functions (entry ∷ rest) (suc h) b at = others_idle fuel rest h b at

none_won : (harts : List HartState) → AllIdle harts → winners harts ≡ []
none_won [] idle = refl
none_won (b ∷ rest) idle = ap (λ (r : Resolving). won_by r ++ winners rest) (idle 0 b refl) ∙ none_won rest (λ h c at. idle (suc h) c at)

length_map : (fuel : ℕ) (entries : List HartEntry) → length (map (starting_hart fuel) entries) ≡ length entries
length_map fuel [] = refl
length_map fuel (entry ∷ rest) = ap suc (length_map fuel rest)

start_length : (fuel : ℕ) (functions : List Function) (entries : List HartEntry) → length (starting_harts fuel functions entries) ≡ length entries
start_length fuel functions [] = refl
start_length fuel functions (entry ∷ rest) = ap suc (length_map fuel rest)

-- ---- the journal

finds_allowed : (w : Setting) (past : List Event) (h : ℕ) (names : List (List ℕ)) (found : List Event) (addresses : List ℕ) → FindHarts w past h names found addresses → AreAllowed w past found
finds_allowed w past h names found addresses (FindHarts.no_more _ _) = tt
finds_allowed w past h names found addresses (FindHarts.one_more _ _ name rest serial index value more others finds later) =
    (finds.may, finds_allowed w (past ++ found_at h name serial index value ∷ []) (h + 1) rest more others later)

finds_of : (w : Setting) (past : List Event) (h : ℕ) (names : List (List ℕ)) (found : List Event) (addresses : List ℕ) → FindHarts w past h names found addresses → OfHarts found
finds_of w past h names found addresses (FindHarts.no_more _ _) = tt
finds_of w past h names found addresses (FindHarts.one_more _ _ name rest serial index value more others finds later) =
    ((h, refl), finds_of w (past ++ found_at h name serial index value ∷ []) (h + 1) rest more others later)

finds_grants : (w : Setting) (past : List Event) (h : ℕ) (names : List (List ℕ)) (found : List Event) (addresses : List ℕ) → FindHarts w past h names found addresses → (s : State) → (after_from s found).grants ≡ s.grants
unfolding after_from
finds_grants w past h names found addresses (FindHarts.no_more _ _) s = refl
finds_grants w past h names found addresses (FindHarts.one_more _ _ name rest serial index value more others finds later) s =
    finds_grants w (past ++ found_at h name serial index value ∷ []) (h + 1) rest more others later s

pub start_grants : (w : Setting) (setup : Setup) (world : World) (is : IsStarted w setup world) → (after world.journal).grants ≡ []
unfolding after_from loaded
start_grants w setup world is =
    ap (λ (es : List Event). (after es).grants) is.starts.are
    ∙ finds_grants w _ 1 setup.harts is.starts.found is.starts.addresses is.starts.finds (step empty_state (opening setup is.starts.root is.starts.added is.starts.ranges))

start_of : (w : Setting) (setup : Setup) (world : World) (is : IsStarted w setup world) → OfHarts world.journal
start_of w setup world is = subst OfHarts (sym is.starts.are) ((0, refl), finds_of w _ 1 setup.harts is.starts.found is.starts.addresses is.starts.finds)

start_allowed : (w : Setting) (setup : Setup) (world : World) (is : IsStarted w setup world) → AreAllowed w [] world.journal
start_allowed w setup world is = subst (AreAllowed w []) (sym is.starts.are) (is.starts.opens, finds_allowed w _ 1 setup.harts is.starts.found is.starts.addresses is.starts.finds)

-- ---- memory

abbrev fresh_by : Bool → Doubleword
fresh_by t = if t then record { value = ebreaks; role = Rx; version = 0 } else record { value = 0; role = NoRole; version = 0 }

fresh_begins : (words : List Doubleword) → AreFresh words → Begins (memory_of words)
fresh_begins words fresh = record {
  role = λ a is. ap (λ (d : Doubleword). d.role) (fresh.each a is) ∙ role (is_linkers_page a);
  code = λ a is page. ap (λ (d : Doubleword). d.value) (fresh.each a is) ∙ code (is_linkers_page a) page;
}
  where
    role : (t : Bool) → (fresh_by t).role ≡ (if t then Rx else NoRole)
    role true = refl
    role false = refl

    code : (t : Bool) → IsTrue t → (fresh_by t).value ≡ ebreaks
    code true is = refl
    code false is = absurd (true≢false (sym is))

abbrev pub MemoryBegins : Type 0
MemoryBegins = (memory : Memory) → Begins memory → Holds (after []) [] memory

nobody : (s : State) (h : ℕ) → s.grants ≡ [] → HasNoGrant s h
nobody s h none g there = absurd (none_in g (subst (λ (gs : List Granting). Contains gs g) none there))

none_lawful : (m : Machine) → Lawful m []
unfolding Lawful
none_lawful m k e at = absurd (none-some e at)

pub start_sound : MemoryBegins → EventsKeep → (w : Setting) (setup : Setup) (world : World) → AcceptsOnly w.machine → IsStarted w setup world → Sound w world
unfolding after_from
start_sound begins keep w setup world only is =
    let legal : Legal w world.journal = starts_legal w setup world.journal is.started is.starts in
    let idle : AllIdle world.harts = subst AllIdle (sym is.harts) (start_idle setup.fuel is.started.functions is.started.entries) in
    let first : Holds (after []) [] (memory_of is.fresh) = begins (memory_of is.fresh) (fresh_begins is.fresh is.are_fresh) in
    record {
      legal = legal;
      harts = ap (λ (bs : List HartState). length bs) is.harts ∙ start_length setup.fuel is.started.functions is.started.entries ∙ harts_have_entries w setup world.journal is.started is.starts ∙ sym (ap (λ (v : Setting). v.machine.harts) is.starts.set_up);
      words = remakes_length empty_state world.journal is.fresh world.words is.words ∙ is.are_fresh.all;
      holds = subst (λ (ns : List ℕ). Holds (after world.journal) ns (memory_of world.words)) (sym (none_won world.harts idle))
          (events_hold keep w only [] [] world.journal is.fresh world.words (none_lawful w.machine) (start_allowed w setup world is) (start_of w setup world is) first is.words);
      rests = λ h b reason at is_over. ap settled_resolving (idle h b at);
      fits = λ h b at. subst (Fits (after world.journal) world.words h) (sym (idle h b at)) (nobody (after world.journal) h (start_grants w setup world is));
    }
