-- What each turn keeps to: its events may come and are the hart's own, and it counts.
use Rattle.std.proofs.Common.{◌≡◌, ◌⊎◌, inl, inr, ⊎_elim, ℕ, ◌+◌, ◌*◌, Bool, true, false, not, cond, ◌&&◌, List, [], ◌∷◌, ◌++◌, map, Option, Some, None, Result, Ok, Err, refl, sym, ap, subst, ◌∙◌}
use Rattle.std.specs.List.{Contains}
use Rattle.std.specs.Option.{is_some}
use Rattle.std.proofs.lemmas.List.{append-nil}
use Rattle.history_event.specs.declared.event.Event.{Event}
use Rattle.history_event.specs.declared.event.Event.TheVariants as events
use Rattle.history_event.specs.declared.handed.Function.{Function}
use Rattle.history_event.specs.declared.hart_end.HartEnd.{HartEnd}
use Rattle.history_event.specs.declared.hart_end.HartEnd.TheVariants as ends
use Rattle.ld_base.specs.declared.fault.DlFault.{DlFault}
use Rattle.rv_hart.specs.declared.bus.BusFault.{BusFault}
use Rattle.rv_hart.specs.declared.bus.BusFault.TheVariants.{Role as RoleFault, Misaligned, Again}
use Rattle.rv_hart.specs.declared.bus.Item.{Item}
use Rattle.rv_hart.specs.declared.bus.Item.TheVariants.{Write}
use Rattle.rv_hart.specs.declared.stepping.Stop.{Stop}
use Rattle.rv_hart.specs.declared.stepping.Stop.TheVariants as stop
use Rattle.rv_hart.specs.Trail.{Place, Ready, Accessing, Stopped}
use Rattle.history_state.specs.After.{after}
use Rattle.history_state.specs.Allowed.{MayEnd}
use Rattle.history_state.specs.Legal.{Legal}
use Rattle.history_state.specs.Objects.{has, object_at}
use Rattle.history_state.specs.Setting.{Setting}
use Rattle.history_state.specs.State.{State}
use Rattle.history_state.specs.Lemmas.History.{legal_push, one_behind}
use Rattle.history_state.specs.Lemmas.Lists.{first_or_later, here, later, none_in, only_in}
use Rattle.history_calls.specs.Answer.{Answer, returns, loading, closing, refused, granted, told, again, over}
use Rattle.history_calls.specs.Call.{Call}
use Rattle.history_calls.specs.Functions.{left, passed}
use Rattle.history_calls.specs.Gives.{Gives, Serves, ending}
use Rattle.history_calls.specs.Laws.{hart_of}
use Rattle.history_calls.specs.Served.{answer_text}
use Rattle.history_calls.specs.Lemmas.Given.{ends_keep}
use Rattle.history_calls.specs.Lemmas.Own.{events_own}
use Rattle.hart_moves.specs.Copying.{Copy, text_words}
use Rattle.hart_moves.specs.Due.{Due, Return, by_resolving, due}
use Rattle.hart_moves.specs.Harts.{Frame, HartState, Purpose}
use Rattle.hart_moves.specs.Laws.{EndedStays, RunsOut, TurnsAreOwn, TurnsCount, TurnsLegal}
use Rattle.hart_moves.specs.Moves.{Did, events_of, spent, freed, freed_by, did_by, ended, TurnEnds, Goes, Traps, Trap, trap_of, TurnRefuses, TurnStops, Comes, Unread, CopiesBy, copied_item, StoresBy, stored_to, passing, AreAllowed, Passes, runs, with_first, after_all, own_fini, Finals, final_functions, Takes, TellsOf, telling, MovesAs, Moves, Finalises}

-- ---- events

legal_with : (w : Setting) (past added : List Event) → Legal w past → AreAllowed w past added → Legal w (past ++ added)
legal_with w past [] legal may = subst (Legal w) (sym (append-nil past)) legal
legal_with w past (e ∷ rest) legal may = subst (Legal w) (one_behind past e rest) (legal_with w (past ++ e ∷ []) rest (legal_push w past e legal may.0) may.1)

-- events may come one after another where those in front may, and then those behind
pub allowed_with : (w : Setting) (past one other : List Event) → AreAllowed w past one → AreAllowed w (past ++ one) other → AreAllowed w past (one ++ other)
allowed_with w past [] other a b = subst (λ (es : List Event). AreAllowed w es other) (append-nil past) b
allowed_with w past (e ∷ rest) other a b =
    (a.0, allowed_with w (past ++ e ∷ []) rest other a.1 (subst (λ (es : List Event). AreAllowed w es other) (sym (one_behind past e rest)) b))

-- and those in front may, and then those behind, where all may
pub allowed_split : (w : Setting) (past one other : List Event) → AreAllowed w past (one ++ other) → AreAllowed w past one × AreAllowed w (past ++ one) other
allowed_split w past [] other may = (tt, subst (λ (es : List Event). AreAllowed w es other) (sym (append-nil past)) may)
allowed_split w past (e ∷ rest) other may =
    let more = allowed_split w (past ++ e ∷ []) rest other may.1 in
    ((may.0, more.0), subst (λ (es : List Event). AreAllowed w es other) (one_behind past e rest) more.1)

given_allowed : (w : Setting) (past : List Event) (h : ℕ) (call : Call) (given : List Event) (answer : Answer) → Gives w past h call given answer → AreAllowed w past given
given_allowed w past h call given answer (Gives.by_event _ e _ answers may) = (may, tt)
given_allowed w past h call given answer (Gives.by_first_block ask e f value finds) = (finds.may_get, (finds.may_find, tt))
given_allowed w past h call given answer (Gives.in_new_block number offset block e gets) = (gets.may, tt)
given_allowed w past h call given answer (Gives.in_block number offset block has) = tt
given_allowed w past h call given answer (Gives.to_again _ for shows) = tt
given_allowed w past h call given answer (Gives.to_end _ reason ends) = tt

end_allowed : (w : Setting) (past given : List Event) (h : ℕ) (call : Call) (answer : Answer) → Gives w past h call given answer → ((reason : HartEnd) → answer ≡ over reason → MayEnd w (after past) h)
    → AreAllowed w (past ++ given) (ending h answer)
end_allowed w past given h call (returns value) gives may = tt
end_allowed w past given h call (loading root added) gives may = tt
end_allowed w past given h call (closing set) gives may = tt
end_allowed w past given h call (refused fault) gives may = tt
end_allowed w past given h call (granted grant) gives may = tt
end_allowed w past given h call (told fault) gives may = tt
end_allowed w past given h call (again for) gives may = tt
end_allowed w past given h call (over reason) gives may = (subst (λ (s : State). MayEnd w s h) (sym (ends_keep w past h call given reason gives)) (may reason refl), tt)

serves_allowed : (w : Setting) (past : List Event) (h : ℕ) (call : Call) (appended : List Event) (answer : Answer) → Serves w past h call appended answer → AreAllowed w past appended
serves_allowed w past h call appended answer serves =
    subst (AreAllowed w past) (sym serves.are)
    (allowed_with w past serves.given (ending h answer) (given_allowed w past h call serves.given answer serves.gives) (end_allowed w past serves.given h call answer serves.gives serves.may_end))

-- ---- whose events they are

abbrev AreOf : ℕ → List Event → Type 0
AreOf h added = (e : Event) → Contains added e → hart_of e ≡ Some h

of_both : (h : ℕ) (one other : List Event) → AreOf h one → AreOf h other → AreOf h (one ++ other)
of_both h [] other a b e there = b e there
of_both h (x ∷ rest) other a b e there = ⊎_elim
    (λ (is : x ≡ e). a e (subst (λ (y : Event). Contains (x ∷ rest) y) is (here x rest)))
    (λ (i : Contains (rest ++ other) e). of_both h rest other (λ y k. a y (later x rest y k)) b e i)
    (first_or_later x (rest ++ other) e there)

of_one : (h : ℕ) (x : Event) → hart_of x ≡ Some h → AreOf h (x ∷ [])
of_one h x is e there = ap hart_of (sym (only_in x e there)) ∙ is

of_none : (h : ℕ) → AreOf h []
of_none h e there = absurd (none_in e there)

ending_of : (h : ℕ) (answer : Answer) → AreOf h (ending h answer)
ending_of h (returns value) = of_none h
ending_of h (loading root added) = of_none h
ending_of h (closing set) = of_none h
ending_of h (refused fault) = of_none h
ending_of h (granted grant) = of_none h
ending_of h (told fault) = of_none h
ending_of h (again for) = of_none h
ending_of h (over reason) = of_one h (events.Ended h reason) refl

serves_of : (w : Setting) (past : List Event) (h : ℕ) (call : Call) (appended : List Event) (answer : Answer) → Serves w past h call appended answer → AreOf h appended
serves_of w past h call appended answer serves =
    subst (AreOf h) (sym serves.are) (of_both h serves.given (ending h answer) (events_own w past h call serves.given answer serves.gives) (ending_of h answer))

passing_is_of : (purpose : Purpose) (h object : ℕ) → hart_of (passing purpose h object) ≡ Some h
passing_is_of (Purpose.of_startup registers) h object = refl
passing_is_of (Purpose.of_opening to root) h object = refl
passing_is_of (Purpose.of_closing to set) h object = refl
passing_is_of (Purpose.of_end code) h object = refl

passing_of : (purpose : Purpose) (h : ℕ) (objects : List ℕ) → AreOf h (map (passing purpose h) objects)
passing_of purpose h [] = of_none h
passing_of purpose h (o ∷ rest) = of_both h (passing purpose h o ∷ []) (map (passing purpose h) rest) (of_one h (passing purpose h o) (passing_is_of purpose h o)) (passing_of purpose h rest)

finals_of : (w : Setting) (h : ℕ) (past added : List Event) (next : Option Function) → Finals w h past added next → AreOf h added
finals_of w h past added next (Finals.no_more _ none) = of_none h
finals_of w h past added next (Finals.one_runs _ object function rest more finis addresses) = of_none h
finals_of w h past added next (Finals.one_passes _ object rest behind last finis addresses may finals) =
    of_both h (events.Fini h object ∷ []) behind (of_one h (events.Fini h object) refl) (finals_of w h (past ++ events.Fini h object ∷ []) behind next finals)

finals_allowed : (w : Setting) (h : ℕ) (past added : List Event) (next : Option Function) → Finals w h past added next → AreAllowed w past added
finals_allowed w h past added next (Finals.no_more _ none) = tt
finals_allowed w h past added next (Finals.one_runs _ object function rest more finis addresses) = tt
finals_allowed w h past added next (Finals.one_passes _ object rest behind last finis addresses may finals) = (may, finals_allowed w h (past ++ events.Fini h object ∷ []) behind next finals)

own_fini_of : (s : State) (h object : ℕ) → AreOf h (own_fini s h object)
own_fini_of s h object = by (is_some (object_at s object) && not (has s.finis object))
  where
    by : (b : Bool) → AreOf h (cond b (events.Fini h object ∷ []) [])
    by true = of_one h (events.Fini h object) refl
    by false = of_none h

-- ---- how turns count

-- what a turn keeps to
pub record Keeps (w : Setting) (past : List Event) (h : ℕ) (b : HartState) (did : Did) (c : HartState) : Type 0 where
  pub allowed : AreAllowed w past (events_of did)
  pub own : AreOf h (events_of did)
  pub fuel : c.fuel ≡ b.fuel
  pub turns : (c.turns ≡ b.turns + 1) ⊎ RunsOut b c

-- a turn that leaves the hart as this, with these events
keeps_by : (w : Setting) (past : List Event) (h : ℕ) (b : HartState) (did : Did) (c left : HartState) (added : List Event) → events_of did ≡ added → AreAllowed w past added → AreOf h added
    → c ≡ left → left.fuel ≡ b.fuel → left.turns ≡ b.turns + 1 → Keeps w past h b did c
keeps_by w past h b did c left added is may of leaves fuel turns = record {
  allowed = subst (AreAllowed w past) (sym is) may;
  own = subst (AreOf h) (sym is) of;
  fuel = ap (λ (x : HartState). x.fuel) leaves ∙ fuel;
  turns = inl (ap (λ (x : HartState). x.turns) leaves ∙ turns);
}

keeps_going : (w : Setting) (past : List Event) (h : ℕ) (b x : HartState) (items : List Item) (did : Did) (c : HartState) → x.fuel ≡ b.fuel → x.turns ≡ b.turns → Goes items x did c → Keeps w past h b did c
keeps_going w past h b x items did c fuel turns goes =
    keeps_by w past h b did c (spent x) [] (ap events_of goes.is) tt (of_none h) goes.leaves fuel (ap (λ n. n + 1) turns)

keeps_ending : (w : Setting) (past : List Event) (h : ℕ) (b : HartState) (items : List Item) (reason : HartEnd) (did : Did) (c : HartState) → TurnEnds w past h (spent b) items reason did c → Keeps w past h b did c
keeps_ending w past h b items reason did c x =
    keeps_by w past h b did c (ended reason (spent b)) (events.Ended h reason ∷ []) (ap events_of x.is) (x.may, tt) (of_one h (events.Ended h reason) refl) x.leaves refl refl

runs_out : (w : Setting) (past : List Event) (h : ℕ) (b : HartState) (did : Did) (c : HartState) → TurnEnds w past h b [] ends.FuelOut did c → Keeps w past h b did c
runs_out w past h b did c x = record {
  allowed = subst (AreAllowed w past) (sym (ap events_of x.is)) (x.may, tt);
  own = subst (AreOf h) (sym (ap events_of x.is)) (of_one h (events.Ended h ends.FuelOut) refl);
  fuel = ap (λ (x : HartState). x.fuel) x.leaves;
  turns = inr (record { turns = ap (λ (x : HartState). x.turns) x.leaves; ends = ap (λ (x : HartState). x.«end») x.leaves });
}

-- ---- an instruction

keeps_trap : (w : Setting) (past : List Event) (h : ℕ) (b : HartState) (items : List Item) (trap : Trap) (did : Did) (c : HartState) → Traps w past h b items trap did c → Keeps w past h b did c
keeps_trap w past h b items (Trap.exits code) did c x = keeps_ending w past h b items (ends.Exit code) did c x
keeps_trap w past h b items (Trap.gives value) did c x = keeps_going w past h b _ items did c refl refl x
keeps_trap w past h b items Trap.writes did c x = keeps_going w past h b _ items did c refl refl x

keeps_refused : (w : Setting) (past : List Event) (h : ℕ) (b : HartState) (items : List Item) (address : ℕ) (fault : BusFault) (did : Did) (c : HartState) → TurnRefuses w past h b items address fault did c → Keeps w past h b did c
keeps_refused w past h b items address (RoleFault role) did c x = keeps_ending w past h b items _ did c x
keeps_refused w past h b items address Misaligned did c x = keeps_ending w past h b items _ did c x
keeps_refused w past h b items address (Again shown) did c x = keeps_going w past h b b items did c refl refl x

keeps_stop : (w : Setting) (past : List Event) (h : ℕ) (b : HartState) (items : List Item) (s : Stop) (did : Did) (c : HartState) → TurnStops w past h b items s did c → Keeps w past h b did c
keeps_stop w past h b items stop.Ecall did c x = keeps_trap w past h b items (trap_of b.registers) did c x
keeps_stop w past h b items stop.Break did c x = keeps_ending w past h b items _ did c x
keeps_stop w past h b items (stop.Bad word) did c x = keeps_ending w past h b items _ did c x
keeps_stop w past h b items (stop.Misaligned address) did c x = keeps_ending w past h b items _ did c x
keeps_stop w past h b items (stop.Refused address fault) did c x = keeps_refused w past h b items address fault did c x

keeps_coming : (w : Setting) (past : List Event) (h : ℕ) (b : HartState) (items : List Item) (place : Place) (did : Did) (c : HartState) → Comes w past h b items place did c → Keeps w past h b did c
keeps_coming w past h b items (Ready r) did c x = keeps_going w past h b _ items did c refl refl x
keeps_coming w past h b items (Accessing r decoded) did c x = absurd x
keeps_coming w past h b items (Stopped r s) did c x = keeps_stop w past h b items s did c x

-- ---- copies and stores

keeps_unread : (w : Setting) (past : List Event) (h : ℕ) (b : HartState) (items : List Item) (copy : Copy) (address : ℕ) (did : Did) (c : HartState) → Unread w past h b items copy address did c → Keeps w past h b did c
keeps_unread w past h b items (Copy.of_name n) address did c x = keeps_ending w past h b items _ did c x
keeps_unread w past h b items (Copy.of_version name) address did c x = keeps_ending w past h b items _ did c x
keeps_unread w past h b items Copy.of_pair address did c x = keeps_ending w past h b items _ did c x
keeps_unread w past h b items (Copy.of_text count) address did c x = keeps_going w past h b _ items did c refl refl x

keeps_copy : (w : Setting) (past : List Event) (h : ℕ) (b : HartState) (items : List Item) (copy : Copy) (start : ℕ) (bytes : List ℕ) (answer : Result ℕ BusFault) (did : Did) (c : HartState)
    → CopiesBy w past h b items copy start bytes answer did c → Keeps w past h b did c
keeps_copy w past h b items copy start bytes (Ok word) did c x = keeps_going w past h b _ items did c refl refl x
keeps_copy w past h b items copy start bytes (Err (RoleFault role)) did c x = keeps_unread w past h b items copy _ did c x
keeps_copy w past h b items copy start bytes (Err Misaligned) did c x = absurd x
keeps_copy w past h b items copy start bytes (Err (Again shown)) did c x = keeps_going w past h b b items did c refl refl x

-- the fuel and the turns of a hart
pub record CountsAs (b x : HartState) : Type 0 where
  pub fuel : x.fuel ≡ b.fuel
  pub turns : x.turns ≡ b.turns

stored_counts : (text stored : ℕ) (more : List ℕ) (b : HartState) → CountsAs b (stored_to text stored more b)
stored_counts text stored [] b = record { fuel = refl; turns = refl }
stored_counts text stored (word ∷ more) b = record { fuel = refl; turns = refl }

keeps_store : (w : Setting) (past : List Event) (h : ℕ) (b : HartState) (items : List Item) (text stored : ℕ) (more : List ℕ) (answer : Result Unit BusFault) (did : Did) (c : HartState)
    → StoresBy w past h b items text stored more answer did c → Keeps w past h b did c
keeps_store w past h b items text stored more (Ok done) did c x = let counts = stored_counts text stored more b in keeps_going w past h b (stored_to text stored more b) items did c counts.fuel counts.turns x
keeps_store w past h b items text stored more (Err (RoleFault role)) did c x = keeps_ending w past h b items _ did c x
keeps_store w past h b items text stored more (Err Misaligned) did c x = absurd x
keeps_store w past h b items text stored more (Err (Again shown)) did c x = keeps_going w past h b b items did c refl refl x

-- ---- functions that the linker has run

all_counts : (purpose : Purpose) (below : List Frame) (b : HartState) → CountsAs b (after_all purpose below b)
all_counts (Purpose.of_startup registers) below b = record { fuel = refl; turns = refl }
all_counts (Purpose.of_opening to root) below b = record { fuel = refl; turns = refl }
all_counts (Purpose.of_closing to set) below b = record { fuel = refl; turns = refl }
all_counts (Purpose.of_end code) below b = record { fuel = refl; turns = refl }

first_counts : (purpose : Purpose) (object : ℕ) (addresses : List ℕ) (rest : List Function) (below : List Frame) (b : HartState) → CountsAs b (with_first purpose object addresses rest below b)
first_counts purpose object [] rest below b = record { fuel = refl; turns = refl }
first_counts purpose object (function ∷ more) rest below b = record { fuel = refl; turns = refl }

runs_counts : (purpose : Purpose) (functions : List Function) (below : List Frame) (b : HartState) → CountsAs b (runs purpose functions below b)
runs_counts purpose [] below b = all_counts purpose below b
runs_counts purpose (f ∷ rest) below b = first_counts purpose f.object f.addresses rest below b

keeps_passing : (w : Setting) (past : List Event) (h : ℕ) (b : HartState) (purpose : Purpose) (before : List Event) (functions : List Function) (below : List Frame) (did : Did) (c : HartState)
    → AreAllowed w past before → AreOf h before → Passes w past h b purpose before functions below did c → Keeps w past h b did c
keeps_passing w past h b purpose before functions below did c may of x =
    let counts = runs_counts purpose (left functions) below (freed b) in
    keeps_by w past h b did c (spent (runs purpose (left functions) below (freed b))) (before ++ map (passing purpose h) (passed functions)) (ap events_of x.is)
    (allowed_with w past before (map (passing purpose h) (passed functions)) may x.may)
    (of_both h before (map (passing purpose h) (passed functions)) of (passing_of purpose h (passed functions))) x.leaves counts.fuel (ap (λ n. n + 1) counts.turns)

freed_counts : (added : List Event) (b : HartState) → CountsAs b (freed_by added b)
freed_counts [] b = record { fuel = refl; turns = refl }
freed_counts (e ∷ rest) b = record { fuel = refl; turns = refl }

events_by : (added : List Event) → events_of (did_by added) ≡ added
events_by [] = refl
events_by (e ∷ rest) = refl

keeps_finalising : (w : Setting) (past : List Event) (h : ℕ) (b : HartState) (code object : ℕ) (did : Did) (c : HartState) → Finalises w past h b code object did c → Keeps w past h b did c
keeps_finalising w past h b code object did c x =
    let own : List Event = own_fini (after past) h object in
    let counts = runs_counts (Purpose.of_end code) (final_functions x.next) [] (freed_by (own ++ x.events) b) in
    let first = freed_counts (own ++ x.events) b in
    keeps_by w past h b did c (spent (runs (Purpose.of_end code) (final_functions x.next) [] (freed_by (own ++ x.events) b))) (own ++ x.events) (ap events_of x.is ∙ events_by (own ++ x.events))
    (allowed_with w past own x.events x.may (finals_allowed w h (past ++ own) x.events x.next x.finals))
    (of_both h own x.events (own_fini_of (after past) h object) (finals_of w h (past ++ own) x.events x.next x.finals)) x.leaves (counts.fuel ∙ first.fuel) (ap (λ n. n + 1) (counts.turns ∙ first.turns))

-- ---- a service

telling_counts : (text : ℕ) (words : List ℕ) (b : HartState) → CountsAs b (telling text words b)
telling_counts text [] b = record { fuel = refl; turns = refl }
telling_counts text (word ∷ more) b = record { fuel = refl; turns = refl }

keeps_telling : (w : Setting) (past : List Event) (h : ℕ) (text : ℕ) (b : HartState) (back : Return) (fault : Option DlFault) (appended : List Event) (did : Did) (c : HartState)
    → AreAllowed w past appended → AreOf h appended → TellsOf text b back fault appended did c → Keeps w past h b did c
keeps_telling w past h text b back (Some fault) appended did c may of x =
    let counts = telling_counts text (text_words (answer_text fault)) (freed b) in
    keeps_by w past h b did c (spent (telling text (text_words (answer_text fault)) (freed b))) appended (ap events_of x.is) may of x.leaves counts.fuel (ap (λ n. n + 1) counts.turns)
keeps_telling w past h text b back None appended did c may of x = keeps_by w past h b did c _ appended (ap events_of x.is) may of x.leaves refl refl

keeps_taking : (w : Setting) (past : List Event) (h : ℕ) (b : HartState) (call : Call) (back : Return) (answer : Answer) (appended : List Event) (did : Did) (c : HartState)
    → AreAllowed w past appended → AreOf h appended → Takes w past h b call back answer appended did c → Keeps w past h b did c
keeps_taking w past h b call back (returns value) appended did c may of x = keeps_by w past h b did c _ appended (ap events_of x.is) may of x.leaves refl refl
keeps_taking w past h b call back (loading root added) appended did c may of x = keeps_passing w past h b _ appended x.functions back.frames did c may of x.passes
keeps_taking w past h b call back (closing set) appended did c may of x = keeps_passing w past h b _ appended x.functions back.frames did c may of x.passes
keeps_taking w past h b call back (refused fault) appended did c may of x = keeps_by w past h b did c _ appended (ap events_of x.is) may of x.leaves refl refl
keeps_taking w past h b call back (granted grant) appended did c may of x = keeps_by w past h b did c _ appended (ap events_of x.is) may of x.leaves refl refl
keeps_taking w past h b call back (told fault) appended did c may of x = keeps_telling w past h _ b back fault appended did c may of x
keeps_taking w past h b call back (again for) appended did c may of x = keeps_by w past h b did c _ [] (ap events_of x.is) tt (of_none h) x.leaves refl refl
keeps_taking w past h b call back (over reason) appended did c may of x = keeps_by w past h b did c _ appended (ap events_of x.is) may of x.leaves refl refl

-- ---- a turn

keeps : (w : Setting) (past : List Event) (h : ℕ) (b : HartState) (turn : Due) (did : Did) (c : HartState) → MovesAs w past h b turn did c → Keeps w past h b did c
keeps w past h b Due.nothing did c x = absurd x
keeps w past h b (Due.exchange o) did c x = keeps_by w past h b did c _ [] (ap events_of x.is) tt (of_none h) x.leaves refl refl
keeps w past h b (Due.finish o found) did c x = keeps_by w past h b did c _ [] (ap events_of x.is) tt (of_none h) x.leaves refl refl
keeps w past h b Due.fuel_out did c x = runs_out w past h b did c x
keeps w past h b Due.instruction did c x = keeps_coming w past h b x.items x.place did c x.comes
keeps w past h b (Due.copy copy start bytes) did c x = keeps_copy w past h b (copied_item start bytes x.answer ∷ []) copy start bytes x.answer did c x.comes
keeps w past h b (Due.serve call back) did c x =
    keeps_taking w past h b call back x.answer x.appended did c (serves_allowed w past h call x.appended x.answer x.serves) (serves_of w past h call x.appended x.answer x.serves) x.takes
keeps w past h b (Due.wait for) did c x = keeps_by w past h b did c _ [] (ap events_of x.is) tt (of_none h) x.leaves refl refl
keeps w past h b (Due.store text stored word more) did c x = keeps_store w past h b (Write (text + 8 * stored) 8 word x.answer ∷ []) text stored more x.answer did c x.comes
keeps w past h b (Due.enter function frames) did c x = keeps_by w past h b did c _ [] (ap events_of x.is) tt (of_none h) x.leaves refl refl
keeps w past h b (Due.complete purpose object rest below) did c x =
    keeps_passing w past h b purpose (passing purpose h object ∷ []) rest below did c (x.may, tt) (of_one h (passing purpose h object) (passing_is_of purpose h object)) x.passes
keeps w past h b (Due.finalise code object) did c (inl x) = keeps_finalising w past h b code object did c x
keeps w past h b (Due.finalise code object) did c (inr x) = keeps_ending w past h b [] ends.Memory did c x

pub turns_legal : TurnsLegal
turns_legal w past h b c did legal moves = legal_with w past (events_of did) legal (keeps w past h b (due (after past) b) did c moves).allowed

pub turns_allowed : (w : Setting) (past : List Event) (h : ℕ) (b c : HartState) (did : Did) → Moves w past h b did c → AreAllowed w past (events_of did)
turns_allowed w past h b c did moves = (keeps w past h b (due (after past) b) did c moves).allowed

pub turns_own : TurnsAreOwn
turns_own w past h b c did moves = (keeps w past h b (due (after past) b) did c moves).own

pub turns_count : TurnsCount
turns_count w past h b c did moves = let k = keeps w past h b (due (after past) b) did c moves in (k.fuel, k.turns)

pub ended_stays : EndedStays
unfolding due
ended_stays w past h b c did reason is moves = subst (λ (t : Due). MovesAs w past h b t did c) stays moves
  where
    stays : due (after past) b ≡ Due.nothing
    stays = ap (λ (e : Option HartEnd). elim e [ Some r ↦ Due.nothing | None ↦ by_resolving (after past) b b.resolving ]) is
