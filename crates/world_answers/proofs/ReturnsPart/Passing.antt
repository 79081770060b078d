-- Objects in front pass: their events may come, one after another.
use Rattle.std.proofs.Common.{◌≡◌, inl, inr, ⊎_elim, ℕ, zero, suc, ◌+◌, ◌<◌, ◌&&◌, List, [], ◌∷◌, ◌++◌, length, get_or, map, take, refl, sym, ap, subst, ◌∙◌, append-nil, arith}
use Rattle.std.specs.Prelude.{nat_le, IsTrue}
use Rattle.std.specs.List.{Contains, list_all}
use Rattle.std.proofs.lemmas.List.{append_assoc, map-append, take_more}
use Rattle.std.proofs.lemmas.List.Elements.{Contains-append_right}
use Rattle.std.proofs.Math.Seq.{take-append_seam}
use Rattle.ld_base.specs.declared.linking.Loaded.{Loaded}
use Rattle.history_event.specs.declared.event.CloseAnswer.TheVariants as closings
use Rattle.history_event.specs.declared.event.Event.{Event}
use Rattle.history_event.specs.declared.event.Event.TheVariants as events
use Rattle.history_event.specs.declared.event.OpenAnswer.TheVariants as openings
use Rattle.history_event.specs.declared.event.OpenAsk.{OpenAsk}
use Rattle.history_event.specs.declared.event.Range.{Range}
use Rattle.history_event.specs.declared.handed.Function.{Function}
use Rattle.history_event.specs.declared.state.Closing.{Closing}
use Rattle.history_event.specs.declared.state.Loading.{Loading}
use Rattle.history_state.specs.After.{after}
use Rattle.history_state.specs.Allowed.{Allowed, AtTheEnd, ByClosing}
use Rattle.history_state.specs.Legal.{Lawful}
use Rattle.history_state.specs.Links.{finis_of}
use Rattle.history_state.specs.Objects.{serial_of}
use Rattle.history_state.specs.Setting.{Machine, Setting, exited}
use Rattle.history_state.specs.State.{State}
use Rattle.history_state.specs.Step.{die, initialise, loaded, lower, step}
use Rattle.history_state.specs.Lemmas.History.{after_push, lawful_push, lawful_take}
use Rattle.history_state.specs.Lemmas.Lists.{here}
use Rattle.history_calls.specs.Functions.{AreConstructors, AreDestructors, AreLeft, left, object_of, passed}
use Rattle.history_calls.specs.Laws.{NextFinishes, NextStarts, OpeningBegins}
use Rattle.history_calls.specs.Lemmas.Finishing.{passed_first}
use Rattle.hart_moves.specs.Harts.{Purpose}
use Rattle.link_state.specs.Table.{LinkTable, appended}
use Rattle.history_journal.specs.Following.{MayFollow}
use Rattle.hart_moves.specs.Moves.{AreAllowed, passing}
use Rattle.world_memory.specs.TurnAnswers.Following.{MayFollowAll}
use Rattle.world_answers.specs.ReturnsPart.Noting.{with_passed}

pub record NextLaws : Type 0 where
  pub begins : OpeningBegins
  pub starts : NextStarts
  pub finishes : NextFinishes

abbrev inits : ℕ → List ℕ → List Event
inits h objects = map (λ o. events.Init h o) objects

abbrev finis : ℕ → List ℕ → List Event
finis h objects = map (λ o. events.Fini h o) objects

-- the same run, on a machine
abbrev on : Machine → Setting → Setting
on m w = record w { machine = m }

-- ---- of an opening

loading_there : (s : State) (h o : ℕ) (l : Loading) → Contains s.loadings l → Contains (step s (events.Init h o)).loadings l
unfolding initialise
loading_there s h o l there = there

starts_pass : NextLaws → (m : Machine) (w : Setting) (past : List Event) (l : Loading) (objects more : List ℕ) → Lawful m past → Contains (after past).loadings l
    → AreLeft (after past) l (objects ++ more) → AreAllowed w past (inits l.hart objects)
starts_pass laws m w past l [] more lawful there x = tt
starts_pass laws m w past l (o ∷ rest) more lawful there x =
    let e : Event = events.Init l.hart o in
    let next = laws.starts m (on m w) past l o (rest ++ more) refl lawful there x in (
      next.0,
      starts_pass laws m w (past ++ e ∷ []) l rest more (lawful_push m (on m w) past e refl lawful next.0)
          (subst (λ (s : State). Contains s.loadings l) (sym (after_push past e)) (loading_there (after past) l.hart o l there)) next.1,
    )

-- ---- of a closing

closing_there : (s : State) (h o : ℕ) (c : Closing) → Contains s.closings c → Contains (step s (events.Fini h o)).closings c
closing_there s h o c there = there

finishes_pass : NextLaws → (m : Machine) (w : Setting) (past : List Event) (c : Closing) (objects more : List ℕ) → Lawful m past → Contains (after past).closings c
    → finis_of (after past) c.set ≡ objects ++ more → AreAllowed w past (finis c.hart objects)
finishes_pass laws m w past c [] more lawful there x = tt
finishes_pass laws m w past c (o ∷ rest) more lawful there x =
    let e : Event = events.Fini c.hart o in
    let next = laws.finishes m (on m w) past c o (rest ++ more) lawful there x in (
      (laws.finishes m w past c o (rest ++ more) lawful there x).0,
      finishes_pass laws m w (past ++ e ∷ []) c rest more (lawful_push m (on m w) past e refl lawful next.0)
          (subst (λ (s : State). Contains s.closings c) (sym (after_push past e)) (closing_there (after past) c.hart o c there)) next.1,
    )

-- ---- behind an opening, and a closing

new_loading : (s : State) (h id root : ℕ) (ask : OpenAsk) (first : Loaded) (rest : List Loaded) (ranges : List Range)
    → Contains (step s (events.Open h ask (openings.Done id root (first ∷ rest) ranges))).loadings (record { hart = h; serials = map serial_of (first ∷ rest) })
unfolding loaded
new_loading s h id root ask first rest ranges = Contains-append_right s.loadings (_ ∷ []) (record { hart = h; serials = map serial_of (first ∷ rest) }) (here _ [])

new_closing : (s : State) (h handle first : ℕ) (rest : List ℕ)
    → Contains (step s (events.Close h handle (closings.Done (first ∷ rest)))).closings (record { hart = h; set = first ∷ rest })
unfolding die lower
new_closing s h handle first rest = Contains-append_right s.closings (_ ∷ []) (record { hart = h; set = first ∷ rest }) (here _ [])

pub openings_pass : NextLaws → (m : Machine) (v : Setting) (past : List Event) (h id root : ℕ) (ask : OpenAsk) (first : Loaded) (rest : List Loaded) (ranges : List Range)
    (functions : List Function) → v.machine ≡ m → Lawful m past → Allowed v past (events.Open h ask (openings.Done id root (first ∷ rest) ranges))
    → AreConstructors (after (past ++ events.Open h ask (openings.Done id root (first ∷ rest) ranges) ∷ [])) (map serial_of (first ∷ rest)) functions
    → (w : Setting) → AreAllowed w (past ++ events.Open h ask (openings.Done id root (first ∷ rest) ranges) ∷ []) (inits h (passed functions))
openings_pass laws m v past h id root ask first rest ranges functions same lawful may are w =
    let e : Event = events.Open h ask (openings.Done id root (first ∷ rest) ranges) in
    let l : Loading = record { hart = h; serials = map serial_of (first ∷ rest) } in
    starts_pass laws m w (past ++ e ∷ []) l (passed functions) (map object_of (left functions)) (lawful_push m v past e same lawful may)
    (subst (λ (s : State). Contains s.loadings l) (sym (after_push past e)) (new_loading (after past) h id root ask first rest ranges))
    (subst (AreLeft (after (past ++ e ∷ [])) l) (passed_first functions) (laws.begins m v past h id root ask first rest ranges functions same lawful may are))

pub closings_pass : NextLaws → (m : Machine) (v : Setting) (past : List Event) (h handle first : ℕ) (rest : List ℕ) (functions : List Function) → v.machine ≡ m → Lawful m past
    → Allowed v past (events.Close h handle (closings.Done (first ∷ rest)))
    → AreDestructors (after (past ++ events.Close h handle (closings.Done (first ∷ rest)) ∷ [])) (first ∷ rest) functions
    → (w : Setting) → AreAllowed w (past ++ events.Close h handle (closings.Done (first ∷ rest)) ∷ []) (finis h (passed functions))
closings_pass laws m v past h handle first rest functions same lawful may are w =
    let e : Event = events.Close h handle (closings.Done (first ∷ rest)) in
    let c : Closing = record { hart = h; set = first ∷ rest } in
    finishes_pass laws m w (past ++ e ∷ []) c (passed functions) (map object_of (left functions)) (lawful_push m v past e same lawful may)
    (subst (λ (s : State). Contains s.closings c) (sym (after_push past e)) (new_closing (after past) h handle first rest))
    (sym are.order ∙ passed_first functions)

-- ---- events that may follow one another

-- the next object may pass after those before it
pub next_passes : (w : Setting) (purpose : Purpose) (h : ℕ) (functions : List Function) (past : List Event) (k : ℕ) (f : Function)
    → AreAllowed w past (map (passing purpose h) (map object_of functions)) → k < length functions → f ≡ get_or functions k f
    → Allowed w (past ++ map (passing purpose h) (map object_of (take k functions))) (passing purpose h f.object)
next_passes w purpose h [] past k f all inside is = absurd (omega (arith, inside))
next_passes w purpose h (x ∷ rest) past zero f all inside is =
    subst (λ (y : Function). Allowed w (past ++ []) (passing purpose h y.object)) (sym is)
    (subst (λ (es : List Event). Allowed w es (passing purpose h x.object)) (sym (append-nil past)) all.0)
next_passes w purpose h (x ∷ rest) past (suc k) f all inside is =
    subst (λ (es : List Event). Allowed w es (passing purpose h f.object))
    (append_assoc past (passing purpose h x.object ∷ []) (map (passing purpose h) (map object_of (take k rest))))
    (next_passes w purpose h rest (past ++ passing purpose h x.object ∷ []) k f all.1 (omega (arith, inside)) is)

-- an object may pass in each run on the machine where it may in one
at_end : (v w : Setting) (past : List Event) (h object : ℕ) → w.machine ≡ v.machine → AtTheEnd v past (after past) h object → AtTheEnd w past (after past) h object
at_end v w past h object same x = record {
  first_hart = x.first_hart;
  mapped = x.mapped;
  initialised = x.initialised;
  unfinished = x.unfinished;
  was = record {
    before = x.was.before;
    since = x.was.since;
    are = x.was.are;
    over = subst (λ (m : Machine). IsTrue (nat_le m.harts (length (after x.was.before).endings) && list_all exited (take m.harts (after x.was.before).endings))) (sym same) x.was.over;
    next = x.was.next;
  };
}

fini_allowed : (v w : Setting) (past : List Event) (h object : ℕ) → w.machine ≡ v.machine → Allowed v past (events.Fini h object) → Allowed w past (events.Fini h object)
fini_allowed v w past h object same may =
    ⊎_elim (λ (x : ByClosing (after past) h object). inl x) (λ (x : AtTheEnd v past (after past) h object). inr (at_end v w past h object same x)) may

passing_allowed : (v w : Setting) (purpose : Purpose) (past : List Event) (h object : ℕ) → w.machine ≡ v.machine → Allowed v past (passing purpose h object)
    → Allowed w past (passing purpose h object)
passing_allowed v w (Purpose.of_startup registers) past h object same may = may
passing_allowed v w (Purpose.of_opening to root) past h object same may = may
passing_allowed v w (Purpose.of_closing to set) past h object same may = fini_allowed v w past h object same may
passing_allowed v w (Purpose.of_end code) past h object same may = fini_allowed v w past h object same may

pub passings_allowed : (v w : Setting) (purpose : Purpose) (h : ℕ) (objects : List ℕ) (past : List Event) → w.machine ≡ v.machine
    → AreAllowed v past (map (passing purpose h) objects) → AreAllowed w past (map (passing purpose h) objects)
passings_allowed v w purpose h [] past same all = tt
passings_allowed v w purpose h (o ∷ rest) past same all =
    (passing_allowed v w purpose past h o same all.0, passings_allowed v w purpose h rest (past ++ passing purpose h o ∷ []) same all.1)

-- a part of a lawful history
pub lawful_before : (m : Machine) (past more : List Event) → Lawful m (past ++ more) → Lawful m past
lawful_before m past more lawful = subst (Lawful m) (take-append_seam past more) (lawful_take m (past ++ more) (length past) lawful)

-- ---- the table with passed objects

pub may_note : (table now : LinkTable) (purpose : Purpose) (h : ℕ) (functions : List Function) (k : ℕ) (f : Function)
    → MayFollowAll table.harts table.events (map (passing purpose h) (map object_of functions)) → now ≡ with_passed table purpose h (map object_of (take k functions))
    → k < length functions → f ≡ get_or functions k f → MayFollow now.harts now.events (passing purpose h f.object)
may_note table now purpose h functions k f may same inside is =
    subst (λ (t : LinkTable). MayFollow t.harts t.events (passing purpose h f.object)) (sym same)
    (record { setting = may.setting; machine = may.machine; may = next_passes may.setting purpose h functions table.events k f may.may inside is })

pub more_passed : (table now : LinkTable) (purpose : Purpose) (h : ℕ) (functions : List Function) (k : ℕ) (f : Function)
    → now ≡ with_passed table purpose h (map object_of (take k functions)) → k < length functions → f ≡ get_or functions k f
    → appended now (passing purpose h f.object) ≡ with_passed table purpose h (map object_of (take (k + 1) functions))
more_passed table now purpose h functions k f same inside is =
    let more : take (k + 1) functions ≡ take k functions ++ f ∷ [] =
    take_more functions k f inside ∙ ap (λ (x : Function). take k functions ++ x ∷ []) (sym is) in
    ap (λ (t : LinkTable). appended t (passing purpose h f.object)) same
    ∙ ap (λ (es : List Event). record table { events = es })
    (append_assoc table.events (map (passing purpose h) (map object_of (take k functions))) (passing purpose h f.object ∷ [])
    ∙ ap (λ (es : List Event). table.events ++ es)
    (sym (ap (map (passing purpose h)) (map-append object_of (take k functions) (f ∷ []))
    ∙ map-append (passing purpose h) (map object_of (take k functions)) (f.object ∷ []))))
    ∙ ap (λ (fs : List Function). with_passed table purpose h (map object_of fs)) (sym more)
