-- A grant is made in its hart's own call of a slot's resolver.
use Rattle.std.proofs.Common.{◌≡◌, inl, inr, ⊎_elim, ℕ, ◌+◌, ◌*◌, Bool, true, false, cond, List, [], ◌∷◌}
use Rattle.std.proofs.Common.{◌++◌, map, Contains, Option, Some, None, Result, Ok, Err, refl, sym, ap, subst, ◌∙◌}
use Rattle.std.proofs.lemmas.Bool.{true≢false}
use Rattle.std.proofs.lemmas.List.Elements.{Contains-append_cases}
use Rattle.ld_base.specs.declared.fault.DlFault.{DlFault}
use Rattle.ld_base.specs.declared.linking.Choice.{Choice}
use Rattle.history_event.specs.declared.event.Event.{Event}
use Rattle.history_event.specs.declared.event.Event.TheVariants as events
use Rattle.history_event.specs.declared.handed.Function.{Function}
use Rattle.history_event.specs.declared.hart_end.HartEnd.{HartEnd}
use Rattle.history_event.specs.declared.hart_end.HartEnd.TheVariants.{FuelOut, Memory}
use Rattle.history_event.specs.declared.state.Granting.{Granting}
use Rattle.rv_hart.specs.declared.bus.BusFault.{BusFault}
use Rattle.rv_hart.specs.declared.bus.BusFault.TheVariants.{Role as RoleFault, Misaligned, Again}
use Rattle.rv_hart.specs.declared.bus.Item.{Item}
use Rattle.rv_hart.specs.declared.bus.Item.TheVariants.{Write}
use Rattle.rv_hart.specs.declared.stepping.Stop.{Stop}
use Rattle.rv_hart.specs.declared.stepping.Stop.TheVariants as stop
use Rattle.rv_hart.specs.Trail.{Place, Ready, Accessing, Stopped}
use Rattle.history_state.specs.After.{after}
use Rattle.history_state.specs.Setting.{Setting}
use Rattle.history_state.specs.Lemmas.Lists.{from_map, none_in, only_in}
use Rattle.history_calls.specs.Answer.{Answer, returns, loading, closing, refused, granted, told, again, over}
use Rattle.history_calls.specs.Call.{Call, resolves}
use Rattle.history_calls.specs.Functions.{passed}
use Rattle.history_calls.specs.Gives.{EventAnswers, Gives, Serves, ending}
use Rattle.hart_moves.specs.Copying.{Copy}
use Rattle.hart_moves.specs.Due.{Due, Return, due}
use Rattle.hart_moves.specs.Harts.{HartState, Offered, Purpose}
use Rattle.hart_moves.specs.Moves.{Calls, Comes, CopiesBy, Did, Finals, Goes, Moves, MovesAs, Resolves}
use Rattle.hart_moves.specs.Moves.{StoresBy, Takes, TellsOf, Trap, Traps, TurnEnds, TurnRefuses, TurnStops, Unread}
use Rattle.hart_moves.specs.Moves.{copied_item, events_of, own_fini, passing, spent, stored_to, trap_of}
use Rattle.hart_moves.specs.TurnEvents.Lemmas.Frames.{did_events}
use Rattle.world_laws.specs.RunMoments.OfTurns.{GrantsInCalls, IsGrantedInCall}

abbrev pub is_grant : Event → Bool
is_grant e = elim e [ events.Grant number hart owner slot choice value ↦ true | _ ↦ false ]

abbrev pub HasNone : List Event → Type 0
HasNone given = (e : Event) → Contains given e → is_grant e ≡ false

abbrev DidNone : Did → Type 0
DidNone did = HasNone (events_of did)

-- ---- events of functions

passing_none : (purpose : Purpose) (h object : ℕ) → is_grant (passing purpose h object) ≡ false
passing_none (Purpose.of_startup registers) h object = refl
passing_none (Purpose.of_opening to root) h object = refl
passing_none (Purpose.of_closing to set) h object = refl
passing_none (Purpose.of_end code) h object = refl

passings_none : (purpose : Purpose) (h : ℕ) (objects : List ℕ) → HasNone (map (passing purpose h) objects)
passings_none purpose h objects e there =
    let from = from_map (passing purpose h) objects e there in
    subst (λ (x : Event). is_grant x ≡ false) from.2 (passing_none purpose h from.0)

pub both_none : (xs ys : List Event) → HasNone xs → HasNone ys → HasNone (xs ++ ys)
both_none xs ys left right e there = ⊎_elim (left e) (right e) (Contains-append_cases xs ys e there)

pub empty_none : HasNone []
empty_none e there = absurd (none_in e there)

pub one_none : (x : Event) → is_grant x ≡ false → HasNone (x ∷ [])
one_none x none e there = subst (λ (y : Event). is_grant y ≡ false) (only_in x e there) none

finals_none : (w : Setting) (h : ℕ) (past behind : List Event) (next : Option Function) → Finals w h past behind next → HasNone behind
finals_none w h past _ _ (Finals.no_more _ none) = empty_none
finals_none w h past _ _ (Finals.one_runs _ object function rest more next are) = empty_none
finals_none w h past _ next (Finals.one_passes _ object rest behind _ first are may more) =
    both_none (events.Fini h object ∷ []) behind (one_none (events.Fini h object) refl) (finals_none w h (past ++ events.Fini h object ∷ []) behind next more)

own_none : (past : List Event) (h object : ℕ) → HasNone (own_fini (after past) h object)
own_none past h object = by _
  where
    by : (t : Bool) → HasNone (cond t (events.Fini h object ∷ []) [])
    by true = one_none (events.Fini h object) refl
    by false = empty_none

-- ---- turns of the hart's own

ends_none : (w : Setting) (past : List Event) (h : ℕ) (b : HartState) (items : List Item) (reason : HartEnd) (did : Did) (c : HartState)
    → TurnEnds w past h b items reason did c → DidNone did
ends_none w past h b items reason did c x = subst DidNone (sym x.is) (one_none (events.Ended h reason) refl)

goes_none : (items : List Item) (b : HartState) (did : Did) (c : HartState) → Goes items b did c → DidNone did
goes_none items b did c x = subst DidNone (sym x.is) empty_none

module _ (w : Setting) (past : List Event) (h : ℕ) (b : HartState) where
  trap_none : (items : List Item) (trap : Trap) (did : Did) (c : HartState) → Traps w past h b items trap did c → DidNone did
  trap_none items (Trap.exits code) did c x = ends_none w past h (spent b) items _ did c x
  trap_none items (Trap.gives value) did c x = goes_none items _ did c x
  trap_none items Trap.writes did c x = goes_none items _ did c x

  refusal_none : (items : List Item) (address : ℕ) (fault : BusFault) (did : Did) (c : HartState) → TurnRefuses w past h b items address fault did c
      → DidNone did
  refusal_none items address (RoleFault role) did c x = ends_none w past h (spent b) items _ did c x
  refusal_none items address Misaligned did c x = ends_none w past h (spent b) items _ did c x
  refusal_none items address (Again shown) did c x = goes_none items b did c x

  stop_none : (items : List Item) (s : Stop) (did : Did) (c : HartState) → TurnStops w past h b items s did c → DidNone did
  stop_none items stop.Ecall did c x = trap_none items (trap_of b.registers) did c x
  stop_none items stop.Break did c x = ends_none w past h (spent b) items _ did c x
  stop_none items (stop.Bad word) did c x = ends_none w past h (spent b) items _ did c x
  stop_none items (stop.Misaligned address) did c x = ends_none w past h (spent b) items _ did c x
  stop_none items (stop.Refused address fault) did c x = refusal_none items address fault did c x

  pub place_none : (items : List Item) (place : Place) (did : Did) (c : HartState) → Comes w past h b items place did c → DidNone did
  place_none items (Ready r) did c x = goes_none items _ did c x
  place_none items (Accessing r decoded) did c x = absurd x
  place_none items (Stopped r s) did c x = stop_none items s did c x

  unread_none : (items : List Item) (copy : Copy) (address : ℕ) (did : Did) (c : HartState) → Unread w past h b items copy address did c → DidNone did
  unread_none items (Copy.of_name n) address did c x = ends_none w past h (spent b) items _ did c x
  unread_none items (Copy.of_version name) address did c x = ends_none w past h (spent b) items _ did c x
  unread_none items Copy.of_pair address did c x = ends_none w past h (spent b) items _ did c x
  unread_none items (Copy.of_text count) address did c x = goes_none items _ did c x

  pub copy_none : (items : List Item) (copy : Copy) (start : ℕ) (bytes : List ℕ) (answer : Result ℕ BusFault) (did : Did) (c : HartState)
      → CopiesBy w past h b items copy start bytes answer did c → DidNone did
  copy_none items copy start bytes (Ok word) did c x = goes_none items _ did c x
  copy_none items copy start bytes (Err (RoleFault role)) did c x = unread_none items copy _ did c x
  copy_none items copy start bytes (Err Misaligned) did c x = absurd x
  copy_none items copy start bytes (Err (Again shown)) did c x = goes_none items b did c x

  pub store_none : (items : List Item) (text stored : ℕ) (more : List ℕ) (answer : Result Unit BusFault) (did : Did) (c : HartState)
      → StoresBy w past h b items text stored more answer did c → DidNone did
  store_none items text stored more (Ok done) did c x = goes_none items (stored_to text stored more b) did c x
  store_none items text stored more (Err (RoleFault role)) did c x = ends_none w past h (spent b) items _ did c x
  store_none items text stored more (Err Misaligned) did c x = absurd x
  store_none items text stored more (Err (Again shown)) did c x = goes_none items b did c x

-- ---- a call

module _ (w : Setting) (past : List Event) (h : ℕ) (b : HartState) (number hart owner slot value : ℕ) (choice : Choice) where
  abbrev grant : Event
  grant = events.Grant number hart owner slot choice value

  never : {P : Type 0} (given : List Event) → HasNone given → Contains given grant → P
  never given none there = absurd (let no : true ≡ false = none grant there in true≢false no)

  -- this answer to a call made it
  record IsGranting (call : Call) (answer : Answer) : Type 0 where
    pub own : hart ≡ h
    pub asked : call ≡ resolves owner (8 * slot)
    pub granting : Granting
    pub is : answer ≡ granted granting
    pub number_is : granting.number ≡ number
    pub value_is : granting.value ≡ value

  not_it : {P : Type 0} (e : Event) → is_grant e ≡ false → e ≡ grant → P
  not_it e none same = absurd (true≢false (sym (ap is_grant same) ∙ none))

  answered : (call : Call) (e : Event) (answer : Answer) → EventAnswers h call e answer → e ≡ grant → IsGranting call answer
  answered call e answer (EventAnswers.is_loaded ask id root first rest ranges) same = not_it e refl same
  answered call e answer (EventAnswers.is_there ask id root ranges) same = not_it e refl same
  answered call e answer (EventAnswers.is_absent ask) same = not_it e refl same
  answered call e answer (EventAnswers.is_not_opened ask fault) same = not_it e refl same
  answered call e answer (EventAnswers.dies handle first rest) same = not_it e refl same
  answered call e answer (EventAnswers.stays handle) same = not_it e refl same
  answered call e answer (EventAnswers.is_not_closed handle fault) same = not_it e refl same
  answered call e answer (EventAnswers.is_unmapped set) same = not_it e refl same
  answered call e answer (EventAnswers.is_granted own eights at n chose v eight) same =
      let owners : own ≡ owner = cc in
      let slots : at ≡ slot = cc in
      let harts : h ≡ hart = cc in
      let numbers : n ≡ number = cc in
      let values : v ≡ value = cc in
      record {
        own = sym harts;
        asked = λ i. resolves (owners i) ((eight ∙ ap (λ (k : ℕ). 8 * k) slots) i);
        granting = _;
        is = refl;
        number_is = numbers;
        value_is = values;
      }
  answered call e answer (EventAnswers.is_unresolved own eights at eight) same = not_it e refl same
  answered call e answer (EventAnswers.is_not_code own eights at serial index eight) same = not_it e refl same
  answered call e answer (EventAnswers.is_found ask serial index v) same = not_it e refl same
  answered call e answer (EventAnswers.is_not_found ask fault) same = not_it e refl same
  answered call e answer (EventAnswers.is_told fault) same = not_it e refl same
  answered call e answer (EventAnswers.is_written bytes) same = not_it e refl same

  given_grants : (call : Call) (given : List Event) (answer : Answer) → Gives w past h call given answer → Contains given grant → IsGranting call answer
  given_grants call given answer (Gives.by_event _ e _ answers may) there = answered call e answer answers (only_in e grant there)
  given_grants call given answer (Gives.by_first_block ask e f v finds) there =
      never (e ∷ f ∷ []) (both_none (e ∷ []) (f ∷ []) (one_none e (ap is_grant finds.gets)) (one_none f (ap is_grant finds.finds))) there
  given_grants call given answer (Gives.in_new_block n offset block e gets) there = never (e ∷ []) (one_none e (ap is_grant gets.is)) there
  given_grants call given answer (Gives.in_block n offset block has) there = absurd (none_in grant there)
  given_grants call given answer (Gives.to_again _ for shows) there = absurd (none_in grant there)
  given_grants call given answer (Gives.to_end _ reason ends_so) there = absurd (none_in grant there)

  ending_none : (answer : Answer) → HasNone (ending h answer)
  ending_none (returns v) = empty_none
  ending_none (loading root added) = empty_none
  ending_none (closing set) = empty_none
  ending_none (refused fault) = empty_none
  ending_none (granted g) = empty_none
  ending_none (told fault) = empty_none
  ending_none (again for) = empty_none
  ending_none (over reason) = one_none (events.Ended h reason) refl

  serves_grants : (call : Call) (appended : List Event) (answer : Answer) → Serves w past h call appended answer → Contains appended grant
      → IsGranting call answer
  serves_grants call appended answer serves there = ⊎_elim
      (given_grants call serves.given answer serves.gives)
      (never (ending h answer) (ending_none answer))
      (Contains-append_cases serves.given (ending h answer) grant (subst (λ (es : List Event). Contains es grant) serves.are there))

  told_in : (text : ℕ) (to : Return) (fault : Option DlFault) (appended : List Event) (did : Did) (c : HartState) → TellsOf text b to fault appended did c
      → Contains (events_of did) grant → Contains appended grant
  told_in text to (Some fault) appended did c x there = subst (λ (d : Did). Contains (events_of d) grant) x.is there
  told_in text to None appended did c x there = subst (λ (d : Did). Contains (events_of d) grant) x.is there

  -- of the events that pass behind a call none is a grant
  before_passings : (purpose : Purpose) (appended : List Event) (objects : List ℕ) → Contains (appended ++ map (passing purpose h) objects) grant
      → Contains appended grant
  before_passings purpose appended objects there = ⊎_elim
      (λ (x : Contains appended grant). x)
      (never (map (passing purpose h) objects) (passings_none purpose h objects))
      (Contains-append_cases appended (map (passing purpose h) objects) grant there)

  in_appended : (asked : Call) (to : Return) (answer : Answer) (appended : List Event) (did : Did) (c : HartState)
      → Takes w past h b asked to answer appended did c → Contains (events_of did) grant → Contains appended grant
  in_appended asked to (returns v) appended did c x there = subst (λ (d : Did). Contains (events_of d) grant) x.is there
  in_appended asked to (loading root added) appended did c x there =
      before_passings (Purpose.of_opening to.to root) appended (passed x.functions) (subst (λ (d : Did). Contains (events_of d) grant) x.passes.is there)
  in_appended asked to (closing set) appended did c x there =
      before_passings (Purpose.of_closing to.to set) appended (passed x.functions) (subst (λ (d : Did). Contains (events_of d) grant) x.passes.is there)
  in_appended asked to (refused fault) appended did c x there = subst (λ (d : Did). Contains (events_of d) grant) x.is there
  in_appended asked to (granted g) appended did c x there = subst (λ (d : Did). Contains (events_of d) grant) x.is there
  in_appended asked to (told fault) appended did c x there = told_in _ to fault appended did c x there
  in_appended asked to (again for) appended did c x there = absurd (none_in grant (subst (λ (d : Did). Contains (events_of d) grant) x.is there))
  in_appended asked to (over reason) appended did c x there = subst (λ (d : Did). Contains (events_of d) grant) x.is there

  by_calls : (asked : Call) (to : Return) (did : Did) (c : HartState) → due (after past) b ≡ Due.serve asked to → Calls w past h b asked to did c
      → Contains (events_of did) grant → IsGrantedInCall past h b c number hart owner slot value
  by_calls asked to did c is x there =
      let it = serves_grants asked x.appended x.answer x.serves (in_appended asked to x.answer x.appended did c x.takes there) in
      let takes : Resolves past b it.granting x.appended did c = subst (λ (answer : Answer). Takes w past h b asked to answer x.appended did c) it.is x.takes in
      record {
        own = it.own;
        back = to;
        is_due = is ∙ ap (λ (call : Call). Due.serve call to) it.asked;
        offered = takes.offered;
        exchanges = ap (λ (z : HartState). z.resolving) takes.leaves;
        number_is = ap (λ (o : Offered). o.number) takes.offer.is ∙ it.number_is;
        value_is = ap (λ (o : Offered). o.value) takes.offer.is ∙ it.value_is;
      }

  -- ---- a turn

  by_due : (d : Due) (did : Did) (c : HartState) → due (after past) b ≡ d → MovesAs w past h b d did c → Contains (events_of did) grant
      → IsGrantedInCall past h b c number hart owner slot value
  by_due Due.nothing did c is x there = absurd x
  by_due (Due.exchange o) did c is x there = never (events_of did) (subst DidNone (sym x.is) empty_none) there
  by_due (Due.finish o found) did c is x there = never (events_of did) (subst DidNone (sym x.is) empty_none) there
  by_due Due.fuel_out did c is x there = never (events_of did) (ends_none w past h b [] FuelOut did c x) there
  by_due Due.instruction did c is x there = never (events_of did) (place_none w past h b x.items x.place did c x.comes) there
  by_due (Due.copy copy start bytes) did c is x there =
      never (events_of did) (copy_none w past h b (copied_item start bytes x.answer ∷ []) copy start bytes x.answer did c x.comes) there
  by_due (Due.serve asked to) did c is x there = by_calls asked to did c is x there
  by_due (Due.wait for) did c is x there = never (events_of did) (subst DidNone (sym x.is) empty_none) there
  by_due (Due.store text stored word more) did c is x there =
      never (events_of did) (store_none w past h b (Write (text + 8 * stored) 8 word x.answer ∷ []) text stored more x.answer did c x.comes) there
  by_due (Due.enter function frames) did c is x there = never (events_of did) (subst DidNone (sym x.is) empty_none) there
  by_due (Due.complete purpose object rest below) did c is x there =
      never (events_of did) (subst DidNone (sym x.passes.is) (passings_none purpose h (object ∷ passed rest))) there
  by_due (Due.finalise code object) did c is (inl x) there =
      never (own_fini (after past) h object ++ x.events)
      (both_none (own_fini (after past) h object) x.events (own_none past h object) (finals_none w h (past ++ own_fini (after past) h object) x.events x.next x.finals))
      (subst (λ (es : List Event). Contains es grant) (did_events (own_fini (after past) h object ++ x.events)) (subst (λ (d : Did). Contains (events_of d) grant) x.is there))
  by_due (Due.finalise code object) did c is (inr x) there = never (events_of did) (ends_none w past h (spent b) [] Memory did c x) there

pub grants_in_calls : (w : Setting) (past : List Event) (h : ℕ) (b c : HartState) (did : Did) → Moves w past h b did c → GrantsInCalls past h b did c
grants_in_calls w past h b c did moves number hart owner slot value choice there =
    by_due w past h b number hart owner slot value choice (due (after past) b) did c refl moves there
