-- What a hart did settles where it is left.
use Rattle.std.proofs.Common.{◌≡◌, ◌⊎◌, inl, inr, ℕ, ◌+◌, ◌*◌, Bool, true, false, not, cond, ◌&&◌, List, [], ◌∷◌, ◌++◌, length, map, take, Option, Some, None, Result, Ok, Err, refl, sym, ap, subst, ◌∙◌, true≢false}
use Rattle.std.specs.List.{slice_get}
use Rattle.std.specs.Option.{is_some}
use Rattle.ld_base.specs.declared.fault.DlFault.{DlFault}
use Rattle.ld_base.specs.declared.fault.Shown.{Shown}
use Rattle.ld_base.specs.declared.object.Reloc.{Reloc}
use Rattle.history_event.specs.declared.event.Event.{Event}
use Rattle.history_event.specs.declared.event.Event.TheVariants.{Ended, Fini}
use Rattle.history_event.specs.declared.handed.Function.{Function}
use Rattle.history_event.specs.declared.hart_end.HartEnd.{HartEnd}
use Rattle.history_event.specs.declared.hart_end.HartEnd.TheVariants as ends
use Rattle.history_event.specs.declared.state.Granting.{Granting}
use Rattle.relocator.specs.Relocated.{moved_word}
use Rattle.rv_hart.specs.declared.bus.BusFault.{BusFault}
use Rattle.rv_hart.specs.declared.bus.BusFault.TheVariants.{Role as RoleFault, Misaligned, Again}
use Rattle.rv_hart.specs.declared.bus.Item.{Item}
use Rattle.rv_hart.specs.declared.bus.Item.TheVariants.{Read, Write}
use Rattle.rv_hart.specs.declared.stepping.Stop.{Stop}
use Rattle.rv_hart.specs.declared.stepping.Stop.TheVariants as stop
use Rattle.rv_hart.specs.Laws.{OneEnd, StepLeads}
use Rattle.rv_hart.specs.Trail.{IsStep, Place, Ready, Accessing, Stopped}
use Rattle.history_state.specs.After.{after}
use Rattle.history_state.specs.Laws.{slot_address}
use Rattle.history_state.specs.Memory.{image_of}
use Rattle.history_state.specs.Objects.{has, object_at, serial_of}
use Rattle.history_state.specs.Setting.{Setting}
use Rattle.history_state.specs.State.{Linked, State}
use Rattle.history_calls.specs.Answer.{Answer, returns, loading, closing, refused, granted, told, again, over}
use Rattle.history_calls.specs.Call.{Call}
use Rattle.history_calls.specs.Functions.{AreAddresses, AreConstructors, AreDestructors, destructors, left}
use Rattle.history_calls.specs.Lemmas.OneOrder.{one_finalisation, one_initialisation}
use Rattle.history_calls.specs.Lemmas.Unique.{both_found}
use Rattle.hart_moves.specs.Copying.{Copy}
use Rattle.hart_moves.specs.Due.{Due, Return, due}
use Rattle.hart_moves.specs.Follows.{Follows, Turned}
use Rattle.hart_moves.specs.Harts.{HartState, Offered, Purpose, Resolving}
use Rattle.hart_moves.specs.Laws.{OneHart}
use Rattle.hart_moves.specs.Laws as laws
use Rattle.hart_moves.specs.Moves.{Did, did_by, events_of, spent, freed, freed_by, TurnEnds, EndsObject, Traps, Trap, trap_of, TurnRefuses, TurnStops, Comes, Unread, CopiesBy, copied_item, StoresBy, all_finis, own_fini, Finals, final_functions, runs, IsOffer, Takes, TellsOf, MovesAs, Calls, Finalises, Instructs, Copies, StoresText}
use Rattle.hart_moves.proofs.Answering.{Leads, Tells, answer_from, tells}

-- ---- calls of the bus

abbrev pub items_of : Did → List Item
items_of (Did.quiet items) = items
items_of (Did.serves items appended) = items
items_of (Did.waits for) = []
items_of (Did.exchanges o found) = []
items_of Did.finishes = []

trap_items : (w : Setting) (past : List Event) (h : ℕ) (b : HartState) (items : List Item) (trap : Trap) (did : Did) (c : HartState) → Traps w past h b items trap did c → items_of did ≡ items
trap_items w past h b items (Trap.exits code) did c x = ap items_of x.is
trap_items w past h b items (Trap.gives value) did c x = ap items_of x.is
trap_items w past h b items Trap.writes did c x = ap items_of x.is

refused_items : (w : Setting) (past : List Event) (h : ℕ) (b : HartState) (items : List Item) (address : ℕ) (fault : BusFault) (did : Did) (c : HartState) → TurnRefuses w past h b items address fault did c → items_of did ≡ items
refused_items w past h b items address (RoleFault role) did c x = ap items_of x.is
refused_items w past h b items address Misaligned did c x = ap items_of x.is
refused_items w past h b items address (Again shown) did c x = ap items_of x.is

stop_items : (w : Setting) (past : List Event) (h : ℕ) (b : HartState) (items : List Item) (s : Stop) (did : Did) (c : HartState) → TurnStops w past h b items s did c → items_of did ≡ items
stop_items w past h b items stop.Ecall did c x = trap_items w past h b items (trap_of b.registers) did c x
stop_items w past h b items stop.Break did c x = ap items_of x.is
stop_items w past h b items (stop.Bad word) did c x = ap items_of x.is
stop_items w past h b items (stop.Misaligned address) did c x = ap items_of x.is
stop_items w past h b items (stop.Refused address fault) did c x = refused_items w past h b items address fault did c x

come_items : (w : Setting) (past : List Event) (h : ℕ) (b : HartState) (items : List Item) (place : Place) (did : Did) (c : HartState) → Comes w past h b items place did c → items_of did ≡ items
come_items w past h b items (Ready r) did c x = ap items_of x.is
come_items w past h b items (Accessing r decoded) did c x = absurd x
come_items w past h b items (Stopped r s) did c x = stop_items w past h b items s did c x

-- ---- an instruction

trap_once : (w : Setting) (past : List Event) (h : ℕ) (b : HartState) (items : List Item) (trap : Trap) (did : Did) (c d : HartState) → Traps w past h b items trap did c → Traps w past h b items trap did d → c ≡ d
trap_once w past h b items (Trap.exits code) did c d x y = x.leaves ∙ sym y.leaves
trap_once w past h b items (Trap.gives value) did c d x y = x.leaves ∙ sym y.leaves
trap_once w past h b items Trap.writes did c d x y = x.leaves ∙ sym y.leaves

refused_once : (w : Setting) (past : List Event) (h : ℕ) (b : HartState) (items : List Item) (address : ℕ) (fault : BusFault) (did : Did) (c d : HartState) → TurnRefuses w past h b items address fault did c → TurnRefuses w past h b items address fault did d → c ≡ d
refused_once w past h b items address (RoleFault role) did c d x y = x.leaves ∙ sym y.leaves
refused_once w past h b items address Misaligned did c d x y = x.leaves ∙ sym y.leaves
refused_once w past h b items address (Again shown) did c d x y = x.leaves ∙ sym y.leaves

stop_once : (w : Setting) (past : List Event) (h : ℕ) (b : HartState) (items : List Item) (s : Stop) (did : Did) (c d : HartState) → TurnStops w past h b items s did c → TurnStops w past h b items s did d → c ≡ d
stop_once w past h b items stop.Ecall did c d x y = trap_once w past h b items (trap_of b.registers) did c d x y
stop_once w past h b items stop.Break did c d x y = x.leaves ∙ sym y.leaves
stop_once w past h b items (stop.Bad word) did c d x y = x.leaves ∙ sym y.leaves
stop_once w past h b items (stop.Misaligned address) did c d x y = x.leaves ∙ sym y.leaves
stop_once w past h b items (stop.Refused address fault) did c d x y = refused_once w past h b items address fault did c d x y

come_once : (w : Setting) (past : List Event) (h : ℕ) (b : HartState) (items : List Item) (place : Place) (did : Did) (c d : HartState) → Comes w past h b items place did c → Comes w past h b items place did d → c ≡ d
come_once w past h b items (Ready r) did c d x y = x.leaves ∙ sym y.leaves
come_once w past h b items (Accessing r decoded) did c d x y = absurd x
come_once w past h b items (Stopped r s) did c d x y = stop_once w past h b items s did c d x y

instruct_once : OneEnd → StepLeads → (w : Setting) (past : List Event) (h : ℕ) (b : HartState) (did : Did) (c d : HartState) → Instructs w past h b did c → Instructs w past h b did d → c ≡ d
instruct_once one leads w past h b did c d x y =
    let items : y.items ≡ x.items = sym (come_items w past h b y.items y.place did d y.comes) ∙ come_items w past h b x.items x.place did c x.comes in
    let step : IsStep b.registers x.items y.place = subst (λ (is : List Item). IsStep b.registers is y.place) items y.step in
    let place : y.place ≡ x.place = one (Ready b.registers) x.items y.place x.place (leads b.registers x.items y.place step) (leads b.registers x.items x.place x.step) in
    come_once w past h b x.items x.place did c d x.comes
    (subst (λ (p : Place). Comes w past h b x.items p did d) place (subst (λ (is : List Item). Comes w past h b is y.place did d) items y.comes))

-- ---- a copied doubleword, and a stored one

unread_items : (w : Setting) (past : List Event) (h : ℕ) (b : HartState) (items : List Item) (copy : Copy) (address : ℕ) (did : Did) (c : HartState) → Unread w past h b items copy address did c → items_of did ≡ items
unread_items w past h b items (Copy.of_name n) address did c x = ap items_of x.is
unread_items w past h b items (Copy.of_version name) address did c x = ap items_of x.is
unread_items w past h b items Copy.of_pair address did c x = ap items_of x.is
unread_items w past h b items (Copy.of_text count) address did c x = ap items_of x.is

unread_once : (w : Setting) (past : List Event) (h : ℕ) (b : HartState) (items : List Item) (copy : Copy) (address : ℕ) (did : Did) (c d : HartState) → Unread w past h b items copy address did c → Unread w past h b items copy address did d → c ≡ d
unread_once w past h b items (Copy.of_name n) address did c d x y = x.leaves ∙ sym y.leaves
unread_once w past h b items (Copy.of_version name) address did c d x y = x.leaves ∙ sym y.leaves
unread_once w past h b items Copy.of_pair address did c d x y = x.leaves ∙ sym y.leaves
unread_once w past h b items (Copy.of_text count) address did c d x y = x.leaves ∙ sym y.leaves

pub copy_items : (w : Setting) (past : List Event) (h : ℕ) (b : HartState) (items : List Item) (copy : Copy) (start : ℕ) (bytes : List ℕ) (answer : Result ℕ BusFault) (did : Did) (c : HartState)
    → CopiesBy w past h b items copy start bytes answer did c → items_of did ≡ items
copy_items w past h b items copy start bytes (Ok word) did c x = ap items_of x.is
copy_items w past h b items copy start bytes (Err (RoleFault role)) did c x = unread_items w past h b items copy _ did c x
copy_items w past h b items copy start bytes (Err Misaligned) did c x = absurd x
copy_items w past h b items copy start bytes (Err (Again shown)) did c x = ap items_of x.is

copy_by_once : (w : Setting) (past : List Event) (h : ℕ) (b : HartState) (items : List Item) (copy : Copy) (start : ℕ) (bytes : List ℕ) (answer : Result ℕ BusFault) (did : Did) (c d : HartState)
    → CopiesBy w past h b items copy start bytes answer did c → CopiesBy w past h b items copy start bytes answer did d → c ≡ d
copy_by_once w past h b items copy start bytes (Ok word) did c d x y = x.leaves ∙ sym y.leaves
copy_by_once w past h b items copy start bytes (Err (RoleFault role)) did c d x y = unread_once w past h b items copy _ did c d x y
copy_by_once w past h b items copy start bytes (Err Misaligned) did c d x y = absurd x
copy_by_once w past h b items copy start bytes (Err (Again shown)) did c d x y = x.leaves ∙ sym y.leaves

one_read : (address size : ℕ) (answer other : Result ℕ BusFault) → Read address size answer ∷ [] ≡ Read address size other ∷ [] → answer ≡ other
one_read address size answer other e = cc

one_write : (address size value : ℕ) (answer other : Result Unit BusFault) → Write address size value answer ∷ [] ≡ Write address size value other ∷ [] → answer ≡ other
one_write address size value answer other e = cc

copies_once : (w : Setting) (past : List Event) (h : ℕ) (b : HartState) (copy : Copy) (start : ℕ) (bytes : List ℕ) (did : Did) (c d : HartState) → Copies w past h b copy start bytes did c → Copies w past h b copy start bytes did d → c ≡ d
copies_once w past h b copy start bytes did c d x y =
    let items : copied_item start bytes y.answer ∷ [] ≡ copied_item start bytes x.answer ∷ [] =
    sym (copy_items w past h b (copied_item start bytes y.answer ∷ []) copy start bytes y.answer did d y.comes) ∙ copy_items w past h b (copied_item start bytes x.answer ∷ []) copy start bytes x.answer did c x.comes in
    let same : y.answer ≡ x.answer = one_read _ 8 y.answer x.answer items in
    copy_by_once w past h b (copied_item start bytes x.answer ∷ []) copy start bytes x.answer did c d x.comes
    (subst (λ (a : Result ℕ BusFault). CopiesBy w past h b (copied_item start bytes a ∷ []) copy start bytes a did d) same y.comes)

store_items : (w : Setting) (past : List Event) (h : ℕ) (b : HartState) (items : List Item) (text stored : ℕ) (more : List ℕ) (answer : Result Unit BusFault) (did : Did) (c : HartState)
    → StoresBy w past h b items text stored more answer did c → items_of did ≡ items
store_items w past h b items text stored more (Ok done) did c x = ap items_of x.is
store_items w past h b items text stored more (Err (RoleFault role)) did c x = ap items_of x.is
store_items w past h b items text stored more (Err Misaligned) did c x = absurd x
store_items w past h b items text stored more (Err (Again shown)) did c x = ap items_of x.is

store_by_once : (w : Setting) (past : List Event) (h : ℕ) (b : HartState) (items : List Item) (text stored : ℕ) (more : List ℕ) (answer : Result Unit BusFault) (did : Did) (c d : HartState)
    → StoresBy w past h b items text stored more answer did c → StoresBy w past h b items text stored more answer did d → c ≡ d
store_by_once w past h b items text stored more (Ok done) did c d x y = x.leaves ∙ sym y.leaves
store_by_once w past h b items text stored more (Err (RoleFault role)) did c d x y = x.leaves ∙ sym y.leaves
store_by_once w past h b items text stored more (Err Misaligned) did c d x y = absurd x
store_by_once w past h b items text stored more (Err (Again shown)) did c d x y = x.leaves ∙ sym y.leaves

stores_once : (w : Setting) (past : List Event) (h : ℕ) (b : HartState) (text stored word : ℕ) (more : List ℕ) (did : Did) (c d : HartState) → StoresText w past h b text stored word more did c → StoresText w past h b text stored word more did d → c ≡ d
stores_once w past h b text stored word more did c d x y =
    let at : ℕ = text + 8 * stored in
    let items : Write at 8 word y.answer ∷ [] ≡ Write at 8 word x.answer ∷ [] =
    sym (store_items w past h b (Write at 8 word y.answer ∷ []) text stored more y.answer did d y.comes) ∙ store_items w past h b (Write at 8 word x.answer ∷ []) text stored more x.answer did c x.comes in
    let same : y.answer ≡ x.answer = one_write at 8 word y.answer x.answer items in
    store_by_once w past h b (Write at 8 word x.answer ∷ []) text stored more x.answer did c d x.comes
    (subst (λ (a : Result Unit BusFault). StoresBy w past h b (Write at 8 word a ∷ []) text stored more a did d) same y.comes)

-- ---- the final destructors

no_first : (x : ℕ) (xs ys : List ℕ) → ys ≡ [] → ys ≡ x ∷ xs → ⊥
no_first x xs ys a b = let e : [] ≡ x ∷ xs = sym a ∙ b in cc

same_first : (x y : ℕ) (xs ys zs : List ℕ) → zs ≡ x ∷ xs → zs ≡ y ∷ ys → x ≡ y
same_first x y xs ys zs a b = let e : x ∷ xs ≡ y ∷ ys = sym a ∙ b in cc

one_list : (image : Option Linked) (xs ys : List ℕ) → AreAddresses destructors xs image → AreAddresses destructors ys image → xs ≡ ys
one_list (Some m) xs ys x y = x ∙ sym y
one_list None xs ys x y = absurd x

abbrev functions_of : ℕ → List ℕ → Function
functions_of o list = record { object = o; addresses = list }

pub finals_once : (w : Setting) (h : ℕ) (past events others : List Event) (next other : Option Function) → Finals w h past events next → Finals w h past others other → (events ≡ others) × (next ≡ other)
finals_once w h past events others next other (Finals.no_more _ none) (Finals.no_more _ also) = (refl, refl)
finals_once w h past events others next other (Finals.no_more _ none) (Finals.one_runs _ object function rest more finis addresses) = absurd (no_first object rest (all_finis (after past)) none finis)
finals_once w h past events others next other (Finals.no_more _ none) (Finals.one_passes _ object rest behind last finis addresses may finals) = absurd (no_first object rest (all_finis (after past)) none finis)
finals_once w h past events others next other (Finals.one_runs _ object function rest more finis addresses) (Finals.no_more _ none) = absurd (no_first object rest (all_finis (after past)) none finis)
finals_once w h past events others next other (Finals.one_runs _ object function rest more finis addresses) (Finals.one_runs _ p f r m fs entries) =
    let same : p ≡ object = same_first p object r rest (all_finis (after past)) fs finis in
    let list : function ∷ more ≡ f ∷ m = one_list (image_of (after past) object) (function ∷ more) (f ∷ m) addresses (subst (λ (n : ℕ). AreAddresses destructors (f ∷ m) (image_of (after past) n)) same entries) in
    (refl, ap (λ (list : List ℕ). Some (functions_of object list)) list ∙ ap (λ (n : ℕ). Some (functions_of n (f ∷ m))) (sym same))
finals_once w h past events others next other (Finals.one_runs _ object function rest more finis addresses) (Finals.one_passes _ p r behind last fs entries may finals) =
    let same : p ≡ object = same_first p object r rest (all_finis (after past)) fs finis in
    let list : [] ≡ function ∷ more = one_list (image_of (after past) object) [] (function ∷ more) (subst (λ (n : ℕ). AreAddresses destructors [] (image_of (after past) n)) same entries) addresses in
    absurd (no_first function more [] refl list)
finals_once w h past events others next other (Finals.one_passes _ object rest behind last finis addresses may finals) (Finals.no_more _ none) = absurd (no_first object rest (all_finis (after past)) none finis)
finals_once w h past events others next other (Finals.one_passes _ object rest behind last finis addresses may finals) (Finals.one_runs _ p f r m fs entries) =
    let same : p ≡ object = same_first p object r rest (all_finis (after past)) fs finis in
    let list : [] ≡ f ∷ m = one_list (image_of (after past) object) [] (f ∷ m) addresses (subst (λ (n : ℕ). AreAddresses destructors (f ∷ m) (image_of (after past) n)) same entries) in
    absurd (no_first f m [] refl list)
finals_once w h past events others next other (Finals.one_passes _ object rest behind last finis addresses may finals) (Finals.one_passes _ p r b l fs entries m more) =
    let same : p ≡ object = same_first p object r rest (all_finis (after past)) fs finis in
    let later : Finals w h (past ++ Fini h object ∷ []) b l = subst (λ (n : ℕ). Finals w h (past ++ Fini h n ∷ []) b l) same more in
    let both = finals_once w h (past ++ Fini h object ∷ []) behind b last l finals later in
    (ap (λ (es : List Event). Fini h object ∷ es) both.0 ∙ ap (λ (n : ℕ). Fini h n ∷ b) (sym same), both.1)

finalises_once : (w : Setting) (past : List Event) (h : ℕ) (b : HartState) (code object : ℕ) (did : Did) (c d : HartState) → Finalises w past h b code object did c → Finalises w past h b code object did d → c ≡ d
finalises_once w past h b code object did c d x y =
    let own : List Event = own_fini (after past) h object in
    let both = finals_once w h (past ++ own) x.events y.events x.next y.next x.finals y.finals in
    x.leaves
    ∙ ap (λ (f : Option Function). spent (runs (Purpose.of_end code) (final_functions f) [] (freed_by (own ++ x.events) b))) both.1
    ∙ ap (λ (es : List Event). spent (runs (Purpose.of_end code) (final_functions y.next) [] (freed_by (own ++ es) b))) both.0
    ∙ sym y.leaves

-- their events aren't an end
first_finals : (w : Setting) (h : ℕ) (past events more : List Event) (next : Option Function) (reason : HartEnd) → Finals w h past events next → events ≡ Ended h reason ∷ more → ⊥
first_finals w h past events more next reason (Finals.no_more _ none) e = let no : [] ≡ Ended h reason ∷ more = e in cc
first_finals w h past events more next reason (Finals.one_runs _ object function rest others finis addresses) e = let no : [] ≡ Ended h reason ∷ more = e in cc
first_finals w h past events more next reason (Finals.one_passes _ object rest behind last finis addresses may finals) e = let no : Fini h object ∷ behind ≡ Ended h reason ∷ more = e in cc

by_one : (events more : List Event) (e : Event) → did_by events ≡ Did.serves [] (e ∷ more) → events ≡ e ∷ more
by_one [] more e is = absurd (let no : Did.quiet [] ≡ Did.serves [] (e ∷ more) = is in cc)
by_one (f ∷ rest) more e is = let same : Did.serves [] (f ∷ rest) ≡ Did.serves [] (e ∷ more) = is in cc

not_both : (w : Setting) (past : List Event) (h : ℕ) (b : HartState) (code object : ℕ) (reason : HartEnd) (did : Did) (c d : HartState) → Finalises w past h b code object did c → TurnEnds w past h (spent b) [] reason did d → ⊥
not_both w past h b code object reason did c d x y = by (is_some (object_at (after past) object) && not (has (after past).finis object)) x.finals (by_one _ [] (Ended h reason) (sym x.is ∙ y.is))
  where
    own : Bool → List Event
    own t = cond t (Fini h object ∷ []) []

    by : (t : Bool) → Finals w h (past ++ own t) x.events x.next → own t ++ x.events ≡ Ended h reason ∷ [] → ⊥
    by true finals e = let no : Fini h object ∷ x.events ≡ Ended h reason ∷ [] = e in cc
    by false finals e = first_finals w h (past ++ []) x.events [] x.next reason finals e

object_once : (w : Setting) (past : List Event) (h : ℕ) (b : HartState) (code object : ℕ) (did : Did) (c d : HartState) → EndsObject w past h b code object did c → EndsObject w past h b code object did d → c ≡ d
object_once w past h b code object did c d (inl x) (inl y) = finalises_once w past h b code object did c d x y
object_once w past h b code object did c d (inl x) (inr y) = absurd (not_both w past h b code object ends.Memory did c d x y)
object_once w past h b code object did c d (inr x) (inl y) = absurd (not_both w past h b code object ends.Memory did d c y x)
object_once w past h b code object did c d (inr x) (inr y) = x.leaves ∙ sym y.leaves

-- ---- a service

abbrev is_service : Did → Bool
is_service (Did.quiet items) = false
is_service (Did.serves items appended) = true
is_service (Did.waits for) = false
is_service (Did.exchanges o found) = false
is_service Did.finishes = false

-- what was done tells the answer
abbrev Said : State → ℕ → Call → Did → Answer → Type 0
Said s h call did answer = ((for : Shown) × (answer ≡ again for) × (did ≡ Did.waits for)) ⊎ ((is_service did ≡ true) × (answer_from s h call (events_of did) ≡ answer))

by_events : (s : State) (h : ℕ) (call : Call) (did : Did) (answer : Answer) (appended : List Event) → did ≡ Did.serves [] appended → answer_from s h call appended ≡ answer → Said s h call did answer
by_events s h call did answer appended is tells = inr (ap is_service is, ap (λ (d : Did). answer_from s h call (events_of d)) is ∙ tells)

by_first : (s : State) (h : ℕ) (call : Call) (did : Did) (answer : Answer) (appended more : List Event) → did ≡ Did.serves [] (appended ++ more) → Leads call appended answer → Said s h call did answer
by_first s h call did answer appended more is leads =
    by_events s h call did answer (appended ++ more) is (ap (λ (es : List Event). answer_from s h call (es ++ more)) leads.alone ∙ leads.answers more)

told_said : (w : Setting) (past : List Event) (h : ℕ) (b : HartState) (call : Call) (back : Return) (text : ℕ) (fault : Option DlFault) (appended : List Event) (did : Did) (c : HartState)
    → answer_from (after past) h call appended ≡ told fault → TellsOf text b back fault appended did c → Said (after past) h call did (told fault)
told_said w past h b call back text (Some fault) appended did c tells x = by_events (after past) h call did (told (Some fault)) appended x.is tells
told_said w past h b call back text None appended did c tells x = by_events (after past) h call did (told None) appended x.is tells

said : (w : Setting) (past : List Event) (h : ℕ) (b : HartState) (call : Call) (back : Return) (answer : Answer) (appended : List Event) (did : Did) (c : HartState)
    → Tells (after past) h call appended answer → Takes w past h b call back answer appended did c → Said (after past) h call did answer
said w past h b call back (returns value) appended did c tells x = by_events (after past) h call did (returns value) appended x.is tells
said w past h b call back (loading root added) appended did c tells x = by_first (after past) h call did (loading root added) appended _ x.passes.is tells
said w past h b call back (closing set) appended did c tells x = by_first (after past) h call did (closing set) appended _ x.passes.is tells
said w past h b call back (refused fault) appended did c tells x = by_events (after past) h call did (refused fault) appended x.is tells
said w past h b call back (granted grant) appended did c tells x = by_events (after past) h call did (granted grant) appended x.is tells
said w past h b call back (told fault) appended did c tells x = told_said w past h b call back _ fault appended did c tells x
said w past h b call back (again for) appended did c tells x = inl (for, refl, x.is)
said w past h b call back (over reason) appended did c tells x = by_events (after past) h call did (over reason) appended x.is tells

one_wait : (one other : Shown) → Did.waits one ≡ Did.waits other → one ≡ other
one_wait one other e = cc

no_service : (for : Shown) (did : Did) → did ≡ Did.waits for → is_service did ≡ true → ⊥
no_service for did is served = true≢false (sym served ∙ ap is_service is)

same_said : (s : State) (h : ℕ) (call : Call) (did : Did) (answer other : Answer) → Said s h call did answer → Said s h call did other → answer ≡ other
same_said s h call did answer other (inl x) (inl y) = x.1 ∙ ap again (one_wait x.0 y.0 (sym x.2 ∙ y.2)) ∙ sym y.1
same_said s h call did answer other (inl x) (inr y) = absurd (no_service x.0 did x.2 y.0)
same_said s h call did answer other (inr x) (inl y) = absurd (no_service y.0 did y.2 x.0)
same_said s h call did answer other (inr x) (inr y) = sym x.1 ∙ y.1

-- the offer of a grant
abbrev offer_of : Granting → Linked → Reloc → Offered
offer_of g i r = record { number = g.number; slot = slot_address i r; lazy = moved_word i.object i.base r.place; value = g.value }

one_offer : (s : State) (g : Granting) (o p : Offered) → IsOffer s g o → IsOffer s g p → o ≡ p
one_offer s g o p x y =
    let images : x.image ≡ y.image = both_found (image_of s g.owner) x.image y.image x.found y.found in
    let relocs : x.reloc ≡ y.reloc = both_found (slice_get y.image.object.plt_relocs g.slot) x.reloc y.reloc (subst (λ (i : Linked). slice_get i.object.plt_relocs g.slot ≡ Some x.reloc) images x.at) y.at in
    x.is ∙ ap (λ (i : Linked). offer_of g i x.reloc) images ∙ ap (offer_of g y.image) relocs ∙ sym y.is

first_of_both : (e f : Event) (xs ys more others : List Event) (did : Did) → xs ≡ e ∷ [] → ys ≡ f ∷ [] → did ≡ Did.serves [] (xs ++ more) → did ≡ Did.serves [] (ys ++ others) → xs ≡ ys
first_of_both e f xs ys more others did a b x y =
    let whole : Did.serves [] (e ∷ more) ≡ Did.serves [] (f ∷ others) =
    ap (λ (es : List Event). Did.serves [] (es ++ more)) (sym a) ∙ sym x ∙ y ∙ ap (λ (es : List Event). Did.serves [] (es ++ others)) b in
    a ∙ ap (λ (d : Event). d ∷ []) (heads e f more others whole) ∙ sym b
  where
    heads : (e f : Event) (more others : List Event) → Did.serves [] (e ∷ more) ≡ Did.serves [] (f ∷ others) → e ≡ f
    heads e f more others same = cc

told_once : (text : ℕ) (b : HartState) (back : Return) (fault : Option DlFault) (appended others : List Event) (did : Did) (c d : HartState) → TellsOf text b back fault appended did c → TellsOf text b back fault others did d → c ≡ d
told_once text b back (Some fault) appended others did c d x y = x.leaves ∙ sym y.leaves
told_once text b back None appended others did c d x y = x.leaves ∙ sym y.leaves

takes_once : (w : Setting) (past : List Event) (h : ℕ) (b : HartState) (call : Call) (back : Return) (answer : Answer) (appended others : List Event) (did : Did) (c d : HartState)
    → Tells (after past) h call appended answer → Tells (after past) h call others answer
    → Takes w past h b call back answer appended did c → Takes w past h b call back answer others did d → c ≡ d
takes_once w past h b call back (returns value) appended others did c d p q x y = x.leaves ∙ sym y.leaves
takes_once w past h b call back (loading root added) appended others did c d p q x y =
    let same : others ≡ appended = first_of_both q.first p.first others appended _ _ did q.alone p.alone y.passes.is x.passes.is in
    let functions : x.functions ≡ y.functions = one_initialisation (after (past ++ appended)) (map serial_of added) x.functions y.functions x.are
    (subst (λ (es : List Event). AreConstructors (after (past ++ es)) (map serial_of added) y.functions) same y.are) in
    x.passes.leaves ∙ ap (λ (fs : List Function). spent (runs (Purpose.of_opening back.to root) (left fs) back.frames (freed b))) functions ∙ sym y.passes.leaves
takes_once w past h b call back (closing set) appended others did c d p q x y =
    let same : others ≡ appended = first_of_both q.first p.first others appended _ _ did q.alone p.alone y.passes.is x.passes.is in
    let functions : x.functions ≡ y.functions = one_finalisation (after (past ++ appended)) set x.functions y.functions x.are
    (subst (λ (es : List Event). AreDestructors (after (past ++ es)) set y.functions) same y.are) in
    x.passes.leaves ∙ ap (λ (fs : List Function). spent (runs (Purpose.of_closing back.to set) (left fs) back.frames (freed b))) functions ∙ sym y.passes.leaves
takes_once w past h b call back (refused fault) appended others did c d p q x y = x.leaves ∙ sym y.leaves
takes_once w past h b call back (granted grant) appended others did c d p q x y =
    x.leaves ∙ ap (λ (o : Offered). spent (record b { resolving = Resolving.to_exchange o })) (one_offer (after past) grant x.offered y.offered x.offer y.offer) ∙ sym y.leaves
takes_once w past h b call back (told fault) appended others did c d p q x y = told_once _ b back fault appended others did c d x y
takes_once w past h b call back (again for) appended others did c d p q x y = x.leaves ∙ sym y.leaves
takes_once w past h b call back (over reason) appended others did c d p q x y = x.leaves ∙ sym y.leaves

calls_once : (w : Setting) (past : List Event) (h : ℕ) (b : HartState) (call : Call) (back : Return) (did : Did) (c d : HartState) → Calls w past h b call back did c → Calls w past h b call back did d → c ≡ d
calls_once w past h b call back did c d x y =
    let one : Tells (after past) h call x.appended x.answer = tells w past h call x.appended x.answer x.serves in
    let other : Tells (after past) h call y.appended y.answer = tells w past h call y.appended y.answer y.serves in
    let same : y.answer ≡ x.answer = same_said (after past) h call did y.answer x.answer
    (said w past h b call back y.answer y.appended did d other y.takes) (said w past h b call back x.answer x.appended did c one x.takes) in
    takes_once w past h b call back x.answer x.appended y.appended did c d one
    (subst (λ (a : Answer). Tells (after past) h call y.appended a) same other) x.takes
    (subst (λ (a : Answer). Takes w past h b call back a y.appended did d) same y.takes)

-- ---- a turn

found_once : (b : HartState) (o : Offered) (f g : ℕ) → Did.exchanges o f ≡ Did.exchanges o g → f ≡ g
found_once b o f g e = cc

moves_once : OneEnd → StepLeads → (w : Setting) (past : List Event) (h : ℕ) (b : HartState) (turn : Due) (did : Did) (c d : HartState) → MovesAs w past h b turn did c → MovesAs w past h b turn did d → c ≡ d
moves_once one leads w past h b Due.nothing did c d x y = absurd x
moves_once one leads w past h b (Due.exchange o) did c d x y =
    x.leaves ∙ ap (λ (f : ℕ). spent (record b { resolving = Resolving.to_finish o f })) (found_once b o x.found y.found (sym x.is ∙ y.is)) ∙ sym y.leaves
moves_once one leads w past h b (Due.finish o found) did c d x y = x.leaves ∙ sym y.leaves
moves_once one leads w past h b Due.fuel_out did c d x y = x.leaves ∙ sym y.leaves
moves_once one leads w past h b Due.instruction did c d x y = instruct_once one leads w past h b did c d x y
moves_once one leads w past h b (Due.copy copy start bytes) did c d x y = copies_once w past h b copy start bytes did c d x y
moves_once one leads w past h b (Due.serve call back) did c d x y = calls_once w past h b call back did c d x y
moves_once one leads w past h b (Due.wait for) did c d x y = x.leaves ∙ sym y.leaves
moves_once one leads w past h b (Due.store text stored word more) did c d x y = stores_once w past h b text stored word more did c d x y
moves_once one leads w past h b (Due.enter function frames) did c d x y = x.leaves ∙ sym y.leaves
moves_once one leads w past h b (Due.complete purpose object rest below) did c d x y = x.passes.leaves ∙ sym y.passes.leaves
moves_once one leads w past h b (Due.finalise code object) did c d x y = object_once w past h b code object did c d x y

pub one_hart : OneEnd → StepLeads → OneHart
one_hart one leads w past h b c other did x y = moves_once one leads w past h b (due (after past) b) did c other x y

follows_once : OneHart → (w : Setting) (journal : List Event) (h from to at : ℕ) (b c other : HartState) (turns : List Turned) → Follows w journal h from b turns to c
    → Follows w journal h from b turns at other → (to ≡ at) × (c ≡ other)
follows_once one w journal h from to at b c other turns (Follows.no_more _ _) (Follows.no_more _ _) = (refl, refl)
follows_once one w journal h from to at b c other turns (Follows.one_more _ _ _ x _ turn rest late none taken more) (Follows.one_more _ _ _ y _ _ _ later nor took others) =
    follows_once one w journal h (turn.at + length (events_of turn.did)) to at x c other rest more
    (subst (λ (z : HartState). Follows w journal h (turn.at + length (events_of turn.did)) z rest at other)
    (one w (take turn.at journal) h b y x turn.did took.moves taken.moves) others)

pub one_end_of : OneHart → laws.OneEnd
one_end_of one w journal h from to at b c other turns x y = follows_once one w journal h from to at b c other turns x y
