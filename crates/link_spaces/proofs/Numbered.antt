-- Namespaces by their numbers.
use Rattle.std.proofs.Common.{◌≡◌, Result, Ok, Err, OnOk, arith, take, ℕ, zero, suc, Bool, true, false, ◌||◌, ◌<◌, cond, drop, eqb, get_or, length, List, [], ◌∷◌, ◌++◌, map, Some, None, refl, sym, ap, ◌∙◌}
use Rattle.std.specs.Prelude.{if◌then◌else◌}
use Rattle.std.specs.List.{filter, find, list_any, slice_get, slice_set}
use Rattle.std.proofs.lemmas.Bool.{eqb-true, eq-eqb, true≢false}
use Rattle.std.proofs.Math.Seq.{drop-cons}
use Rattle.std.proofs.lemmas.List.{append-nil, drop_all, take_all}
use Rattle.std.proofs.lemmas.List.Folds.{list_any-append}
use Rattle.std.proofs.lemmas.Option.{slice_get-get_or}
use Rattle.history_event.specs.declared.event.CloseAnswer.{CloseAnswer}
use Rattle.history_event.specs.declared.event.CloseAnswer.TheVariants as closes
use Rattle.history_event.specs.declared.event.Event.{Event}
use Rattle.history_event.specs.declared.event.Event.TheVariants as events
use Rattle.history_event.specs.declared.event.OpenAnswer.{OpenAnswer}
use Rattle.history_event.specs.declared.event.OpenAnswer.TheVariants as opens
use Rattle.history_event.specs.declared.event.OpenAsk.{OpenAsk}
use Rattle.history_event.specs.declared.event.SymAnswer.{SymAnswer}
use Rattle.history_event.specs.declared.event.SymAnswer.TheVariants as syms
use Rattle.history_state.specs.Flags.{is_global}
use Rattle.history_state.specs.Objects.{has_id}
use Rattle.history_state.specs.State.{State, empty_namespace}
use Rattle.history_state.specs.Step.{changed_at, close_step, die, dying_in, gone_in, initialise, is_left, loaded, lower, lowered_in, open_step, ready_in, step, sym_step, unmap, with_namespace}
use Rattle.link_spaces.specs.Numbered.{AreNumberedApart}
use Rattle.scope_rule.specs.Opening.{opened}
use Rattle.scope_rule.specs.declared.namespace.Namespace.{Namespace}
use Rattle.history_state.specs.Lemmas.Lists.{same_test}
use Rattle.history_state.specs.Lemmas.Opened.{changed_keeps}

or_left : (a b : Bool) → (a || b) ≡ false → a ≡ false
or_left true b e = absurd (true≢false e)
or_left false b e = refl

or_right : (a b : Bool) → (a || b) ≡ false → b ≡ false
or_right true b e = absurd (true≢false e)
or_right false b e = e

-- ---- changes that keep numbers

any_mapped : (f : Namespace → Namespace) → ((ns : Namespace) → (f ns).id ≡ ns.id) → (id : ℕ) (all : List Namespace) → list_any (has_id id) (map f all) ≡ list_any (has_id id) all
any_mapped f same id [] = refl
any_mapped f same id (ns ∷ rest) =
    ap (λ (n : ℕ). eqb n id || list_any (has_id id) (map f rest)) (same ns) ∙ ap (λ (b : Bool). eqb ns.id id || b) (any_mapped f same id rest)

pub apart_mapped : (f : Namespace → Namespace) → ((ns : Namespace) → (f ns).id ≡ ns.id) → (all : List Namespace) → AreNumberedApart all → AreNumberedApart (map f all)
apart_mapped f same [] apart = tt
apart_mapped f same (ns ∷ rest) apart =
    (ap (λ (n : ℕ). list_any (has_id n) (map f rest)) (same ns) ∙ any_mapped f same ns.id rest ∙ apart.0, apart_mapped f same rest apart.1)

any_filtered : (p : Namespace → Bool) (id : ℕ) (all : List Namespace) → list_any (has_id id) all ≡ false → list_any (has_id id) (filter p all) ≡ false
any_filtered p id [] none = refl
any_filtered p id (ns ∷ rest) none =
    at (p ns) (or_left (eqb ns.id id) (list_any (has_id id) rest) none) (any_filtered p id rest (or_right (eqb ns.id id) (list_any (has_id id) rest) none))
  where
    at : (b : Bool) → eqb ns.id id ≡ false → list_any (has_id id) (filter p rest) ≡ false → list_any (has_id id) (cond b (ns ∷ filter p rest) (filter p rest)) ≡ false
    at true e h = ap (λ (t : Bool). t || list_any (has_id id) (filter p rest)) e ∙ h
    at false e h = h

pub apart_filtered : (p : Namespace → Bool) (all : List Namespace) → AreNumberedApart all → AreNumberedApart (filter p all)
apart_filtered p [] apart = tt
apart_filtered p (ns ∷ rest) apart = at (p ns) (any_filtered p ns.id rest apart.0) (apart_filtered p rest apart.1)
  where
    at : (b : Bool) → list_any (has_id ns.id) (filter p rest) ≡ false → AreNumberedApart (filter p rest) → AreNumberedApart (cond b (ns ∷ filter p rest) (filter p rest))
    at true none h = (none, h)
    at false none h = h

-- one more, whose number no other has
pub apart_pushed : (all : List Namespace) (new : Namespace) → list_any (has_id new.id) all ≡ false → AreNumberedApart all → AreNumberedApart (all ++ new ∷ [])
apart_pushed [] new none apart = (refl, tt)
apart_pushed (ns ∷ rest) new none apart = (
  list_any-append (has_id ns.id) rest (new ∷ []) ∙ ap (λ (b : Bool). b || (eqb new.id ns.id || false)) apart.0 ∙ ap (λ (b : Bool). b || false) (same_test new.id ns.id)
      ∙ ap (λ (b : Bool). b || false) (or_left (eqb ns.id new.id) (list_any (has_id new.id) rest) none),
  apart_pushed rest new (or_right (eqb ns.id new.id) (list_any (has_id new.id) rest) none) apart.1,
)

pub apart_with : (id : ℕ) (change : Namespace → Namespace) → ((ns : Namespace) → (change ns).id ≡ ns.id) → (all : List Namespace) → AreNumberedApart all
    → AreNumberedApart (with_namespace id change all)
apart_with id change same all apart = at (list_any (has_id id) all) refl
  where
    at : (b : Bool) → list_any (has_id id) all ≡ b → AreNumberedApart (if b then map (changed_at id change) all else all ++ change (empty_namespace id) ∷ [])
    at true e = apart_mapped (changed_at id change) (changed_keeps id change same) all apart
    at false e = apart_pushed all (change (empty_namespace id)) (ap (λ (n : ℕ). list_any (has_id n) all) (same (empty_namespace id)) ∙ e) apart

-- ---- events

opened_apart : (s : State) (hart : ℕ) (ask : OpenAsk) (answer : OpenAnswer) → AreNumberedApart s.namespaces → AreNumberedApart (open_step s hart ask answer).namespaces
unfolding loaded
opened_apart s hart ask (opens.Done id root added ranges) apart = apart_with id (λ ns. opened ns added root (is_global ask.flags)) (λ ns. refl) s.namespaces apart
opened_apart s hart ask opens.Absent apart = apart
opened_apart s hart ask (opens.Refused fault) apart = apart

closed_apart : (s : State) (hart handle : ℕ) (answer : CloseAnswer) → AreNumberedApart s.namespaces → AreNumberedApart (close_step s hart handle answer).namespaces
unfolding die lower
closed_apart s hart handle (closes.Done set) apart =
    apart_mapped (dying_in hart set) (λ ns. refl) (map (lowered_in handle) s.namespaces) (apart_mapped (lowered_in handle) (λ ns. refl) s.namespaces apart)
closed_apart s hart handle (closes.Refused fault) apart = apart

looked_apart : (s : State) (hart : ℕ) (answer : SymAnswer) → AreNumberedApart s.namespaces → AreNumberedApart (sym_step s hart answer).namespaces
looked_apart s hart (syms.Found serial index value) apart = apart
looked_apart s hart (syms.Refused fault) apart = apart

unmapped_apart : (s : State) (hart : ℕ) (set : List ℕ) → AreNumberedApart s.namespaces → AreNumberedApart (unmap hart set s).namespaces
unfolding unmap
unmapped_apart s hart set apart = apart_filtered is_left (map (gone_in set) s.namespaces) (apart_mapped (gone_in set) (λ ns. refl) s.namespaces apart)

initialised_apart : (s : State) (object : ℕ) → AreNumberedApart s.namespaces → AreNumberedApart (initialise object s).namespaces
unfolding initialise
initialised_apart s object apart = apart_mapped (ready_in object) (λ ns. refl) s.namespaces apart

pub stepped_apart : (s : State) (e : Event) → AreNumberedApart s.namespaces → AreNumberedApart (step s e).namespaces
stepped_apart s (events.Open hart ask answer) apart = opened_apart s hart ask answer apart
stepped_apart s (events.Close hart handle answer) apart = closed_apart s hart handle answer apart
stepped_apart s (events.Unmapped hart set) apart = unmapped_apart s hart set apart
stepped_apart s (events.Grant number hart owner slot choice value) apart = apart
stepped_apart s (events.Bound number) apart = apart
stepped_apart s (events.Lost number saw) apart = apart
stepped_apart s (events.Unresolved hart owner slot choice) apart = apart
stepped_apart s (events.Sym hart ask answer) apart = looked_apart s hart answer apart
stepped_apart s (events.Tls hart owner address) apart = apart
stepped_apart s (events.Init hart object) apart = initialised_apart s object apart
stepped_apart s (events.Fini hart object) apart = apart
stepped_apart s (events.Wrote hart bytes) apart = apart
stepped_apart s (events.Told hart fault) apart = apart
stepped_apart s (events.Ended hart reason) apart = apart

-- ---- the one that is changed

untouched : (id : ℕ) (change : Namespace → Namespace) (all : List Namespace) → list_any (has_id id) all ≡ false → map (changed_at id change) all ≡ all
untouched id change [] none = refl
untouched id change (ns ∷ rest) none =
    at (eqb ns.id id) (or_left (eqb ns.id id) (list_any (has_id id) rest) none) (untouched id change rest (or_right (eqb ns.id id) (list_any (has_id id) rest) none))
  where
    at : (b : Bool) → b ≡ false → map (changed_at id change) rest ≡ rest → (if b then change ns else ns) ∷ map (changed_at id change) rest ≡ ns ∷ rest
    at true e h = absurd (true≢false e)
    at false e h = ap (λ (xs : List Namespace). ns ∷ xs) h

there : (all : List Namespace) (k id : ℕ) (ns : Namespace) → slice_get all k ≡ Some ns → ns.id ≡ id → list_any (has_id id) all ≡ true
there [] k id ns at is = absurd (let d : None ≡ Some ns = at in cc)
there (m ∷ rest) zero id ns at is = let same : m ≡ ns = cc in ap (λ (b : Bool). b || list_any (has_id id) rest) (eq-eqb m.id id (ap (λ (n : Namespace). n.id) same ∙ is))
there (m ∷ rest) (suc k) id ns at is = by (eqb m.id id) (there rest k id ns at is)
  where
    by : (b : Bool) → list_any (has_id id) rest ≡ true → (b || list_any (has_id id) rest) ≡ true
    by true h = refl
    by false h = h

-- where numbers are apart, it is the one at a place
pub changed_one : (id : ℕ) (change : Namespace → Namespace) (all : List Namespace) (k : ℕ) (ns : Namespace) → AreNumberedApart all → slice_get all k ≡ Some ns → ns.id ≡ id
    → map (changed_at id change) all ≡ slice_set all k (change ns)
changed_one id change [] k ns apart at is = absurd (let d : None ≡ Some ns = at in cc)
changed_one id change (m ∷ rest) zero ns apart at is =
    let same : m ≡ ns = cc in
    let named : m.id ≡ id = ap (λ (n : Namespace). n.id) same ∙ is in
    by (eqb m.id id) (eq-eqb m.id id named) ∙ ap (λ (n : Namespace). change n ∷ map (changed_at id change) rest) same
    ∙ ap (λ (xs : List Namespace). change ns ∷ xs) (untouched id change rest (ap (λ (n : ℕ). list_any (has_id n) rest) (sym named) ∙ apart.0))
  where
    by : (b : Bool) → b ≡ true → (if b then change m else m) ∷ map (changed_at id change) rest ≡ change m ∷ map (changed_at id change) rest
    by true e = refl
    by false e = absurd (true≢false (sym e))
changed_one id change (m ∷ rest) (suc k) ns apart at is =
    by (eqb m.id id) refl ∙ ap (λ (xs : List Namespace). m ∷ xs) (changed_one id change rest k ns apart.1 at is)
  where
    by : (b : Bool) → eqb m.id id ≡ b → (if b then change m else m) ∷ map (changed_at id change) rest ≡ m ∷ map (changed_at id change) rest
    by false e = refl
    by true e = absurd (true≢false (sym (ap (λ (n : ℕ). list_any (has_id n) rest) (eqb-true m.id id e) ∙ there rest k id ns at is) ∙ apart.0))

numbered : (id : ℕ) (xs : List Namespace) (ns : Namespace) → find (has_id id) xs ≡ Some ns → ns.id ≡ id
numbered id [] ns e = absurd (let d : None ≡ Some ns = e in cc)
numbered id (x ∷ xs) ns e = pick (λ f. numbered id xs ns f) (eqb x.id id) refl e
  where
    pick : (find (has_id id) xs ≡ Some ns → ns.id ≡ id) → (b : Bool) → eqb x.id id ≡ b → (if b then Some x else find (has_id id) xs) ≡ Some ns → ns.id ≡ id
    pick again true t f = let same : x ≡ ns = cc in sym (ap (λ (n : Namespace). n.id) same) ∙ eqb-true x.id id t
    pick again false t f = again f

missing : (id : ℕ) (xs : List Namespace) → find (has_id id) xs ≡ None → list_any (has_id id) xs ≡ false
missing id [] e = refl
missing id (x ∷ xs) e = pick (λ f. missing id xs f) (eqb x.id id) e
  where
    pick : (find (has_id id) xs ≡ None → list_any (has_id id) xs ≡ false) → (b : Bool) → (if b then Some x else find (has_id id) xs) ≡ None → (b || list_any (has_id id) xs) ≡ false
    pick again true f = absurd (let d : Some x ≡ None = f in cc)
    pick again false f = again f

-- the one that is found by its number
pub found_one : (id : ℕ) (change : Namespace → Namespace) (all : List Namespace) (k : ℕ) → AreNumberedApart all → (ns : Namespace) → slice_get all k ≡ Some ns → slice_get all k ≡ find (has_id id) all
    → slice_set all k (change ns) ≡ with_namespace id change all
found_one id change all k apart ns here at =
    let named : ns.id ≡ id = numbered id all ns (sym at ∙ here) in
    sym (by (list_any (has_id id) all) (there all k id ns here named) ∙ changed_one id change all k ns apart here named)
  where
    by : (b : Bool) → b ≡ true → (if b then map (changed_at id change) all else all ++ change (empty_namespace id) ∷ []) ≡ map (changed_at id change) all
    by true e = refl
    by false e = absurd (true≢false (sym e))

-- where none is found a new one follows
pub found_none : (id : ℕ) (change : Namespace → Namespace) (all : List Namespace) → find (has_id id) all ≡ None → all ++ change (empty_namespace id) ∷ [] ≡ with_namespace id change all
found_none id change all none = sym (by (list_any (has_id id) all) (missing id all none))
  where
    by : (b : Bool) → b ≡ false → (if b then map (changed_at id change) all else all ++ change (empty_namespace id) ∷ []) ≡ all ++ change (empty_namespace id) ∷ []
    by true e = absurd (true≢false e)
    by false e = refl

-- a vector that was written through its slice
pub written : {X : Type 0} (items new : List X) (n : ℕ) → length new ≡ length items → n ≡ length items → take n (new ++ drop (length new) items) ≡ new
written items new n long is =
    let none : drop (length new) items ≡ [] = drop_all (length new) items (omega (arith, long)) in
    let plain : new ++ drop (length new) items ≡ new = ap (λ rest. new ++ rest) none ∙ append-nil new in
    ap (take n) plain ∙ take_all n new (omega (arith, long, is))

pub on_ok : {A E : Type 0} (r : Result A E) (P Q : Type 0) → (P → Q) → OnOk r P → OnOk r Q
on_ok (Ok x) P Q f h = f h
on_ok (Err e) P Q f h = h

-- ---- the first of a number

-- the search of the rest stops at its first
pub found_at : (id : ℕ) (all : List Namespace) (place : ℕ) (ns : Namespace) → place < length all → ns ≡ get_or all place ns → eqb ns.id id ≡ true
    → find (has_id id) (drop place all) ≡ find (has_id id) all → slice_get all place ≡ find (has_id id) all
found_at id all place ns lt at is rest =
    slice_get-get_or all place ns lt ∙ ap (λ (x : Namespace). Some x) (sym at)
    ∙ sym (ap (λ (b : Bool). cond b (Some ns) (find (has_id id) (drop (suc place) all))) is)
    ∙ sym (ap (λ (x : Namespace). find (has_id id) (x ∷ drop (suc place) all)) (sym at))
    ∙ sym (ap (find (has_id id)) (drop-cons all place ns lt))
    ∙ rest

pub get_at : {X : Type 0} (xs : List X) (k n : ℕ) → n ≡ length xs → k < n → (x : X) × (slice_get xs k ≡ Some x)
get_at [] k n same lt = absurd (omega (arith, same, lt))
get_at (x ∷ xs) zero n same lt = (x, refl)
get_at (x ∷ xs) (suc k) n same lt = get_at xs k (length xs) refl (omega (arith, same, lt))
