-- A run has started: the keeper's record is as it has to be.
use Rattle.std.proofs.Common.{◌≡◌, ◌≢◌, ◌⊎◌, ⊎_elim, inl, inr, ℕ, ◌+◌, ◌-◌, ◌*◌, ◌/◌, ◌<◌, ◌≤◌, Bool, true, false, cond, leb, ltb, if◌then◌else◌, List, [], ◌∷◌, ◌++◌, length, drop, append-nil, None, Some, refl, sym, ap, subst, ◌∙◌, arith}
use Rattle.std.specs.List.{Contains}
use Rattle.std.proofs.lemmas.Bool.{and_from, and_parts, cases_Bool, false≢true, le-leb, leb-true, lt-ltb, ltb-true}
use Rattle.ld_base.specs.declared.linking.Loaded.{Loaded}
use Rattle.ld_base.specs.declared.linking.Role.{Role}
use Rattle.ld_base.specs.declared.linking.Role.TheVariants.{None as NoRole, Ro, Rx, Slot}
use Rattle.history_event.specs.declared.event.CloseAnswer.TheVariants as closes
use Rattle.history_event.specs.declared.event.Event.{Event}
use Rattle.history_event.specs.declared.event.Event.TheVariants as events
use Rattle.history_event.specs.declared.event.OpenAnswer.TheVariants as opens
use Rattle.history_event.specs.declared.event.Range.{Range}
use Rattle.history_event.specs.declared.event.SymAnswer.TheVariants as syms
use Rattle.history_event.specs.declared.state.Granting.{Granting}
use Rattle.seg_image.specs.declared.image.Image.{Image}
use Rattle.word_rule.specs.declared.entry.Grant.{Grant}
use Rattle.word_rule.specs.declared.view.Fate.{Fate}
use Rattle.word_rule.specs.declared.view.Fate.TheVariants.{Lost as LostFate, Won}
use Rattle.word_rule.specs.declared.view.KeeperView.{KeeperView}
use Rattle.word_rule.specs.declared.view.Kept.{Kept}
use Rattle.word_rule.specs.declared.view.Row.{Row}
use Rattle.word_rule.specs.Allowed.{IsSlot, Stands}
use Rattle.word_rule.specs.Layout.{address_of, harts_at_most, place_of}
use Rattle.word_rule.specs.Slots.{IsGrant}
use Rattle.word_rule.specs.Views.{IsLong, kept_at, no_row, row_of, unmapped}
use Rattle.word_memory.specs.WordSeats.Making.{in_linker_page, linker_word}
use Rattle.history_calls.specs.Served.{AreImages, AreInstalls}
use Rattle.history_calls.specs.declared.link_served.installs.Installs.{Installs}
use Rattle.history_state.specs.Addresses.{is_linkers_page}
use Rattle.history_state.specs.After.{after, after_from}
use Rattle.history_state.specs.Allowed.{Allowed}
use Rattle.history_state.specs.Changes.{reserved, taken}
use Rattle.history_state.specs.Legal.{Lawful, Legal}
use Rattle.history_state.specs.Memory.{covers, ebreaks, first_word_at, role_at}
use Rattle.history_state.specs.Objects.{is_startup}
use Rattle.history_state.specs.Setting.{Machine, Setting}
use Rattle.history_state.specs.State.{State, empty_state}
use Rattle.history_state.specs.Step.{die, initialise, loaded, lower, step, unmap}
use Rattle.history_state.specs.Storage.{tls_block, tp_of}
use Rattle.history_state.specs.Lemmas.History.{after_push, one_behind}
use Rattle.history_state.specs.Lemmas.Lists.{first_or_later, here, later, none_in}
use Rattle.history_memory.specs.Memory.{IsDoubleword}
use Rattle.hart_trails.specs.Owners.{AreOfHarts}
use Rattle.word_holds.specs.Shared.{IsOfState}
use Rattle.kept_words.specs.Gone.{HaveGone}
use Rattle.kept_words.specs.Handed.{event_numbers, own_numbers}
use Rattle.kept_words.specs.Keeping.{remakes_memory}
use Rattle.kept_words.specs.Kept.{AreKept, AreSettled, IsFateEvent, WereSettled}
use Rattle.kept_words.specs.Remade.{IsRemade}
use Rattle.kept_words.specs.Staying.{leaves_memory, number_in}
use Rattle.kept_words.proofs.Gone.{gone_behind, gone_beside}
use Rattle.kept_words.proofs.Values.{settled_behind, settled_push}
use Rattle.kept_words.proofs.Remade.{InOne, in_one}
use Rattle.kept_words.proofs.Settling.{place_back, slot_word}
use Rattle.word_installs.specs.Installed.{IsInstalled}
use Rattle.world_memory.specs.TurnAnswers.Changes.{loaded_objects}
use Rattle.word_installs.specs.Starting.{IsFresh, IsStartup}
use Rattle.word_installs.proofs.Reserved.{taken_there}

-- ---- events that leave memory leave each word

pub record IsSame (s t : State) : Type 0 where
  pub role : (a : ℕ) → role_at t a ≡ role_at s a
  pub word : (a : ℕ) → first_word_at t a ≡ first_word_at s a
  pub images : t.images ≡ s.images
  pub grants : t.grants ≡ s.grants

quiet_same : (s : State) (e : Event) → leaves_memory e ≡ true → IsSame s (step s e)
unfolding role_at first_word_at tls_block tp_of loaded die lower initialise
quiet_same s (events.Open hart ask (opens.Done id root added ranges)) leaves = absurd (false≢true leaves)
quiet_same s (events.Open hart ask opens.Absent) leaves = record { role = λ a. refl; word = λ a. refl; images = refl; grants = refl }
quiet_same s (events.Open hart ask (opens.Refused fault)) leaves = record { role = λ a. refl; word = λ a. refl; images = refl; grants = refl }
quiet_same s (events.Close hart handle (closes.Done set)) leaves = record { role = λ a. refl; word = λ a. refl; images = refl; grants = refl }
quiet_same s (events.Close hart handle (closes.Refused fault)) leaves = record { role = λ a. refl; word = λ a. refl; images = refl; grants = refl }
quiet_same s (events.Unmapped hart set) leaves = absurd (false≢true leaves)
quiet_same s (events.Grant number hart owner slot choice value) leaves = absurd (false≢true leaves)
quiet_same s (events.Bound number) leaves = absurd (false≢true leaves)
quiet_same s (events.Lost number saw) leaves = absurd (false≢true leaves)
quiet_same s (events.Unresolved hart owner slot choice) leaves = record { role = λ a. refl; word = λ a. refl; images = refl; grants = refl }
quiet_same s (events.Sym hart ask (syms.Found serial index value)) leaves = record { role = λ a. refl; word = λ a. refl; images = refl; grants = refl }
quiet_same s (events.Sym hart ask (syms.Refused fault)) leaves = record { role = λ a. refl; word = λ a. refl; images = refl; grants = refl }
quiet_same s (events.Tls hart owner address) leaves = absurd (false≢true leaves)
quiet_same s (events.Init hart object) leaves = record { role = λ a. refl; word = λ a. refl; images = refl; grants = refl }
quiet_same s (events.Fini hart object) leaves = record { role = λ a. refl; word = λ a. refl; images = refl; grants = refl }
quiet_same s (events.Wrote hart bytes) leaves = record { role = λ a. refl; word = λ a. refl; images = refl; grants = refl }
quiet_same s (events.Told hart fault) leaves = record { role = λ a. refl; word = λ a. refl; images = refl; grants = refl }
quiet_same s (events.Ended hart reason) leaves = record { role = λ a. refl; word = λ a. refl; images = refl; grants = refl }

same_then : (s t u : State) → IsSame s t → IsSame t u → IsSame s u
same_then s t u one two = record {
  role = λ a. two.role a ∙ one.role a;
  word = λ a. two.word a ∙ one.word a;
  images = two.images ∙ one.images;
  grants = two.grants ∙ one.grants;
}

same_behind : (front rest : List Event) → ((e : Event) → Contains rest e → leaves_memory e ≡ true) → IsSame (after front) (after (front ++ rest))
same_behind front [] quiet = subst (λ (es : List Event). IsSame (after front) (after es)) (sym (append-nil front)) (record { role = λ a. refl; word = λ a. refl; images = refl; grants = refl })
same_behind front (e ∷ rest) quiet =
    same_then (after front) (after (front ++ e ∷ [])) (after (front ++ e ∷ rest))
    (subst (IsSame (after front)) (sym (after_push front e)) (quiet_same (after front) e (quiet e (here e rest))))
    (subst (λ (es : List Event). IsSame (after (front ++ e ∷ [])) (after es)) (one_behind front e rest) (same_behind (front ++ e ∷ []) rest (λ x there. quiet x (later e rest x there))))

-- what is installed is of each of two states with the same words
images_same : (s t : State) → IsSame s t → (ranges : List Range) (images : List Image) → AreImages t ranges images → AreImages s ranges images
images_same s t same [] [] are = tt
images_same s t same [] (x ∷ images) are = absurd are
images_same s t same (r ∷ ranges) [] are = absurd are
images_same s t same (r ∷ ranges) (x ∷ images) are = (
  record {
    start = are.0.start;
    all = are.0.all;
    each = λ k low. are.0.each k low
        ∙ ap (λ (v : ℕ). Some (record { value = v; role = role_at t (r.address + 8 * k) })) (same.word (r.address + 8 * k))
        ∙ ap (λ (q : Role). Some (record { value = first_word_at s (r.address + 8 * k); role = q })) (same.role (r.address + 8 * k));
  },
  images_same s t same ranges images are.1,
)

pub installs_same : (s t : State) → IsSame s t → (added : List Loaded) (ranges : List Range) (installs : Installs) → AreInstalls t added ranges installs → AreInstalls s added ranges installs
installs_same s t same added ranges installs are = record { images = images_same s t same _ installs.images are.images; slots = are.slots; areas = images_same s t same _ installs.areas are.areas }

-- ---- before the first event

empty_is : after [] ≡ empty_state
unfolding after_from
empty_is = refl

first_role : (a : ℕ) → role_at empty_state a ≡ (if is_linkers_page a then Rx else NoRole)
unfolding role_at
first_role a = refl

first_word : (a : ℕ) → is_linkers_page a ≡ true → first_word_at empty_state a ≡ ebreaks
unfolding first_word_at
first_word a e = ap (λ (t : Bool). if t then ebreaks else 0) e

page_place : (a : ℕ) → IsDoubleword a → is_linkers_page a ≡ true → in_linker_page 512 (place_of a) ≡ true
unfolding place_of
page_place a is on =
    let parts = and_parts (leb 0x80f000 a) (ltb a 0x810000) on in
    let from : 0x80f000 ≤ a = leb-true 0x80f000 a parts.0 in
    let to : a < 0x810000 = ltb-true a 0x810000 parts.1 in
    and_from (leb ((0x80f000 - 0x10000) / 8) ((a - 0x10000) / 8)) (ltb ((a - 0x10000) / 8) ((0x80f000 - 0x10000) / 8 + 512))
    (le-leb ((0x80f000 - 0x10000) / 8) ((a - 0x10000) / 8) (omega (arith, from))) (lt-ltb ((a - 0x10000) / 8) ((0x80f000 - 0x10000) / 8 + 512) (omega (arith, to)))

place_page : (a : ℕ) → IsDoubleword a → in_linker_page 512 (place_of a) ≡ true → is_linkers_page a ≡ true
unfolding place_of
place_page a is on =
    let parts = and_parts (leb ((0x80f000 - 0x10000) / 8) ((a - 0x10000) / 8)) (ltb ((a - 0x10000) / 8) ((0x80f000 - 0x10000) / 8 + 512)) on in
    let from : (0x80f000 - 0x10000) / 8 ≤ (a - 0x10000) / 8 = leb-true ((0x80f000 - 0x10000) / 8) ((a - 0x10000) / 8) parts.0 in
    let to : (a - 0x10000) / 8 < (0x80f000 - 0x10000) / 8 + 512 = ltb-true ((a - 0x10000) / 8) ((0x80f000 - 0x10000) / 8 + 512) parts.1 in
    let low = is.low in
    let whole = is.whole in
    and_from (leb 0x80f000 a) (ltb a 0x810000) (le-leb 0x80f000 a (omega (arith, from, low))) (lt-ltb a 0x810000 (omega (arith, to, low)))

same_page : (a : ℕ) → IsDoubleword a → in_linker_page 512 (place_of a) ≡ is_linkers_page a
same_page a is = ⊎_elim
    (λ (on : is_linkers_page a ≡ true). page_place a is on ∙ sym on)
    (λ (off : is_linkers_page a ≡ false). ⊎_elim
    (λ (on : in_linker_page 512 (place_of a) ≡ true). absurd (false≢true (sym off ∙ place_page a is on)))
    (λ (out : in_linker_page 512 (place_of a) ≡ false). out ∙ sym off)
    (cases_Bool (in_linker_page 512 (place_of a))))
    (cases_Bool (is_linkers_page a))

pub none_stands : (k : KeeperView) → ((m : ℕ) → row_of k m ≡ no_row) → (m : ℕ) (g : Grant) → Stands (row_of k m) g → ⊥
none_stands k rows m g stands = by (subst (λ (r : Row). Stands r g) (rows m) stands)
  where
    by : Stands no_row g → ⊥
    by (inl waits) = let both : None ≡ Some g = waits in cc
    by (inr done) = none_in (record { grant = g; fate = Won }) done

module _ (k : KeeperView) (words : (d : ℕ) → kept_at k d ≡ cond (in_linker_page 512 d) linker_word unmapped) (rows : (m : ℕ) → row_of k m ≡ no_row) where
  kept_is : (a : ℕ) → IsDoubleword a → kept_at k (place_of a) ≡ cond (is_linkers_page a) linker_word unmapped
  kept_is a is = words (place_of a) ∙ ap (λ (t : Bool). cond t linker_word unmapped) (same_page a is)

  fresh_role : (a : ℕ) → IsDoubleword a → (kept_at k (place_of a)).role ≡ role_at empty_state a
  fresh_role a is = ap (λ (y : Kept). y.role) (kept_is a is) ∙ by (is_linkers_page a) ∙ sym (first_role a)
    where
      by : (t : Bool) → (cond t linker_word unmapped).role ≡ (if t then Rx else NoRole)
      by true = refl
      by false = refl

  no_slot : (a : ℕ) → role_at empty_state a ≡ Slot → ⊥
  no_slot a slot = by (is_linkers_page a) (sym (first_role a) ∙ slot)
    where
      by : (t : Bool) → (if t then Rx else NoRole) ≡ Slot → ⊥
      by true e = let both : Rx ≡ Slot = e in cc
      by false e = let both : NoRole ≡ Slot = e in cc

  fresh_word : (a : ℕ) → IsDoubleword a → (role_at empty_state a ≡ Ro) ⊎ (role_at empty_state a ≡ Rx) ⊎ (role_at empty_state a ≡ Slot) → (kept_at k (place_of a)).value ≡ first_word_at empty_state a
  fresh_word a is roles = ⊎_elim
      (λ (on : is_linkers_page a ≡ true). ap (λ (y : Kept). y.value) (kept_is a is ∙ ap (λ (t : Bool). cond t linker_word unmapped) on) ∙ sym (first_word a on))
      (λ (off : is_linkers_page a ≡ false). absurd (none (first_role a ∙ ap (λ (t : Bool). if t then Rx else NoRole) off) roles))
      (cases_Bool (is_linkers_page a))
    where
      none : role_at empty_state a ≡ NoRole → (role_at empty_state a ≡ Ro) ⊎ (role_at empty_state a ≡ Rx) ⊎ (role_at empty_state a ≡ Slot) → ⊥
      none nothing (inl x) = let both : NoRole ≡ Ro = sym nothing ∙ x in cc
      none nothing (inr (inl x)) = let both : NoRole ≡ Rx = sym nothing ∙ x in cc
      none nothing (inr (inr x)) = no_slot a x

  pub fresh_is : (number : ℕ → Grant → ℕ) → IsOfState (after []) k number
  fresh_is number = subst (λ (s : State). IsOfState s k number) (sym empty_is) (record {
    role = fresh_role;
    word = fresh_word;
    lazy = λ a is slot. absurd (no_slot a slot);
    granted = λ m g low stands of. absurd (none_stands k rows m g stands);
    stands = λ a x is there standing at. absurd (none_in x there);
    one = λ m n g p low_m low_n stands_g stands_p same. absurd (none_stands k rows m g stands_g);
  })

-- ---- the first event

pub none_taken : (e : Event) → taken (after []) e ≡ []
none_taken e = empty (taken (after []) e) (λ r there. none_in r (subst (λ (s : State). Contains s.ranges r) empty_is (taken_there (after []) e r there)))
  where
    empty : (rs : List Range) → ((r : Range) → Contains rs r → ⊥) → rs ≡ []
    empty [] none = refl
    empty (r ∷ rs) none = absurd (none r (here r rs))

pub remakes_grants : (s : State) (e : Event) → remakes_memory e ≡ true → (step s e).grants ≡ s.grants
unfolding loaded unmap
remakes_grants s (events.Open hart ask (opens.Done id root added ranges)) is = refl
remakes_grants s (events.Open hart ask opens.Absent) is = absurd (false≢true is)
remakes_grants s (events.Open hart ask (opens.Refused fault)) is = absurd (false≢true is)
remakes_grants s (events.Close hart handle answer) is = absurd (false≢true is)
remakes_grants s (events.Unmapped hart set) is = refl
remakes_grants s (events.Grant number hart owner slot choice value) is = absurd (false≢true is)
remakes_grants s (events.Bound number) is = absurd (false≢true is)
remakes_grants s (events.Lost number saw) is = absurd (false≢true is)
remakes_grants s (events.Unresolved hart owner slot choice) is = absurd (false≢true is)
remakes_grants s (events.Sym hart ask answer) is = absurd (false≢true is)
remakes_grants s (events.Tls hart owner address) is = refl
remakes_grants s (events.Init hart object) is = absurd (false≢true is)
remakes_grants s (events.Fini hart object) is = absurd (false≢true is)
remakes_grants s (events.Wrote hart bytes) is = absurd (false≢true is)
remakes_grants s (events.Told hart fault) is = absurd (false≢true is)
remakes_grants s (events.Ended hart reason) is = absurd (false≢true is)

none_settles : (n : ℕ) (f : Fate) (e : Event) → IsFateEvent n f e → (leaves_memory e ≡ true) ⊎ (remakes_memory e ≡ true) → ⊥
none_settles n f e IsFateEvent.as_won (inl is) = false≢true is
none_settles n f e IsFateEvent.as_won (inr is) = false≢true is
none_settles n f e (IsFateEvent.as_lost saw) (inl is) = false≢true is
none_settles n f e (IsFateEvent.as_lost saw) (inr is) = false≢true is

first_may : (w : Setting) (first : Event) (rest : List Event) → Legal w (first ∷ rest) → Allowed w [] first
unfolding Legal
first_may w first rest legal = legal 0 first refl

pub lawful_none : (m : Machine) → Lawful m []
unfolding Lawful
lawful_none m k e at = absurd (let both : None ≡ Some e = at in cc)

page_no_slot : (t : Bool) → (cond t linker_word unmapped).role ≡ Slot → ⊥
page_no_slot true e = let both : Rx ≡ Slot = e in cc
page_no_slot false e = let both : NoRole ≡ Slot = e in cc

-- ---- the record

module _ (w : Setting) (begun : List Event) (installs : Installs) (start : IsStartup w begun installs) where
  one : List Event
  one = start.first ∷ []

  state_is : after (start.first ∷ []) ≡ step (after []) start.first
  state_is = after_push [] start.first

  pub behind : IsSame (step (after []) start.first) (after begun)
  behind =
      subst (λ (s : State). IsSame s (after begun)) state_is
      (subst (λ (es : List Event). IsSame (after (start.first ∷ [])) (after es)) (sym start.are) (same_behind (start.first ∷ []) start.rest start.quiet))

  pub first_installs : AreInstalls (step (after []) start.first) (loaded_objects start.first) (reserved (after []) start.first) installs
  first_installs = installs_same (step (after []) start.first) (after begun) behind (loaded_objects start.first) (reserved (after []) start.first) installs start.installed

  pub may : Allowed w [] start.first
  may = first_may w start.first start.rest (subst (Legal w) start.are start.legal)

  no_grants : (after begun).grants ≡ []
  no_grants = behind.grants ∙ remakes_grants (after []) start.first start.brings ∙ ap (λ (s : State). s.grants) empty_is

  not_settling : (n : ℕ) (f : Fate) (e : Event) → Contains begun e → IsFateEvent n f e → ⊥
  not_settling n f e there is = ⊎_elim
      (λ (first : start.first ≡ e). none_settles n f e is (inr (ap remakes_memory (sym first) ∙ start.brings)))
      (λ (rest : Contains start.rest e). none_settles n f e is (inl (start.quiet e rest)))
      (first_or_later start.first start.rest e (subst (λ (es : List Event). Contains es e) start.are there))

  module _ (k l : KeeperView) (fresh : IsFresh w begun k) (long : IsLong l) (installed : IsInstalled installs k l) (generation : l.generation ≡ (after begun).generation)
      (remade : IsRemade (after []) start.first (length k.events) k l) (words : IsOfState (after begun) l (number_in l.events)) where
    events_is : l.events ≡ begun
    events_is = ap (λ (v : KeeperView). v.events) installed.only ∙ fresh.events

    rows_are : (m : ℕ) → row_of l m ≡ no_row
    rows_are m = ap (λ (v : KeeperView). row_of v m) installed.only ∙ fresh.rows m

    none_settled : (m : ℕ) (g : Grant) (f : Fate) → Contains (row_of l m).settled (record { grant = g; fate = f }) → ⊥
    none_settled m g f there = none_in (record { grant = g; fate = f }) (subst (λ (r : Row). Contains r.settled (record { grant = g; fate = f })) (rows_are m) there)

    none_pending : (m : ℕ) (g : Grant) → (row_of l m).pending ≡ Some g → ⊥
    none_pending m g waits = let both : None ≡ Some g = sym (ap (λ (r : Row). r.pending) (rows_are m)) ∙ waits in cc

    none_granted : (m : ℕ) (g : Grant) → IsGrant (row_of l m) g → ⊥
    none_granted m g (inl waits) = none_pending m g waits
    none_granted m g (inr done) = none_settled m g done.0 done.1

    since : (d : ℕ) → IsSlot (kept_at l) d → (kept_at l d).since ≤ length l.events
    since d slot =
        let word : IsDoubleword (address_of d) = slot_word d (address_of d) refl slot.0 in
        let place : place_of (address_of d) ≡ d = place_back d (address_of d) refl in
        by (address_of d) word place (in_one (reserved (after []) start.first) (address_of d))
      where
        same_length : length l.events ≡ length k.events
        same_length = ap (λ (v : KeeperView). length v.events) installed.only

        by : (a : ℕ) → IsDoubleword a → place_of a ≡ d
            → InOne (reserved (after []) start.first) a ⊎ ((r : Range) → Contains (reserved (after []) start.first) r → covers a r ≡ false) → (kept_at l d).since ≤ length l.events
        by a word place (inl came) =
            let given = remade.given came.0 a word came.1 came.2 in
            let some : role_at (step (after []) start.first) a ≢ NoRole = λ none. (let both : NoRole ≡ Slot = sym none ∙ sym given.role ∙ ap (λ (c : ℕ). (kept_at l c).role) place ∙ slot.1 in cc) in
            let is : (kept_at l d).since ≡ length k.events = ap (λ (c : ℕ). (kept_at l c).since) (sym place) ∙ given.since some in
            let all : length l.events ≡ length k.events = same_length in
            omega (arith, is, all)
        by a word place (inr none) =
            let stays : kept_at l (place_of a) ≡ kept_at k (place_of a) = remade.kept a word (λ r either. ⊎_elim
            (λ (came : Contains (reserved (after []) start.first) r). none r came)
            (λ (went : Contains (taken (after []) start.first) r). absurd (none_in r (subst (λ (rs : List Range). Contains rs r) (none_taken start.first) went))) either) in
            absurd (page_no_slot (in_linker_page 512 d) (ap (λ (y : Kept). y.role) (sym (fresh.words d)) ∙ ap (λ (c : ℕ). (kept_at k c).role) (sym place)
            ∙ ap (λ (y : Kept). y.role) (sym stays) ∙ ap (λ (c : ℕ). (kept_at l c).role) place ∙ slot.1))

    -- before startup there is no grant
    none_lost : (set : List ℕ) → AreSettled (after []) set
    none_lost set x saw there lost mapped goes = absurd (none_in x (subst (λ (s : State). Contains s.grants x) empty_is there))

    handed : (h : ℕ) → h < harts_at_most → event_numbers (row_of l h).issued ≡ own_numbers h (length begun + 1) (drop (length begun) l.events)
    handed h low =
        ap (λ (r : Row). event_numbers r.issued) (rows_are h)
        ∙ ap (own_numbers h (length begun + 1)) (sym (ap (drop (length begun)) events_is ∙ drop_all begun))
      where
        drop_all : (es : List Event) → drop (length es) es ≡ []
        drop_all [] = refl
        drop_all (e ∷ es) = drop_all es

    pub startup_kept : AreKept w begun l
    startup_kept = record {
      few = start.few;
      harts = ap (λ (v : KeeperView). v.harts) installed.only ∙ fresh.harts;
      long = long;
      legal = subst (Legal w) (sym events_is) start.legal;
      started = ap (λ (es : List Event). is_startup (after es)) events_is ∙ start.started;
      begins = ([], events_is ∙ sym (append-nil begun));
      own = subst (AreOfHarts w) (sym events_is) start.own;
      words = subst (λ (es : List Event). IsOfState (after es) l (number_in l.events)) (sym events_is) words;
      generation = generation ∙ ap (λ (es : List Event). (after es).generation) (sym events_is);
      granted = λ m g low stands. absurd (none_stands l rows_are m g stands);
      rows = record {
        since = since;
        pending = λ m g low waits. absurd (none_pending m g waits);
        fates = record {
          entered = λ m g low is. absurd (none_granted m g is);
          fated = λ m g f low there. absurd (none_settled m g f there);
          known = λ n f e there is. absurd (not_settling n f e (subst (λ (es : List Event). Contains es e) events_is there) is);
        };
        counted = λ m g low is. absurd (none_granted m g is);
        lost = λ m g low is of. absurd (none_settled m g LostFate is);
      };
      seen = λ x saw i there lost inside serial. absurd (none_in x (subst (λ (all : List Granting). Contains all x) (ap (λ (es : List Event). (after es).grants) events_is ∙ no_grants) there));
      settled = subst WereSettled (sym (events_is ∙ start.are))
          (settled_behind (start.first ∷ []) start.rest start.quiet (settled_push [] start.first (λ hart set is. none_lost set) (λ n hart set at. absurd (let no : None ≡ Some (events.Unmapped hart set) = at in cc))));
      issued = λ h e low there. absurd (none_in e (subst (λ (r : Row). Contains r.issued e) (rows_are h) there));
      handed = handed;
      gone = subst (λ (es : List Event). HaveGone es l.retired) (sym (events_is ∙ start.are))
          (subst (HaveGone (start.first ∷ start.rest)) (sym (ap (λ (v : KeeperView). v.retired) installed.only ∙ fresh.none_retired))
          (gone_behind (start.first ∷ []) start.rest [] start.quiet (gone_beside [] start.first [] (none_taken start.first) HaveGone.nothing)));
    }
