-- What leaves the keeper's view that of a state.
use Rattle.std.proofs.Common.{◌≡◌, ◌⊎◌, ⊎_elim, inl, inr, ℕ, List, Some, refl, sym, ap, subst, ◌∙◌}
use Rattle.std.proofs.lemmas.Bool.{false≢true}
use Rattle.std.specs.Prelude.{find}
use Rattle.std.specs.Option.{option_map_or}
use Rattle.std.specs.List.{Contains}
use Rattle.ld_base.specs.declared.linking.Role.{Role}
use Rattle.ld_base.specs.declared.linking.Role.TheVariants.{Ro, Rx, Slot}
use Rattle.history_event.specs.declared.event.CloseAnswer.TheVariants as closes
use Rattle.history_event.specs.declared.event.Event.TheVariants as events
use Rattle.history_event.specs.declared.event.OpenAnswer.TheVariants as opens
use Rattle.history_event.specs.declared.event.SymAnswer.TheVariants as syms
use Rattle.history_state.specs.Step.{die, initialise, loaded, lower}
use Rattle.history_event.specs.declared.state.Granting.{Granting}
use Rattle.seg_image.specs.Pages.{own_address}
use Rattle.relocator.specs.Relocated.{moved_word}
use Rattle.word_rule.specs.declared.entry.Grant.{Grant}
use Rattle.word_rule.specs.declared.view.Fate.TheVariants.{Won}
use Rattle.word_rule.specs.declared.view.KeeperView.{KeeperView}
use Rattle.word_rule.specs.declared.view.Kept.{Kept}
use Rattle.word_rule.specs.declared.view.Settled.{Settled}
use Rattle.word_rule.specs.Allowed.{IsOf, Stands}
use Rattle.word_rule.specs.Layout.{place_of}
use Rattle.word_rule.specs.Views.{kept_at, row_of}
use Rattle.history_state.specs.Memory.{is_in, role_at, first_word_at}
use Rattle.history_state.specs.State.{Linked, State}
use Rattle.history_state.specs.Storage.{tls_block, tp_of}
use Rattle.history_memory.specs.Holds.{IsSlotAt, lazy_at}
use Rattle.word_holds.specs.Shared.{IsGrantOf}
use Rattle.kept_words.specs.Staying.{EventsStay, SameGrants, SameMemory, StatesStay}

pub slot_on : (s t : State) → t.images ≡ s.images → (a owner slot : ℕ) → IsSlotAt s a owner slot → IsSlotAt t a owner slot
slot_on s t images a owner slot x = record {
  image = x.image;
  found = ap (λ (is : List Linked). find (λ m. is_in m a) is) images ∙ x.found;
  serial = x.serial;
  reloc = x.reloc;
  at = x.at;
  place = x.place;
}

pub lazy_on : (s t : State) → t.images ≡ s.images → (a : ℕ) → lazy_at t a ≡ lazy_at s a
lazy_on s t images a = ap (λ (is : List Linked). option_map_or (λ i. moved_word i.object i.base (own_address i.base a)) (find (λ m. is_in m a) is) 0) images

of_on : (k l : KeeperView) → SameGrants k l → (d : ℕ) (g : Grant) → IsOf (kept_at k) d g → IsOf (kept_at l) d g
of_on k l same d g x = subst (λ (y : Kept). IsOf (λ _. y) d g) (sym (same.words d)) x

of_back : (k l : KeeperView) → SameGrants k l → (d : ℕ) (g : Grant) → IsOf (kept_at l) d g → IsOf (kept_at k) d g
of_back k l same d g x = subst (λ (y : Kept). IsOf (λ _. y) d g) (same.words d) x

stands_on : (k l : KeeperView) → SameGrants k l → (m : ℕ) (g : Grant) → Stands (row_of k m) g → Stands (row_of l m) g
stands_on k l same m g x = ⊎_elim
    (λ (y : (row_of k m).pending ≡ Some g). inl (same.pending m ∙ y))
    (λ (y : Contains (row_of k m).settled (record { grant = g; fate = Won })). inr (subst (λ (all : List Settled). Contains all (record { grant = g; fate = Won })) (sym (same.settled m)) y))
    x

pub stands_back : (k l : KeeperView) → SameGrants k l → (m : ℕ) (g : Grant) → Stands (row_of l m) g → Stands (row_of k m) g
stands_back k l same m g x = ⊎_elim
    (λ (y : (row_of l m).pending ≡ Some g). inl (sym (same.pending m) ∙ y))
    (λ (y : Contains (row_of l m).settled (record { grant = g; fate = Won })). inr (subst (λ (all : List Settled). Contains all (record { grant = g; fate = Won })) (same.settled m) y))
    x

grant_on : (s t : State) (k l : KeeperView) → SameMemory s t → SameGrants k l → (m : ℕ) (g : Grant) (x : Granting) → IsGrantOf s k m g x → IsGrantOf t l m g x
grant_on s t k l states same m g x y = record {
  there = subst (λ (all : List Granting). Contains all x) (sym states.grants) y.there;
  value = y.value;
  slot = slot_on s t states.images g.entry.slot x.owner x.slot y.slot;
  open_yet = λ p. y.open_yet (sym (same.pending m) ∙ p);
  bound = λ p. y.bound (subst (λ (all : List Settled). Contains all (record { grant = g; fate = Won })) (same.settled m) p);
}

pub states_stay : StatesStay
states_stay s t k l number next states same numbers is = record {
  role = λ a word. ap (λ (y : Kept). y.role) (same.words (place_of a)) ∙ is.role a word ∙ sym (states.role a word);
  word = λ a word roles. ap (λ (y : Kept). y.value) (same.words (place_of a))
      ∙ is.word a word (subst (λ (r : Role). (r ≡ Ro) ⊎ (r ≡ Rx) ⊎ (r ≡ Slot)) (states.role a word) roles)
      ∙ sym (states.word a word (subst (λ (r : Role). (r ≡ Ro) ⊎ (r ≡ Rx) ⊎ (r ≡ Slot)) (states.role a word) roles));
  lazy = λ a word role. ap (λ (y : Kept). y.lazy) (same.words (place_of a)) ∙ is.lazy a word (sym (states.role a word) ∙ role) ∙ sym (lazy_on s t states.images a);
  granted = λ m g low stands of.
      let st = stands_back k l same m g stands in
      let x = is.granted m g low st (of_back k l same (place_of g.entry.slot) g of) in
      (x.0, x.1 ∙ sym (numbers m g low st), grant_on s t k l states same m g x.0 x.2);
  stands = λ a x word there standing of.
      let y = is.stands a x word (subst (λ (all : List Granting). Contains all x) states.grants there) standing (slot_on t s (sym states.images) a x.owner x.slot of) in (
        y.0,
        y.1,
        y.2,
        stands_on k l same y.0 y.1 y.3,
        of_on k l same (place_of a) y.1 y.4,
        numbers y.0 y.1 y.2 y.3 ∙ y.5,
        grant_on s t k l states same y.0 y.1 x y.6,
      );
  one = λ m n g p low_m low_n st_g st_p same_number.
      let g_stands = stands_back k l same m g st_g in
      let p_stands = stands_back k l same n p st_p in
      is.one m n g p low_m low_n g_stands p_stands (sym (numbers m g low_m g_stands) ∙ same_number ∙ numbers n p low_n p_stands);
}

pub events_stay : EventsStay
unfolding role_at first_word_at tls_block tp_of loaded die lower initialise
events_stay s (events.Open hart ask (opens.Done id root added ranges)) leaves = absurd (false≢true leaves)
events_stay s (events.Open hart ask opens.Absent) leaves = record { role = λ a word. refl; word = λ a word roles. refl; images = refl; grants = refl }
events_stay s (events.Open hart ask (opens.Refused fault)) leaves = record { role = λ a word. refl; word = λ a word roles. refl; images = refl; grants = refl }
events_stay s (events.Close hart handle (closes.Done set)) leaves = record { role = λ a word. refl; word = λ a word roles. refl; images = refl; grants = refl }
events_stay s (events.Close hart handle (closes.Refused fault)) leaves = record { role = λ a word. refl; word = λ a word roles. refl; images = refl; grants = refl }
events_stay s (events.Unmapped hart set) leaves = absurd (false≢true leaves)
events_stay s (events.Grant number hart owner slot choice value) leaves = absurd (false≢true leaves)
events_stay s (events.Bound number) leaves = absurd (false≢true leaves)
events_stay s (events.Lost number saw) leaves = absurd (false≢true leaves)
events_stay s (events.Unresolved hart owner slot choice) leaves = record { role = λ a word. refl; word = λ a word roles. refl; images = refl; grants = refl }
events_stay s (events.Sym hart ask (syms.Found serial index value)) leaves = record { role = λ a word. refl; word = λ a word roles. refl; images = refl; grants = refl }
events_stay s (events.Sym hart ask (syms.Refused fault)) leaves = record { role = λ a word. refl; word = λ a word roles. refl; images = refl; grants = refl }
events_stay s (events.Tls hart owner address) leaves = absurd (false≢true leaves)
events_stay s (events.Init hart object) leaves = record { role = λ a word. refl; word = λ a word roles. refl; images = refl; grants = refl }
events_stay s (events.Fini hart object) leaves = record { role = λ a word. refl; word = λ a word roles. refl; images = refl; grants = refl }
events_stay s (events.Wrote hart bytes) leaves = record { role = λ a word. refl; word = λ a word roles. refl; images = refl; grants = refl }
events_stay s (events.Told hart fault) leaves = record { role = λ a word. refl; word = λ a word roles. refl; images = refl; grants = refl }
events_stay s (events.Ended hart reason) leaves = record { role = λ a word. refl; word = λ a word roles. refl; images = refl; grants = refl }
