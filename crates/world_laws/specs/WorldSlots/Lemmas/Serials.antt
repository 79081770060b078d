-- An image that is there isn't made anew: it was there before, if its object was loaded then.
use Rattle.std.proofs.Common.{◌≡◌, ◌⊎◌, inl, inr, ⊎_elim, ℕ, ◌+◌, ◌<◌, ◌≤◌, List, [], ◌∷◌, ◌++◌, length, map, sym, ap, subst, append-nil, arith}
use Rattle.std.specs.List.{Contains, range_with_len}
use Rattle.std.proofs.lemmas.List.Elements.{Contains-append_cases}
use Rattle.ld_base.specs.declared.linking.Loaded.{Loaded}
use Rattle.history_event.specs.declared.event.CloseAnswer.TheVariants as closes
use Rattle.history_event.specs.declared.event.Event.{Event}
use Rattle.history_event.specs.declared.event.Event.TheVariants as events
use Rattle.history_event.specs.declared.event.OpenAnswer.TheVariants as opens
use Rattle.history_event.specs.declared.event.OpenAsk.{OpenAsk}
use Rattle.history_event.specs.declared.event.Range.{Range}
use Rattle.history_event.specs.declared.event.SymAnswer.TheVariants as syms
use Rattle.history_state.specs.After.{after}
use Rattle.history_state.specs.Allowed.{Allowed, AllowedIn}
use Rattle.history_state.specs.Legal.{Lawful}
use Rattle.history_state.specs.Objects.{serial_of}
use Rattle.history_state.specs.Setting.{Machine, Setting}
use Rattle.history_state.specs.State.{Linked, State}
use Rattle.history_state.specs.Step.{die, initialise, loaded, lower, step, unmap}
use Rattle.history_state.specs.Lemmas.Brought.{in_range}
use Rattle.history_state.specs.Lemmas.History.{after_push, lawful_push, one_behind}
use Rattle.history_state.specs.Lemmas.Lists.{from_filter, in_map}
use Rattle.history_state.specs.Lemmas.Map.{made_of}
use Rattle.hart_moves.specs.Moves.{AreAllowed}

-- what is needed of serials
pub record SerialLaws (m : Machine) : Type 0 where
  pub new : (w : Setting) (past : List Event) (hart id root : ℕ) (ask : OpenAsk) (added : List Loaded) (ranges : List Range) → w.machine ≡ m → Lawful m past
      → Allowed w past (events.Open hart ask (opens.Done id root added ranges)) → map serial_of added ≡ range_with_len (after past).next (length added)

-- ---- the serial of the next object

pub next_grows : (s : State) (e : Event) → s.next ≤ (step s e).next
unfolding loaded die lower unmap initialise
next_grows s (events.Open hart ask (opens.Done id root added ranges)) = grows s.next (length added)
  where
    grows : (n k : ℕ) → n ≤ n + k
    grows n k = omega arith
next_grows s (events.Open hart ask opens.Absent) = omega arith
next_grows s (events.Open hart ask (opens.Refused fault)) = omega arith
next_grows s (events.Close hart handle (closes.Done set)) = omega arith
next_grows s (events.Close hart handle (closes.Refused fault)) = omega arith
next_grows s (events.Unmapped hart set) = omega arith
next_grows s (events.Grant number hart owner slot choice value) = omega arith
next_grows s (events.Bound number) = omega arith
next_grows s (events.Lost number saw) = omega arith
next_grows s (events.Unresolved hart owner slot choice) = omega arith
next_grows s (events.Sym hart ask (syms.Found serial index value)) = omega arith
next_grows s (events.Sym hart ask (syms.Refused fault)) = omega arith
next_grows s (events.Tls hart owner address) = omega arith
next_grows s (events.Init hart object) = omega arith
next_grows s (events.Fini hart object) = omega arith
next_grows s (events.Wrote hart bytes) = omega arith
next_grows s (events.Told hart fault) = omega arith
next_grows s (events.Ended hart reason) = omega arith

pub below_grows : (k n m : ℕ) → k < n → n ≤ m → k < m
below_grows k n m a b = omega (arith, a, b)

module _ (m : Machine) (laws : SerialLaws m) where
  -- new images are of new objects
  image_was : (w : Setting) (past : List Event) (e : Event) → w.machine ≡ m → Lawful m past → AllowedIn w past (after past) e → (i : Linked) → Contains (step (after past) e).images i → Contains (after past).images i ⊎ ((after past).next ≤ i.serial)
  unfolding loaded die lower unmap initialise
  image_was w past (events.Open hart ask (opens.Done id root added ranges)) same lawful may i there = ⊎_elim
      (λ (old : Contains (after past).images i). inl old)
      (λ (new : _). let a = made_of (after past) hart ask id root added ranges i new in
      inr (subst (λ (n : ℕ). (after past).next ≤ n) (ap (λ (k : Linked). k.serial) a.2)
      (in_range (after past).next (length added) a.0.serial (subst (λ (ns : List ℕ). Contains ns a.0.serial) (laws.new w past hart id root ask added ranges same lawful may) (in_map serial_of added a.0 a.1))).0))
      (Contains-append_cases (after past).images _ i there)
  image_was w past (events.Open hart ask opens.Absent) same lawful may i there = inl there
  image_was w past (events.Open hart ask (opens.Refused fault)) same lawful may i there = inl there
  image_was w past (events.Close hart handle (closes.Done set)) same lawful may i there = inl there
  image_was w past (events.Close hart handle (closes.Refused fault)) same lawful may i there = inl there
  image_was w past (events.Unmapped hart set) same lawful may i there = inl (from_filter _ (after past).images i there).0
  image_was w past (events.Grant number hart owner slot choice value) same lawful may i there = inl there
  image_was w past (events.Bound number) same lawful may i there = inl there
  image_was w past (events.Lost number saw) same lawful may i there = inl there
  image_was w past (events.Unresolved hart owner slot choice) same lawful may i there = inl there
  image_was w past (events.Sym hart ask (syms.Found serial index value)) same lawful may i there = inl there
  image_was w past (events.Sym hart ask (syms.Refused fault)) same lawful may i there = inl there
  image_was w past (events.Tls hart owner address) same lawful may i there = inl there
  image_was w past (events.Init hart object) same lawful may i there = inl there
  image_was w past (events.Fini hart object) same lawful may i there = inl there
  image_was w past (events.Wrote hart bytes) same lawful may i there = inl there
  image_was w past (events.Told hart fault) same lawful may i there = inl there
  image_was w past (events.Ended hart reason) same lawful may i there = inl there

  -- so one of an object that was loaded before these events was there
  pub was_there : (w : Setting) (past added : List Event) → w.machine ≡ m → Lawful m past → AreAllowed w past added → (i : Linked) → i.serial < (after past).next → Contains (after (past ++ added)).images i → Contains (after past).images i
  was_there w past [] same lawful may i low there = subst (λ (es : List Event). Contains (after es).images i) (append-nil past) there
  was_there w past (e ∷ rest) same lawful may i low there =
      let next : Contains (after (past ++ e ∷ [])).images i = was_there w (past ++ e ∷ []) rest same (lawful_push m w past e same lawful may.0) may.1 i
      (subst (λ (s : State). i.serial < s.next) (sym (after_push past e)) (below_grows i.serial (after past).next (step (after past) e).next low (next_grows (after past) e)))
      (subst (λ (es : List Event). Contains (after es).images i) (sym (one_behind past e rest)) there) in
      ⊎_elim
      (λ (old : Contains (after past).images i). old)
      (λ (high : (after past).next ≤ i.serial). absurd (no i.serial (after past).next low high))
      (image_was w past e same lawful may.0 i (subst (λ (s : State). Contains s.images i) (after_push past e) next))
    where
      no : (k n : ℕ) → k < n → n ≤ k → ⊥
      no k n a b = omega (arith, a, b)
