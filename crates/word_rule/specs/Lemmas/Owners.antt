-- Who changes a doubleword, a row, a trail or what is known of a slot, and who loads the count.
use Rattle.std.proofs.Common.{◌≡◌, ◌≢◌, ◌⊎◌, ⊎_elim, inl, inr, ℕ, ◌%◌, ◌≤◌, ◌<◌, Bool, true, false, eqb, nat_le, ◌==◌, Some, None, refl, sym, ap, subst, ◌∙◌, arith}
use Rattle.std.proofs.Common.{List, [], ◌∷◌, ◌++◌, append-nil, length, map, slice_index, slice_index_or}
use Rattle.std.proofs.lemmas.List.{map-append}
use mathlib.Core.Logic.{dite}
use native.Mathlib.Decide.{ℕ_discrete}
use mathlib.Core.Option.{some}
use lib.ListN.{get_elem?}
use Rattle.ld_base.specs.declared.linking.Role.{Role}
use Rattle.ld_base.specs.declared.linking.Role.TheVariants.{None as NoRole, Slot as SlotRole}
use Rattle.word_rule.specs.declared.kind.Ask.{Ask}
use Rattle.word_rule.specs.declared.kind.HartKind.{HartKind}
use Rattle.word_rule.specs.declared.kind.HartKind.TheVariants as harts
use Rattle.word_rule.specs.declared.kind.KeeperKind.{KeeperKind}
use Rattle.word_rule.specs.declared.kind.KeeperKind.TheVariants as keepers
use Rattle.word_rule.specs.declared.kind.StoreAsk.{StoreAsk}
use Rattle.word_rule.specs.declared.view.HartView.{HartView}
use Rattle.word_rule.specs.declared.view.KeeperView.{KeeperView}
use Rattle.word_rule.specs.declared.view.Kept.{Kept}
use Rattle.word_rule.specs.declared.view.Row.{Row}
use Rattle.word_rule.specs.declared.view.Slip.TheVariants.{OfHart, OfKeeper}
use Rattle.word_rule.specs.declared.view.View.{View}
use Rattle.word_rule.specs.declared.view.View.TheVariants.{Keeper, Hart, Note, Spent}
use Rattle.word_rule.specs.Layout.{control_at, count_at, index_of, row_at, state_at, value_at}
use Rattle.word_rule.specs.Layout.{doublewords, harts_at_most, lock_bit, place_of, role_code, role_in}
use Rattle.word_rule.specs.Views.{IsLong, kept_at, row_of, unmapped}
use Rattle.word_rule.specs.Operations.{load}
use Rattle.word_rule.specs.HartSteps.{Awaits, HartReady, IsMark, ask_is_fresh, glanced, hart_after, hart_op, hart_word, heeded, locked_if, permits, store_place}
use Rattle.word_rule.specs.KeeperSteps.{KeeperReady, Waits, awaited_if, fixed_by, heeding, keeper_after, keeper_op, keeper_word, keeps_if, with_kept}
use Rattle.word_rule.specs.Calls.{Rests, Stage}
use Rattle.word_rule.specs.Joining.{MayTake, takes_in}
use Rattle.word_rule.specs.Seats.{Fits}
use Rattle.word_rule.specs.Rule.{IsGuest}
use Rattle.word_rule.specs.Owners.{Grows, HartEnters, IsOfDoubleword, IsOfRow, KeeperEnters, LockedStay, OnlyOwnersChange, OnlyRowsOwnersChange}
use Rattle.word_rule.specs.Owners.{IsSameWord, OnlyFreshAreStored, OnlyTallyCounts, RaisesIfUnlocks, TrailsGrow, UnlocksRaise, WordsStay, trails_of}
use Rattle.word_rule.specs.Lemmas.HartCalls.{answered_if, still_if, tried_if}
use Rattle.word_rule.specs.Lemmas.HartLocks.{low_index}
use Rattle.word_rule.specs.Lemmas.Heeding.{fixed_same, kept_here, unseen}
use Rattle.word_rule.specs.Lemmas.Put.{set_at}
use Rattle.word_rule.specs.Lemmas.Unlocking.{adds_raise, loads_raise, locks_raise, roles_raise, stays}

-- ---- who changes a doubleword

-- the words of one doubleword are not those of another
same_value : (d e : ℕ) → IsOfDoubleword d (value_at e) → e ≡ d
same_value d e at = ⊎_elim (λ (q : value_at e ≡ value_at d). omega arith) (λ (q : value_at e ≡ control_at d). omega arith) at

same_control : (d e : ℕ) → IsOfDoubleword d (control_at e) → e ≡ d
same_control d e at = ⊎_elim (λ (q : control_at e ≡ value_at d). omega arith) (λ (q : control_at e ≡ control_at d). omega arith) at

-- nor are those below 128
below : (i d : ℕ) → i < 128 → IsOfDoubleword d i → ⊥
below i d low at = ⊎_elim (λ (q : i ≡ value_at d). omega arith) (λ (q : i ≡ control_at d). omega arith) at

in_row : (m i d : ℕ) → m < harts_at_most → i < 6 → IsOfDoubleword d (row_at m i) → ⊥
in_row m i d few low at = below (row_at m i) d (omega arith) at

-- a doubleword's value isn't the control word of any
apart : (e d : ℕ) → value_at e ≡ control_at d → ⊥
apart e d at = omega arith

harts_raise : (kind : HartKind) (h : HartView) (d n : ℕ) → h.number < harts_at_most → HartReady kind h → hart_word kind ≡ control_at d → n < 18446744073709551616 → RaisesIfUnlocks (hart_op kind) n
harts_raise (harts.Look ask) h d n few ready at small = loads_raise n
harts_raise (harts.Load ask) h d n few ready at small = loads_raise n
harts_raise (harts.Hold ask) h d n few ready at small = loads_raise n
harts_raise (harts.Lock ask control) h d n few ready at small = locks_raise control n ready.3
harts_raise (harts.Store ask x) h d n few ready at small = absurd (apart (store_place ask) d at)
harts_raise (harts.Unlock e) h d n few ready at small = adds_raise n small
harts_raise harts.Tally h d n few ready at small = loads_raise n
harts_raise (harts.Begin m) h d n few ready at small = absurd (in_row m 0 d (subst (λ n. n < harts_at_most) (sym ready.0) few) (omega arith) (inr at))
harts_raise (harts.Arrive m) h d n few ready at small = loads_raise n
harts_raise (harts.Find m i) h d n few ready at small = loads_raise n
harts_raise (harts.Exchange g) h d n few ready at small = absurd (apart (place_of g.entry.slot) d at)
harts_raise (harts.Accept m e) h d n few ready at small = absurd (in_row m 0 d (subst (λ n. n < harts_at_most) (sym ready.0) few) (omega arith) (inr at))
harts_raise (harts.Finish m won) h d n few ready at small = absurd (in_row m 0 d (subst (λ n. n < harts_at_most) (sym ready.0) few) (omega arith) (inr at))
harts_raise (harts.Generation number) h d n few ready at small = loads_raise n
harts_raise harts.Listen h d n few ready at small = loads_raise n

-- a role that the keeper knows of a doubleword is that of its control word
has_role : (k : KeeperView) (e d n : ℕ) (r : Role) → control_at e ≡ control_at d → r ≡ (kept_at k e).role → n % 8 ≡ role_code (kept_at k d).role → n % 8 ≡ role_code r
has_role k e d n r at is role = role ∙ ap role_code (ap (λ i. (kept_at k i).role) (sym (same_control d e (inr at))) ∙ sym is)

keepers_raise : (kind : KeeperKind) (k : KeeperView) (d n : ℕ) → KeeperReady kind k → keeper_word kind ≡ control_at d → n < 18446744073709551616 → n % 8 ≡ role_code (kept_at k d).role
    → RaisesIfUnlocks (keeper_op kind) n
keepers_raise (keepers.Look e) k d n ready at small role = loads_raise n
keepers_raise (keepers.Load e) k d n ready at small role = loads_raise n
keepers_raise (keepers.Lock e control) k d n ready at small role = locks_raise control n ready.3
keepers_raise (keepers.Store e x) k d n ready at small role = absurd (apart e d at)
keepers_raise (keepers.Unlock e given lazy) k d n ready at small role = roles_raise NoRole given n small (has_role k e d n NoRole at (sym ready.1) role)
keepers_raise (keepers.Count e) k d n ready at small role = absurd (below 2 d (omega arith) (inr at))
keepers_raise (keepers.Await m) k d n ready at small role = loads_raise n
keepers_raise (keepers.Ask m) k d n ready at small role = loads_raise n
keepers_raise (keepers.Saw e m) k d n ready at small role = loads_raise n
keepers_raise (keepers.Fill m i x) k d n ready at small role = absurd (in_row m (index_of i) d ready.1.0 (low_index i) (inr at))
keepers_raise (keepers.Hand m mark) k d n ready at small role = absurd (in_row m 0 d ready.1.0 (omega arith) (inr at))
keepers_raise (keepers.Open m) k d n ready at small role = absurd (in_row m 0 d ready.1.0 (omega arith) (inr at))
keepers_raise (keepers.RetireSlot e) k d n ready at small role = roles_raise SlotRole NoRole n small (has_role k e d n SlotRole at (sym ready.1) role)
keepers_raise (keepers.Retire e old) k d n ready at small role = roles_raise old NoRole n small (has_role k e d n old at ready.1 role)
keepers_raise (keepers.Generation g) k d n ready at small role = absurd (below 1 d (omega arith) (inr at))
keepers_raise (keepers.Recall m i) k d n ready at small role = loads_raise n
keepers_raise keepers.RecallGeneration k d n ready at small role = loads_raise n
keepers_raise (keepers.RecallRole e) k d n ready at small role = loads_raise n
keepers_raise keepers.Listen k d n ready at small role = loads_raise n

pub unlocks_raise : UnlocksRaise
unlocks_raise = ((λ kind h d n few ready at small. harts_raise kind h d n few ready at small), (λ kind k d n ready at small role. keepers_raise kind k d n ready at small role))

harts_change : (kind : HartKind) (h : HartView) (d : ℕ) → h.number < harts_at_most → HartReady kind h → hart_op kind ≢ load → IsOfDoubleword d (hart_word kind) → (h.access.locked ≡ Some d) ⊎ HartEnters kind d
harts_change (harts.Look ask) h d few ready acts at = absurd (acts refl)
harts_change (harts.Load ask) h d few ready acts at = absurd (acts refl)
harts_change (harts.Hold ask) h d few ready acts at = absurd (acts refl)
harts_change (harts.Lock ask control) h d few ready acts at = inr (same_control d (store_place ask) at)
harts_change (harts.Store ask x) h d few ready acts at = inl (ready.0 ∙ ap Some (same_value d (store_place ask) at))
harts_change (harts.Unlock e) h d few ready acts at = inl (ready.0 ∙ ap Some (same_control d e at))
harts_change harts.Tally h d few ready acts at = absurd (acts refl)
harts_change (harts.Begin m) h d few ready acts at = absurd (in_row m 0 d (subst (λ n. n < harts_at_most) (sym ready.0) few) (omega arith) at)
harts_change (harts.Arrive m) h d few ready acts at = absurd (acts refl)
harts_change (harts.Find m i) h d few ready acts at = absurd (acts refl)
harts_change (harts.Exchange g) h d few ready acts at = inr (same_value d (place_of g.entry.slot) at)
harts_change (harts.Accept m e) h d few ready acts at = absurd (in_row m 0 d (subst (λ n. n < harts_at_most) (sym ready.0) few) (omega arith) at)
harts_change (harts.Finish m won) h d few ready acts at = absurd (in_row m 0 d (subst (λ n. n < harts_at_most) (sym ready.0) few) (omega arith) at)
harts_change (harts.Generation number) h d few ready acts at = absurd (acts refl)
harts_change harts.Listen h d few ready acts at = absurd (acts refl)

keepers_change : (kind : KeeperKind) (k : KeeperView) (d : ℕ) → KeeperReady kind k → keeper_op kind ≢ load → IsOfDoubleword d (keeper_word kind) → (k.access.locked ≡ Some d) ⊎ KeeperEnters kind d
keepers_change (keepers.Look e) k d ready acts at = absurd (acts refl)
keepers_change (keepers.Load e) k d ready acts at = absurd (acts refl)
keepers_change (keepers.Lock e control) k d ready acts at = inr (same_control d e at)
keepers_change (keepers.Store e x) k d ready acts at = inl (ready.0 ∙ ap Some (same_value d e at))
keepers_change (keepers.Unlock e role lazy) k d ready acts at = inl (ready.0 ∙ ap Some (same_control d e at))
keepers_change (keepers.Count e) k d ready acts at = absurd (below 2 d (omega arith) at)
keepers_change (keepers.Await m) k d ready acts at = absurd (acts refl)
keepers_change (keepers.Ask m) k d ready acts at = absurd (acts refl)
keepers_change (keepers.Saw e m) k d ready acts at = absurd (acts refl)
keepers_change (keepers.Fill m i x) k d ready acts at = absurd (in_row m (index_of i) d ready.1.0 (low_index i) at)
keepers_change (keepers.Hand m mark) k d ready acts at = absurd (in_row m 0 d ready.1.0 (omega arith) at)
keepers_change (keepers.Open m) k d ready acts at = absurd (in_row m 0 d ready.1.0 (omega arith) at)
keepers_change (keepers.RetireSlot e) k d ready acts at = inl (ready.0 ∙ ap Some (same_control d e at))
keepers_change (keepers.Retire e old) k d ready acts at = inl (ready.0 ∙ ap Some (same_control d e at))
keepers_change (keepers.Generation g) k d ready acts at = absurd (below 1 d (omega arith) at)
keepers_change (keepers.Recall m i) k d ready acts at = absurd (acts refl)
keepers_change keepers.RecallGeneration k d ready acts at = absurd (acts refl)
keepers_change (keepers.RecallRole e) k d ready acts at = absurd (acts refl)
keepers_change keepers.Listen k d ready acts at = absurd (acts refl)

pub only_owners_change : OnlyOwnersChange
only_owners_change = ((λ kind h d few ready acts at. harts_change kind h d few ready acts at), (λ kind k d ready acts at. keepers_change kind k d ready acts at))

keepers_store : (kind : KeeperKind) (k : KeeperView) (d : ℕ) → KeeperReady kind k → keeper_op kind ≢ load → keeper_word kind ≡ value_at d → (kept_at k d).role ≡ NoRole
keepers_store (keepers.Look e) k d ready acts at = absurd (acts refl)
keepers_store (keepers.Load e) k d ready acts at = absurd (acts refl)
keepers_store (keepers.Lock e control) k d ready acts at = absurd (apart d e (sym at))
keepers_store (keepers.Store e x) k d ready acts at = ap (λ i. (kept_at k i).role) (sym (same_value d e (inl at))) ∙ ready.1
keepers_store (keepers.Unlock e role lazy) k d ready acts at = absurd (apart d e (sym at))
keepers_store (keepers.Count e) k d ready acts at = absurd (below 2 d (omega arith) (inl at))
keepers_store (keepers.Await m) k d ready acts at = absurd (acts refl)
keepers_store (keepers.Ask m) k d ready acts at = absurd (acts refl)
keepers_store (keepers.Saw e m) k d ready acts at = absurd (acts refl)
keepers_store (keepers.Fill m i x) k d ready acts at = absurd (in_row m (index_of i) d ready.1.0 (low_index i) (inl at))
keepers_store (keepers.Hand m mark) k d ready acts at = absurd (in_row m 0 d ready.1.0 (omega arith) (inl at))
keepers_store (keepers.Open m) k d ready acts at = absurd (in_row m 0 d ready.1.0 (omega arith) (inl at))
keepers_store (keepers.RetireSlot e) k d ready acts at = absurd (apart d e (sym at))
keepers_store (keepers.Retire e old) k d ready acts at = absurd (apart d e (sym at))
keepers_store (keepers.Generation g) k d ready acts at = absurd (below 1 d (omega arith) (inl at))
keepers_store (keepers.Recall m i) k d ready acts at = absurd (acts refl)
keepers_store keepers.RecallGeneration k d ready acts at = absurd (acts refl)
keepers_store (keepers.RecallRole e) k d ready acts at = absurd (acts refl)
keepers_store keepers.Listen k d ready acts at = absurd (acts refl)

pub only_fresh_are_stored : OnlyFreshAreStored
only_fresh_are_stored kind k d ready acts at = keepers_store kind k d ready acts at

-- ---- locks that are taken

pub locked_stay : LockedStay
locked_stay = ((λ ask control h n ready taken. stays control n ready.3 taken), (λ d control k n ready taken. stays control n ready.3 taken))

-- ---- rows, and the count

-- a doubleword's words are no row's
above : (i m : ℕ) → m < harts_at_most → 128 ≤ i → IsOfRow m i → ⊥
above i m few high at = let low = at.1 in let is = at.2 in omega arith

-- nor are those before the rows
before : (i m : ℕ) → i < 8 → IsOfRow m i → ⊥
before i m low at = let is = at.2 in omega arith

-- a word of one row is none of another
of_row : (n i m : ℕ) → i < 6 → IsOfRow m (row_at n i) → m ≡ n
of_row n i m low at = let inside = at.1 in let is = at.2 in omega arith

keepers_rows : (kind : KeeperKind) (k : KeeperView) (m : ℕ) → m < harts_at_most → KeeperReady kind k → keeper_op kind ≢ load → IsOfRow m (keeper_word kind) → (c : ℕ) × Waits k m c
keepers_rows (keepers.Look e) k m few ready acts at = absurd (acts refl)
keepers_rows (keepers.Load e) k m few ready acts at = absurd (acts refl)
keepers_rows (keepers.Lock e control) k m few ready acts at = absurd (above (control_at e) m few (omega arith) at)
keepers_rows (keepers.Store e x) k m few ready acts at = absurd (above (value_at e) m few (omega arith) at)
keepers_rows (keepers.Unlock e role lazy) k m few ready acts at = absurd (above (control_at e) m few (omega arith) at)
keepers_rows (keepers.Count e) k m few ready acts at = absurd (before 2 m (omega arith) at)
keepers_rows (keepers.Await n) k m few ready acts at = absurd (acts refl)
keepers_rows (keepers.Ask n) k m few ready acts at = absurd (acts refl)
keepers_rows (keepers.Saw e i) k m few ready acts at = absurd (acts refl)
keepers_rows (keepers.Fill n i x) k m few ready acts at = subst (λ j. (c : ℕ) × Waits k j c) (sym (of_row n (index_of i) m (low_index i) at)) ready
keepers_rows (keepers.Hand n mark) k m few ready acts at = subst (λ j. (c : ℕ) × Waits k j c) (sym (of_row n 0 m (omega arith) at)) (ready.0, ready.1)
keepers_rows (keepers.Open n) k m few ready acts at = subst (λ j. (c : ℕ) × Waits k j c) (sym (of_row n 0 m (omega arith) at)) (ready.0, ready.1)
keepers_rows (keepers.RetireSlot e) k m few ready acts at = absurd (above (control_at e) m few (omega arith) at)
keepers_rows (keepers.Retire e old) k m few ready acts at = absurd (above (control_at e) m few (omega arith) at)
keepers_rows (keepers.Generation g) k m few ready acts at = absurd (before 1 m (omega arith) at)
keepers_rows (keepers.Recall n i) k m few ready acts at = absurd (acts refl)
keepers_rows keepers.RecallGeneration k m few ready acts at = absurd (acts refl)
keepers_rows (keepers.RecallRole e) k m few ready acts at = absurd (acts refl)
keepers_rows keepers.Listen k m few ready acts at = absurd (acts refl)

module _ (words : List ℕ) (views : List View) (g : IsGuest words views) (seat m : ℕ) (few : m < harts_at_most) where
  abbrev state : ℕ
  state = slice_index words (state_at m)

  abbrev r : Row
  r = row_of g.kept m

  mine : (h : HartView) → get_elem? views seat ≡ some (Hart h) → m ≡ h.number → Stage state r h.lane h.lane.calling
  mine h here is =
      let fits : Fits g.kept g.keeper g.seat_of g.hart seat (Hart h) = g.seats.each seat (Hart h) here in
      subst (λ (x : HartView). Stage state r x.lane x.lane.calling) (ap g.hart is ∙ fits.2) (g.parts.calls.each_row m few).stage

  harts_rows : (kind : HartKind) (h : HartView) → get_elem? views seat ≡ some (Hart h) → HartReady kind h → hart_op kind ≢ load → IsOfRow m (hart_word kind)
      → (m ≡ h.number) × (((h.lane.calling ≡ false) × Rests state) ⊎ IsMark state)
  harts_rows (harts.Look ask) h here ready acts at = absurd (acts refl)
  harts_rows (harts.Load ask) h here ready acts at = absurd (acts refl)
  harts_rows (harts.Hold ask) h here ready acts at = absurd (acts refl)
  harts_rows (harts.Lock ask control) h here ready acts at = absurd (above (control_at (store_place ask)) m few (omega arith) at)
  harts_rows (harts.Store ask x) h here ready acts at = absurd (above (value_at (store_place ask)) m few (omega arith) at)
  harts_rows (harts.Unlock d) h here ready acts at = absurd (above (control_at d) m few (omega arith) at)
  harts_rows harts.Tally h here ready acts at = absurd (acts refl)
  harts_rows (harts.Begin n) h here ready acts at =
      let is : m ≡ h.number = of_row n 0 m (omega arith) at ∙ ready.0 in (is, inl (ready.1, (still_if state r h.lane ready.1 (mine h here is)).0))
  harts_rows (harts.Arrive n) h here ready acts at = absurd (acts refl)
  harts_rows (harts.Find n i) h here ready acts at = absurd (acts refl)
  harts_rows (harts.Exchange g) h here ready acts at = absurd (above (value_at (place_of g.entry.slot)) m few (omega arith) at)
  harts_rows (harts.Accept n e) h here ready acts at =
      let is : m ≡ h.number = of_row n 0 m (omega arith) at ∙ ready.0 in (is, inr (answered_if state r h.lane ready.2.0 ready.2.1 h.lane.calling (mine h here is)).mark)
  harts_rows (harts.Finish n won) h here ready acts at =
      let is : m ≡ h.number = of_row n 0 m (omega arith) at ∙ ready.0 in (is, inr (tried_if state r h.lane ready.1.0 ready.1.1 h.lane.calling (mine h here is)).mark)
  harts_rows (harts.Generation number) h here ready acts at = absurd (acts refl)
  harts_rows harts.Listen h here ready acts at = absurd (acts refl)

  awaits : (k : KeeperView) → get_elem? views seat ≡ some (Keeper k) → (c : ℕ) × Waits k m c → Awaits state × ((row_of k m).pending ≡ None)
  awaits k here w =
      let fits : Fits g.kept g.keeper g.seat_of g.hart seat (Keeper k) = g.seats.each seat (Keeper k) here in
      let since : r.since ≡ Some w.0 = subst (λ (x : KeeperView). (row_of x m).since ≡ Some w.0) fits.0 w.1.1 in
      (((g.parts.calls.each_row m few).known w.0 since).awaits, w.1.2)

pub only_rows_owners_change : OnlyRowsOwnersChange
only_rows_owners_change words views seat m g few = (
  (λ kind h here ready acts at. harts_rows words views g seat m few kind h here ready acts at),
  (λ kind k here ready acts at. awaits words views g seat m few k here (keepers_rows kind k m few ready acts at)),
)

-- a row's words, and a doubleword's, aren't the count
uncounted : (m i : ℕ) → row_at m i ≡ count_at → ⊥
uncounted m i at = omega arith

harts_count : (kind : HartKind) (h : HartView) → HartReady kind h → hart_word kind ≡ count_at → (kind ≡ harts.Tally) × (h.lane.calling ≡ false)
harts_count (harts.Look ask) h ready at = absurd (omega (arith, at))
harts_count (harts.Load ask) h ready at = absurd (omega (arith, at))
harts_count (harts.Hold ask) h ready at = absurd (omega (arith, at))
harts_count (harts.Lock ask control) h ready at = absurd (omega (arith, at))
harts_count (harts.Store ask x) h ready at = absurd (omega (arith, at))
harts_count (harts.Unlock d) h ready at = absurd (omega (arith, at))
harts_count harts.Tally h ready at = (refl, ready)
harts_count (harts.Begin m) h ready at = absurd (uncounted m 0 at)
harts_count (harts.Arrive m) h ready at = absurd (uncounted m 0 at)
harts_count (harts.Find m i) h ready at = absurd (uncounted m (index_of i) at)
harts_count (harts.Exchange g) h ready at = absurd (omega (arith, at))
harts_count (harts.Accept m e) h ready at = absurd (uncounted m 0 at)
harts_count (harts.Finish m won) h ready at = absurd (uncounted m 0 at)
harts_count (harts.Generation number) h ready at = absurd (omega (arith, at))
harts_count harts.Listen h ready at = absurd (omega (arith, at))

pub only_tally_counts : OnlyTallyCounts
only_tally_counts kind h ready at = harts_count kind h ready at

-- ---- trails

glance_grows : (ask : Ask) (control : ℕ) (locked may fresh : Bool) (h : HartView) → Grows h.trail (glanced ask control locked may fresh h).trail
glance_grows ask control true may fresh h = inr (_, refl)
glance_grows ask control false false fresh h = inr (_, refl)
glance_grows ask control false true false h = inr (_, refl)
glance_grows ask control false true true h = inl refl

lock_grows : (ask : StoreAsk) (control found : ℕ) (same : Bool) (h : HartView) → Grows h.trail (locked_if ask control found same h).trail
lock_grows ask control found true h = inl refl
lock_grows ask control found false h = inr (_, refl)

harts_grow : (kind : HartKind) (h : HartView) (n : ℕ) → Grows h.trail (hart_after kind h n).trail
harts_grow (harts.Look ask) h n = glance_grows ask n (lock_bit n == 1) (permits ask (role_in n)) (ask_is_fresh ask n) (heeded h)
harts_grow (harts.Load ask) h n = inr (_, refl)
harts_grow (harts.Hold ask) h n = inl refl
harts_grow (harts.Lock ask control) h n = lock_grows ask control n (eqb n control) (heeded h)
harts_grow (harts.Store ask x) h n = inr (_, refl)
harts_grow (harts.Unlock d) h n = inl refl
harts_grow harts.Tally h n = inl refl
harts_grow (harts.Begin m) h n = inl refl
harts_grow (harts.Arrive m) h n = inl refl
harts_grow (harts.Find m i) h n = inl refl
harts_grow (harts.Exchange g) h n = inr (_, refl)
harts_grow (harts.Accept m e) h n = inr (_, refl)
harts_grow (harts.Finish m won) h n = inr (_, refl)
harts_grow (harts.Generation number) h n = inr (_, refl)
harts_grow harts.Listen h n = inl refl

keeps_joined : (d : ℕ) (b : Bool) (k : KeeperView) → (keeps_if d b k).joined ≡ k.joined
keeps_joined d true k = refl
keeps_joined d false k = refl

keeps_words : (d : ℕ) (b : Bool) (k : KeeperView) → (keeps_if d b k).words ≡ k.words
keeps_words d true k = refl
keeps_words d false k = refl

awaited_joined : (m : ℕ) (b : Bool) (k : KeeperView) → (awaited_if m b k).joined ≡ k.joined
awaited_joined m true k = refl
awaited_joined m false k = refl

awaited_words : (m : ℕ) (b : Bool) (k : KeeperView) → (awaited_if m b k).words ≡ k.words
awaited_words m true k = refl
awaited_words m false k = refl

joined_stay : (kind : KeeperKind) (k : KeeperView) (n : ℕ) → (keeper_after kind k n).joined ≡ k.joined
joined_stay (keepers.Look d) k n = refl
joined_stay (keepers.Load d) k n = refl
joined_stay (keepers.Lock d control) k n = keeps_joined d (eqb n control) (heeding k)
joined_stay (keepers.Store d x) k n = refl
joined_stay (keepers.Unlock d role lazy) k n = refl
joined_stay (keepers.Count e) k n = refl
joined_stay (keepers.Await m) k n = awaited_joined m (nat_le 8 n) (heeding k)
joined_stay (keepers.Ask m) k n = refl
joined_stay (keepers.Saw d m) k n = refl
joined_stay (keepers.Fill m i x) k n = refl
joined_stay (keepers.Hand m mark) k n = refl
joined_stay (keepers.Open m) k n = refl
joined_stay (keepers.RetireSlot d) k n = refl
joined_stay (keepers.Retire d old) k n = refl
joined_stay (keepers.Generation g) k n = refl
joined_stay (keepers.Recall m i) k n = refl
joined_stay keepers.RecallGeneration k n = refl
joined_stay (keepers.RecallRole d) k n = refl
joined_stay keepers.Listen k n = refl

both_trails : (v w : View) → MayTake v w → trails_of (takes_in v w) ≡ trails_of v ++ trails_of w
both_trails (Keeper k) (Hart h) may = map-append (λ (h : HartView). h.trail) k.joined (h ∷ [])
both_trails (Keeper k) (Note events (OfHart m entries readings)) may = sym (append-nil (map (λ (h : HartView). h.trail) k.joined))
both_trails (Hart h) (Note events (OfKeeper rows)) may = refl
both_trails (Keeper k) (Keeper x) may = absurd may
both_trails (Keeper k) (Note events (OfKeeper rows)) may = absurd may
both_trails (Keeper k) Spent may = absurd may
both_trails (Hart h) (Keeper x) may = absurd may
both_trails (Hart h) (Hart x) may = absurd may
both_trails (Hart h) (Note events (OfHart m entries readings)) may = absurd may
both_trails (Hart h) Spent may = absurd may
both_trails (Note events slip) w may = absurd may
both_trails Spent w may = absurd may

pub trails_grow : TrailsGrow
trails_grow = record {
  of_hart = harts_grow;
  of_keeper = λ kind k n. ap (map (λ (h : HartView). h.trail)) (joined_stay kind k n);
  taken_in = both_trails;
}

-- ---- doublewords with a role

module _ (k : KeeperView) (d : ℕ) (long : IsLong k) (low : d < doublewords) (here : (kept_at k d).role ≢ NoRole) where
  abbrev Stays : KeeperView → Type 0
  Stays k' = (kept_at k' d).role ≢ NoRole → IsSameWord (kept_at k d) (kept_at k' d)

  same_words : (k' : KeeperView) → k'.words ≡ k.words → Stays k'
  same_words k' e now = ap (λ l. unseen (slice_index_or l d unmapped)) e

  -- what is known of one doubleword changes
  one_word : (e : ℕ) (x : Kept) → (d ≡ e → x.role ≢ NoRole → unseen x ≡ unseen (kept_at k e)) → Stays (with_kept e x k)
  one_word e x mine now = dite (ℕ_discrete d e)
      (λ (is : d ≡ e).
      let inside : e < length k.words = subst (λ n. n < length k.words) is (subst (λ n. d < n) (sym long.0) low) in
      let at : kept_at (with_kept e x k) d ≡ x = ap (kept_at (with_kept e x k)) is ∙ kept_here k e x inside in
      ap unseen at ∙ (mine is (subst (λ (y : Kept). y.role ≢ NoRole) at now) ∙ ap (λ n. unseen (kept_at k n)) (sym is)))
      (λ (apart : d ≢ e). ap unseen (set_at k.words e d x unmapped apart))

  -- one without a role is another
  free : (e : ℕ) → d ≡ e → (kept_at k e).role ≢ NoRole
  free e is none' = here (ap (λ i. (kept_at k i).role) is ∙ none')

  same_word : (kind : KeeperKind) (n : ℕ) → KeeperReady kind k → Stays (keeper_after kind k n)
  same_word (keepers.Look e) n ready = λ now. refl
  same_word (keepers.Load e) n ready = λ now. refl
  same_word (keepers.Lock e control) n ready = same_words (keeper_after (keepers.Lock e control) k n) (keeps_words e (eqb n control) (heeding k))
  same_word (keepers.Store e x) n ready = one_word e (record (kept_at k e) { value = x }) (λ is _. absurd (free e is ready.1))
  same_word (keepers.Unlock e role lazy) n ready = one_word e (record { role = role; value = (kept_at k e).value; lazy = lazy; since = length k.events; fixed = None }) (λ is _. absurd (free e is ready.1))
  same_word (keepers.Count e) n ready = λ now. refl
  same_word (keepers.Await m) n ready = same_words (keeper_after (keepers.Await m) k n) (awaited_words m (nat_le 8 n) (heeding k))
  same_word (keepers.Ask m) n ready = λ now. refl
  same_word (keepers.Saw e m) n ready = one_word e (fixed_by n (kept_at k e)) (λ is role. fixed_same n (eqb n (kept_at k e).lazy) (kept_at k e))
  same_word (keepers.Fill m i x) n ready = λ now. refl
  same_word (keepers.Hand m mark) n ready = λ now. refl
  same_word (keepers.Open m) n ready = λ now. refl
  same_word (keepers.RetireSlot e) n ready = one_word e (record (kept_at k e) { role = NoRole }) (λ is gone. absurd (gone refl))
  same_word (keepers.Retire e old) n ready = one_word e (record (kept_at k e) { role = NoRole }) (λ is gone. absurd (gone refl))
  same_word (keepers.Generation g) n ready = λ now. refl
  same_word (keepers.Recall m i) n ready = λ now. refl
  same_word keepers.RecallGeneration n ready = λ now. refl
  same_word (keepers.RecallRole e) n ready = λ now. refl
  same_word keepers.Listen n ready = λ now. refl

pub words_stay : WordsStay
words_stay kind k n d long ready low here now = same_word k d long low here kind n ready now
