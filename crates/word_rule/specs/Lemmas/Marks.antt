-- The part on the generation, over each kind of step.
use Rattle.std.proofs.Common.{◌≡◌, ◌≢◌, ◌⊎◌, ⊎_elim, inl, inr, ℕ, ◌+◌, ◌%◌, ◌≤◌, ◌<◌, Bool, true, false, eqb, nat_le, List, [], ◌∷◌, ◌++◌, length, map, Option, Some, None, Contains, refl, sym, ap, subst, ◌∙◌, arith, slice_index_or, slice_set, ◌==◌}
use Rattle.std.proofs.lemmas.List.Elements.{Contains-push_cases}
use Rattle.word_rule.specs.declared.entry.Entry.{Entry}
use Rattle.word_rule.specs.declared.entry.Exchange.{Exchange}
use Rattle.word_rule.specs.declared.entry.Grant.{Grant}
use Rattle.word_rule.specs.declared.kind.Ask.{Ask}
use Rattle.word_rule.specs.declared.kind.StoreAsk.{StoreAsk}
use Rattle.word_rule.specs.declared.kind.HartKind.{HartKind}
use Rattle.word_rule.specs.declared.kind.HartKind.TheVariants as kinds
use Rattle.word_rule.specs.declared.kind.KeeperKind.{KeeperKind}
use Rattle.word_rule.specs.declared.kind.KeeperKind.TheVariants as keeps
use Rattle.word_rule.specs.declared.view.Fate.{Fate}
use Rattle.word_rule.specs.declared.view.Fate.TheVariants.{Won, Lost}
use Rattle.word_rule.specs.declared.view.HartView.{HartView}
use Rattle.word_rule.specs.declared.view.KeeperView.{KeeperView}
use Rattle.word_rule.specs.declared.view.Row.{Row}
use Rattle.word_rule.specs.declared.view.TrailItem.{TrailItem}
use Rattle.word_rule.specs.declared.view.TrailItem.TheVariants.{Took, Done, Generation as ReadGeneration}
use Rattle.word_rule.specs.Layout.{harts_at_most, value_at, control_at, state_at, row_at, index_of, place_of, role_in, lock_bit}
use Rattle.word_rule.specs.Views.{put, entries_of, entry_of, last_block, no_row, NoneAbove, NoneLater, readings_by, row_of, tried_entry, with_field}
use Rattle.word_rule.specs.Operations.{becomes}
use Rattle.word_rule.specs.HartSteps.{hart_word, hart_op, hart_after, glanced, looked, locked_if, heeded, permits, ask_is_fresh, ask_place, load_place, store_place}
use Rattle.word_rule.specs.KeeperSteps.{KeeperReady, asked, asked_if, awaited_if, handed, heeding, keeper_word, keeper_op, keeper_after, keeps_if, not_found, opened, settled_as}
use Rattle.word_rule.specs.Generations.{Generations, IsKept}
use Rattle.word_rule.specs.Lemmas.Put.{put_here, put_else, put_each, set_put}
use Rattle.word_rule.specs.Lemmas.KeeperCalls.{map_row, map_long}
use Rattle.word_rule.specs.Lemmas.Rows.{field_issued}
use Rattle.word_rule.specs.Lemmas.Trails.{AreReadings, last_tried, none_read, one_read, reads_push, rows_grow, trails_grow}

-- ---- harts

-- an item that is no reading
pub adds : (generation : ℕ) (trail : List TrailItem) (item : TrailItem) → AreReadings generation trail → IsKept (entries_of trail) item → readings_by item ≡ [] → AreReadings generation (trail ++ item ∷ [])
adds generation trail item old new quiet = reads_push generation trail item old new (subst (NoneAbove generation) (sym quiet) (none_read generation))

glanced_kept : (generation : ℕ) (ask : Ask) (control : ℕ) (a b c : Bool) (h : HartView) → AreReadings generation h.trail → AreReadings generation (glanced ask control a b c h).trail
glanced_kept generation ask control true b c h k = adds generation h.trail _ k tt refl
glanced_kept generation ask control false false c h k = adds generation h.trail _ k tt refl
glanced_kept generation ask control false true false h k = adds generation h.trail _ k tt refl
glanced_kept generation ask control false true true h k = k

locked_kept : (generation : ℕ) (ask : StoreAsk) (c n : ℕ) (b : Bool) (h : HartView) → AreReadings generation h.trail → AreReadings generation (locked_if ask c n b h).trail
locked_kept generation ask c n true h k = k
locked_kept generation ask c n false h k = adds generation h.trail _ k tt refl

module _ (word : ℕ → ℕ) (generation : ℕ) (row : ℕ → Row) (trail : ℕ → List TrailItem) (g : Generations word generation row trail)
    (h : HartView) (few : h.number < harts_at_most) (mine : trail h.number ≡ h.trail) (entries : entries_of h.trail ≡ h.lane.taken ++ tried_entry h.lane.tried)
    (grants : (x : Exchange) → h.lane.tried ≡ Some x → x.grant.entry.mark ≡ 3) (issued : (e : Entry) → Contains (entries_of h.trail) e → Contains (row h.number).issued e) where
  old : AreReadings generation h.trail
  old = subst (AreReadings generation) mine (g.kept h.number few, g.read h.number few)

  grows : (i x : ℕ) (t : List TrailItem) → i ≢ 1 → AreReadings generation t → Generations (put word i x) generation row (put trail h.number t)
  grows i x t apart kept = trails_grow word (put word i x) generation row trail h.number t (put_else word i x 1 (λ (e : 1 ≡ i). apart (sym e))) kept g

  item : (i : TrailItem) → IsKept (entries_of h.trail) i → readings_by i ≡ [] → AreReadings generation (h.trail ++ i ∷ [])
  item i = adds generation h.trail i old

  value_apart : (d : ℕ) → value_at d ≡ 1 → ⊥
  value_apart d e = omega arith

  control_apart : (d : ℕ) → control_at d ≡ 1 → ⊥
  control_apart d e = omega arith

  row_apart : (m i : ℕ) → row_at m i ≡ 1 → ⊥
  row_apart m i e = omega arith

  answer : (n number : ℕ) → last_block n number h.lane.taken ≡ last_block n number (entries_of h.trail)
  answer n number = sym (last_tried n number h.lane.taken h.lane.tried grants) ∙ ap (last_block n number) (sym entries)

  -- no entry so far is of a later generation
  none_later : NoneLater (word 1) (entries_of h.trail)
  none_later e c = subst (λ n. e.generation ≤ n) (sym g.current) (g.issued h.number few e (issued e c))

  pub hart_marks : (kind : HartKind) → Generations (put word (hart_word kind) (becomes (hart_op kind) (word (hart_word kind)))) generation row (put trail h.number (hart_after kind h (word (hart_word kind))).trail)
  hart_marks (kinds.Look ask) = let n : ℕ = word (control_at (ask_place ask)) in
      grows (control_at (ask_place ask)) n (looked ask n (heeded h)).trail (control_apart (ask_place ask)) (glanced_kept generation ask n (lock_bit n == 1) (permits ask (role_in n)) (ask_is_fresh ask n) (heeded h) old)
  hart_marks (kinds.Load ask) = grows (value_at (load_place ask)) (word (value_at (load_place ask))) (hart_after (kinds.Load ask) h (word (value_at (load_place ask)))).trail (value_apart (load_place ask)) (item _ tt refl)
  hart_marks (kinds.Hold ask) = grows (value_at (store_place ask)) (word (value_at (store_place ask))) h.trail (value_apart (store_place ask)) old
  hart_marks (kinds.Lock ask control) = let n : ℕ = word (control_at (store_place ask)) in
      grows (control_at (store_place ask)) (becomes (hart_op (kinds.Lock ask control)) n) (locked_if ask control n (eqb n control) (heeded h)).trail (control_apart (store_place ask)) (locked_kept generation ask control n (eqb n control) (heeded h) old)
  hart_marks (kinds.Store ask x) = grows (value_at (store_place ask)) x (hart_after (kinds.Store ask x) h (word (value_at (store_place ask)))).trail (value_apart (store_place ask)) (item _ tt refl)
  hart_marks (kinds.Unlock d) = grows (control_at d) (becomes (hart_op (kinds.Unlock d)) (word (control_at d))) h.trail (control_apart d) old
  hart_marks kinds.Tally = grows 2 (word 2) h.trail (λ (e : 2 ≡ 1). omega arith) old
  hart_marks (kinds.Begin m) = grows (state_at m) (becomes (hart_op (kinds.Begin m)) (word (state_at m))) h.trail (row_apart m 0) old
  hart_marks (kinds.Arrive m) = grows (state_at m) (word (state_at m)) h.trail (row_apart m 0) old
  hart_marks (kinds.Find m i) = grows (row_at m (index_of i)) (word (row_at m (index_of i))) h.trail (row_apart m (index_of i)) old
  hart_marks (kinds.Exchange p) = grows (value_at (place_of p.entry.slot)) (becomes (hart_op (kinds.Exchange p)) (word (value_at (place_of p.entry.slot)))) (hart_after (kinds.Exchange p) h (word (value_at (place_of p.entry.slot)))).trail (value_apart (place_of p.entry.slot)) (item _ tt refl)
  hart_marks (kinds.Accept m e) = grows (state_at m) 0 (h.trail ++ Took e ∷ []) (row_apart m 0) (item (Took e) tt refl)
  hart_marks (kinds.Finish m won) = grows (state_at m) (becomes (hart_op (kinds.Finish m won)) (word (state_at m))) (h.trail ++ Done ∷ []) (row_apart m 0) (item Done tt refl)
  hart_marks (kinds.Generation number) = trails_grow word (put word 1 (word 1)) generation row trail h.number (h.trail ++ ReadGeneration (word 1) number (last_block (word 1) number h.lane.taken) ∷ []) (put_here word 1 (word 1))
      (reads_push generation h.trail (ReadGeneration (word 1) number (last_block (word 1) number h.lane.taken)) old (answer (word 1) number, none_later) (one_read generation (word 1) g.current)) g
  hart_marks kinds.Listen = grows 0 (word 0) h.trail (λ (e : 0 ≡ 1). omega arith) old

-- ---- the keeper

pub asked_issued : (a b c : Bool) (r : Row) → (asked_if a b c r).issued ≡ r.issued
asked_issued true b c r = refl
asked_issued false true c r = settled Won r.pending r
  where
    settled : (f : Fate) (p : Option Grant) (r : Row) → (settled_as f p r).issued ≡ r.issued
    settled f None r = refl
    settled f (Some g) r = refl
asked_issued false false true r = settled Lost r.pending r
  where
    settled : (f : Fate) (p : Option Grant) (r : Row) → (settled_as f p r).issued ≡ r.issued
    settled f None r = refl
    settled f (Some g) r = refl
asked_issued false false false r = refl

module _ (word : ℕ → ℕ) (k : KeeperView) (trail : ℕ → List TrailItem) (g : Generations word k.generation (row_of k) trail) (rows_known : length k.rows ≡ harts_at_most) where
  aside : (i x : ℕ) → (i ≡ 1 → ⊥) → Generations (put word i x) k.generation (row_of k) trail
  aside i x apart = rows_grow word (put word i x) k.generation k.generation (row_of k) (row_of k) trail (put_else word i x 1 (λ (e : 1 ≡ i). apart (sym e)) ∙ g.current) (omega arith) (λ m few e c. inl c) g

  -- one row changes
  one : (rows : List Row) (i x m : ℕ) (r : Row) → (i ≡ 1 → ⊥) → m < length rows → ((j : ℕ) → (slice_index_or rows j no_row).issued ≡ (row_of k j).issued)
      → ((e : Entry) → Contains r.issued e → Contains (row_of k m).issued e ⊎ (e.generation ≤ k.generation))
      → Generations (put word i x) k.generation (λ j. slice_index_or (slice_set rows m r) j no_row) trail
  one rows i x m r apart low same back = subst (λ (f : ℕ → Row). Generations (put word i x) k.generation f trail) (set_put rows m r no_row low)
      (rows_grow word (put word i x) k.generation k.generation (row_of k) (put (λ j. slice_index_or rows j no_row) m r) trail (put_else word i x 1 (λ (e : 1 ≡ i). apart (sym e)) ∙ g.current) (omega arith)
      (put_each (λ j (y : Row). j < harts_at_most → (e : Entry) → Contains y.issued e → Contains (row_of k j).issued e ⊎ (e.generation ≤ k.generation)) (λ j. slice_index_or rows j no_row) m r
      (λ j _ _ e c. inl (subst (λ es. Contains es e) (same j) c)) (λ _. back))
      g)

  long : (m : ℕ) → m < harts_at_most → m < length k.rows
  long m few = subst (λ n. m < n) (sym rows_known) few

  at_row : (i x m : ℕ) (r : Row) → (i ≡ 1 → ⊥) → m < harts_at_most → r.issued ≡ (row_of k m).issued → Generations (put word i x) k.generation (λ j. slice_index_or (slice_set k.rows m r) j no_row) trail
  at_row i x m r apart few same = one k.rows i x m r apart (long m few) (λ j. refl) (λ e c. inl (subst (λ es. Contains es e) same c))

  pushed : (x m mark : ℕ) (r : Row) → m < harts_at_most → r.issued ≡ (row_of k m).issued ++ entry_of mark (row_of k m) ∷ [] → (row_of k m).generation ≤ k.generation
      → Generations (put word (state_at m) x) k.generation (λ j. slice_index_or (slice_set k.rows m r) j no_row) trail
  pushed x m mark r few is low = one k.rows (state_at m) x m r (λ (e : state_at m ≡ 1). omega arith) (long m few) (λ j. refl) (λ e c. ⊎_elim
      (λ (was : Contains (row_of k m).issued e). inl was)
      (λ (same : entry_of mark (row_of k m) ≡ e). inr (subst (λ (e : Entry). e.generation ≤ k.generation) same low))
      (Contains-push_cases (row_of k m).issued (entry_of mark (row_of k m)) e (subst (λ es. Contains es e) is c)))

  awaits : (m x : ℕ) (b : Bool) → m < harts_at_most → Generations (put word (state_at m) x) (awaited_if m b (heeding k)).generation (row_of (awaited_if m b (heeding k))) trail
  awaits m x false few = aside (state_at m) x (λ (e : state_at m ≡ 1). omega arith)
  awaits m x true few = one (map not_found k.rows) (state_at m) x m (record (not_found (row_of k m)) { since = Some (length k.events) }) (λ (e : state_at m ≡ 1). omega arith)
      (subst (λ n. m < n) (sym (map_long k.rows ∙ rows_known)) few) (λ j. ap (λ (r : Row). r.issued) (sym (map_row k.rows j))) (λ e c. inl c)

  kept_if : (word' : ℕ → ℕ) (d : ℕ) (b : Bool) → Generations word' k.generation (row_of k) trail → Generations word' (keeps_if d b (heeding k)).generation (row_of (keeps_if d b (heeding k))) trail
  kept_if word' d true p = p
  kept_if word' d false p = p

  pub keeper_marks : (kind : KeeperKind) → KeeperReady kind k
      → Generations (put word (keeper_word kind) (becomes (keeper_op kind) (word (keeper_word kind)))) (keeper_after kind k (word (keeper_word kind))).generation (row_of (keeper_after kind k (word (keeper_word kind)))) trail
  keeper_marks (keeps.Look d) ready = aside (control_at d) (word (control_at d)) (λ (e : control_at d ≡ 1). omega arith)
  keeper_marks (keeps.Load d) ready = aside (value_at d) (word (value_at d)) (λ (e : value_at d ≡ 1). omega arith)
  keeper_marks (keeps.Lock d control) ready = let x : ℕ = becomes (keeper_op (keeps.Lock d control)) (word (control_at d)) in
      kept_if (put word (control_at d) x) d (eqb (word (control_at d)) control) (aside (control_at d) x (λ (e : control_at d ≡ 1). omega arith))
  keeper_marks (keeps.Store d x) ready = aside (value_at d) x (λ (e : value_at d ≡ 1). omega arith)
  keeper_marks (keeps.Unlock d role lazy) ready = aside (control_at d) (becomes (keeper_op (keeps.Unlock d role lazy)) (word (control_at d))) (λ (e : control_at d ≡ 1). omega arith)
  keeper_marks (keeps.Count e) ready = aside 2 ((word 2 + 1) % 18446744073709551616) (λ (e : 2 ≡ 1). omega arith)
  keeper_marks (keeps.Await m) ready = awaits m (word (state_at m)) (nat_le 8 (word (state_at m))) ready
  keeper_marks (keeps.Ask m) ready = let n : ℕ = word (state_at m) in
      at_row (state_at m) n m (asked n (row_of k m)) (λ (e : state_at m ≡ 1). omega arith) ready.0 (asked_issued (eqb (n % 8) 3) (eqb (n % 8) 4) (eqb (n % 8) 5) (row_of k m))
  keeper_marks (keeps.Saw d m) ready = aside (value_at d) (word (value_at d)) (λ (e : value_at d ≡ 1). omega arith)
  keeper_marks (keeps.Fill m i x) ready = at_row (row_at m (index_of i)) x m (with_field i x (row_of k m)) (λ (e : row_at m (index_of i) ≡ 1). omega arith) ready.1.0 (field_issued i x (row_of k m))
  keeper_marks (keeps.Hand m mark) ready = pushed mark m mark (handed mark (row_of k m)) ready.1.0 refl ready.5
  keeper_marks (keeps.Open m) ready = pushed 3 m 3 (opened (row_of k m)) ready.1.0 refl (subst (λ n. n ≤ k.generation) (sym ready.4) (omega arith))
  keeper_marks (keeps.RetireSlot d) ready = aside (control_at d) (becomes (keeper_op (keeps.RetireSlot d)) (word (control_at d))) (λ (e : control_at d ≡ 1). omega arith)
  keeper_marks (keeps.Retire d old) ready = aside (control_at d) (becomes (keeper_op (keeps.Retire d old)) (word (control_at d))) (λ (e : control_at d ≡ 1). omega arith)
  keeper_marks (keeps.Generation n) ready = let up : k.generation < n = ready in rows_grow word (put word 1 n) k.generation n (row_of k) (row_of k) trail (put_here word 1 n) (omega arith) (λ m few e c. inl c) g
  keeper_marks (keeps.Recall m i) ready = aside (row_at m (index_of i)) (word (row_at m (index_of i))) (λ (e : row_at m (index_of i) ≡ 1). omega arith)
  keeper_marks keeps.RecallGeneration ready = rows_grow word (put word 1 (word 1)) k.generation k.generation (row_of k) (row_of k) trail (put_here word 1 (word 1) ∙ g.current) (omega arith) (λ m few e c. inl c) g
  keeper_marks (keeps.RecallRole d) ready = aside (control_at d) (word (control_at d)) (λ (e : control_at d ≡ 1). omega arith)
  keeper_marks keeps.Listen ready = aside 0 (word 0) (λ (e : 0 ≡ 1). omega arith)
