-- Each kind of step keeps the rule, and what it tells is true.
use Rattle.std.proofs.Common.{◌≡◌, ◌≢◌, inl, inr, ℕ, ◌+◌, ◌%◌, ◌≤◌, ◌<◌, Bool, true, false, eqb, List, ◌++◌, length, length-append, length-set, set, Option, Some, None, Contains, refl, sym, ap, subst, ◌∙◌, arith, slice_get, slice_index, ◌==◌}
use Rattle.std.proofs.lemmas.List.Elements.{Contains-append_left}
use Rattle.history_event.specs.declared.event.Event.{Event}
use Rattle.word_rule.specs.declared.entry.Entry.{Entry}
use Rattle.word_rule.specs.declared.entry.Exchange.{Exchange}
use Rattle.word_rule.specs.declared.entry.Grant.{Grant}
use Rattle.word_rule.specs.declared.kind.Ask.{Ask}
use Rattle.word_rule.specs.declared.kind.Ask.TheVariants.{Load as Loads, Store as Stores}
use Rattle.word_rule.specs.declared.kind.StoreAsk.{StoreAsk}
use Rattle.word_rule.specs.declared.kind.HartKind.{HartKind}
use Rattle.word_rule.specs.declared.kind.HartKind.TheVariants as kinds
use Rattle.word_rule.specs.declared.kind.KeeperKind.{KeeperKind}
use Rattle.word_rule.specs.declared.kind.KeeperKind.TheVariants as keeps
use Rattle.word_rule.specs.declared.view.Access.{Access}
use Rattle.word_rule.specs.declared.view.HartView.{HartView}
use Rattle.word_rule.specs.declared.view.KeeperView.{KeeperView}
use Rattle.word_rule.specs.declared.view.Lane.{Lane}
use Rattle.word_rule.specs.declared.view.TrailItem.{TrailItem}
use Rattle.word_rule.specs.declared.view.View.TheVariants.{Keeper, Hart}
use Rattle.word_rule.specs.Layout.{doublewords, harts_at_most, table_words, value_at, control_at, state_at, row_at, index_of, place_of, role_in, lock_bit}
use Rattle.word_rule.specs.Views.{BeginsWith, after, put, entries_of, exchanges_of, kept_at, known_of, row_of}
use Rattle.word_rule.specs.Operations.{becomes}
use Rattle.word_rule.specs.HartSteps.{Awaits, HartReady, HartLearns, hart_word, hart_op, hart_after, ask_place, Asked, glanced, locked_if, heeded, permits, ask_is_fresh, store_place}
use Rattle.word_rule.specs.KeeperSteps.{AreJoinedOnce, HasEnded, HasTakenAll, KeeperReady, KeeperLearns, keeper_word, keeper_op, keeper_after}
use Rattle.word_rule.specs.Seats.{Fits, Seats}
use Rattle.word_rule.specs.Words.{Words}
use Rattle.word_rule.specs.Calls.{Calls, Rests, RowIs, Stage, Still}
use Rattle.word_rule.specs.Slots.{AreLosses, Slots}
use Rattle.word_rule.specs.Generations.{Generations}
use Rattle.word_rule.specs.Fetches.{Fetches}
use Rattle.word_rule.specs.Rule.{HartKeeps, KeeperKeeps, Parts}
use Rattle.word_rule.specs.Lemmas.Put.{put_field, set_put}
use Rattle.word_rule.specs.Lemmas.Locks.{Aims}
use Rattle.word_rule.specs.Lemmas.HartLocks.{hart_locks, low_index}
use Rattle.word_rule.specs.Lemmas.KeeperLocks.{keeper_locks, look_tells, load_tells, lock_tells}
use Rattle.word_rule.specs.Lemmas.HartCalls.{again_tells, hart_calls, arrive_tells, tried_if}
use Rattle.word_rule.specs.Lemmas.KeeperCalls.{keeper_calls, waiting}
use Rattle.word_rule.specs.Lemmas.HartSlots.{aims_at, find_tells, hart_slots}
use Rattle.word_rule.specs.Lemmas.KeeperSlots.{keeper_slots, ask_tells, decides, saw_tells}
use Rattle.word_rule.specs.Lemmas.Losses.{exchanges_grow, hart_losses, keeper_losses}
use Rattle.word_rule.specs.Lemmas.Marks.{hart_marks, keeper_marks}
use Rattle.word_rule.specs.Lemmas.Owners.{trails_grow}
use Rattle.word_rule.specs.Lemmas.Rows.{low_rest}
use Rattle.word_rule.specs.Lemmas.Fetches.{hart_fetches, keeper_fetches}
use Rattle.word_rule.specs.Lemmas.Knowing.{entries_begin, known_begins}
use Rattle.word_rule.specs.Lemmas.Seating.{hart_seats, heard_on, heard_more, keeper_grows, keeper_seats}

-- ---- a hart's view after a step

glanced_number : (ask : Ask) (control : ℕ) (a b c : Bool) (h : HartView) → (glanced ask control a b c h).number ≡ h.number
glanced_number ask control true b c h = refl
glanced_number ask control false false c h = refl
glanced_number ask control false true false h = refl
glanced_number ask control false true true h = refl

glanced_heard : (ask : Ask) (control : ℕ) (a b c : Bool) (h : HartView) → (glanced ask control a b c h).heard ≡ h.heard
glanced_heard ask control true b c h = refl
glanced_heard ask control false false c h = refl
glanced_heard ask control false true false h = refl
glanced_heard ask control false true true h = refl

glanced_note : (ask : Ask) (control : ℕ) (a b c : Bool) (h : HartView) → (glanced ask control a b c h).note ≡ h.note
glanced_note ask control true b c h = refl
glanced_note ask control false false c h = refl
glanced_note ask control false true false h = refl
glanced_note ask control false true true h = refl

pub record SameHart (h h' : HartView) : Type 0 where
  pub number : h'.number ≡ h.number
  pub heard : h'.heard ≡ h.heard
  pub note : h'.note ≡ None

locked_same : (ask : StoreAsk) (c n : ℕ) (b : Bool) (h : HartView) → SameHart h (locked_if ask c n b (heeded h))
locked_same ask c n true h = record { number = refl; heard = refl; note = refl }
locked_same ask c n false h = record { number = refl; heard = refl; note = refl }

pub same_hart : (kind : HartKind) (h : HartView) (n : ℕ) → SameHart h (hart_after kind h n)
same_hart (kinds.Look ask) h n = record {
  number = glanced_number ask n (lock_bit n == 1) (permits ask (role_in n)) (ask_is_fresh ask n) (heeded h);
  heard = glanced_heard ask n (lock_bit n == 1) (permits ask (role_in n)) (ask_is_fresh ask n) (heeded h);
  note = glanced_note ask n (lock_bit n == 1) (permits ask (role_in n)) (ask_is_fresh ask n) (heeded h);
}
same_hart (kinds.Lock ask control) h n = locked_same ask control n (eqb n control) h
same_hart (kinds.Load ask) h n = record { number = refl; heard = refl; note = refl }
same_hart (kinds.Hold ask) h n = record { number = refl; heard = refl; note = refl }
same_hart (kinds.Store ask x) h n = record { number = refl; heard = refl; note = refl }
same_hart (kinds.Unlock d) h n = record { number = refl; heard = refl; note = refl }
same_hart kinds.Tally h n = record { number = refl; heard = refl; note = refl }
same_hart (kinds.Begin m) h n = record { number = refl; heard = refl; note = refl }
same_hart (kinds.Arrive m) h n = record { number = refl; heard = refl; note = refl }
same_hart (kinds.Find m i) h n = record { number = refl; heard = refl; note = refl }
same_hart (kinds.Exchange g) h n = record { number = refl; heard = refl; note = refl }
same_hart (kinds.Accept m e) h n = record { number = refl; heard = refl; note = refl }
same_hart (kinds.Finish m won) h n = record { number = refl; heard = refl; note = refl }
same_hart (kinds.Generation number) h n = record { number = refl; heard = refl; note = refl }
same_hart kinds.Listen h n = record { number = refl; heard = refl; note = refl }

-- ---- which words there are

row_low : (m i : ℕ) → m < harts_at_most → i < 6 → row_at m i < table_words
row_low m i few low = omega arith

value_low : (d : ℕ) → d < doublewords → value_at d < table_words
value_low d low = omega arith

control_low : (d : ℕ) → d < doublewords → control_at d < table_words
control_low d low = omega arith

asked_low : (ask : Ask) → Asked ask → ask_place ask < doublewords
asked_low (Loads ask) a = a.0.1
asked_low (Stores ask) a = a.0.1

-- ---- the steps of a hart

module _ (word : ℕ → ℕ) (kept : KeeperView) (harts : ℕ → HartView) (p : Parts word kept harts) (h : HartView) (few : h.number < harts_at_most) (is : harts h.number ≡ h) where
  lanes : ℕ → Lane
  lanes = after (λ (x : HartView). x.lane) harts

  row_is : RowIs word (length kept.events) h.number (row_of kept h.number) h.lane (entries_of h.trail)
  row_is = subst (λ (x : HartView). RowIs word (length kept.events) h.number (row_of kept h.number) x.lane (entries_of x.trail)) is (p.calls.each_row h.number few)

  -- the grant of an exchange that isn't given back is the row's
  grants : (x : Exchange) → h.lane.tried ≡ Some x → x.grant.entry.mark ≡ 3
  grants x e = ap (λ (g : Grant). g.entry.mark) ((tried_if (word (state_at h.number)) (row_of kept h.number) h.lane x e h.lane.calling row_is.stage).tried x e).1

  -- the entries of its trail were issued to it
  issued : (e : Entry) → Contains (entries_of h.trail) e → Contains (row_of kept h.number).issued e
  issued e c =
      let more = entries_begin word (length kept.events) h.number (row_of kept h.number) h.lane (entries_of h.trail) row_is in
      subst (λ es. Contains es e) (sym more.1) (Contains-append_left (entries_of h.trail) more.0 e c)

  writable : (d : ℕ) → h.access.locked ≡ Some d → (kept_at kept d).role ≡ Rattle.ld_base.specs.declared.linking.Role.TheVariants.Rw
  writable d e = p.locks.only_rw h.number d (ap (λ (x : HartView). x.access.locked) is ∙ e)

  aims : (kind : HartKind) → HartReady kind h → Aims (kept_at kept) kept.access kind
  aims (kinds.Exchange g) ready =
      let aim = aims_at word (kept_at kept) kept.access.locked (length kept.events) (row_of kept) (after (λ (x : HartView). x.lane.tried) harts) (after (λ (x : HartView). exchanges_of x.trail) harts) p.slots
      h few (ap (λ (x : HartView). x.lane.tried) is) (ap (λ (x : HartView). exchanges_of x.trail) is) (entries_of h.trail) row_is writable g ready in
      (aim.posted.of_slot.0, aim.posted.free)
  aims _ ready = tt

  pub hart_low : (kind : HartKind) → HartReady kind h → hart_word kind < table_words
  hart_low (kinds.Look ask) ready = control_low (ask_place ask) (asked_low ask ready.0)
  hart_low (kinds.Load ask) ready = value_low _ ready.0.0.1
  hart_low (kinds.Hold ask) ready = value_low (store_place ask) ((p.locks.of_hart h.number).named (store_place ask) (ap (λ (x : HartView). x.access.locked) is ∙ ready)).0
  hart_low (kinds.Lock ask control) ready = control_low (store_place ask) ready.0.0.1
  hart_low (kinds.Store ask x) ready = value_low (store_place ask) ((p.locks.of_hart h.number).named (store_place ask) (ap (λ (x : HartView). x.access.locked) is ∙ ready.0)).0
  hart_low (kinds.Unlock d) ready = control_low d ((p.locks.of_hart h.number).named d (ap (λ (x : HartView). x.access.locked) is ∙ ready.0)).0
  hart_low kinds.Tally ready = row_low_number 2 (omega arith)
    where
      row_low_number : (n : ℕ) → n < 8 → n < table_words
      row_low_number n low = omega arith
  hart_low (kinds.Begin m) ready = row_low m 0 (subst (λ n. n < harts_at_most) (sym ready.0) few) (omega arith)
  hart_low (kinds.Arrive m) ready = row_low m 0 (subst (λ n. n < harts_at_most) (sym ready.0) few) (omega arith)
  hart_low (kinds.Find m i) ready = row_low m (index_of i) (subst (λ n. n < harts_at_most) (sym ready.0) few) (low_index i)
  hart_low (kinds.Exchange g) ready = value_low (place_of g.entry.slot) (aims (kinds.Exchange g) ready).0.0
  hart_low (kinds.Accept m e) ready = row_low m 0 (subst (λ n. n < harts_at_most) (sym ready.0) few) (omega arith)
  hart_low (kinds.Finish m won) ready = row_low m 0 (subst (λ n. n < harts_at_most) (sym ready.0) few) (omega arith)
  hart_low (kinds.Generation number) ready = omega arith
  hart_low kinds.Listen ready = omega arith

  pub hart_parts : (kind : HartKind) → HartReady kind h → word (hart_word kind) < 18446744073709551616
      → Parts (put word (hart_word kind) (becomes (hart_op kind) (word (hart_word kind)))) kept (put harts h.number (hart_after kind h (word (hart_word kind))))
  hart_parts kind ready small = record {
    heard = heard_on kept.events harts h h' same.number same.heard same.note is p.heard;
    locks = subst (λ (f : ℕ → Access). Words word' (kept_at kept) kept.access f) (put_field (λ (x : HartView). x.access) harts h.number h')
        (hart_locks word (kept_at kept) kept.access (after (λ (x : HartView). x.access) harts) p.locks h.number h (ap (λ (x : HartView). x.access) is) kind small few ready (aims kind ready));
    calls = subst (λ (q : (ℕ → Lane) × (ℕ → List Entry)). Calls word' (length kept.events) (row_of kept) q.0 q.1) (λ i. (put_field (λ (x : HartView). x.lane) harts h.number h' i, put_field (λ (x : HartView). entries_of x.trail) harts h.number h' i))
        (hart_calls word (length kept.events) (row_of kept) (after (λ (x : HartView). x.lane) harts) (after (λ (x : HartView). entries_of x.trail) harts) p.calls h few (ap (λ (x : HartView). x.lane) is) (ap (λ (x : HartView). entries_of x.trail) is) kind ready);
    slots = subst (λ (q : (ℕ → Option Exchange) × (ℕ → List Exchange)). Slots word' (kept_at kept) kept.access.locked (length kept.events) (row_of kept) q.0 q.1)
        (λ i. (put_field (λ (x : HartView). x.lane.tried) harts h.number h' i, put_field (λ (x : HartView). exchanges_of x.trail) harts h.number h' i))
        (hart_slots word (kept_at kept) kept.access.locked (length kept.events) (row_of kept) (after (λ (x : HartView). x.lane.tried) harts) (after (λ (x : HartView). exchanges_of x.trail) harts) p.slots
        h few (ap (λ (x : HartView). x.lane.tried) is) (ap (λ (x : HartView). exchanges_of x.trail) is) (entries_of h.trail) row_is writable kind ready);
    losses = subst (λ (f : ℕ → List Exchange). AreLosses kept.losses f) (put_field (λ (x : HartView). exchanges_of x.trail) harts h.number h')
        (hart_losses kept.losses (after (λ (x : HartView). exchanges_of x.trail) harts) h.number (exchanges_of h'.trail)
        (λ x c. exchanges_grow h.trail h'.trail (trails_grow.of_hart kind h (word (hart_word kind))) x (subst (λ (y : HartView). Contains (exchanges_of y.trail) x) is c)) p.losses);
    generations = subst (λ (f : ℕ → List TrailItem). Generations word' kept.generation (row_of kept) f) (put_field (λ (x : HartView). x.trail) harts h.number h')
        (hart_marks word kept.generation (row_of kept) (after (λ (x : HartView). x.trail) harts) p.generations h few (ap (λ (x : HartView). x.trail) is) row_is.trail grants issued kind);
    fetches = subst (λ (q : (ℕ → Access) × (ℕ → List TrailItem)). Fetches (kept_at kept) kept.retired q.0 q.1) (λ i. (put_field (λ (x : HartView). x.access) harts h.number h' i, put_field (λ (x : HartView). x.trail) harts h.number h' i))
        (hart_fetches word (kept_at kept) kept.retired kept.access (after (λ (x : HartView). x.access) harts) (after (λ (x : HartView). x.trail) harts) p.locks p.fetches h (ap (λ (x : HartView). x.access) is) (ap (λ (x : HartView). x.trail) is) kind ready);
  }
    where
      h' : HartView
      h' = hart_after kind h (word (hart_word kind))

      word' : ℕ → ℕ
      word' = put word (hart_word kind) (becomes (hart_op kind) (word (hart_word kind)))

      same : SameHart h (hart_after kind h (word (hart_word kind)))
      same = same_hart kind h (word (hart_word kind))

  pub hart_tells : (kind : HartKind) → HartReady kind h → HartLearns kind h (word (hart_word kind))
  hart_tells kinds.Tally ready = subst (λ n. length h.heard ≤ n) (sym p.calls.counted) (begun kept.events h.heard (subst (λ (x : HartView). BeginsWith kept.events x.heard) is (p.heard h.number).heard))
    where
      begun : (xs ys : List Event) → BeginsWith xs ys → length ys ≤ length xs
      begun xs ys b = let e : length xs ≡ length (ys ++ b.0) = ap length b.1 in let l : length (ys ++ b.0) ≡ length ys + length b.0 = length-append ys b.0 in omega arith
  hart_tells (kinds.Arrive m) ready = subst (λ m. HartLearns (kinds.Arrive m) h (word (state_at m))) (sym ready.0)
      (arrive_tells word (length kept.events) (row_of kept) (after (λ (x : HartView). x.lane) harts) (after (λ (x : HartView). entries_of x.trail) harts) p.calls h few (ap (λ (x : HartView). x.lane) is) (ap (λ (x : HartView). entries_of x.trail) is) (refl, ready.1))
  hart_tells (kinds.Find m i) ready = subst (λ m. HartLearns (kinds.Find m i) h (word (row_at m (index_of i)))) (sym ready.0) (
    find_tells word (kept_at kept) kept.access.locked (length kept.events) (row_of kept) (after (λ (x : HartView). x.lane.tried) harts) (after (λ (x : HartView). exchanges_of x.trail) harts) p.slots
        h few (ap (λ (x : HartView). x.lane.tried) is) (ap (λ (x : HartView). exchanges_of x.trail) is) (entries_of h.trail) row_is writable i h.lane.offer refl,
    again_tells word (length kept.events) (row_of kept) (after (λ (x : HartView). x.lane) harts) (after (λ (x : HartView). entries_of x.trail) harts) p.calls h few (ap (λ (x : HartView). x.lane) is) (ap (λ (x : HartView). entries_of x.trail) is) i,
  )
  hart_tells (kinds.Generation number) ready = λ e c.
      let issued = known_begins word (length kept.events) h.number (row_of kept h.number) h.lane (entries_of h.trail) row_is in
      subst (λ n. e.generation ≤ n) (sym p.generations.current) (p.generations.issued h.number few e (subst (λ es. Contains es e) (sym issued.1) (Contains-append_left (known_of h.lane) issued.0 e c)))
  hart_tells kinds.Listen ready = subst (λ (x : HartView). Rattle.word_rule.specs.HartSteps.HartHeard x.note x) is (p.heard h.number).told
  hart_tells _ ready = tt

-- ---- the steps of the keeper

module _ (word : ℕ → ℕ) (k : KeeperView) (harts : ℕ → HartView) (p : Parts word k harts) (words_known : length k.words ≡ doublewords) (rows_known : length k.rows ≡ harts_at_most) where
  place : (d : ℕ) → k.access.locked ≡ Some d → d < doublewords
  place d e = (p.locks.keepers.named d e).0

  still : (m c : ℕ) → m < harts_at_most → (row_of k m).since ≡ Some c → (harts m).lane.tried ≡ None
  still m c few since = (waiting word (length k.events) m (row_of k m) (harts m).lane (entries_of (harts m).trail) c (p.calls.each_row m few) since).still.no_try

  pub keeper_low : (kind : KeeperKind) → KeeperReady kind k → keeper_word kind < table_words
  keeper_low (keeps.Look d) ready = control_low d ready.0
  keeper_low (keeps.Load d) ready = value_low d ready.0
  keeper_low (keeps.Lock d control) ready = control_low d ready.0
  keeper_low (keeps.Store d x) ready = value_low d (place d ready.0)
  keeper_low (keeps.Unlock d role lazy) ready = control_low d (place d ready.0)
  keeper_low (keeps.Count e) ready = omega arith
  keeper_low (keeps.Await m) ready = row_low m 0 ready (omega arith)
  keeper_low (keeps.Ask m) ready = row_low m 0 ready.0 (omega arith)
  keeper_low (keeps.Saw d m) ready = value_low d ready.2.0.0
  keeper_low (keeps.Fill m i x) ready = row_low m (index_of i) ready.1.0 (low_index i)
  keeper_low (keeps.Hand m mark) ready = row_low m 0 ready.1.0 (omega arith)
  keeper_low (keeps.Open m) ready = row_low m 0 ready.1.0 (omega arith)
  keeper_low (keeps.RetireSlot d) ready = control_low d (place d ready.0)
  keeper_low (keeps.Retire d old) ready = control_low d (place d ready.0)
  keeper_low (keeps.Generation g) ready = omega arith
  keeper_low (keeps.Recall m i) ready = row_low m (index_of i) ready (low_index i)
  keeper_low keeps.RecallGeneration ready = omega arith
  keeper_low (keeps.RecallRole d) ready = control_low d ready
  keeper_low keeps.Listen ready = omega arith

  pub keeper_parts : (kind : KeeperKind) → KeeperReady kind k → word (keeper_word kind) < 18446744073709551616
      → Parts (put word (keeper_word kind) (becomes (keeper_op kind) (word (keeper_word kind)))) (keeper_after kind k (word (keeper_word kind))) harts
  keeper_parts kind ready small = record {
    heard = heard_more k.events (keeper_after kind k (word (keeper_word kind))).events harts (keeper_grows kind k (word (keeper_word kind)) rows_known ready).events p.heard;
    locks = keeper_locks word k (after (λ (x : HartView). x.access) harts) p.locks words_known kind small ready;
    calls = keeper_calls word k (after (λ (x : HartView). x.lane) harts) (after (λ (x : HartView). entries_of x.trail) harts) p.calls rows_known kind ready;
    slots = keeper_slots word k (after (λ (x : HartView). x.lane.tried) harts) (after (λ (x : HartView). exchanges_of x.trail) harts) p.slots words_known rows_known place p.locks.keepers.held still kind ready;
    losses = keeper_losses word k (after (λ (x : HartView). x.lane.tried) harts) (after (λ (x : HartView). exchanges_of x.trail) harts) p.slots words_known rows_known p.losses kind ready;
    generations = keeper_marks word k (after (λ (x : HartView). x.trail) harts) p.generations rows_known kind ready;
    fetches = keeper_fetches k words_known (after (λ (x : HartView). x.access) harts) (after (λ (x : HartView). x.trail) harts) p.fetches place kind (word (keeper_word kind)) ready;
  }

  -- a hart whose seat was joined while it wasn't calling
  ended : (m : ℕ) → m < harts_at_most → ((i : ℕ) (j : HartView) → slice_get k.joined i ≡ Some j → harts j.number ≡ j) → (j : HartView) → HasEnded k m j
      → (harts m ≡ j) × Rests (word (state_at m)) × Still (row_of k m) j.lane
  ended m few gone j e =
      let is : harts m ≡ j = ap harts (sym e.1) ∙ gone e.0.0 j e.0.1 in
      let r : RowIs word (length k.events) m (row_of k m) j.lane (entries_of j.trail) = subst (λ (x : HartView). RowIs word (length k.events) m (row_of k m) x.lane (entries_of x.trail)) is (p.calls.each_row m few) in
      let st : Rests (word (state_at m)) × Still (row_of k m) j.lane = subst (Stage (word (state_at m)) (row_of k m) j.lane) e.2 r.stage in (is, st.0, st.1)

  taken_all : (m : ℕ) → m < harts_at_most → ((i : ℕ) (j : HartView) → slice_get k.joined i ≡ Some j → harts j.number ≡ j) → (j : HartView) → HasEnded k m j → HasTakenAll k m (word (state_at m)) j
  taken_all m few gone j e =
      let st = ended m few gone j e in
      let r : RowIs word (length k.events) m (row_of k m) j.lane (entries_of j.trail) = subst (λ (x : HartView). RowIs word (length k.events) m (row_of k m) x.lane (entries_of x.trail)) st.0 (p.calls.each_row m few) in
      let g = p.slots.each_hart m few in
      subst (λ (x : HartView). HasTakenAll k m (word (state_at m)) x) st.0 (record {
        taken = ap (λ (x : HartView). x.lane.taken) st.0 ∙ st.2.all;
        entries = subst (λ (x : HartView). entries_of x.trail ≡ x.lane.taken) (sym st.0) (r.trail ∙ (ap (λ t. j.lane.taken ++ Rattle.word_rule.specs.Views.tried_entry t) st.2.no_try ∙ Rattle.std.proofs.Common.append-nil j.lane.taken));
        idle = low_rest (word (state_at m)) st.1;
        won = g.won;
        lost = g.lost;
        found = λ x there own. subst (λ n. Contains (exchanges_of (harts n).trail) x.exchange) own (p.losses x there);
        granted = g.granted;
        rising = g.rising;
        kept = p.generations.kept m few;
        fetched = (p.fetches.each m).fetched;
      })

  closed : (n : ℕ) → Rests n → n % 8 ≢ 3
  closed n rest e = elim rest [ inl a ↦ omega arith | inr a ↦ elim a [ inl b ↦ omega arith | inr b ↦ omega arith ] ]

  awaited : (n : ℕ) → Awaits n → n % 8 ≢ 3
  awaited n waits e = elim waits [ inl a ↦ omega arith | inr a ↦ elim a [ inl b ↦ omega arith | inr b ↦ omega arith ] ]

  pub keeper_tells : ((i : ℕ) (j : HartView) → slice_get k.joined i ≡ Some j → harts j.number ≡ j) → AreJoinedOnce k → Rattle.word_rule.specs.KeeperSteps.KeeperHeard k.note k
      → (kind : KeeperKind) → KeeperReady kind k → KeeperLearns kind k (word (keeper_word kind))
  keeper_tells gone once told (keeps.Look d) ready = look_tells word k (after (λ (x : HartView). x.access) harts) p.locks words_known d ready
  keeper_tells gone once told (keeps.Load d) ready = load_tells word k (after (λ (x : HartView). x.access) harts) p.locks words_known d ready
  keeper_tells gone once told (keeps.Lock d control) ready = lock_tells word k (after (λ (x : HartView). x.access) harts) p.locks words_known d control ready
  keeper_tells gone once told (keeps.Count e) ready = p.calls.counted
  keeper_tells gone once told (keeps.Await m) ready = (taken_all m ready gone, decides word k (after (λ (x : HartView). x.lane.tried) harts) (after (λ (x : HartView). exchanges_of x.trail) harts) p.slots words_known rows_known, once)
  keeper_tells gone once told (keeps.Ask m) ready = ask_tells word k (after (λ (x : HartView). x.lane.tried) harts) (after (λ (x : HartView). exchanges_of x.trail) harts) p.slots words_known rows_known m
      (λ c since. awaited (word (state_at m)) ((p.calls.each_row m ready.0).known c since).awaits) (λ j e. closed (word (state_at m)) (ended m ready.0 gone j e).1) ready
  keeper_tells gone once told (keeps.Saw d m) ready = saw_tells word k (after (λ (x : HartView). x.lane.tried) harts) (after (λ (x : HartView). exchanges_of x.trail) harts) p.slots words_known rows_known d m ready
  keeper_tells gone once told (keeps.Recall m i) ready = (p.calls.each_row m ready).fields i
  keeper_tells gone once told keeps.RecallGeneration ready =
      (p.generations.current, decides word k (after (λ (x : HartView). x.lane.tried) harts) (after (λ (x : HartView). exchanges_of x.trail) harts) p.slots words_known rows_known)
  keeper_tells gone once told (keeps.RecallRole d) ready = (p.locks.each_word d ready).role
  keeper_tells gone once told keeps.Listen ready = told
  keeper_tells gone once told _ ready = tt

-- ---- the rule

pub hart_keeps : (kind : HartKind) (seat : ℕ) (h : HartView) → HartReady kind h → HartKeeps kind seat h
hart_keeps kind seat h ready words views g at small = (
  record {
    kept = g.kept;
    keeper = g.keeper;
    seat_of = g.seat_of;
    hart = put g.hart h.number h';
    wide = length-set words (hart_word kind) x ∙ g.wide;
    seats = hart_seats views g.kept g.keeper g.seat_of g.hart g.seats (λ m. (g.parts.heard m).numbered) seat h h' at (same_hart kind h n).number;
    parts = subst (λ (f : ℕ → ℕ). Parts f g.kept (put g.hart h.number h')) (set_put words (hart_word kind) x 0 (subst (λ m. hart_word kind < m) (sym g.wide) (hart_low (slice_index words) g.kept g.hart g.parts h few fits.2 kind ready)))
        (hart_parts (slice_index words) g.kept g.hart g.parts h few fits.2 kind ready small);
  },
  hart_tells (slice_index words) g.kept g.hart g.parts h few fits.2 kind ready,
)
  where
    n : ℕ
    n = slice_index words (hart_word kind)

    x : ℕ
    x = becomes (hart_op kind) (slice_index words (hart_word kind))

    h' : HartView
    h' = hart_after kind h (slice_index words (hart_word kind))

    fits : Fits g.kept g.keeper g.seat_of g.hart seat (Hart h)
    fits = g.seats.each seat (Hart h) at

    few : h.number < harts_at_most
    few = let low : h.number < g.kept.harts = fits.0 in let most : g.kept.harts ≤ harts_at_most = g.seats.few in omega arith

-- the keeper's seat is the one, and its view is the rule's
pub keeper_keeps : (kind : KeeperKind) (seat : ℕ) (k : KeeperView) → KeeperReady kind k → KeeperKeeps kind seat k
keeper_keeps kind seat k ready words views g at small = (
  record {
    kept = k';
    keeper = g.keeper;
    seat_of = g.seat_of;
    hart = g.hart;
    wide = length-set words (keeper_word kind) x ∙ g.wide;
    seats = subst (λ i. Seats (set views i (Keeper k')) k' g.keeper g.seat_of g.hart) (sym fits.1)
        (keeper_seats views k k' g.keeper g.seat_of g.hart seats (keeper_grows kind k n seats.rows_known ready));
    parts = subst (λ (f : ℕ → ℕ). Parts f k' g.hart) (set_put words (keeper_word kind) x 0 (subst (λ m. keeper_word kind < m) (sym g.wide) (keeper_low (slice_index words) k g.hart parts seats.words_known seats.rows_known kind ready)))
        (keeper_parts (slice_index words) k g.hart parts seats.words_known seats.rows_known kind ready small);
  },
  keeper_tells (slice_index words) k g.hart parts seats.words_known seats.rows_known (λ i j e. (seats.gone i j e).2)
      (record { numbered = λ i j e. (seats.gone i j e).0; once = seats.once }) seats.told kind ready,
)
  where
    n : ℕ
    n = slice_index words (keeper_word kind)

    x : ℕ
    x = becomes (keeper_op kind) (slice_index words (keeper_word kind))

    k' : KeeperView
    k' = keeper_after kind k (slice_index words (keeper_word kind))

    fits : Fits g.kept g.keeper g.seat_of g.hart seat (Keeper k)
    fits = g.seats.each seat (Keeper k) at

    seats : Seats views k g.keeper g.seat_of g.hart
    seats = subst (λ k. Seats views k g.keeper g.seat_of g.hart) (sym fits.0) g.seats

    parts : Parts (slice_index words) k g.hart
    parts = subst (λ k. Parts (slice_index words) k g.hart) (sym fits.0) g.parts
