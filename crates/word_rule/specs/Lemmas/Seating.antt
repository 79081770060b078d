-- Who the seats are, over steps.
use Rattle.std.proofs.Common.{◌≡◌, ◌≢◌, ⊎_elim, inl, inr, ℕ, zero, suc, ◌≤◌, ◌<◌, Bool, true, false, eqb, nat_le, List, [], ◌∷◌, ◌++◌, append_assoc, append-nil, length, length-set, map, set, Option, Some, None, refl, sym, ap, subst, ◌∙◌, arith, slice_get, slice_index_or, ◌%◌}
use mathlib.Core.Logic.{dite}
use native.Mathlib.Decide.{ℕ_discrete}
use mathlib.Core.Option.{some, some-injective, some-ne-none}
use lib.ListN.{get_elem?}
use Rattle.atomic_table.proofs.Lists.{at_set, set_else}
use Rattle.history_event.specs.declared.event.Event.{Event}
use Rattle.word_rule.specs.declared.entry.Grant.{Grant}
use Rattle.word_rule.specs.declared.entry.RowWord.{RowWord}
use Rattle.word_rule.specs.declared.kind.KeeperKind.{KeeperKind}
use Rattle.word_rule.specs.declared.kind.KeeperKind.TheVariants as kinds
use Rattle.word_rule.specs.declared.view.Fate.{Fate}
use Rattle.word_rule.specs.declared.view.Fate.TheVariants.{Won, Lost}
use Rattle.word_rule.specs.declared.view.HartView.{HartView}
use Rattle.word_rule.specs.declared.view.KeeperView.{KeeperView}
use Rattle.word_rule.specs.declared.view.Row.{Row}
use Rattle.word_rule.specs.declared.view.Slip.{Slip}
use Rattle.word_rule.specs.declared.view.Slip.TheVariants.{OfHart, OfKeeper}
use Rattle.word_rule.specs.declared.view.View.{View}
use Rattle.word_rule.specs.declared.view.View.TheVariants.{Keeper, Hart, Note, Spent}
use Rattle.word_rule.specs.Layout.{harts_at_most}
use Rattle.word_rule.specs.Views.{BeginsWith, IsLong, put, no_row, row_of, with_field, entry_of}
use Rattle.word_rule.specs.KeeperSteps.{KeeperReady, asked, asked_if, awaited_if, handed, heeding, keeper_after, keeps_if, not_found, opened, settled_as}
use Rattle.word_rule.specs.Seats.{Fits, GoesOn, Heard, HartFits, Issued, Seats}
use Rattle.word_rule.specs.Lemmas.Put.{put_here, put_else, put_each, set_put}
use Rattle.word_rule.specs.Lemmas.KeeperCalls.{map_row, map_long}
use Rattle.word_rule.specs.Lemmas.Rows.{field_issued, field_since}

-- ---- lists

pub set_found : {A : Type 0} (l : List A) (i : ℕ) (a b : A) → get_elem? l i ≡ some b → get_elem? (set l i a) i ≡ some a
set_found [] i a b e = absurd (some-ne-none b (sym e))
set_found (x ∷ xs) zero a b e = refl
set_found (x ∷ xs) (suc i) a b e = set_found xs i a b e

pub begins_itself : {A : Type 0} (xs : List A) → BeginsWith xs xs
begins_itself xs = ([], sym (append-nil xs))

pub begins_on : {A : Type 0} (xs ys zs : List A) → BeginsWith xs ys → BeginsWith ys zs → BeginsWith xs zs
begins_on xs ys zs a b = (b.0 ++ a.0, a.1 ∙ (ap (λ l. l ++ a.0) b.1 ∙ append_assoc zs b.0 a.0))

begins_push : {A : Type 0} (xs : List A) (x : A) → BeginsWith (xs ++ x ∷ []) xs
begins_push xs x = (x ∷ [], refl)

-- of three lists of which each begins the next the one between is the first where the last is
no_more : {A : Type 0} (xs more : List A) → xs ++ more ≡ xs → more ≡ []
no_more [] more same = same
no_more (x ∷ xs) more same = no_more xs more (let tails : x ∷ (xs ++ more) ≡ x ∷ xs = same in cc)

between : {A : Type 0} (xs ys zs : List A) → BeginsWith zs ys → BeginsWith ys xs → zs ≡ xs → ys ≡ xs
between {A} xs ys zs b a same = a.1 ∙ (ap (λ l. xs ++ l) (front a.0 b.0 (no_more xs (a.0 ++ b.0) (sym (append_assoc xs a.0 b.0) ∙ (ap (λ l. l ++ b.0) (sym a.1) ∙ (sym b.1 ∙ same))))) ∙ append-nil xs)
  where
    front : (first second : List A) → first ++ second ≡ [] → first ≡ []
    front [] second none = refl
    front (x ∷ first) second none = let no : x ∷ (first ++ second) ≡ [] = none in absurd (cc)

pushed_apart : {A : Type 0} (xs : List A) (x : A) → xs ++ x ∷ [] ≡ xs → ⊥
pushed_apart xs x same = let no : x ∷ [] ≡ [] = no_more xs (x ∷ []) same in absurd (cc)

-- ---- a row over time

pub goes_itself : (r : Row) → GoesOn r r
goes_itself r = record { issued = begins_itself r.issued; lazy = λ none same. (none, refl) }

goes_on : (r s t : Row) → GoesOn s t → GoesOn r s → GoesOn r t
goes_on r s t b a = record {
  issued = begins_on t.issued s.issued r.issued b.issued a.issued;
  lazy = λ none same.
      let mid : s.issued ≡ r.issued = between r.issued s.issued t.issued b.issued a.issued same in
      let late = b.lazy none (same ∙ sym mid) in
      let early = a.lazy late.0 mid in (early.0, late.1 ∙ early.1);
}

settled_on : (f : Fate) (p : Option Grant) (r : Row) → GoesOn r (settled_as f p r)
settled_on f None r = goes_itself r
settled_on f (Some g) r = record { issued = begins_itself r.issued; lazy = λ none same. (none, refl) }

asked_on : (a b c : Bool) (r : Row) → GoesOn r (asked_if a b c r)
asked_on true b c r = record { issued = begins_itself r.issued; lazy = λ none same. (none, refl) }
asked_on false true c r = settled_on Won r.pending r
asked_on false false true r = settled_on Lost r.pending r
asked_on false false false r = goes_itself r

filled_on : (c : ℕ) (i : RowWord) (x : ℕ) (r : Row) → r.since ≡ Some c → GoesOn r (with_field i x r)
filled_on c i x r since = record {
  issued = subst (λ l. BeginsWith l r.issued) (sym (field_issued i x r)) (begins_itself r.issued);
  lazy = λ none same. let no : Some c ≡ None = sym since ∙ (sym (field_since i x r) ∙ none) in absurd (cc);
}

-- a hart's seat isn't the keeper's
pub no_keeper : (views : List View) (k : KeeperView) (keeper seat : ℕ) (h : HartView) → get_elem? views keeper ≡ some (Keeper k) → get_elem? views seat ≡ some (Hart h) → seat ≢ keeper
no_keeper views k keeper seat h here at e = let q : Keeper k ≡ Hart h = some-injective (Keeper k) (Hart h) (sym here ∙ (ap (get_elem? views) (sym e) ∙ at)) in absurd (cc)

-- ---- a hart steps

module _ (views : List View) (kept : KeeperView) (keeper : ℕ) (seat_of : ℕ → ℕ) (hart : ℕ → HartView) (s : Seats views kept keeper seat_of hart) where
  pub hart_seats : ((m : ℕ) → (hart m).number ≡ m) → (id : ℕ) (h h' : HartView) → get_elem? views id ≡ some (Hart h) → h'.number ≡ h.number → Seats (set views id (Hart h')) kept keeper seat_of (put hart h.number h')
  hart_seats numbered id h h' at same = record {
    here = set_else views id keeper (Hart h') apart ∙ s.here;
    each = λ seat v e. ⊎_elim
        (λ (t : (seat ≡ id) × (Hart h' ≡ v)). subst (λ (p : ℕ × View). Fits kept keeper seat_of (put hart h.number h') p.0 p.1) (λ i. (sym t.0 i, t.1 i)) mine)
        (λ (t : (seat ≢ id) × (get_elem? views seat ≡ some v)). others seat v t.0 (s.each seat v t.1))
        (at_set views id seat (Hart h') v e);
    gone = λ i j e. let g = s.gone i j e in (g.0, g.1, put_else hart h.number h' j.number (λ q. apart (sym g.1 ∙ (ap seat_of q ∙ fits.1))) ∙ g.2);
    once = s.once;
    there = λ m low. dite (ℕ_discrete m h.number)
        (λ (me : m ≡ h.number). inl (ap (get_elem? (set views id (Hart h'))) (ap seat_of me ∙ fits.1) ∙ (set_found views id (Hart h') (Hart h) at ∙ ap (λ x. some (Hart x)) (sym (ap (put hart h.number h') me ∙ put_here hart h.number h')))))
        (λ (other : m ≢ h.number). ⊎_elim
        (λ (e : get_elem? views (seat_of m) ≡ some (Hart (hart m))). inl (set_else views id (seat_of m) (Hart h') (away m other e) ∙ (e ∙ ap (λ x. some (Hart x)) (sym (put_else hart h.number h' m other)))))
        (λ (j : (i : ℕ) × (slice_get kept.joined i ≡ Some (hart m))). inr (j.0, j.1 ∙ ap Some (sym (put_else hart h.number h' m other))))
        (s.there m low));
    unborn = λ m high. let low : h.number < kept.harts = fits.0 in put_else hart h.number h' m (λ (q : m ≡ h.number). omega arith) ∙ s.unborn m high;
    few = s.few;
    words_known = s.words_known;
    rows_known = s.rows_known;
    told = s.told;
  }
    where
      fits : Fits kept keeper seat_of hart id (Hart h)
      fits = s.each id (Hart h) at

      away : (m : ℕ) → m ≢ h.number → get_elem? views (seat_of m) ≡ some (Hart (hart m)) → seat_of m ≢ id
      away m other e here = let q : Hart (hart m) ≡ Hart h = some-injective (Hart (hart m)) (Hart h) (sym e ∙ (ap (get_elem? views) here ∙ at)) in
          let same : hart m ≡ h = cc in other (sym (numbered m) ∙ ap (λ (x : HartView). x.number) same)

      apart : keeper ≢ id
      apart e = let q : Keeper kept ≡ Hart h = some-injective (Keeper kept) (Hart h) (sym s.here ∙ (ap (get_elem? views) e ∙ at)) in absurd (cc)

      mine : Fits kept keeper seat_of (put hart h.number h') id (Hart h')
      mine = subst (λ n. (n < kept.harts) × (seat_of n ≡ id) × (put hart h.number h' n ≡ h')) (sym same) (fits.0, fits.1, put_here hart h.number h')

      others : (seat : ℕ) (v : View) → seat ≢ id → Fits kept keeper seat_of hart seat v → Fits kept keeper seat_of (put hart h.number h') seat v
      others seat (Keeper k) other f = f
      others seat (Hart g) other f = (f.0, f.1, put_else hart h.number h' g.number (λ q. other (sym f.1 ∙ (ap seat_of q ∙ fits.1))) ∙ f.2)
      others seat (Note events slip) other f = f
      others seat Spent other f = f

-- a hart's own knowledge of what came before stays, and it keeps no note
pub heard_on : (events : List Event) (hart : ℕ → HartView) (h h' : HartView) → h'.number ≡ h.number → h'.heard ≡ h.heard → h'.note ≡ None → hart h.number ≡ h → Heard events hart → Heard events (put hart h.number h')
heard_on events hart h h' number heard note is old = put_each (λ m h. HartFits events m h) hart h.number h' (λ m _. old m) (record {
  numbered = number;
  heard = subst (BeginsWith events) (ap (λ (x : HartView). x.heard) is ∙ sym heard) (old h.number).heard;
  told = subst (λ n. Rattle.word_rule.specs.HartSteps.HartHeard n h') (sym note) tt;
})

-- ---- the keeper steps

-- what the keeper's step leaves, or lets grow
pub record Grows (k k' : KeeperView) : Type 0 where
  pub harts : k'.harts ≡ k.harts
  pub joined : k'.joined ≡ k.joined
  pub note : k'.note ≡ None
  pub words : length k'.words ≡ length k.words
  pub rows : length k'.rows ≡ length k.rows
  pub events : BeginsWith k'.events k.events
  pub generation : k.generation ≤ k'.generation
  pub on : (m : ℕ) → GoesOn (row_of k m) (row_of k' m)

pub keeper_seats : (views : List View) (k k' : KeeperView) (keeper : ℕ) (seat_of : ℕ → ℕ) (hart : ℕ → HartView) → Seats views k keeper seat_of hart → Grows k k' → Seats (set views keeper (Keeper k')) k' keeper seat_of hart
keeper_seats views k k' keeper seat_of hart s g = record {
  here = set_found views keeper (Keeper k') (Keeper k) s.here;
  each = λ seat v e. ⊎_elim
      (λ (t : (seat ≡ keeper) × (Keeper k' ≡ v)). subst (λ (p : ℕ × View). Fits k' keeper seat_of hart p.0 p.1) (λ i. (sym t.0 i, t.1 i)) (refl, refl))
      (λ (t : (seat ≢ keeper) × (get_elem? views seat ≡ some v)). others seat v t.0 (s.each seat v t.1))
      (at_set views keeper seat (Keeper k') v e);
  gone = λ i j e. let o = s.gone i j (subst (λ l. slice_get l i ≡ Some j) g.joined e) in (subst (λ n. j.number < n) (sym g.harts) o.0, o.1, o.2);
  once = λ i n j l a b. s.once i n j l (subst (λ xs. slice_get xs i ≡ Some j) g.joined a) (subst (λ xs. slice_get xs n ≡ Some l) g.joined b);
  there = λ m low. ⊎_elim
      (λ (e : get_elem? views (seat_of m) ≡ some (Hart (hart m))). inl (set_else views keeper (seat_of m) (Keeper k') (no_keeper views k keeper (seat_of m) (hart m) s.here e) ∙ e))
      (λ (j : (i : ℕ) × (slice_get k.joined i ≡ Some (hart m))). inr (j.0, subst (λ l. slice_get l j.0 ≡ Some (hart m)) (sym g.joined) j.1))
      (s.there m (subst (λ n. m < n) g.harts low));
  unborn = λ m high. s.unborn m (subst (λ n. n ≤ m) g.harts high);
  few = subst (λ n. n ≤ harts_at_most) (sym g.harts) s.few;
  words_known = g.words ∙ s.words_known;
  rows_known = g.rows ∙ s.rows_known;
  told = subst (λ n. Rattle.word_rule.specs.KeeperSteps.KeeperHeard n k') (sym g.note) tt;
}
  where
    issued_on : (slip : Slip) → Issued k slip → Issued k' slip
    issued_on (OfHart m es read) i = (
      begins_on (row_of k' m).issued (row_of k m).issued es (g.on m).issued i.0,
      λ n c. let low : n ≤ k.generation = i.1 n c in let up : k.generation ≤ k'.generation = g.generation in omega arith,
    )
    issued_on (OfKeeper rows) i = λ m. goes_on (slice_index_or rows m no_row) (row_of k m) (row_of k' m) (g.on m) (i m)

    others : (seat : ℕ) (v : View) → seat ≢ keeper → Fits k keeper seat_of hart seat v → Fits k' keeper seat_of hart seat v
    others seat (Keeper x) other f = absurd (other f.1)
    others seat (Hart h) other f = (subst (λ n. h.number < n) (sym g.harts) f.0, f.1, f.2)
    others seat (Note events slip) other f = (begins_on k'.events k.events events g.events f.0, issued_on slip f.1)
    others seat Spent other f = tt

pub heard_more : (events events' : List Event) (hart : ℕ → HartView) → BeginsWith events' events → Heard events hart → Heard events' hart
heard_more events events' hart more old m = record { numbered = (old m).numbered; heard = begins_on events' events (hart m).heard more (old m).heard; told = (old m).told }

-- ---- each kind

plain : (k k' : KeeperView) → k'.harts ≡ k.harts → k'.joined ≡ k.joined → k'.note ≡ None → length k'.words ≡ length k.words → k'.rows ≡ k.rows → k'.events ≡ k.events → k.generation ≤ k'.generation → Grows k k'
plain k k' harts joined note words rows events generation = record {
  harts = harts;
  joined = joined;
  note = note;
  words = words;
  rows = ap length rows;
  events = subst (λ l. BeginsWith l k.events) (sym events) (begins_itself k.events);
  generation = generation;
  on = λ m. subst (λ l. GoesOn (row_of k m) (slice_index_or l m no_row)) (sym rows) (goes_itself (row_of k m));
}

-- one row goes on
row_grows : (k : KeeperView) (rows : List Row) (m : ℕ) (r : Row) → m < length rows → length rows ≡ length k.rows → ((j : ℕ) → GoesOn (row_of k j) (slice_index_or rows j no_row))
    → GoesOn (row_of k m) r → Grows k (record (heeding k) { rows = set rows m r })
row_grows k rows m r low long others more = record {
  harts = refl;
  joined = refl;
  note = refl;
  words = refl;
  rows = length-set rows m r ∙ long;
  events = begins_itself k.events;
  generation = omega arith;
  on = λ j. subst (λ (f : ℕ → Row). GoesOn (row_of k j) (f j)) (set_put rows m r no_row low)
      (put_each (λ j (y : Row). GoesOn (row_of k j) y) (λ j. slice_index_or rows j no_row) m r (λ j _. others j) more j);
}

kept_grows : (d : ℕ) (b : Bool) (k : KeeperView) → Grows k (keeps_if d b (heeding k))
kept_grows d true k = plain k (keeps_if d true (heeding k)) refl refl refl refl refl refl (omega arith)
kept_grows d false k = plain k (keeps_if d false (heeding k)) refl refl refl refl refl refl (omega arith)

awaited_grows : (m : ℕ) (b : Bool) (k : KeeperView) → m < length k.rows → Grows k (awaited_if m b (heeding k))
awaited_grows m false k low = plain k (heeding k) refl refl refl refl refl refl (omega arith)
awaited_grows m true k low = row_grows k (map not_found k.rows) m (record (not_found (row_of k m)) { since = Some (length k.events) }) (subst (λ n. m < n) (sym (map_long k.rows)) low) (map_long k.rows)
    (λ j. subst (GoesOn (row_of k j)) (map_row k.rows j) (record { issued = begins_itself (row_of k j).issued; lazy = λ none same. (none, refl) }))
    (record { issued = begins_itself (row_of k m).issued; lazy = λ none same. let no : Some (length k.events) ≡ None = none in absurd (cc) })

pub keeper_grows : (kind : KeeperKind) (k : KeeperView) (n : ℕ) → length k.rows ≡ harts_at_most → KeeperReady kind k → Grows k (keeper_after kind k n)
keeper_grows (kinds.Look d) k n long ready = plain k (keeper_after (kinds.Look d) k n) refl refl refl refl refl refl (omega arith)
keeper_grows (kinds.Load d) k n long ready = plain k (keeper_after (kinds.Load d) k n) refl refl refl refl refl refl (omega arith)
keeper_grows (kinds.Lock d control) k n long ready = let g = kept_grows d (eqb n control) k in record { harts = g.harts; joined = g.joined; note = g.note; words = g.words; rows = g.rows; events = g.events; generation = g.generation; on = g.on }
keeper_grows (kinds.Store d x) k n long ready = plain k (keeper_after (kinds.Store d x) k n) refl refl refl (length-set k.words d _) refl refl (omega arith)
keeper_grows (kinds.Unlock d role lazy) k n long ready = plain k (keeper_after (kinds.Unlock d role lazy) k n) refl refl refl (length-set k.words d _) refl refl (omega arith)
keeper_grows (kinds.Count e) k n long ready = record { harts = refl; joined = refl; note = refl; words = refl; rows = refl; events = begins_push k.events e.value; generation = omega arith; on = λ m. goes_itself (row_of k m) }
keeper_grows (kinds.Await m) k n long ready = awaited_grows m (nat_le 8 n) k (subst (λ x. m < x) (sym long) ready)
keeper_grows (kinds.Ask m) k n long ready =
    let g = row_grows k k.rows m (asked n (row_of k m)) (subst (λ x. m < x) (sym long) ready.0) refl (λ j. goes_itself (row_of k j))
    (asked_on (eqb (n % 8) 3) (eqb (n % 8) 4) (eqb (n % 8) 5) (row_of k m)) in
    record { harts = g.harts; joined = g.joined; note = g.note; words = g.words; rows = g.rows; events = g.events; generation = g.generation; on = g.on }
keeper_grows (kinds.Saw d m) k n long ready = plain k (keeper_after (kinds.Saw d m) k n) refl refl refl (length-set k.words d _) refl refl (omega arith)
keeper_grows (kinds.Fill m i x) k n long ready = row_grows k k.rows m (with_field i x (row_of k m)) (subst (λ x. m < x) (sym long) ready.1.0) refl (λ j. goes_itself (row_of k j))
    (filled_on ready.0 i x (row_of k m) ready.1.1)
keeper_grows (kinds.Hand m mark) k n long ready = row_grows k k.rows m (handed mark (row_of k m)) (subst (λ x. m < x) (sym long) ready.1.0) refl (λ j. goes_itself (row_of k j))
    (record { issued = begins_push (row_of k m).issued (entry_of mark (row_of k m)); lazy = λ none same. absurd (pushed_apart (row_of k m).issued (entry_of mark (row_of k m)) same) })
keeper_grows (kinds.Open m) k n long ready = row_grows k k.rows m (opened (row_of k m)) (subst (λ x. m < x) (sym long) ready.1.0) refl (λ j. goes_itself (row_of k j))
    (record { issued = begins_push (row_of k m).issued (entry_of 3 (row_of k m)); lazy = λ none same. absurd (pushed_apart (row_of k m).issued (entry_of 3 (row_of k m)) same) })
keeper_grows (kinds.RetireSlot d) k n long ready = plain k (keeper_after (kinds.RetireSlot d) k n) refl refl refl (length-set k.words d _) refl refl (omega arith)
keeper_grows (kinds.Retire d old) k n long ready = plain k (keeper_after (kinds.Retire d old) k n) refl refl refl (length-set k.words d _) refl refl (omega arith)
keeper_grows (kinds.Generation g) k n long ready = let up : k.generation < g = ready in plain k (keeper_after (kinds.Generation g) k n) refl refl refl refl refl refl (omega arith)
keeper_grows (kinds.Recall m i) k n long ready = plain k (keeper_after (kinds.Recall m i) k n) refl refl refl refl refl refl (omega arith)
keeper_grows kinds.RecallGeneration k n long ready = plain k (keeper_after kinds.RecallGeneration k n) refl refl refl refl refl refl (omega arith)
keeper_grows (kinds.RecallRole d) k n long ready = plain k (keeper_after (kinds.RecallRole d) k n) refl refl refl refl refl refl (omega arith)
keeper_grows kinds.Listen k n long ready = plain k (keeper_after kinds.Listen k n) refl refl refl refl refl refl (omega arith)

pub stays_long : (kind : KeeperKind) (k : KeeperView) (n : ℕ) → KeeperReady kind k → IsLong k → IsLong (keeper_after kind k n)
stays_long kind k n ready long = let g = keeper_grows kind k n long.1 ready in (g.words ∙ long.0, g.rows ∙ long.1)
