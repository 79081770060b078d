-- Entries go from the keeper to a hart.
use Rattle.std.proofs.Common.{◌≡◌, ◌≢◌, ◌⊎◌, ⊎_elim, inl, inr, ℕ, ◌+◌, ◌<◌, ◌≤◌, nat_lt, Bool, true, false, List, [], ◌∷◌, ◌++◌, length, length-append, map, Option, None, Some, refl, sym, ap, subst, ◌∙◌, append-nil, arith}
use Rattle.history_event.specs.declared.event.Event.{Event}
use Rattle.word_rule.specs.declared.entry.Entry.{Entry}
use Rattle.word_rule.specs.declared.entry.Exchange.{Exchange}
use Rattle.word_rule.specs.declared.entry.Grant.{Grant}
use Rattle.word_rule.specs.declared.view.HartView.{HartView}
use Rattle.word_rule.specs.declared.view.KeeperView.{KeeperView}
use Rattle.word_rule.specs.declared.view.Lane.{Lane}
use Rattle.word_rule.specs.declared.view.Offer.{Offer}
use Rattle.word_rule.specs.declared.view.Row.{Row}
use Rattle.word_rule.specs.declared.view.TrailItem.TheVariants.{Took}
use Rattle.word_rule.specs.HartSteps.{IsMark, arrived_if}
use Rattle.word_rule.specs.KeeperSteps.{awaited_if, handed, not_found}
use Rattle.word_rule.specs.Layout.{harts_at_most}
use Rattle.word_rule.specs.Lemmas.Heeding.{row_here}
use Rattle.word_rule.specs.Lemmas.KeeperCalls.{map_long}
use Rattle.word_rule.specs.Views.{IsLane, IsLong, fresh_offer, known_of, offer_found, row_of}
use Rattle.slot_bind.specs.Rows.{IsEntryOf, IsRowOf, MayHand, begun, found_state, full_offer, handed_over, offer_of, row_with, with_offer, with_taken}
use Rattle.word_steps.specs.Knowing.{counted}
use Rattle.link_keeper.specs.Passing.{InStep, IsCalling, IsNextEntry, IsNoEvents, MayPass, has_read, took}

-- a list with one more element at its end
pub last_is : {X : Type 0} (xs : List X) (x y : X) → xs ++ x ∷ [] ≡ xs ++ y ∷ [] → x ≡ y
last_is {X} [] x y e = let same : x ∷ [] ≡ y ∷ [] = e in cc
last_is {X} (z ∷ xs) x y e = last_is xs x y (let same : z ∷ (xs ++ x ∷ []) ≡ z ∷ (xs ++ y ∷ []) = e in cc)

-- entries of the same fields
pub entry_is : (a b : Entry) → a.mark ≡ b.mark → a.number ≡ b.number → a.slot ≡ b.slot → a.value ≡ b.value → a.generation ≡ b.generation → a ≡ b
entry_is a b mark number slot value generation i = record { mark = mark i; number = number i; slot = slot i; value = value i; generation = generation i }

-- ---- a call begins

pub here_awaited : (k : KeeperView) (id : ℕ) → IsLong k → id < harts_at_most → row_of (awaited_if id true k) id ≡ record (not_found (row_of k id)) { since = Some (length k.events) }
here_awaited k id long low = row_here (record k { rows = map not_found k.rows }) id (record (not_found (row_of k id)) { since = Some (length k.events) })
    (subst (λ n. id < n) (sym (map_long k.rows ∙ long.1)) low)

-- what was issued stays
issued_awaited : (k : KeeperView) (id : ℕ) → IsLong k → id < harts_at_most → (row_of (awaited_if id true k) id).issued ≡ (row_of k id).issued
issued_awaited k id long low = ap (λ (r : Row). r.issued) (here_awaited k id long low)

pub awaits_pass : (k : KeeperView) (id : ℕ) → IsLong k → id < harts_at_most → (row_of k id).pending ≡ None → MayPass (awaited_if id true k) id
awaits_pass k id long low settled = record {
  waits = (length k.events, (low, ap (λ (r : Row). r.since) (here_awaited k id long low), ap (λ (r : Row). r.pending) (here_awaited k id long low) ∙ settled));
  counted = omega arith;
}

untried : (l : Lane) → IsLane l → l.calling ≡ false → (t : Option Exchange) → l.tried ≡ t → t ≡ None
untried l lane idle None is = refl
untried l lane idle (Some x) is =
    let tried = lane.tried x is in
    let no : Some tried.0 ≡ None = sym tried.1 ∙ lane.idle idle in
    absurd cc

pub begun_calls : (k k1 : KeeperView) (h h1 : HartView) (id : ℕ) → id ≡ h.number → h.lane.calling ≡ false → IsLane h.lane → h1 ≡ begun h1.lane.seen h → IsCalling h1
begun_calls k k1 h h1 id same idle lane is = record {
  calling = ap (λ (x : HartView). x.lane.calling) is;
  fresh = ap (λ (x : HartView). x.lane.offer) is ∙ lane.idle idle;
  untried = ap (λ (x : HartView). x.lane.tried) is ∙ untried h.lane lane idle h.lane.tried refl;
}

pub begun_step : (k k1 : KeeperView) (h h1 : HartView) (id : ℕ) → id ≡ h.number → id < harts_at_most → IsLong k → h1 ≡ begun h1.lane.seen h → k1 ≡ awaited_if id true k → InStep k h → InStep k1 h1
begun_step k k1 h h1 id same low long hart keeper step =
    ap (λ (x : HartView). known_of x.lane) hart ∙ step ∙ ap (λ (n : ℕ). (row_of k n).issued) (sym same) ∙ sym (issued_awaited k id long low)
    ∙ ap (λ (x : KeeperView). (row_of x id).issued) (sym keeper) ∙ ap (λ (n : ℕ). (row_of k1 n).issued) (same ∙ sym (ap (λ (x : HartView). x.number) hart))

-- ---- what may be handed

pub may_hand : (k : KeeperView) (id : ℕ) (event : Event) (entry : Entry) → MayPass k id → IsNextEntry k entry → MayHand (counted event k) id entry
may_hand k id event entry may is = record {
  waits = may.waits;
  mark = inl is.mark;
  number = is.number ∙ sym (length-append k.events (event ∷ []));
  new = λ _. let counted : may.waits.0 ≤ length k.events = may.counted in let number : entry.number ≡ length k.events + 1 = is.number in omega (arith, counted, number);
  generation = is.generation;
  open_rows = λ other _ _ _ _. let no : 1 ≡ 6 = sym is.mark ∙ other in cc;
}

pub may_answer : (k : KeeperView) (id : ℕ) (entry : Entry) → MayPass k id → IsNoEvents k entry → MayHand k id entry
may_answer k id entry may is = record {
  waits = may.waits;
  mark = inr is.mark;
  number = is.number;
  new = λ one. absurd (⊎_elim (λ (x : entry.mark ≡ 2). let no : 1 ≡ 2 = sym one ∙ x in cc) (λ (x : entry.mark ≡ 6). let no : 1 ≡ 6 = sym one ∙ x in cc) is.mark);
  generation = is.generation;
  open_rows = is.open_rows;
}

-- its mark isn't that of a grant
pub event_mark : (k : KeeperView) (e : Entry) → IsNextEntry k e → e.mark ≢ 3
event_mark k e is x = let one : e.mark ≡ 1 = is.mark in let three : e.mark ≡ 3 = x in omega (arith, one, three)

pub answer_mark : (k : KeeperView) (e : Entry) → IsNoEvents k e → e.mark ≢ 3
answer_mark k e is x = ⊎_elim (λ (y : e.mark ≡ 2). let no : 2 ≡ 3 = sym y ∙ x in cc) (λ (y : e.mark ≡ 6). let no : 6 ≡ 3 = sym y ∙ x in cc) is.mark

-- ---- what was handed

put_row : (k : KeeperView) (id : ℕ) (entry : Entry) → IsLong k → id < harts_at_most → row_of (handed_over id entry k) id ≡ handed entry.mark (row_with entry (row_of k id))
put_row k id entry long low = row_here k id (handed entry.mark (row_with entry (row_of k id))) (subst (λ n. id < n) (sym long.1) low)

-- the hart's entries are those that it knows, and this one
pub was_handed : (k k0 k1 : KeeperView) (h : HartView) (id : ℕ) (entry : Entry) → id ≡ h.number → id < harts_at_most → IsLong k0 → k0.rows ≡ k.rows → k1 ≡ handed_over id entry k0 → InStep k h
    → h.lane.offer ≡ None → (row_of k1 h.number).issued ≡ h.lane.taken ++ entry ∷ []
was_handed k k0 k1 h id entry same low long rows is step fresh =
    ap (λ (n : ℕ). (row_of k1 n).issued) (sym same) ∙ ap (λ (x : KeeperView). (row_of x id).issued) is ∙ ap (λ (r : Row). r.issued) (put_row k0 id entry long low)
    ∙ ap (λ (es : List Entry). es ++ entry ∷ []) (ap (λ (rs : List Row). (row_of (record k { rows = rs }) id).issued) rows ∙ ap (λ (n : ℕ). (row_of k n).issued) same ∙ sym step
    ∙ ap (λ (o : Option Offer). known_of (record h.lane { offer = o })) fresh ∙ append-nil h.lane.taken)

-- ---- what the hart finds

low_mark : (state : ℕ) → IsMark state → nat_lt state 8 ≡ true
low_mark state is = ⊎_elim
    (λ (x : state ≡ 1). ap (λ n. nat_lt n 8) x)
    (λ (rest : (state ≡ 2) ⊎ (state ≡ 3) ⊎ (state ≡ 6)).
    ⊎_elim (λ (x : state ≡ 2). ap (λ n. nat_lt n 8) x) (λ (more : (state ≡ 3) ⊎ (state ≡ 6)). ⊎_elim (λ (x : state ≡ 3). ap (λ n. nat_lt n 8) x) (λ (x : state ≡ 6). ap (λ n. nat_lt n 8) x) more) rest)
    is

abbrev pub found_lane : ℕ → Lane → Lane
found_lane state l = record l { found = state; offer = Some (fresh_offer state) }

arrives : (state : ℕ) (l : Lane) → IsMark state → l.offer ≡ None → arrived_if state (nat_lt state 8) l ≡ found_lane state l
arrives state l mark none =
    ap (λ (b : Bool). arrived_if state b l) (low_mark state mark) ∙ ap (λ (o : Option Offer). record l { found = state; offer = Some (offer_found state o) }) none

pub has_row : (state : ℕ) (h : HartView) → IsMark state → h.lane.offer ≡ None → offer_of (found_state state h) ≡ fresh_offer state
has_row state h mark none = ap (λ (l : Lane). offer_of (record h { lane = l })) (arrives state h.lane mark none)

pub is_there : (state : ℕ) (h h1 : HartView) → IsMark state → h.lane.offer ≡ None → h1 ≡ found_state state h → h1.lane.offer ≡ Some (offer_of h1)
is_there state h h1 mark none is = subst (λ (x : HartView). x.lane.offer ≡ Some (offer_of x)) (sym is)
    (ap (λ (l : Lane). l.offer) (arrives state h.lane mark none) ∙ ap (λ (o : Offer). Some o) (sym (has_row state h mark none)))

-- it read the row in full
pub read_seat : (h h1 h2 : HartView) (state : ℕ) (g : Grant) → IsMark state → h.lane.offer ≡ None → h1 ≡ found_state state h → h2 ≡ with_offer (full_offer g) h1 → IsRowOf (offer_of h1) g
    → h2 ≡ record h { lane = record h.lane { found = g.entry.mark; offer = Some (full_offer g) } }
read_seat h h1 h2 state g mark none f1 f2 row =
    let found : h1 ≡ record h { lane = found_lane state h.lane } = f1 ∙ ap (λ (l : Lane). record h { lane = l }) (arrives state h.lane mark none) in
    let state_is : g.entry.mark ≡ state = row.entry.mark ∙ ap (λ (x : HartView). (offer_of x).mark) found in
    f2 ∙ ap (λ (x : HartView). with_offer (full_offer g) x) found ∙ ap (λ (n : ℕ). record h { lane = record h.lane { found = n; offer = Some (full_offer g) } }) (sym state_is)

pub told_seat : (h h2 h3 : HartView) (g : Grant) (events : List Event) → h2 ≡ record h { lane = record h.lane { found = g.entry.mark; offer = Some (full_offer g) } } → h3 ≡ record h2 { heard = events }
    → h3 ≡ has_read g events h
told_seat h h2 h3 g events is told = told ∙ ap (λ (x : HartView). record x { heard = events }) is

pub read_is : (h h2 : HartView) (g : Grant) (entry : Entry) (issued : List Entry) → h2 ≡ record h { lane = record h.lane { found = g.entry.mark; offer = Some (full_offer g) } }
    → known_of h2.lane ≡ issued → issued ≡ h.lane.taken ++ entry ∷ [] → g.entry ≡ entry
read_is h h2 g entry issued is knows are = last_is h.lane.taken g.entry entry (ap (λ (x : HartView). known_of x.lane) (sym is) ∙ knows ∙ are)

-- ---- what it takes

taken_entry : (g : Grant) (t entry : Entry) → g.entry ≡ entry → IsEntryOf (full_offer g) t → t ≡ entry
taken_entry g t entry is takes =
    entry_is t g.entry takes.mark (takes.number g.entry.number refl) (takes.slot g.entry.slot refl) (takes.value g.entry.value refl) (takes.generation g.entry.generation refl) ∙ is

pub took_seat : (h h1 h2 : HartView) (g : Grant) (t entry : Entry) (events : List Event) → g.entry ≡ entry → h1 ≡ has_read g events h → h2 ≡ with_taken t h1 → IsEntryOf (offer_of h1) t → h2 ≡ took entry events h
took_seat h h1 h2 g t entry events is f1 f2 takes =
    let t_is : t ≡ entry = taken_entry g t entry is (subst (λ (x : HartView). IsEntryOf (offer_of x) t) f1 takes) in
    f2 ∙ ap (λ (x : HartView). with_taken t x) f1
    ∙ ap (λ (n : ℕ). with_taken t (record h { heard = events; lane = record h.lane { found = n; offer = Some (full_offer g) } })) (ap (λ (e : Entry). e.mark) is)
    ∙ ap (λ (x : Entry). record h {
      heard = events;
      lane = record h.lane { calling = false; found = entry.mark; taken = h.lane.taken ++ x ∷ []; offer = None };
      trail = h.trail ++ Took x ∷ [];
    }) t_is

-- ---- the two of them afterwards

pub took_step : (k1 k2 : KeeperView) (h h1 : HartView) (entry : Entry) → h1 ≡ took entry k1.events h → k2 ≡ k1 → (row_of k1 h.number).issued ≡ h.lane.taken ++ entry ∷ [] → InStep k2 h1
took_step k1 k2 h h1 entry is same issued =
    ap (λ (x : HartView). known_of x.lane) is ∙ append-nil (h.lane.taken ++ entry ∷ []) ∙ sym issued ∙ ap (λ (x : KeeperView). (row_of x h.number).issued) (sym same)
    ∙ ap (λ (x : HartView). (row_of k2 x.number).issued) (sym is)

pub read_has_row : (h h1 : HartView) (g : Grant) (events : List Event) → h1 ≡ has_read g events h → h1.lane.offer ≡ Some (offer_of h1)
read_has_row h h1 g events is = subst (λ (x : HartView). x.lane.offer ≡ Some (offer_of x)) (sym is) refl

pub read_mark : (h h1 : HartView) (g : Grant) (events : List Event) (entry : Entry) → h1 ≡ has_read g events h → g.entry ≡ entry → entry.mark ≢ 3 → (offer_of h1).mark ≢ 3
read_mark h h1 g events entry is same not three = not (ap (λ (e : Entry). e.mark) (sym same) ∙ ap (λ (x : HartView). (offer_of x).mark) (sym is) ∙ three)

pub numbered : (h h1 h2 : HartView) (state : ℕ) (g : Grant) → h1 ≡ found_state state h → h2 ≡ with_offer (full_offer g) h1 → h2.number ≡ h.number
numbered h h1 h2 state g f1 f2 = ap (λ (x : HartView). x.number) f2 ∙ ap (λ (x : HartView). x.number) f1
