-- What the rule comes to.
use Rattle.std.proofs.Common.{◌≡◌, ◌≢◌, ◌⊎◌, ⊎_elim, inl, inr, ℕ, ◌%◌, ◌<◌, Bool, true, false, List, length, slice_index, Option, Some, None, refl, sym, ap, subst, ◌∙◌, arith}
use mathlib.Core.Logic.{dite}
use native.Mathlib.Decide.{ℕ_discrete}
use Rattle.ld_base.specs.declared.linking.Role.{Role}
use Rattle.ld_base.specs.declared.linking.Role.TheVariants.{None as NoRole, Ro, Rx, Rw, Slot as SlotRole}
use Rattle.word_rule.specs.declared.entry.Exchange.{Exchange}
use Rattle.word_rule.specs.declared.entry.Grant.{Grant}
use Rattle.word_rule.specs.declared.entry.RowWord.TheVariants.{Number}
use Rattle.word_rule.specs.declared.view.HartView.{HartView}
use Rattle.word_rule.specs.declared.view.KeeperView.{KeeperView}
use Rattle.word_rule.specs.declared.view.View.{View}
use Rattle.word_rule.specs.declared.view.View.TheVariants.{Keeper, Hart, Note}
use Rattle.word_rule.specs.Layout.{control_at, doublewords, harts_at_most, lock_bit, place_of, state_at, value_at}
use Rattle.word_rule.specs.Views.{exchanges_of, kept_at, row_of}
use Rattle.word_rule.specs.Allowed.{IsAllowed, IsOf, IsSlot}
use Rattle.word_rule.specs.Words.{Holds, keeper, hart, nobody, Owner}
use Rattle.word_rule.specs.HartSteps.{Awaits, IsMark}
use Rattle.word_rule.specs.Calls.{Answered, IsEvent, Rests, RowIs, Stage, Still}
use Rattle.word_rule.specs.Slots.{Did, Fated, HasLost, IsPending, Winner}
use Rattle.word_rule.specs.Seats.{Fits}
use Rattle.word_rule.specs.Rule.{IsGuest, Parts}
use Rattle.word_rule.specs.Clauses.{Clauses, EntryClauses, HasValueOfAnother, Made, RowClauses, SlotClauses, slot_of}
use Rattle.word_rule.specs.Lemmas.Rows.{not_both, not_rest}
use Rattle.word_rule.specs.Lemmas.Seating.{no_keeper}
use Rattle.word_rule.specs.Lemmas.SlotFrames.{at_place, in_reach}

mark_no_rest : (s : ℕ) → IsMark s → Rests s → ⊥
mark_no_rest s mark rest = elim mark [
  | inl a ↦ elim rest [ inl r ↦ omega arith | inr r ↦ elim r [ inl r ↦ omega arith | inr r ↦ omega arith ] ]
  | inr b ↦ elim b [
    | inl a ↦ elim rest [ inl r ↦ omega arith | inr r ↦ elim r [ inl r ↦ omega arith | inr r ↦ omega arith ] ]
    | inr c ↦ elim c [
      | inl a ↦ elim rest [ inl r ↦ omega arith | inr r ↦ elim r [ inl r ↦ omega arith | inr r ↦ omega arith ] ]
      | inr a ↦ elim rest [ inl r ↦ omega arith | inr r ↦ elim r [ inl r ↦ omega arith | inr r ↦ omega arith ] ]
    ]
  ]
]

module _ (word : ℕ → ℕ) (kept : KeeperView) (harts : ℕ → HartView) (p : Parts word kept harts) where
  did : (m : ℕ) (x : Exchange) → Made kept harts m x → Did (word (value_at (slot_of x))) (kept_at kept (slot_of x)).lazy (p.slots.winner (slot_of x)) m x
  did m x made = p.slots.each_exchange m made.0 x made.1 made.2

  -- a slot that the keeper hasn't locked is locked by nobody
  unlocked : (d : ℕ) → IsSlot (kept_at kept) d → kept.access.locked ≢ Some d → (o : Owner) → p.locks.owner d ≡ o → lock_bit (word (control_at d)) ≡ 0
  unlocked d here free nobody is = (p.locks.each_word d here.0).free is
  unlocked d here free keeper is = absurd (free (p.locks.keepers.owns d is))
  unlocked d here free (hart m) is = let q : SlotRole ≡ Rw = sym here.1 ∙ p.locks.only_rw m d ((p.locks.of_hart m).owns d is) in absurd (cc)

  who : (d : ℕ) → d < doublewords → lock_bit (word (control_at d)) ≡ 1 → (o : Owner) → p.locks.owner d ≡ o → (kept.access.locked ≡ Some d) ⊎ ((m : ℕ) × ((harts m).access.locked ≡ Some d) × ((kept_at kept d).role ≡ Rw))
  who d low bit nobody is = let q : lock_bit (word (control_at d)) ≡ 0 = (p.locks.each_word d low).free is in absurd (omega arith)
  who d low bit keeper is = inl (p.locks.keepers.owns d is)
  who d low bit (hart m) is = let named = (p.locks.of_hart m).owns d is in inr (m, named, p.locks.only_rw m d named)

  holds : (r : Role) (value known : ℕ) → (r ≡ Ro) ⊎ (r ≡ Rx) → Holds r known value → value ≡ known
  holds NoRole value known is h = ⊎_elim (λ (e : NoRole ≡ Ro). absurd (cc)) (λ (e : NoRole ≡ Rx). absurd (cc)) is
  holds Ro value known is h = h
  holds Rx value known is h = h
  holds Rw value known is h = ⊎_elim (λ (e : Rw ≡ Ro). absurd (cc)) (λ (e : Rw ≡ Rx). absurd (cc)) is
  holds SlotRole value known is h = ⊎_elim (λ (e : SlotRole ≡ Ro). absurd (cc)) (λ (e : SlotRole ≡ Rx). absurd (cc)) is

  allowed : (d : ℕ) → IsSlot (kept_at kept) d → (w : Winner) → p.slots.winner d ≡ w → IsAllowed (kept_at kept) (row_of kept) d (word (value_at d))
  allowed d here None e = inl ((p.slots.each_slot d here).image e)
  allowed d here (Some (m, g)) e = let b = (p.slots.each_slot d here).by m g e in inr (m, g, b.1, b.0, ((p.slots.each_slot d here).bound m g e).0)

  winner : (d : ℕ) → IsSlot (kept_at kept) d → word (value_at d) ≢ (kept_at kept d).value → (w : Winner) → p.slots.winner d ≡ w
      → (m : ℕ) × (x : Exchange) × Made kept harts m x × (slot_of x ≡ d) × (x.found ≡ x.grant.lazy) × (word (value_at d) ≡ x.grant.entry.value)
  winner d here other None e = absurd (other ((p.slots.each_slot d here).image e))
  winner d here other (Some (m, g)) e =
      let b = (p.slots.each_slot d here).by m g e in
      let at : place_of g.entry.slot ≡ d = at_place g d b.0.1 in
      (m, record { grant = g; found = g.lazy }, (in_reach p.slots m g b.1, b.2, subst (λ n. IsOf (kept_at kept) n g) (sym at) b.0), at, refl, ((p.slots.each_slot d here).bound m g e).0)

  granted : (m : ℕ) → m < harts_at_most → word (state_at m) ≡ 3 → (o : Option Grant) → (row_of kept m).pending ≡ o → (g : Grant) × ((row_of kept m).pending ≡ Some g)
  granted m few three None e = absurd ((p.slots.each_hart m few).closed e three)
  granted m few three (Some g) e = (g, e)

  stated : (n : ℕ) {value m : ℕ} {w : Winner} {t : Option Exchange} {xs : List Exchange} {g : Grant} → Fated value n w m t xs g → (n ≡ 3) ⊎ (n % 8 ≡ 4) ⊎ (n % 8 ≡ 5)
  stated n f = ⊎_elim (λ o. inl o.0) (λ f. ⊎_elim (λ a. inr (inl a.0)) (λ b. inr (inr b.0)) f) f

  won : (n : ℕ) {value m : ℕ} {w : Winner} {t : Option Exchange} {xs : List Exchange} {g : Grant} → n % 8 ≡ 4 → Fated value n w m t xs g → w ≡ Some (m, g)
  won n four f = ⊎_elim (λ o. let q : n ≡ 3 = o.0 in absurd (omega arith)) (λ f. ⊎_elim (λ a. a.1) (λ b. let q : n % 8 ≡ 5 = b.0 in absurd (omega arith)) f) f

  lost : (n : ℕ) {value m : ℕ} {w : Winner} {t : Option Exchange} {xs : List Exchange} {g : Grant} → n % 8 ≡ 5 → Fated value n w m t xs g → (w ≢ Some (m, g)) × (value ≢ g.lazy) × HasLost xs g
  lost n five f = ⊎_elim (λ o. let q : n ≡ 3 = o.0 in absurd (omega arith)) (λ f. ⊎_elim (λ a. let q : n % 8 ≡ 4 = a.0 in absurd (omega arith)) (λ b. (b.1, b.2, b.3)) f) f

  -- the word of a slot that a grant lost
  left : (m : ℕ) (g : Grant) (d : ℕ) → IsSlot (kept_at kept) d → (w : Winner) → p.slots.winner d ≡ w → w ≢ Some (m, g)
      → (word (value_at d) ≡ (kept_at kept d).value) ⊎ HasValueOfAnother word kept d m g
  left m g d here None e apart = inl ((p.slots.each_slot d here).image e)
  left m g d here (Some (n, q)) e apart =
      let b = (p.slots.each_slot d here).by n q e in
      inr (n, q, b.1, b.0, ((p.slots.each_slot d here).bound n q e).0, dite (ℕ_discrete n m) (λ (same : n ≡ m). inr (λ (eq : q ≡ g). apart (λ i. Some (same i, eq i)))) (λ other. inl other))

  pending : (m : ℕ) (g : Grant) → m < harts_at_most → (row_of kept m).pending ≡ Some g
      → let d = place_of g.entry.slot in IsPending (kept_at kept) kept.access.locked (word (value_at d)) (word (state_at m)) (p.slots.winner d) m (row_of kept m) (harts m).lane.tried (exchanges_of (harts m).trail) g
  pending m g few e = (p.slots.each_hart m few).pending g e

  row : (m : ℕ) → m < harts_at_most → RowIs word (length kept.events) m (row_of kept m) (harts m).lane (Rattle.word_rule.specs.Views.entries_of (harts m).trail)
  row m few = p.calls.each_row m few

  -- a row with a mark is answered
  marked : (m : ℕ) → m < harts_at_most → IsMark (word (state_at m)) → (b : Bool) → Stage (word (state_at m)) (row_of kept m) (harts m).lane b → Answered (word (state_at m)) (row_of kept m) (harts m).lane
  marked m few mark false st = absurd (mark_no_rest (word (state_at m)) mark st.0)
  marked m few mark true st = ⊎_elim (λ w. absurd (not_both (word (state_at m)) mark w.0)) (λ a. a) st

  event_mark : (s : ℕ) → IsEvent s → IsMark s
  event_mark s e = ⊎_elim (λ (a : s ≡ 1). inl a) (λ (a : s ≡ 3). inr (inr (inl a))) e

  rests : (m : ℕ) → m < harts_at_most → (harts m).lane.calling ≡ false → Rests (word (state_at m)) × Still (row_of kept m) (harts m).lane
  rests m few idle = subst (Stage (word (state_at m)) (row_of kept m) (harts m).lane) idle (row m few).stage

  -- a row that awaits an answer has nothing that isn't taken
  awaiting : (m : ℕ) → Awaits (word (state_at m)) → (b : Bool) → Stage (word (state_at m)) (row_of kept m) (harts m).lane b → Still (row_of kept m) (harts m).lane
  awaiting m waits false st = st.1
  awaiting m waits true st = ⊎_elim (λ w. w.1) (λ (a : Answered (word (state_at m)) (row_of kept m) (harts m).lane). absurd (not_both (word (state_at m)) a.mark waits)) st

  calls : (m : ℕ) → Awaits (word (state_at m)) → (b : Bool) → (harts m).lane.calling ≡ b → Stage (word (state_at m)) (row_of kept m) (harts m).lane b → b ≡ true
  calls m waits true e st = refl
  calls m waits false e st = absurd (not_rest (word (state_at m)) st.0 waits)

  pub slot_clauses : SlotClauses word kept harts
  slot_clauses = record {
    allowed = λ d here. allowed d here (p.slots.winner d) refl;
    leads = λ d v here a. (p.slots.each_slot d here).leads v a;
    left_by_winner = λ m x made e. ((p.slots.each_slot (slot_of x) made.2.0).bound m x.grant ((did m x made).won e)).0;
    left_by_loser = λ m x made e. ((did m x made).lost e).1;
    lazy_is = λ m x made. (did m x made).lazy_is;
    not_lazy = λ m x made e. let d = did m x made in d.not_lazy (e ∙ d.lazy_is);
    one = λ m n x y made made' same e f.
        let a : p.slots.winner (slot_of x) ≡ Some (m, x.grant) = (did m x made).won e in
        let b : p.slots.winner (slot_of y) ≡ Some (n, y.grant) = (did n y made').won f in
        let q : Some (m, x.grant) ≡ Some (n, y.grant) = sym a ∙ (ap p.slots.winner same ∙ b) in
        let r : (m, x.grant) ≡ (n, y.grant) = cc in (ap (λ (z : ℕ × Grant). z.0) r, ap (λ (z : ℕ × Grant). z.1) r);
    some = λ d here other. winner d here other (p.slots.winner d) refl;
    seen = λ d x here e. ((p.slots.each_slot d here).fixed x e).0;
    known_won = λ m g few c. (p.slots.each_hart m few).won g c;
    known_lost = λ m g few c. (p.slots.each_hart m few).lost g c;
    known_found = p.losses;
  }

  pub row_clauses : RowClauses word kept harts
  row_clauses = record {
    fields = λ m few i. (row m few).fields i;
    stage = λ m few. (row m few).stage;
    open_row = λ m few three. granted m few three (row_of kept m).pending refl;
    pending = λ m g is. stated (word (state_at m)) (pending m g is.0 is.1).fate;
    in_row = λ m g is. (pending m g is.0 is.1).in_row;
    posted = λ m g is.
        let q = pending m g is.0 is.1 in
        (q.of_slot, unlocked (place_of g.entry.slot) q.of_slot.0 q.free (p.locks.owner (place_of g.entry.slot)) refl, q.lazy_is, inr (m, g, inl is.1, q.of_slot, refl));
    says_won = λ m g is four.
        let q = pending m g is.0 is.1 in
        let at : p.slots.winner (place_of g.entry.slot) ≡ Some (m, g) = won (word (state_at m)) four q.fate in
        let here = p.slots.each_slot (place_of g.entry.slot) q.of_slot.0 in ((here.by m g at).2, (here.bound m g at).0);
    won_alone = λ m n g x is low four c o.
        let w : p.slots.winner (place_of g.entry.slot) ≡ Some (m, g) = won (word (state_at m)) four (pending m g is.0 is.1).fate in
        let at : place_of x.entry.slot ≡ place_of g.entry.slot = at_place x (place_of g.entry.slot) o.1 in
        let own = did n (record { grant = x; found = x.lazy }) (low, (p.slots.each_hart n low).won x c, subst (λ i. IsOf (kept_at kept) i x) (sym at) o) in
        let z : Some (n, x) ≡ Some (m, g) = sym (own.won refl) ∙ (ap p.slots.winner at ∙ w) in
        let y : (n, x) ≡ (m, g) = cc in (ap (λ (t : ℕ × Grant). t.0) y, ap (λ (t : ℕ × Grant). t.1) y);
    says_lost = λ m g is five.
        let q = pending m g is.0 is.1 in
        let l = lost (word (state_at m)) five q.fate in (l.2, l.1, left m g (place_of g.entry.slot) q.of_slot.0 (p.slots.winner (place_of g.entry.slot)) refl l.0);
  }

  pub entry_clauses : EntryClauses word kept harts
  entry_clauses = record {
    all_taken = λ m few why. ⊎_elim (λ (idle : (harts m).lane.calling ≡ false). (rests m few idle).1.all) (λ (w : Awaits (word (state_at m))). (awaiting m w (harts m).lane.calling (row m few).stage).all) why;
    last_issued = λ m few mark. (marked m few mark (harts m).lane.calling (row m few).stage).last;
    entries = λ m few. (row m few).trail;
    once = λ m few. (p.slots.each_hart m few).rising;
    granted = λ m x few c. (p.slots.each_hart m few).granted x c;
    current = p.generations.current;
    not_later = p.generations.issued;
    readings = p.generations.read;
    kept_answers = p.generations.kept;
  }

pub clauses : (words : List ℕ) (views : List View) (g : IsGuest words views) → Clauses words views g.kept g.hart
clauses words views g = record {
  seats = record {
    keeper_here = (g.keeper, g.seats.here);
    joined_numbered = λ i j e. (g.seats.gone i j e).0;
    joined_view = λ i j e. (g.seats.gone i j e).2;
    joined_apart = λ i a j h e at same.
        let x : Fits g.kept g.keeper g.seat_of g.hart a (Hart h) = g.seats.each a (Hart h) at in
        no_keeper views g.kept g.keeper a h g.seats.here at (sym x.1 ∙ (ap g.seat_of same ∙ (g.seats.gone i j e).1));
    joined_once = g.seats.once;
    one_keeper = λ a b k l at there. let x : Fits g.kept g.keeper g.seat_of g.hart a (Keeper k) = g.seats.each a (Keeper k) at in
        let y : Fits g.kept g.keeper g.seat_of g.hart b (Keeper l) = g.seats.each b (Keeper l) there in (x.1 ∙ sym y.1, x.0);
    one_number = λ a b h i at there same. let x : Fits g.kept g.keeper g.seat_of g.hart a (Hart h) = g.seats.each a (Hart h) at in
        let y : Fits g.kept g.keeper g.seat_of g.hart b (Hart i) = g.seats.each b (Hart i) there in sym x.1 ∙ (ap g.seat_of same ∙ y.1);
    last_view = λ a h at. let x : Fits g.kept g.keeper g.seat_of g.hart a (Hart h) = g.seats.each a (Hart h) at in (x.0, x.2);
    seated_or_joined = λ m low. ⊎_elim (λ e. inl (g.seat_of m, e)) (λ j. inr j) (g.seats.there m low);
    unborn = g.seats.unborn;
  };
  locks = record {
    role = λ d low. (g.parts.locks.each_word d low).role;
    locked = λ d low bit. who word g.kept g.hart g.parts d low bit (g.parts.locks.owner d) refl;
    keeper_names = λ d named. let n = g.parts.locks.keepers.named d named in (g.parts.locks.each_word d n.0).taken (λ e. let q : keeper ≡ nobody = sym n.1 ∙ e in absurd (cc));
    hart_names = λ m d named. let n = (g.parts.locks.of_hart m).named d named in (
      (g.parts.locks.each_word d n.0).taken (λ e. let q : hart m ≡ nobody = sym n.1 ∙ e in absurd (cc)),
      g.parts.locks.only_rw m d named,
      (λ k. let q : hart m ≡ keeper = sym n.1 ∙ (g.parts.locks.keepers.named d k).1 in absurd (cc)),
    );
    one_names = λ m n d a b. let q : hart m ≡ hart n = sym ((g.parts.locks.of_hart m).named d a).1 ∙ ((g.parts.locks.of_hart n).named d b).1 in cc;
    still = λ d low is. holds word g.kept g.hart g.parts (kept_at g.kept d).role (word (value_at d)) (kept_at g.kept d).value is (g.parts.locks.each_word d low).holds;
    fetched = λ m. (g.parts.fetches.each m).fetched;
  };
  slots = slot_clauses word g.kept g.hart g.parts;
  counts = record {
    counted = g.parts.calls.counted;
    heard = λ m. (g.parts.heard m).heard;
    noted = λ a events slip at. let x : Fits g.kept g.keeper g.seat_of g.hart a (Note events slip) = g.seats.each a (Note events slip) at in x.0;
    seen = λ m few. (g.parts.calls.each_row m few).seen;
    slot_since = λ d here. (g.parts.slots.each_slot d here).since;
    known = λ m c few e. let q = (g.parts.calls.each_row m few).known c e in
        (subst (λ b. b ≡ true) (sym (calls word g.kept g.hart g.parts m q.awaits (g.hart m).lane.calling refl (g.parts.calls.each_row m few).stage)) refl, q.awaits, q.seen, q.counted);
    new = λ m few event. let r = g.parts.calls.each_row m few in
        subst (λ n. (g.hart m).lane.seen < n) (sym (r.fields Number)) ((marked word g.kept g.hart g.parts m few (event_mark word g.kept g.hart g.parts (word (state_at m)) event) (g.hart m).lane.calling r.stage).new event);
  };
  rows = row_clauses word g.kept g.hart g.parts;
  entries = entry_clauses word g.kept g.hart g.parts;
}
  where
    word : ℕ → ℕ
    word = slice_index words
