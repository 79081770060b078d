-- What harts fetched is code of the journal's images, of those that are mapped and of those that were taken away.
use Rattle.std.proofs.Common.{◌≡◌, ◌⊎◌, ⊎_elim, Ok, inl, inr, ℕ, ◌<◌, ◌≤◌, List, [], ◌∷◌, ◌++◌, length, take, refl, sym, ap, subst, ◌∙◌, arith}
use Rattle.std.specs.List.{Contains}
use Rattle.std.proofs.lemmas.List.{take-append-le}
use Rattle.std.proofs.lemmas.List.Elements.{Contains-append_cases, Contains-append_left, Contains-push, Contains-push_cases}
use Rattle.std.proofs.lemmas.Option.{slice_get_within}
use Rattle.std.proofs.Math.Seq.{take-append_seam}
use Rattle.ld_base.specs.declared.linking.Role.TheVariants.{Rx}
use Rattle.rv_hart.specs.Doublewords.{lane}
use Rattle.rv_hart.specs.declared.bus.Item.TheVariants.{Fetch}
use Rattle.history_event.specs.declared.event.Event.{Event}
use Rattle.history_event.specs.declared.event.Range.{Range}
use Rattle.word_rule.specs.declared.entry.Grant.{Grant}
use Rattle.word_rule.specs.declared.view.KeeperView.{KeeperView}
use Rattle.word_rule.specs.declared.view.Retired.{Retired}
use Rattle.word_rule.specs.declared.view.TrailItem.{TrailItem}
use Rattle.word_rule.specs.declared.view.TrailItem.TheVariants.{Call}
use Rattle.word_rule.specs.Fetches.{AreFetched, FetchesFind, FoundCode, StandAmong}
use Rattle.word_rule.specs.Lemmas.Fetches.{finds_by}
use Rattle.word_rule.specs.HartSteps.{IsAsked}
use Rattle.word_rule.specs.Layout.{doublewords, place_of}
use Rattle.word_rule.specs.Views.{kept_at}
use Rattle.history_state.specs.After.{after}
use Rattle.history_state.specs.Changes.{taken}
use Rattle.history_state.specs.Memory.{first_word_at, role_at}
use Rattle.history_state.specs.Step.{step}
use Rattle.history_state.specs.Lemmas.Lists.{none_in}
use Rattle.history_memory.specs.Memory.{IsDoubleword, doubleword_of}
use Rattle.word_holds.specs.Shared.{IsOfState}
use Rattle.kept_words.specs.Fetched.{AreCode, EachIsCode, IsCodeAt, WasTaken}
use Rattle.kept_words.specs.Gone.{GoInOrder, HaveGone, IsCovered, IsInside}
use Rattle.kept_words.proofs.Keeping.{front_at}
use Rattle.kept_words.proofs.Posting.{at_end}

-- ---- roles that went

-- what went by one event was inside its ranges
in_ranges : (ranges : List Range) (generation number : ℕ) (gone : List Retired) → GoInOrder ranges generation number gone → (x : Retired) → Contains gone x → IsInside ranges x.at
in_ranges ranges generation number gone order x there = ⊎_elim
    (λ (slot : Contains order.slots x). (order.first x slot).1)
    (λ (other : Contains order.others x). (order.next x other).1)
    (Contains-append_cases order.slots order.others x (subst (λ (all : List Retired). Contains all x) order.are there))

-- an RX doubleword that was taken away, and that this was its word
record TakenWith (journal : List Event) (d value : ℕ) : Type 0 where
  taken_at : WasTaken journal d
  word : (a : ℕ) → IsDoubleword a → place_of a ≡ d → value ≡ first_word_at (after (take taken_at.number journal)) a

-- an RX role that went
was_taken : (journal : List Event) (gone : List Retired) → HaveGone journal gone → (x : Retired) → Contains gone x → x.role ≡ Rx → TakenWith journal x.at x.value
was_taken journal gone HaveGone.nothing x there rx = absurd (let low : there.0 < 0 = there.1 in omega (arith, low))
was_taken journal gone (HaveGone.by_event past e before more have went) x there rx = ⊎_elim
    (λ (old : Contains before x).
    let with_word = was_taken past before have x old rx in
    let was = with_word.taken_at in
    let low : was.number < length past = slice_get_within past was.number was.event was.at in
    let same : take was.number (past ++ e ∷ []) ≡ take was.number past = take-append-le was.number past (e ∷ []) (omega (arith, low)) in
    record {
      taken_at = record {
        number = was.number;
        event = was.event;
        at = front_at past (e ∷ []) was.number was.event was.at;
        address = was.address;
        covered = subst (λ (es : List Event). IsCovered (taken (after es) was.event) was.address) (sym same) was.covered;
        place = was.place;
        role = subst (λ (es : List Event). role_at (after es) was.address ≡ Rx) (sym same) was.role;
      };
      word = λ a word place. subst (λ (es : List Event). x.value ≡ first_word_at (after es) a) (sym same) (with_word.word a word place);
    })
    (λ (new : Contains more x).
    let inside = in_ranges (taken (after past) e) (step (after past) e).generation (length past) more went.in_order x new in
    let same : take (length past) (past ++ e ∷ []) ≡ past = take-append_seam past (e ∷ []) in
    record {
      taken_at = record {
        number = length past;
        event = e;
        at = at_end past e (length past) refl;
        address = inside.0;
        covered = subst (λ (es : List Event). IsCovered (taken (after es) e) inside.0) (sym same) inside.1;
        place = inside.2;
        role = subst (λ (es : List Event). role_at (after es) inside.0 ≡ Rx) (sym same) (sym (went.only.had x inside.0 new inside.1.word inside.2) ∙ rx);
      };
      word = λ a word place. subst (λ (es : List Event). x.value ≡ first_word_at (after es) a) (sym same) (went.words x a new rx word place);
    })
    (Contains-append_cases before more x there)

-- ---- fetches

-- an address of guest memory and its doubleword have one place
place_whole : (a : ℕ) → IsAsked a 4 → (IsDoubleword (doubleword_of a)) × (place_of (doubleword_of a) ≡ place_of a)
unfolding place_of doublewords
place_whole a asked =
    let low : 0x10000 ≤ a = asked.0.0 in
    let high = asked.0.1 in
    (record { low = omega (arith, low); high = omega (arith, low, high); whole = omega arith }, omega (arith, low))

module _ (journal : List Event) (k : KeeperView) (number : ℕ → Grant → ℕ) (is : IsOfState (after journal) k number) (gone : HaveGone journal k.retired) where
  code_at : (a bits : ℕ) → FoundCode (kept_at k) k.retired a bits → IsCodeAt journal a bits
  code_at a bits (asked, inl code) =
      let word = place_whole a asked in
      let role : role_at (after journal) (doubleword_of a) ≡ Rx = sym (is.role (doubleword_of a) word.0) ∙ ap (λ (d : ℕ). (kept_at k d).role) word.1 ∙ code.0 in
      let value : (kept_at k (place_of a)).value ≡ first_word_at (after journal) (doubleword_of a) =
      ap (λ (d : ℕ). (kept_at k d).value) (sym word.1) ∙ is.word (doubleword_of a) word.0 (inr (inl role)) in
      IsCodeAt.mapped asked role (code.1 ∙ ap (λ (n : ℕ). lane n a 4) value)
  code_at a bits (asked, inr went) =
      let word = place_whole a asked in
      let was : TakenWith journal (place_of a) went.went.value =
      subst (λ (d : ℕ). TakenWith journal d went.went.value) went.at (was_taken journal k.retired gone went.went went.there went.role_is) in
      IsCodeAt.unmapped asked was.taken_at (went.found ∙ ap (λ (n : ℕ). lane n a 4) (was.word (doubleword_of a) word.0 word.1))

  pub are_code : (trail : List TrailItem) → AreFetched (kept_at k) k.retired trail → AreCode journal trail
  are_code trail fetched = record {
    gone = k.retired;
    have_gone = gone;
    crossed = fetched.crossed;
    among = fetched.among;
    each = finds_by (FoundCode (kept_at k) k.retired) (IsCodeAt journal) code_at trail fetched.crossed fetched.each;
  }

-- ---- each fetch by itself

-- a role of the doubleword crossed one of the fetches
record HasCrossed (crossed : List Retired) (d : ℕ) : Type 0 where
  went : Retired
  there : Contains crossed went
  at : went.at ≡ d
  role_is : went.role ≡ Rx

crossed_more : (crossed : List Retired) (x : Retired) (d : ℕ) → HasCrossed crossed d → HasCrossed (crossed ++ x ∷ []) d
crossed_more crossed x d was = record { went = was.went; there = Contains-append_left crossed (x ∷ []) was.went was.there; at = was.at; role_is = was.role_is }

among_all : (some all : List Retired) → StandAmong some all → (x : Retired) → Contains some x → Contains all x
among_all _ _ StandAmong.nothing x there = there
among_all _ _ (StandAmong.passed some all y among) x there = Contains-append_left all (y ∷ []) x (among_all some all among x there)
among_all _ _ (StandAmong.taken some all y among) x there = ⊎_elim
    (λ (old : Contains some x). Contains-append_left all (y ∷ []) x (among_all some all among x old))
    (λ (new : y ≡ x). subst (Contains (all ++ y ∷ [])) new (Contains-push all y))
    (Contains-push_cases some y x there)

abbrev Found : (ℕ → ℕ → Type 0) → List Retired → ℕ → ℕ → Type 0
Found found crossed a bits = found a bits ⊎ (IsAsked a 4 × HasCrossed crossed (place_of a))

found_in : (found : ℕ → ℕ → Type 0) (trail : List TrailItem) (crossed : List Retired) → FetchesFind found trail crossed
    → (a bits : ℕ) → Contains trail (Call (Fetch a (Ok bits))) → Found found crossed a bits
found_in found _ _ FetchesFind.nothing a bits there = absurd (none_in (Call (Fetch a (Ok bits))) there)
found_in found _ _ (FetchesFind.no_fetch trail crossed item other before) a bits there = ⊎_elim
    (λ (old : Contains trail (Call (Fetch a (Ok bits)))). found_in found trail crossed before a bits old)
    (λ (new : item ≡ Call (Fetch a (Ok bits))). absurd (other a bits new))
    (Contains-push_cases trail item (Call (Fetch a (Ok bits))) there)
found_in found _ _ (FetchesFind.whole trail crossed b more is before) a bits there = ⊎_elim
    (λ (old : Contains trail (Call (Fetch a (Ok bits)))). found_in found trail crossed before a bits old)
    (λ (new : Call (Fetch b (Ok more)) ≡ Call (Fetch a (Ok bits))).
    let same : b ≡ a = cc in
    let alike : more ≡ bits = cc in
    inl (subst (λ (p : ℕ × ℕ). found p.0 p.1) (λ i. (same i, alike i)) is))
    (Contains-push_cases trail (Call (Fetch b (Ok more))) (Call (Fetch a (Ok bits))) there)
found_in found _ _ (FetchesFind.crossing trail crossed b more went asked at role before) a bits there = ⊎_elim
    (λ (old : Contains trail (Call (Fetch a (Ok bits)))). ⊎_elim
    (λ (is : found a bits). inl is)
    (λ (was : IsAsked a 4 × HasCrossed crossed (place_of a)). inr (was.0, crossed_more crossed went (place_of a) was.1))
    (found_in found trail crossed before a bits old))
    (λ (new : Call (Fetch b (Ok more)) ≡ Call (Fetch a (Ok bits))).
    let same : b ≡ a = cc in
    inr (subst (λ (c : ℕ). IsAsked c 4 × HasCrossed (crossed ++ went ∷ []) (place_of c)) same
    (asked, record { went = went; there = Contains-push crossed went; at = at; role_is = role })))
    (Contains-push_cases trail (Call (Fetch b (Ok more))) (Call (Fetch a (Ok bits))) there)

pub each_is_code : EachIsCode
each_is_code journal trail a bits code there = ⊎_elim
    (λ (is : IsCodeAt journal a bits). inl is)
    (λ (was : IsAsked a 4 × HasCrossed code.crossed (place_of a)). inr (
      was.0,
      subst (WasTaken journal) was.1.at
          (was_taken journal code.gone code.have_gone was.1.went (among_all code.crossed code.gone code.among was.1.went was.1.there) was.1.role_is).taken_at,
    ))
    (found_in (IsCodeAt journal) trail code.crossed code.each a bits there)
