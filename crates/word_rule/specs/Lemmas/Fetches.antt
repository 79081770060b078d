-- The part on what harts run, over each kind of step.
use Rattle.std.proofs.Common.{◌≡◌, ◌≢◌, ◌⊎◌, ⊎_elim, inl, inr, ℕ, ◌<◌, Bool, true, false, eqb, nat_le, List, [], ◌∷◌, ◌++◌, length, Some, None, Ok, Contains, refl, sym, ap, subst, ◌∙◌, slice_index_or, ◌==◌}
use Rattle.std.proofs.lemmas.List.Elements.{Contains-append_left, Contains-push}
use mathlib.Core.Logic.{dite}
use native.Mathlib.Decide.{ℕ_discrete}
use Rattle.ld_base.specs.declared.linking.Role.{Role}
use Rattle.ld_base.specs.declared.linking.Role.TheVariants.{None as NoRole, Ro, Rx, Rw, Slot as SlotRole}
use Rattle.ld_base.specs.declared.fault.Shown.TheVariants.{Locked}
use Rattle.rv_hart.specs.Buses.{may_fetch}
use Rattle.rv_hart.specs.Doublewords.{lane as bytes_in}
use Rattle.rv_hart.specs.declared.bus.BusFault.{BusFault}
use Rattle.rv_hart.specs.declared.bus.BusFault.TheVariants.{Again}
use Rattle.rv_hart.specs.declared.bus.Item.TheVariants as items
use Rattle.word_rule.specs.declared.kind.Ask.{Ask}
use Rattle.word_rule.specs.declared.kind.Ask.TheVariants.{Load as Loads, Store as Stores}
use Rattle.word_rule.specs.declared.kind.LoadAsk.{LoadAsk}
use Rattle.word_rule.specs.declared.kind.LoadAsk.TheVariants.{Fetch, Read, Reserve}
use Rattle.word_rule.specs.declared.kind.StoreAsk.{StoreAsk}
use Rattle.word_rule.specs.declared.kind.StoreAsk.TheVariants.{Write, Amo, Conditional}
use Rattle.word_rule.specs.declared.kind.HartKind.{HartKind}
use Rattle.word_rule.specs.declared.kind.HartKind.TheVariants as kinds
use Rattle.word_rule.specs.declared.kind.KeeperKind.{KeeperKind}
use Rattle.word_rule.specs.declared.kind.KeeperKind.TheVariants as keeps
use Rattle.word_rule.specs.declared.view.Access.{Access}
use Rattle.word_rule.specs.declared.view.HartView.{HartView}
use Rattle.word_rule.specs.declared.view.KeeperView.{KeeperView}
use Rattle.word_rule.specs.declared.view.Kept.{Kept}
use Rattle.word_rule.specs.declared.view.Retired.{Retired}
use Rattle.word_rule.specs.declared.view.TrailItem.{TrailItem}
use Rattle.word_rule.specs.declared.view.TrailItem.TheVariants.{Call, Took, Done}
use Rattle.word_rule.specs.Layout.{control_at, doublewords, lock_bit, place_of, role_in, value_at}
use Rattle.word_rule.specs.Views.{kept_at, put, unmapped}
use Rattle.word_rule.specs.HartSteps.{HartReady, Asked, IsAsked, ask_is_fresh, ask_place, failed, glanced, hart_after, hart_word, heeded, last_control, load_place, load_refused, loaded, locked_if, looked, permits, refused, store_place, store_refused, stored}
use Rattle.word_rule.specs.KeeperSteps.{KeeperReady, awaited_if, fixed_by, heeding, keeper_after, keeps_if, retired, with_kept}
use Rattle.word_rule.specs.Words.{Holds, Words}
use Rattle.word_rule.specs.Fetches.{AreFetched, Fetches, FetchesFind, FoundCode, HartFetches, IsCode, IsNoFetch, StandAmong}
use Rattle.word_rule.specs.Lemmas.Heeding.{fixed_same, kept_here, unseen}
use Rattle.word_rule.specs.Lemmas.Put.{put_both, set_at}
use Rattle.word_rule.specs.Lemmas.Unlocking.{role_is}

-- ---- items

refused_other : (ask : LoadAsk) (fault : BusFault) → IsNoFetch (Call (load_refused ask fault))
refused_other (Fetch a) fault b bits e = absurd (cc)
refused_other (Read a size) fault b bits e = absurd (cc)
refused_other (Reserve a size) fault b bits e = absurd (cc)

store_other : (ask : StoreAsk) (fault : BusFault) → IsNoFetch (Call (store_refused ask fault))
store_other (Write a size v) fault b bits e = absurd (cc)
store_other (Amo a size op v) fault b bits e = absurd (cc)
store_other (Conditional a size v version) fault b bits e = absurd (cc)

ask_other : (ask : Ask) (fault : BusFault) → IsNoFetch (Call (refused ask fault))
ask_other (Loads ask) fault = refused_other ask fault
ask_other (Stores ask) fault = store_other ask fault

failed_other : (ask : Ask) → IsNoFetch (Call (failed ask))
failed_other (Loads ask) b bits e = refused_other ask (Again (Locked 0 0)) b bits e
failed_other (Stores (Write a size v)) b bits e = absurd (cc)
failed_other (Stores (Amo a size op v)) b bits e = absurd (cc)
failed_other (Stores (Conditional a size v version)) b bits e = absurd (cc)

stored_other : (ask : StoreAsk) (value : ℕ) → IsNoFetch (Call (stored ask value))
stored_other (Write a size v) value b bits e = absurd (cc)
stored_other (Amo a size op v) value b bits e = absurd (cc)
stored_other (Conditional a size v version) value b bits e = absurd (cc)

-- what is found may be said otherwise
pub finds_by : (one two : ℕ → ℕ → Type 0) → ((a bits : ℕ) → one a bits → two a bits) → (trail : List TrailItem) (crossed : List Retired) → FetchesFind one trail crossed → FetchesFind two trail crossed
finds_by one two says _ _ FetchesFind.nothing = FetchesFind.nothing
finds_by one two says _ _ (FetchesFind.no_fetch trail crossed item other before) = FetchesFind.no_fetch trail crossed item other (finds_by one two says trail crossed before)
finds_by one two says _ _ (FetchesFind.whole trail crossed a bits found before) = FetchesFind.whole trail crossed a bits (says a bits found) (finds_by one two says trail crossed before)
finds_by one two says _ _ (FetchesFind.crossing trail crossed a bits went asked at role before) = FetchesFind.crossing trail crossed a bits went asked at role (finds_by one two says trail crossed before)

-- ---- harts

module _ (known : ℕ → Kept) (gone : List Retired) where
  abbrev OfHart : Access → List TrailItem → Type 0
  OfHart = HartFetches known gone

  abbrev adds : (trail : List TrailItem) (item : TrailItem) → IsNoFetch item → AreFetched known gone trail → AreFetched known gone (trail ++ item ∷ [])
  adds trail item other old = record { crossed = old.crossed; among = old.among; each = FetchesFind.no_fetch trail old.crossed item other old.each }

  -- nothing is looked at any more
  forgets : (access : Access) (trail : List TrailItem) → access.last ≡ None → AreFetched known gone trail → OfHart access trail
  forgets access trail none' found = record { fetched = found; looked = λ d control e. let q : None ≡ Some (d, control) = sym none' ∙ e in absurd (cc) }

  glances : (ask : Ask) (control : ℕ) (a b c : Bool) (h : HartView) → OfHart h.access h.trail → (role_in control ≡ Rx → (known (ask_place ask)).role ≡ Rx) → OfHart (glanced ask control a b c h).access (glanced ask control a b c h).trail
  glances ask control true b c h old code = forgets _ _ refl (adds h.trail _ (ask_other ask _) old.fetched)
  glances ask control false false c h old code = forgets _ _ refl (adds h.trail _ (ask_other ask _) old.fetched)
  glances ask control false true false h old code = forgets _ _ refl (adds h.trail _ (failed_other ask) old.fetched)
  glances ask control false true true h old code = record {
    fetched = old.fetched;
    looked = λ d n e rx.
        let q : Some (ask_place ask, control) ≡ Some (d, n) = e in
        let p : (ask_place ask, control) ≡ (d, n) = cc in
        inl (subst (λ n. (known n).role ≡ Rx) (ap (λ (x : ℕ × ℕ). x.0) p) (code (ap (λ (x : ℕ × ℕ). role_in x.1) p ∙ rx)));
  }

  locks : (ask : StoreAsk) (control n : ℕ) (b : Bool) (h : HartView) → OfHart h.access h.trail → h.access.last ≡ Some (store_place ask, control) → OfHart (locked_if ask control n b h).access (locked_if ask control n b h).trail
  locks ask control n true h old last = record { fetched = old.fetched; looked = λ d c e rx. old.looked d c (last ∙ e) rx }
  locks ask control n false h old last = forgets _ _ refl (adds h.trail _ (store_other ask _) old.fetched)

  fetch_role : (r : Role) → may_fetch r ≡ true → r ≡ Rx
  fetch_role Rx may = refl
  fetch_role NoRole may = absurd (cc)
  fetch_role Ro may = absurd (cc)
  fetch_role Rw may = absurd (cc)
  fetch_role SlotRole may = absurd (cc)

  module _ (word : ℕ → ℕ) (access : Access) (harts : ℕ → Access) (w : Words word known access harts) (h : HartView) (old : OfHart h.access h.trail) where
    -- a doubleword whose control word says RX is RX
    code_there : (d : ℕ) → d < doublewords → role_in (word (control_at d)) ≡ Rx → (known d).role ≡ Rx
    code_there d low rx = (sym (role_is (word (control_at d)) (known d).role (w.each_word d low).role) ∙ rx)

    asked_low : (ask : Ask) → Asked ask → ask_place ask < doublewords
    asked_low (Loads ask) a = a.0.1
    asked_low (Stores ask) a = a.0.1

    -- the word of an RX doubleword is the one that the keeper knows
    code_found : (a : ℕ) → IsAsked a 4 → (known (place_of a)).role ≡ Rx → FoundCode known gone a (bytes_in (word (value_at (place_of a))) a 4)
    code_found a asked rx = (
      asked,
      inl (rx, ap (λ n. bytes_in n a 4) (subst (λ r. Holds r (known (place_of a)).value (word (value_at (place_of a)))) rx (w.each_word (place_of a) asked.0.1).holds)),
    )

    -- a fetch of a doubleword that was RX when it was looked at
    fetches : (a : ℕ) → IsAsked a 4 → IsCode known gone old.fetched.crossed (place_of a)
        → AreFetched known gone (h.trail ++ Call (items.Fetch a (Ok (bytes_in (word (value_at (place_of a))) a 4))) ∷ [])
    fetches a asked (inl rx) = record {
      crossed = old.fetched.crossed;
      among = old.fetched.among;
      each = FetchesFind.whole h.trail old.fetched.crossed a (bytes_in (word (value_at (place_of a))) a 4) (code_found a asked rx) old.fetched.each;
    }
    fetches a asked (inr went) = record {
      crossed = old.fetched.crossed ++ went.went ∷ [];
      among = went.behind;
      each = FetchesFind.crossing h.trail old.fetched.crossed a (bytes_in (word (value_at (place_of a))) a 4) went.went asked went.at went.role_is old.fetched.each;
    }

    loads : (ask : LoadAsk) → HartReady (kinds.Load ask) h → AreFetched known gone (h.trail ++ Call (loaded ask (last_control h.access.last) (word (value_at (load_place ask)))) ∷ [])
    loads (Read a size) ready = adds h.trail _ (λ b bits e. absurd (cc)) old.fetched
    loads (Reserve a size) ready = adds h.trail _ (λ b bits e. absurd (cc)) old.fetched
    loads (Fetch a) ready = fetches a ready.0 (old.looked (place_of a) ready.2.0 ready.2.1 (fetch_role (role_in ready.2.0) ready.2.3))

    own_fetches : (kind : HartKind) → HartReady kind h → OfHart (hart_after kind h (word (hart_word kind))).access (hart_after kind h (word (hart_word kind))).trail
    own_fetches (kinds.Look ask) ready = let n : ℕ = word (control_at (ask_place ask)) in
        glances ask n (lock_bit n == 1) (permits ask (role_in n)) (ask_is_fresh ask n) (heeded h) old (code_there (ask_place ask) (asked_low ask ready.0))
    own_fetches (kinds.Load ask) ready = forgets _ _ refl (loads ask ready)
    own_fetches (kinds.Hold ask) ready = record { fetched = old.fetched; looked = old.looked }
    own_fetches (kinds.Lock ask control) ready = let n : ℕ = word (control_at (store_place ask)) in locks ask control n (eqb n control) (heeded h) old ready.2
    own_fetches (kinds.Store ask x) ready = forgets _ _ refl (adds h.trail _ (stored_other ask _) old.fetched)
    own_fetches (kinds.Unlock d) ready = forgets _ _ refl old.fetched
    own_fetches kinds.Tally ready = record { fetched = old.fetched; looked = old.looked }
    own_fetches (kinds.Begin m) ready = record { fetched = old.fetched; looked = old.looked }
    own_fetches (kinds.Arrive m) ready = record { fetched = old.fetched; looked = old.looked }
    own_fetches (kinds.Find m i) ready = record { fetched = old.fetched; looked = old.looked }
    own_fetches (kinds.Exchange g) ready = record { fetched = adds h.trail _ (λ a bits e. absurd (cc)) old.fetched; looked = old.looked }
    own_fetches (kinds.Accept m e) ready = record { fetched = adds h.trail (Took e) (λ a bits q. absurd (cc)) old.fetched; looked = old.looked }
    own_fetches (kinds.Finish m won) ready = record { fetched = adds h.trail Done (λ a bits e. absurd (cc)) old.fetched; looked = old.looked }
    own_fetches (kinds.Generation number) ready = record { fetched = adds h.trail _ (λ a bits e. absurd (cc)) old.fetched; looked = old.looked }
    own_fetches kinds.Listen ready = record { fetched = old.fetched; looked = old.looked }

pub hart_fetches : (word : ℕ → ℕ) (known : ℕ → Kept) (gone : List Retired) (access : Access) (harts : ℕ → Access) (trail : ℕ → List TrailItem) → Words word known access harts → Fetches known gone harts trail
    → (h : HartView) → harts h.number ≡ h.access → trail h.number ≡ h.trail → (kind : HartKind) → HartReady kind h
    → Fetches known gone (put harts h.number (hart_after kind h (word (hart_word kind))).access) (put trail h.number (hart_after kind h (word (hart_word kind))).trail)
hart_fetches word known gone access harts trail w f h looks walks kind ready = record {
  each = put_both (HartFetches known gone) harts trail h.number (hart_after kind h (word (hart_word kind))).access (hart_after kind h (word (hart_word kind))).trail (λ j _. f.each j)
      (own_fetches known gone word access harts w h (subst (λ (q : Access × List TrailItem). HartFetches known gone q.0 q.1) (λ i. (looks i, walks i)) (f.each h.number)) kind ready);
}

-- ---- the keeper

-- a role goes, which an RX doubleword had with this word
pub record GoesNow (gone gone' : List Retired) (d value : ℕ) : Type 0 where
  pub went : Retired
  pub are : gone' ≡ gone ++ went ∷ []
  pub at : went.at ≡ d
  pub role_is : went.role ≡ Rx
  pub value_is : went.value ≡ value

-- an RX doubleword keeps its word, or its role goes; and no more goes than one role
pub record CodeStays (known known' : ℕ → Kept) (gone gone' : List Retired) : Type 0 where
  pub code : (d : ℕ) → (known d).role ≡ Rx → (((known' d).role ≡ Rx) × ((known' d).value ≡ (known d).value)) ⊎ GoesNow gone gone' d (known d).value
  pub more : (gone' ≡ gone) ⊎ ((x : Retired) × (gone' ≡ gone ++ x ∷ []))

module _ (known known' : ℕ → Kept) (gone gone' : List Retired) (stays : CodeStays known known' gone gone') where
  there_on : (x : Retired) → Contains gone x → Contains gone' x
  there_on x there = ⊎_elim
      (λ (same : gone' ≡ gone). subst (λ (l : List Retired). Contains l x) (sym same) there)
      (λ (one : (y : Retired) × (gone' ≡ gone ++ y ∷ [])). subst (λ (l : List Retired). Contains l x) (sym one.1) (Contains-append_left gone (one.0 ∷ []) x there))
      stays.more

  among_on : (some : List Retired) → StandAmong some gone → StandAmong some gone'
  among_on some among = ⊎_elim
      (λ (same : gone' ≡ gone). subst (StandAmong some) (sym same) among)
      (λ (one : (y : Retired) × (gone' ≡ gone ++ y ∷ [])). subst (StandAmong some) (sym one.1) (StandAmong.passed some gone one.0 among))
      stays.more

  found_on : (a bits : ℕ) → FoundCode known gone a bits → FoundCode known' gone' a bits
  found_on a bits (asked, inl found) = (
    asked,
    ⊎_elim
        (λ (here : ((known' (place_of a)).role ≡ Rx) × ((known' (place_of a)).value ≡ (known (place_of a)).value)). inl (here.0, found.1 ∙ ap (λ n. bytes_in n a 4) (sym here.1)))
        (λ (goes : GoesNow gone gone' (place_of a) (known (place_of a)).value). inr (record {
          went = goes.went;
          there = subst (λ (l : List Retired). Contains l goes.went) (sym goes.are) (Contains-push gone goes.went);
          at = goes.at;
          role_is = goes.role_is;
          found = found.1 ∙ ap (λ n. bytes_in n a 4) (sym goes.value_is);
        }))
        (stays.code (place_of a) found.0),
  )
  found_on a bits (asked, inr went) = (asked, inr (record { went = went.went; there = there_on went.went went.there; at = went.at; role_is = went.role_is; found = went.found }))

  code_on : (crossed : List Retired) (d : ℕ) → StandAmong crossed gone → IsCode known gone crossed d → IsCode known' gone' crossed d
  code_on crossed d among (inl rx) = ⊎_elim
      (λ (here : ((known' d).role ≡ Rx) × ((known' d).value ≡ (known d).value)). inl here.0)
      (λ (goes : GoesNow gone gone' d (known d).value). inr (record {
        went = goes.went;
        at = goes.at;
        role_is = goes.role_is;
        behind = subst (StandAmong (crossed ++ goes.went ∷ [])) (sym goes.are) (StandAmong.taken crossed gone goes.went among);
      }))
      (stays.code d rx)
  code_on crossed d among (inr went) = inr (record { went = went.went; at = went.at; role_is = went.role_is; behind = among_on (crossed ++ went.went ∷ []) went.behind })

  hart_stays : (access : Access) (trail : List TrailItem) → HartFetches known gone access trail → HartFetches known' gone' access trail
  hart_stays access trail f = record {
    fetched = record { crossed = f.fetched.crossed; among = among_on f.fetched.crossed f.fetched.among; each = finds_by (FoundCode known gone) (FoundCode known' gone') found_on trail f.fetched.crossed f.fetched.each };
    looked = λ d control e rx. code_on f.fetched.crossed d f.fetched.among (f.looked d control e rx);
  }

pub fetches_stay : (known known' : ℕ → Kept) (gone gone' : List Retired) (access : ℕ → Access) (trail : ℕ → List TrailItem) → CodeStays known known' gone gone' → Fetches known gone access trail → Fetches known' gone' access trail
fetches_stay known known' gone gone' access trail stays f = record { each = λ m. hart_stays known known' gone gone' stays (access m) (trail m) (f.each m) }

module _ (k : KeeperView) (words_known : length k.words ≡ doublewords) where
  abbrev Stays : KeeperView → Type 0
  Stays k' = CodeStays (kept_at k) (kept_at k') k.retired k'.retired

  -- neither changes
  stay : (k' : KeeperView) → k'.words ≡ k.words → k'.retired ≡ k.retired → Stays k'
  stay k' words gone = record {
    code = λ d rx. inl (subst (λ (l : List Kept). ((slice_index_or l d unmapped).role ≡ Rx) × ((slice_index_or l d unmapped).value ≡ (kept_at k d).value)) (sym words) (rx, refl));
    more = inl gone;
  }

  kept_if : (d : ℕ) (b : Bool) → Stays (keeps_if d b (heeding k))
  kept_if d true = stay (keeps_if d true (heeding k)) refl refl
  kept_if d false = stay (keeps_if d false (heeding k)) refl refl

  awaited : (m : ℕ) (b : Bool) → Stays (awaited_if m b (heeding k))
  awaited m true = stay (awaited_if m true (heeding k)) refl refl
  awaited m false = stay (awaited_if m false (heeding k)) refl refl

  -- what is known of one doubleword changes, which was no RX one, or stays that with its word
  one : (e : ℕ) (x : Kept) → e < doublewords → ((kept_at k e).role ≡ Rx → (x.role ≡ Rx) × (x.value ≡ (kept_at k e).value)) → Stays (with_kept e x k)
  one e x low keeps' = record {
    code = λ d rx. inl (dite (ℕ_discrete d e)
        (λ (is : d ≡ e). subst (λ (y : Kept). (y.role ≡ Rx) × (y.value ≡ (kept_at k d).value)) (sym (ap (kept_at (with_kept e x k)) is ∙ kept_here k e x (subst (λ n. e < n) (sym words_known) low)))
        (subst (λ i. (x.role ≡ Rx) × (x.value ≡ (kept_at k i).value)) (sym is) (keeps' (ap (λ i. (kept_at k i).role) (sym is) ∙ rx))))
        (λ (apart : d ≢ e). subst (λ (y : Kept). (y.role ≡ Rx) × (y.value ≡ (kept_at k d).value)) (sym (set_at k.words e d x unmapped apart)) (rx, refl)));
    more = inl refl;
  }

  -- a doubleword without a role isn't RX
  fresh : (e : ℕ) {P : Type 0} → (kept_at k e).role ≡ NoRole → (kept_at k e).role ≡ Rx → P
  fresh e free rx = let q : NoRole ≡ Rx = sym free ∙ rx in absurd (cc)

  retires : (e : ℕ) → e < doublewords → Stays (retired e k)
  retires e low = record {
    code = λ d rx. dite (ℕ_discrete d e)
        (λ (is : d ≡ e). inr (record { went = gone; are = refl; at = sym is; role_is = ap (λ i. (kept_at k i).role) (sym is) ∙ rx; value_is = ap (λ i. (kept_at k i).value) (sym is) }))
        (λ (apart : d ≢ e). inl (subst (λ (y : Kept). (y.role ≡ Rx) × (y.value ≡ (kept_at k d).value)) (sym (set_at k.words e d (record (kept_at k e) { role = NoRole }) unmapped apart)) (rx, refl)));
    more = inr (gone, refl);
  }
    where
      gone : Retired
      gone = record { at = e; role = (kept_at k e).role; generation = k.generation; number = length k.events; value = (kept_at k e).value }

  saw : (e n : ℕ) → e < doublewords → Stays (with_kept e (fixed_by n (kept_at k e)) k)
  saw e n low = one e (fixed_by n (kept_at k e)) low (λ rx. let same : unseen (fixed_by n (kept_at k e)) ≡ unseen (kept_at k e) = fixed_same n (eqb n (kept_at k e).lazy) (kept_at k e) in
      (ap (λ (y : Kept). y.role) same ∙ rx, ap (λ (y : Kept). y.value) same))

  -- the doubleword that the keeper has locked is in range
  code_stays : ((d : ℕ) → k.access.locked ≡ Some d → d < doublewords) → (kind : KeeperKind) (n : ℕ) → KeeperReady kind k → Stays (keeper_after kind k n)
  code_stays place (keeps.Look d) n ready = stay (keeper_after (keeps.Look d) k n) refl refl
  code_stays place (keeps.Load d) n ready = stay (keeper_after (keeps.Load d) k n) refl refl
  code_stays place (keeps.Lock d control) n ready = let p = kept_if d (eqb n control) in record { code = p.code; more = p.more }
  code_stays place (keeps.Store d x) n ready = let p = one d (record (kept_at k d) { value = x }) (place d ready.0) (fresh d ready.1) in record { code = p.code; more = p.more }
  code_stays place (keeps.Unlock d role lazy) n ready =
      let p = one d (record { role = role; value = (kept_at k d).value; lazy = lazy; since = length k.events; fixed = None }) (place d ready.0) (fresh d ready.1) in record { code = p.code; more = p.more }
  code_stays place (keeps.Count e) n ready = stay (keeper_after (keeps.Count e) k n) refl refl
  code_stays place (keeps.Await m) n ready = awaited m (nat_le 8 n)
  code_stays place (keeps.Ask m) n ready = stay (keeper_after (keeps.Ask m) k n) refl refl
  code_stays place (keeps.Saw d m) n ready = let p = saw d n ready.2.0.0 in record { code = p.code; more = p.more }
  code_stays place (keeps.Fill m i x) n ready = stay (keeper_after (keeps.Fill m i x) k n) refl refl
  code_stays place (keeps.Hand m mark) n ready = stay (keeper_after (keeps.Hand m mark) k n) refl refl
  code_stays place (keeps.Open m) n ready = stay (keeper_after (keeps.Open m) k n) refl refl
  code_stays place (keeps.RetireSlot d) n ready = let p = retires d (place d ready.0) in record { code = p.code; more = p.more }
  code_stays place (keeps.Retire d old) n ready = let p = retires d (place d ready.0) in record { code = p.code; more = p.more }
  code_stays place (keeps.Generation g) n ready = stay (keeper_after (keeps.Generation g) k n) refl refl
  code_stays place (keeps.Recall m i) n ready = stay (keeper_after (keeps.Recall m i) k n) refl refl
  code_stays place keeps.RecallGeneration n ready = stay (keeper_after keeps.RecallGeneration k n) refl refl
  code_stays place (keeps.RecallRole d) n ready = stay (keeper_after (keeps.RecallRole d) k n) refl refl
  code_stays place keeps.Listen n ready = stay (keeper_after keeps.Listen k n) refl refl

  pub keeper_fetches : (access : ℕ → Access) (trail : ℕ → List TrailItem) → Fetches (kept_at k) k.retired access trail → ((d : ℕ) → k.access.locked ≡ Some d → d < doublewords) → (kind : KeeperKind) (n : ℕ)
      → KeeperReady kind k → Fetches (kept_at (keeper_after kind k n)) (keeper_after kind k n).retired access trail
  keeper_fetches access trail f place kind n ready = fetches_stay (kept_at k) (kept_at (keeper_after kind k n)) k.retired (keeper_after kind k n).retired access trail (code_stays place kind n ready) f
