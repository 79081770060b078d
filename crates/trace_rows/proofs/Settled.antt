-- Whether a history is whole.
use Rattle.std.proofs.Common.{◌≡◌, ◌≢◌, ◌⊎◌, inl, inr, ⊎_elim, ℕ, ◌&&◌, ◌||◌, Bool, true, false, not, eqb, List, [], ◌∷◌, length, map, reverse, Option, Some, cond, refl, sym, ap, subst, ◌∙◌, arith, take, ◌<◌, ◌+◌, ◌++◌, get_or}
use Rattle.std.specs.Bool.{Decides}
use Rattle.std.specs.List.{Contains, filter, list_any}
use Rattle.std.proofs.lemmas.Bool.{cases_Bool, eq-eqb, eqb-true, true≢false}
use Rattle.std.proofs.lemmas.List.{take_more}
use Rattle.std.proofs.lemmas.List.Elements.{Contains-push_cases}
use Rattle.std.proofs.lemmas.Bool.Decides.{Decides-and, Decides-like, Decides-not, Decides-or}
use Rattle.history_event.specs.declared.state.Granting.{Granting}
use Rattle.history_event.specs.declared.state.Standing.TheVariants as standings
use Rattle.history_graph.specs.Initialised.{is_one_of}
use Rattle.history_state.specs.Grants.{is_open, is_open_standing}
use Rattle.history_state.specs.Laws.{GrantsAreTidy}
use Rattle.history_state.specs.Legal.{IsWhole, Settled}
use Rattle.history_state.specs.Lemmas.Lists.{any_reverse, from_filter, here, in_filter}
use Rattle.history_state.specs.Links.{finis_of, unfinished}
use Rattle.history_state.specs.Objects.{IsMapped, mapped, serial_of}
use Rattle.history_state.specs.Setting.{Setting, are_finals}
use Rattle.history_state.specs.State.{State}
use Rattle.trace_replay.specs.Heads.{serials_in}
use Rattle.trace_replay.specs.Lists.{Lists}
use Rattle.trace_replay.specs.Shown.{IsShown}
use Rattle.trace_rows.specs.Grants.{IsFinished, IsSettled, IsValueOf}
use Rattle.trace_rows.proofs.Valued.{open_is, settled_by, settled_has, value_some}

-- ---- no grant is open

pub none_open : (s : State) (l : Lists) (empty : Bool) → IsShown s l → empty ≡ eqb (length (filter is_open l.grants)) 0
    → Decides empty ((g : Granting) → Contains s.grants g → g.standing ≢ standings.Open)
none_open s l empty x is =
    let at : empty ≡ eqb (length (filter is_open s.grants)) 0 = is ∙ ap (λ (gs : List Granting). eqb (length (filter is_open gs)) 0) x.grants in (
      (λ e g inside open_yet. none_long (filter is_open s.grants) g (eqb-true (length (filter is_open s.grants)) 0 (sym at ∙ e))
          (in_filter is_open s.grants g inside (ap is_open_standing open_yet))),
      (λ none. at ∙ eq-eqb (length (filter is_open s.grants)) 0 (no_elements (filter is_open s.grants)
          (λ g inside. let was = from_filter is_open s.grants g inside in none g was.0 (open_is g.standing was.1)))),
    )
  where
    none_long : (gs : List Granting) (g : Granting) → length gs ≡ 0 → Contains gs g → ⊥
    none_long gs g e inside = let lt = inside.1 in omega (arith, e, lt)

    no_elements : (gs : List Granting) → ((g : Granting) → Contains gs g → ⊥) → length gs ≡ 0
    no_elements [] none = refl
    no_elements (g ∷ gs) none = absurd (none g (here g gs))

-- ---- lost grants

pub not_lost : (s : State) (g : Granting) → ((saw : ℕ) → g.standing ≢ standings.Lost saw) → Decides true (IsSettled s g)
not_lost s g other = ((λ e saw is at. absurd (other saw is)), (λ settled. refl))

pub unmapped_so : (s : State) (g : Granting) (there : Bool) → Decides there (IsMapped s g.owner) → there ≡ false → Decides (not there) (IsSettled s g)
unmapped_so s g there maps none = (
  (λ e saw is at. absurd (true≢false (sym (maps.1 at) ∙ none))),
  (λ settled. ap not none),
)

pub lost_so : (s : State) (l : Lists) (g : Granting) (saw : ℕ) (value : Option ℕ) (there holds : Bool) → GrantsAreTidy s → g.standing ≡ standings.Lost saw
    → Decides there (IsMapped s g.owner) → IsValueOf s g.owner g.slot value → Decides holds (value ≡ Some saw) → Decides (not there || holds) (IsSettled s g)
lost_so s l g saw value there holds tidy lost maps is has =
    Decides-like (not there || holds)
    (λ (e : ¬ (IsMapped s g.owner) ⊎ (value ≡ Some saw)). λ other also at. ⊎_elim
    (λ (none : ¬ (IsMapped s g.owner)). absurd (none at))
    (λ (same : value ≡ Some saw). subst (Settled s g) (saw_is other also) (settled_by s g saw tidy (subst (IsValueOf s g.owner g.slot) same is))) e)
    (λ (settled : IsSettled s g). ⊎_elim
    (λ (t : there ≡ true). inr (value_some s tidy g.owner g.slot saw value is (settled_has s g saw (settled saw lost (maps.0 t)))))
    (λ (f : there ≡ false). inl (λ at. true≢false (sym (maps.1 at) ∙ f)))
    (cases_Bool there))
    (Decides-or (not there) holds (Decides-not there maps) has)
  where
    saw_is : (other : ℕ) → g.standing ≡ standings.Lost other → saw ≡ other
    saw_is other also = let both : standings.Lost saw ≡ standings.Lost other = sym lost ∙ also in cc

-- ---- all grants

-- this holds of each of some grants
abbrev pub AllSettled : Lists → List Granting → Type 0
AllSettled l grants = (s : State) (g : Granting) → IsShown s l → GrantsAreTidy s → Contains grants g → IsSettled s g

abbrev pub SettledAs : Lists → Granting → Bool → Type 0
SettledAs l g b = (s : State) → IsShown s l → GrantsAreTidy s → Decides b (IsSettled s g)

pub settled_more : (l : Lists) (xs : List Granting) (k : ℕ) (y : Granting) (b : Bool) → k < length xs → y ≡ get_or xs k y → AllSettled l (take k xs) → SettledAs l y b → b ≡ true
    → AllSettled l (take (k + 1) xs)
settled_more l xs k y b less is before one yes_so s g x tidy inside =
    let are : take (k + 1) xs ≡ take k xs ++ y ∷ [] = take_more xs k y less ∙ ap (λ (z : Granting). take k xs ++ z ∷ []) (sym is) in
    ⊎_elim
    (λ (old : Contains (take k xs) g). before s g x tidy old)
    (λ (new : y ≡ g). subst (IsSettled s) new ((one s x tidy).0 yes_so))
    (Contains-push_cases (take k xs) y g (subst (λ (ys : List Granting). Contains ys g) are inside))

-- ---- finalised

none_left : (p : ℕ → Bool) (xs : List ℕ) → not (list_any p xs) ≡ true → filter p xs ≡ []
none_left p [] e = refl
none_left p (y ∷ ys) e = by (λ f. none_left p ys f) (p y) e
  where
    by : (not (list_any p ys) ≡ true → filter p ys ≡ []) → (b : Bool) → not (b || list_any p ys) ≡ true → cond b (y ∷ filter p ys) (filter p ys) ≡ []
    by again true f = absurd (true≢false (sym f))
    by again false f = again f

left_none : (p : ℕ → Bool) (xs : List ℕ) → filter p xs ≡ [] → not (list_any p xs) ≡ true
left_none p [] e = refl
left_none p (y ∷ ys) e = by (λ f. left_none p ys f) (p y) e
  where
    by : (filter p ys ≡ [] → not (list_any p ys) ≡ true) → (b : Bool) → cond b (y ∷ filter p ys) (filter p ys) ≡ [] → not (b || list_any p ys) ≡ true
    by again true f = absurd (let d : y ∷ filter p ys ≡ [] = f in cc)
    by again false f = again f

pub finalised_so : (s : State) (l : Lists) (done : Bool) → IsShown s l → done ≡ not (list_any (is_one_of (serials_in l.namespaces)) l.unfinished)
    → Decides done (finis_of s (map serial_of (mapped s)) ≡ [])
finalised_so s l done x is =
    let at : done ≡ not (list_any (is_one_of (map serial_of (mapped s))) (reverse (unfinished s))) =
    is ∙ ap (λ nss. not (list_any (is_one_of (serials_in nss)) l.unfinished)) x.namespaces ∙ ap (λ (ds : List ℕ). not (list_any (is_one_of (map serial_of (mapped s))) ds)) x.unfinished
    ∙ ap not (sym (any_reverse (is_one_of (map serial_of (mapped s))) (unfinished s))) in (
      (λ e. none_left (is_one_of (map serial_of (mapped s))) (reverse (unfinished s)) (sym at ∙ e)),
      (λ e. at ∙ left_none (is_one_of (map serial_of (mapped s))) (reverse (unfinished s)) e),
    )

-- ---- a whole history

pub finished_so : (w : Setting) (s : State) (finals done : Bool) → finals ≡ are_finals w s → Decides done (finis_of s (map serial_of (mapped s)) ≡ []) → Decides (not finals || done) (IsFinished w s)
finished_so w s finals done over finished =
    Decides-like (not finals || done)
    (λ (p : ¬ (are_finals w s ≡ true) ⊎ (finis_of s (map serial_of (mapped s)) ≡ [])). λ at. ⊎_elim
    (λ (isnt : ¬ (are_finals w s ≡ true)). absurd (isnt at)) (λ (e : finis_of s (map serial_of (mapped s)) ≡ []). e) p)
    (λ (x : IsFinished w s). ⊎_elim (λ (t : are_finals w s ≡ true). inr (x t)) (λ (f : are_finals w s ≡ false). inl (λ t. true≢false (sym t ∙ f))) (cases_Bool (are_finals w s)))
    (Decides-or (not finals) done (Decides-not finals ((λ e. sym over ∙ e), (λ e. over ∙ e))) finished)

pub whole_so : (w : Setting) (s : State) (none_is settled finished : Bool) → Decides none_is ((g : Granting) → Contains s.grants g → g.standing ≢ standings.Open)
    → Decides settled ((g : Granting) → Contains s.grants g → IsSettled s g) → Decides finished (IsFinished w s) → Decides ((none_is && settled) && finished) (IsWhole w s)
whole_so w s none_is settled finished none lost over =
    Decides-like ((none_is && settled) && finished)
    (λ (p : (((g : Granting) → Contains s.grants g → g.standing ≢ standings.Open) × ((g : Granting) → Contains s.grants g → IsSettled s g)) × IsFinished w s).
    record { settled = p.0.0; lost = λ g saw inside is at. p.0.1 g inside saw is at; finished = p.1 })
    (λ (x : IsWhole w s). ((x.settled, (λ g inside saw is at. x.lost g saw inside is at)), x.finished))
    (Decides-and (none_is && settled) finished (Decides-and none_is settled none lost) over)
