-- The ends that a journal of a run tells of: a count of them is one of each hart.
use Rattle.std.proofs.Common.{◌≡◌, ◌≢◌, ◌⊎◌, inl, inr, ⊎_elim, ℕ, zero, suc, ◌+◌, ◌<◌, ◌≤◌, Bool, true, false, cond, ◌&&◌, IsTrue, eqb, leb, List, [], ◌∷◌}
use Rattle.std.proofs.Common.{◌++◌, map, take, length}
use Rattle.std.proofs.Common.{refl, sym, ap, subst, ◌∙◌, arith}
use Rattle.std.specs.List.{Contains, filter, list_all}
use Rattle.std.proofs.Math.Seq.{take-append_seam, take-length}
use Rattle.std.proofs.lemmas.Bool.{and_from, and_parts, eq-eqb, eqb-true, false≢true, le-leb, leb-true, true≢false}
use Rattle.std.proofs.lemmas.List.{append-nil, append_assoc, length-append}
use Rattle.std.proofs.lemmas.List.Elements.{Contains-append_cases, filter-append}
use Rattle.history_event.specs.declared.event.Event.{Event}
use Rattle.history_event.specs.declared.event.Event.TheVariants as events
use Rattle.history_event.specs.declared.hart_end.HartEnd.{HartEnd}
use Rattle.history_event.specs.declared.hart_end.HartEnd.TheVariants as ends
use Rattle.history_event.specs.declared.state.Ending.{Ending}
use Rattle.history_calls.specs.declared.link_served.startup.Setup.{Setup}
use Rattle.history_calls.specs.declared.link_served.startup.Started.{Started}
use Rattle.history_state.specs.After.{after, after_from}
use Rattle.history_state.specs.Allowed.{MayEnd}
use Rattle.history_state.specs.Objects.{has}
use Rattle.history_state.specs.Setting.{Setting, are_finals, exited, have_exited, is_exit}
use Rattle.history_state.specs.State.{State}
use Rattle.history_state.specs.Lemmas.Chains.{in_all}
use Rattle.history_state.specs.Lemmas.History.{after_push, one_behind}
use Rattle.history_state.specs.Lemmas.Lists.{from_filter, here, in_filter, in_has, in_map, later, none_in, only_in}
use Rattle.history_calls.specs.Lemmas.Ends.{by_both, step_ends, told_by}
use Rattle.history_calls.specs.RunJournal.{AreByHarts, CountsEachHart, ExitsFirst, IsByHart, RunJournalsGrow, RunJournalsStart}
use Rattle.history_calls.specs.Startup.{FindHarts, Starts, found_at, opening}

-- ---- how many ends are of harts below a number

abbrev ends_in : ℕ → List Ending → List Ending
ends_in h es = filter (λ e. eqb e.hart h) es

abbrev total : ℕ → List Ending → ℕ
total zero es = 0
total (suc n) es = total n es + length (ends_in n es)

one_longer : (e : Ending) (es : List Ending) (t : Bool) → length (cond t (e ∷ es) es) ≡ cond t 1 0 + length es
one_longer e es true = plus (length es)
  where
    plus : (n : ℕ) → suc n ≡ 1 + n
    plus n = omega arith
one_longer e es false = plus (length es)
  where
    plus : (n : ℕ) → n ≡ 0 + n
    plus n = omega arith

longer : (n : ℕ) (e : Ending) (es : List Ending) (t : Bool) → eqb e.hart n ≡ t → length (ends_in n (e ∷ es)) ≡ cond t 1 0 + length (ends_in n es)
longer n e es t is = one_longer e (ends_in n es) (eqb e.hart n) ∙ ap (λ (b : Bool). cond b 1 0 + length (ends_in n es)) is

past_by : (n : ℕ) (e : Ending) (es : List Ending) → (n ≤ e.hart → total n (e ∷ es) ≡ total n es) → suc n ≤ e.hart → (t : Bool) → eqb e.hart n ≡ t
    → total (suc n) (e ∷ es) ≡ total (suc n) es
past_by n e es before past true is = let same = eqb-true e.hart n is in absurd (omega (arith, past, same))
past_by n e es before past false is =
    let rest = before (omega (arith, past)) in
    let last = longer n e es false is in
    omega (arith, rest, last)

total_past : (n : ℕ) (e : Ending) (es : List Ending) → n ≤ e.hart → total n (e ∷ es) ≡ total n es
total_past zero e es past = refl
total_past (suc n) e es past = past_by n e es (total_past n e es) past (eqb e.hart n) refl

below_by : (n : ℕ) (e : Ending) (es : List Ending) → (e.hart < n → total n (e ∷ es) ≡ suc (total n es)) → e.hart < suc n → (t : Bool) → eqb e.hart n ≡ t
    → total (suc n) (e ∷ es) ≡ suc (total (suc n) es)
below_by n e es before below true is =
    let same = eqb-true e.hart n is in
    let rest = total_past n e es (omega (arith, same)) in
    let last = longer n e es true is in
    omega (arith, rest, last)
below_by n e es before below false is =
    let differs : e.hart ≢ n = λ same. true≢false (sym (eq-eqb e.hart n same) ∙ is) in
    let rest = before (omega (arith, below, differs)) in
    let last = longer n e es false is in
    omega (arith, rest, last)

total_below : (n : ℕ) (e : Ending) (es : List Ending) → e.hart < n → total n (e ∷ es) ≡ suc (total n es)
total_below zero e es below = absurd (omega (arith, below))
total_below (suc n) e es below = below_by n e es (total_below n e es) below (eqb e.hart n) refl

total_none : (n : ℕ) → total n [] ≡ 0
total_none zero = refl
total_none (suc n) = let rest = total_none n in omega (arith, rest)

abbrev AreBelow : ℕ → List Ending → Type 0
AreBelow n es = (e : Ending) → Contains es e → e.hart < n

total_all : (n : ℕ) (es : List Ending) → AreBelow n es → total n es ≡ length es
total_all n [] below = total_none n
total_all n (e ∷ es) below = total_below n e es (below e (here e es)) ∙ ap suc (total_all n es (λ x there. below x (later e es x there)))

abbrev EndOnce : List Ending → Type 0
EndOnce es = (h : ℕ) → length (ends_in h es) ≤ 1

at_most : (n : ℕ) (es : List Ending) → EndOnce es → total n es ≤ n
at_most zero es once = omega arith
at_most (suc n) es once = let rest = at_most n es once in let last = once n in omega (arith, rest, last)

each_by : (n : ℕ) (es : List Ending) → EndOnce es → (n ≤ total n es → (h : ℕ) → h < n → length (ends_in h es) ≡ 1) → suc n ≤ total (suc n) es
    → (h : ℕ) → h < suc n → (t : Bool) → eqb h n ≡ t → length (ends_in h es) ≡ 1
each_by n es once before all h below true is =
    let most = at_most n es once in
    let last = once n in
    let one : length (ends_in n es) ≡ 1 = omega (arith, all, most, last) in
    subst (λ (k : ℕ). length (ends_in k es) ≡ 1) (sym (eqb-true h n is)) one
each_by n es once before all h below false is =
    let differs : h ≢ n = λ same. true≢false (sym (eq-eqb h n same) ∙ is) in
    let last = once n in
    before (omega (arith, all, last)) h (omega (arith, below, differs))

-- where there are as many ends as harts, and no hart has two, each has one
one_each : (n : ℕ) (es : List Ending) → EndOnce es → n ≤ total n es → (h : ℕ) → h < n → length (ends_in h es) ≡ 1
one_each zero es once all h below = absurd (omega (arith, below))
one_each (suc n) es once all h below = each_by n es once (one_each n es once) all h below (eqb h n) refl

-- where each has one, there are as many
as_many : (n : ℕ) (es : List Ending) → ((h : ℕ) → h < n → 1 ≤ length (ends_in h es)) → n ≤ total n es
as_many zero es each = omega arith
as_many (suc n) es each =
    let rest = as_many n es (λ h below. each h (omega (arith, below))) in
    let last = each n (omega arith) in
    omega (arith, rest, last)

-- ---- ends by exit

exit_code : (reason : HartEnd) → is_exit reason ≡ true → (code : ℕ) × (reason ≡ ends.Exit code)
exit_code (ends.Exit code) is = (code, refl)
exit_code ends.FuelOut is = absurd (false≢true is)
exit_code (ends.NotMapped pc address) is = absurd (false≢true is)
exit_code (ends.SlotStore pc address) is = absurd (false≢true is)
exit_code (ends.BadInstruction pc word) is = absurd (false≢true is)
exit_code (ends.Misaligned pc address) is = absurd (false≢true is)
exit_code (ends.Break pc) is = absurd (false≢true is)
exit_code (ends.BadModule number) is = absurd (false≢true is)
exit_code (ends.Unloaded owner) is = absurd (false≢true is)
exit_code (ends.NoSlot owner eights) is = absurd (false≢true is)
exit_code (ends.Unresolved owner slot) is = absurd (false≢true is)
exit_code (ends.NotCode owner slot) is = absurd (false≢true is)
exit_code (ends.AddressSpaceFull pages) is = absurd (false≢true is)
exit_code ends.Memory is = absurd (false≢true is)

abbrev exit_of : ℕ → ℕ → Ending
exit_of h code = record { hart = h; «end» = ends.Exit code }

exit_is : (e : Ending) (h code : ℕ) → e.hart ≡ h → e.«end» ≡ ends.Exit code → e ≡ exit_of h code
exit_is e h code of is =
    ap (λ (n : ℕ). record { hart = n; «end» = e.«end» }) of ∙ ap (λ (reason : HartEnd). record { hart = h; «end» = reason }) is

-- what a hart ended as first, where that is an exit, and what came later
abbrev ExitsIn : List Ending → ℕ → List Ending → Type 0
ExitsIn es h later = (code : ℕ) × (ends_in h es ≡ exit_of h code ∷ later)

exits_at_all : (es : List Ending) (h : ℕ) (later : List Ending) → ExitsIn es h later → 1 ≤ length (ends_in h es)
exits_at_all es h later x = let long = ap (λ (xs : List Ending). length xs) x.1 in omega (arith, long)

alone : (es : List Ending) (h : ℕ) → list_all exited es ≡ true → (xs : List Ending) → ends_in h es ≡ xs → length xs ≡ 1 → ExitsIn es h []
alone es h all [] is one = absurd (omega (arith, one))
alone es h all (x ∷ []) is one =
    let of = from_filter (λ (e : Ending). eqb e.hart h) es x (subst (λ (xs : List Ending). Contains xs x) (sym is) (here x [])) in
    let code = exit_code x.«end» (in_all exited es x all of.0) in
    (code.0, is ∙ ap (λ (e : Ending). e ∷ []) (exit_is x h code.0 (eqb-true x.hart h of.1) code.1))
alone es h all (x ∷ (y ∷ rest)) is one = absurd (omega (arith, one))

is_first : (x e : Ending) (later : List Ending) → later ≡ [] → Contains (x ∷ later) e → x ≡ e
is_first x e later none there = only_in x e (subst (λ (xs : List Ending). Contains (x ∷ xs) e) none there)

no_later : (n : ℕ) (later : List Ending) → suc (length later) ≤ 1 → later ≡ []
no_later n [] few = refl
no_later n (x ∷ later) few = absurd (omega (arith, few))

all_exited : (n : ℕ) (es whole : List Ending) → AreBelow n whole → EndOnce whole → ((h : ℕ) → h < n → (later : List Ending) × ExitsIn whole h later)
    → ((e : Ending) → Contains es e → Contains whole e) → list_all exited es ≡ true
all_exited n [] whole below once each inside = refl
all_exited n (e ∷ es) whole below once each inside =
    and_from (exited e) (list_all exited es) first (all_exited n es whole below once each (λ x there. inside x (later e es x there)))
  where
    there : Contains whole e
    there = inside e (here e es)

    x : (later : List Ending) × ExitsIn whole e.hart later
    x = each e.hart (below e there)

    few : suc (length x.0) ≤ 1
    few = subst (λ (xs : List Ending). length xs ≤ 1) x.1.1 (once e.hart)

    own : Contains (exit_of e.hart x.1.0 ∷ x.0) e
    own = subst (λ (xs : List Ending). Contains xs e) x.1.1 (in_filter (λ (y : Ending). eqb y.hart e.hart) whole e there (eq-eqb e.hart e.hart refl))

    first : exited e ≡ true
    first = ap exited (sym (is_first (exit_of e.hart x.1.0) e x.0 (no_later n x.0 few) own))

-- ---- before a hart has ended twice

record EndsOnce (n : ℕ) (es : List Ending) : Type 0 where
  pub below : AreBelow n es
  pub once : EndOnce es

abbrev has_exits : ℕ → List Ending → Bool
has_exits n es = leb n (length es) && list_all exited (take n es)

module _ (n : ℕ) (es : List Ending) (x : EndsOnce n es) where
  count : total n es ≡ length es
  count = total_all n es x.below

  few : length es ≤ n
  few = let most = at_most n es x.once in omega (arith, count, most)

  take_all : n ≤ length es → take n es ≡ es
  take_all enough =
      let same : length es ≡ n = omega (arith, few, enough) in
      ap (λ (k : ℕ). take k es) (sym same) ∙ take-length es

  each_exits : has_exits n es ≡ true → (h : ℕ) → h < n → ExitsIn es h []
  each_exits over h below =
      let parts = and_parts (leb n (length es)) (list_all exited (take n es)) over in
      let enough : n ≤ length es = leb-true n (length es) parts.0 in
      alone es h (subst (λ (xs : List Ending). list_all exited xs ≡ true) (take_all enough) parts.1) (ends_in h es) refl
      (one_each n es x.once (omega (arith, count, enough)) h below)

  has_each : ((h : ℕ) → h < n → (later : List Ending) × ExitsIn es h later) → (length es ≡ n) × (has_exits n es ≡ true)
  has_each each =
      let many = as_many n es (λ h below. exits_at_all es h (each h below).0 (each h below).1) in
      let enough : n ≤ length es = omega (arith, count, many) in (
        omega (arith, few, enough),
        and_from (leb n (length es)) (list_all exited (take n es)) (le-leb n (length es) enough)
            (subst (λ (xs : List Ending). list_all exited xs ≡ true) (sym (take_all enough)) (all_exited n es es x.below x.once each (λ e there. there))),
      )

-- ---- all ends

-- once each hart has ended by exit, the first one may end again
record EndsAgain (n : ℕ) (es : List Ending) : Type 0 where
  pub front : List Ending
  pub again : Ending
  pub are : es ≡ front ++ again ∷ []
  pub ends : EndsOnce n front
  pub all : length front ≡ n
  pub over : has_exits n front ≡ true
  pub some : 0 < n
  pub first : again.hart ≡ 0

abbrev EndsFit : ℕ → List Ending → Type 0
EndsFit n es = EndsOnce n es ⊎ EndsAgain n es

module _ (n : ℕ) (es : List Ending) (x : EndsAgain n es) where
  long : length es ≡ n + 1
  long = ap (λ (xs : List Ending). length xs) x.are ∙ length-append x.front (x.again ∷ []) ∙ ap (λ (k : ℕ). k + 1) x.all

  takes_front : take n es ≡ x.front
  takes_front = ap (λ (xs : List Ending). take n xs) x.are ∙ ap (λ (k : ℕ). take k (x.front ++ x.again ∷ [])) (sym x.all)
      ∙ take-append_seam x.front (x.again ∷ [])

  still_exited : has_exits n es ≡ true
  still_exited =
      let enough : n ≤ length es = omega (arith, long) in
      let takes : take n x.front ≡ x.front = ap (λ (k : ℕ). take k x.front) (sym x.all) ∙ take-length x.front in
      and_from (leb n (length es)) (list_all exited (take n es)) (le-leb n (length es) enough)
      (ap (list_all exited) (takes_front ∙ sym takes) ∙ (and_parts (leb n (length x.front)) (list_all exited (take n x.front)) x.over).1)

  split : (h : ℕ) → ends_in h es ≡ ends_in h x.front ++ ends_in h (x.again ∷ [])
  split h = ap (ends_in h) x.are ∙ filter-append (λ (e : Ending). eqb e.hart h) x.front (x.again ∷ [])

  exits_still : (h : ℕ) → h < n → (later : List Ending) × ExitsIn es h later
  exits_still h below =
      let front = each_exits n x.front x.ends x.over h below in
      (ends_in h (x.again ∷ []), (front.0, split h ∙ ap (λ (xs : List Ending). xs ++ ends_in h (x.again ∷ [])) front.1))

  first_again : ExitsIn es 0 [] → ⊥
  first_again only =
      let front = each_exits n x.front x.ends x.over 0 x.some in
      let own : ends_in 0 (x.again ∷ []) ≡ x.again ∷ [] = ap (λ (t : Bool). cond t (x.again ∷ []) []) (eq-eqb x.again.hart 0 x.first) in
      let two : length (ends_in 0 es) ≡ 2 =
      ap (λ (xs : List Ending). length xs) (split 0 ∙ ap (λ (xs : List Ending). xs ++ ends_in 0 (x.again ∷ [])) front.1
      ∙ ap (λ (xs : List Ending). exit_of 0 front.0 ∷ xs) own) in
      let one : length (ends_in 0 es) ≡ 1 = ap (λ (xs : List Ending). length xs) only.1 in
      omega (arith, one, two)

-- ---- a state

module _ (w : Setting) (s : State) where
  abbrev harts : ℕ
  harts = w.machine.harts

  as_exits : (h : ℕ) (later : List Ending) → ExitsIn s.endings h later → ExitsFirst s h later
  as_exits h later x = record { code = x.0; are = x.1 }

  in_exits : (h : ℕ) (later : List Ending) → ExitsFirst s h later → ExitsIn s.endings h later
  in_exits h later x = (x.code, x.are)

  finals_parts : IsTrue (are_finals w s) → (length s.endings ≡ harts) × (have_exited w s ≡ true)
  finals_parts finals =
      let parts = and_parts (eqb (length s.endings) harts) (have_exited w s) finals in
      (eqb-true (length s.endings) harts parts.0, parts.1)

  count_once : EndsOnce harts s.endings → CountsEachHart w s
  count_once x = record {
    exits = (
      (λ over h below. ([], as_exits h [] (each_exits harts s.endings x over h below))),
      (λ each. (has_each harts s.endings x (λ h below. ((each h below).0, in_exits h (each h below).0 (each h below).1))).1),
    );
    finals = (
      (λ finals h below. as_exits h [] (each_exits harts s.endings x (finals_parts finals).1 h below)),
      (λ each.
          let has = has_each harts s.endings x (λ h below. ([], in_exits h [] (each h below))) in
          and_from (eqb (length s.endings) harts) (have_exited w s) (eq-eqb (length s.endings) harts has.0) has.1),
    );
  }

  too_long : EndsAgain harts s.endings → IsTrue (are_finals w s) → ⊥
  too_long x finals = let more = long harts s.endings x in let same = (finals_parts finals).0 in omega (arith, more, same)

  count_again : EndsAgain harts s.endings → CountsEachHart w s
  count_again x = record {
    exits = (
      (λ over h below. let still = exits_still harts s.endings x h below in (still.0, as_exits h still.0 still.1)),
      (λ each. still_exited harts s.endings x),
    );
    finals = (
      (λ finals. absurd (too_long x finals)),
      (λ each. absurd (first_again harts s.endings x (in_exits 0 [] (each 0 x.some)))),
    );
  }

  counts : EndsFit harts s.endings → CountsEachHart w s
  counts fit = ⊎_elim count_once count_again fit

  -- ---- one end more

  no_end : (h : ℕ) → has (map (λ e. e.hart) s.endings) h ≡ false → (xs : List Ending) → ends_in h s.endings ≡ xs → xs ≡ []
  no_end h none [] is = refl
  no_end h none (x ∷ rest) is =
      let of = from_filter (λ (e : Ending). eqb e.hart h) s.endings x (subst (λ (xs : List Ending). Contains xs x) (sym is) (here x rest)) in
      let there : Contains (map (λ e. e.hart) s.endings) h =
      subst (Contains (map (λ e. e.hart) s.endings)) (eqb-true x.hart h of.1) (in_map (λ (e : Ending). e.hart) s.endings x of.0) in
      absurd (true≢false (sym (in_has (map (λ e. e.hart) s.endings) h there) ∙ none))

  one_more : (e : Ending) → e.hart < harts → has (map (λ e. e.hart) s.endings) e.hart ≡ false → EndsOnce harts s.endings → EndsOnce harts (s.endings ++ e ∷ [])
  one_more e below none x = record {
    below = λ y there. ⊎_elim
        (λ (old : Contains s.endings y). x.below y old)
        (λ (i : Contains (e ∷ []) y). subst (λ (z : Ending). z.hart < harts) (only_in e y i) below)
        (Contains-append_cases s.endings (e ∷ []) y there);
    once = λ h. by h (eqb e.hart h) refl;
  }
    where
      split_at : (h : ℕ) → length (ends_in h (s.endings ++ e ∷ [])) ≡ length (ends_in h s.endings) + length (ends_in h (e ∷ []))
      split_at h = ap (λ (xs : List Ending). length xs) (filter-append (λ (y : Ending). eqb y.hart h) s.endings (e ∷ []))
          ∙ length-append (ends_in h s.endings) (ends_in h (e ∷ []))

      by : (h : ℕ) (t : Bool) → eqb e.hart h ≡ t → length (ends_in h (s.endings ++ e ∷ [])) ≤ 1
      by h true is =
          let both = split_at h in
          let own = longer h e [] true is in
          let same = eqb-true e.hart h is in
          let old : length (ends_in h s.endings) ≡ 0 =
          subst (λ (k : ℕ). length (ends_in k s.endings) ≡ 0) same (ap (λ (xs : List Ending). length xs) (no_end e.hart none
          (ends_in e.hart s.endings) refl)) in
          omega (arith, both, own, old)
      by h false is =
          let both = split_at h in
          let own = longer h e [] false is in
          let old = x.once h in
          omega (arith, both, own, old)

  fits_more : (e : Ending) → e.hart < harts → MayEnd w s e.hart → EndsFit harts s.endings → EndsFit harts (s.endings ++ e ∷ [])
  fits_more e below (inl none) (inl x) = inl (one_more e below none x)
  fits_more e below (inr (first, finals)) (inl x) =
      let parts = finals_parts finals in
      inr (record {
        front = s.endings;
        again = e;
        are = refl;
        ends = x;
        all = parts.0;
        over = parts.1;
        some = omega (arith, below);
        first = first;
      })
  fits_more e below (inl none) (inr x) =
      let still = exits_still harts s.endings x e.hart below in
      let some = exits_at_all s.endings e.hart still.0 still.1 in
      let gone : length (ends_in e.hart s.endings) ≡ 0 = ap (λ (xs : List Ending). length xs) (no_end e.hart none (ends_in e.hart s.endings) refl) in
      absurd (omega (arith, some, gone))
  fits_more e below (inr (first, finals)) (inr x) = absurd (too_long x finals)

-- ---- events

-- ends fit behind an event of a hart
module _ (w : Setting) where
  abbrev Fits : List Event → Type 0
  Fits past = EndsFit w.machine.harts (after past).endings

  fits_told : (past : List Event) (e : Event) → IsByHart w past e → Fits past → EndsFit w.machine.harts ((after past).endings ++ told_by e)
  fits_told past e by fit = at e by
    where
      same : EndsFit w.machine.harts ((after past).endings ++ [])
      same = subst (EndsFit w.machine.harts) (sym (append-nil (after past).endings)) fit

      at : (e : Event) → IsByHart w past e → EndsFit w.machine.harts ((after past).endings ++ told_by e)
      at (events.Open hart ask answer) by = same
      at (events.Close hart handle answer) by = same
      at (events.Unmapped hart set) by = same
      at (events.Grant number hart owner slot choice value) by = same
      at (events.Bound number) by = same
      at (events.Lost number saw) by = same
      at (events.Unresolved hart owner slot choice) by = same
      at (events.Sym hart ask answer) by = same
      at (events.Tls hart owner address) by = same
      at (events.Init hart object) by = same
      at (events.Fini hart object) by = same
      at (events.Wrote hart bytes) by = same
      at (events.Told hart fault) by = same
      at (events.Ended hart reason) by =
          let own = by hart refl in
          fits_more w (after past) (record { hart = hart; «end» = reason }) own.0 own.1 fit

  fits_push : (past : List Event) (e : Event) → IsByHart w past e → Fits past → Fits (past ++ e ∷ [])
  fits_push past e by fit =
      subst (EndsFit w.machine.harts) (sym (ap (λ (s : State). s.endings) (after_push past e) ∙ step_ends (after past) e)) (fits_told past e by fit)

  -- and so they do at each moment
  moments : (past events : List Event) → AreByHarts w past events → Fits past → (k : ℕ) → Fits (past ++ take k events)
  moments past events by fit zero = subst Fits (sym (append-nil past)) fit
  moments past [] by fit (suc k) = subst Fits (sym (append-nil past)) fit
  moments past (e ∷ rest) by fit (suc k) =
      subst Fits (one_behind past e (take k rest)) (moments (past ++ e ∷ []) rest by.1 (fits_push past e by.0 fit) k)

-- ---- startup

start_by : (w : Setting) (past : List Event) (h : ℕ) (names : List (List ℕ)) (events : List Event) (addresses : List ℕ)
    → FindHarts w past h names events addresses
    → (after past).endings ≡ [] → h + length names ≤ w.machine.harts → AreByHarts w past events
start_by w past h names events addresses (FindHarts.no_more _ _) none few = tt
start_by w past h names events addresses (FindHarts.one_more _ _ name rest serial index value more others finds later) none few = (
  (λ k is. let same : h ≡ k = cc in (omega (arith, same, few), inl (ap (λ (es : List Ending). has (map (λ e. e.hart) es) k) none))),
  start_by w (past ++ found_at h name serial index value ∷ []) (h + 1) rest more others later
      (ap (λ (s : State). s.endings) (after_push past (found_at h name serial index value)) ∙ step_ends (after past) (found_at h name serial index value)
      ∙ append-nil (after past).endings ∙ none)
      (omega (arith, few)),
)

none_told : (after []).endings ≡ []
unfolding after_from
none_told = refl

startup_by : (w : Setting) (setup : Setup) (journal : List Event) (started : Started) → Starts w setup journal started → AreByHarts w [] journal
startup_by w setup journal started starts =
    let harts : w.machine.harts ≡ length setup.harts + 1 = ap (λ (v : Setting). v.machine.harts) starts.set_up in
    let first : Event = opening setup starts.root starts.added starts.ranges in
    subst (AreByHarts w []) (sym starts.are) (
      (λ k is. let same : 0 ≡ k = cc in (omega (arith, same, harts), inl (ap (λ (es : List Ending). has (map (λ e. e.hart) es) k) none_told))),
      start_by w (first ∷ []) 1 setup.harts starts.found starts.addresses starts.finds
          (ap (λ (s : State). s.endings) (after_push [] first) ∙ step_ends (after []) first ∙ append-nil (after []).endings ∙ none_told)
          (omega (arith, harts)),
    )

-- ---- a run's journal

fits_first : (w : Setting) → Fits w []
fits_first w = subst (EndsFit w.machine.harts) (sym none_told) (inl (record { below = λ e there. absurd (none_in e there); once = λ h. omega arith }))

all_count : (w : Setting) (journal : List Event) → AreByHarts w [] journal → (k : ℕ) → CountsEachHart w (after (take k journal))
all_count w journal by k = counts w (after (take k journal)) (moments w [] journal by (fits_first w) k)

pub run_journals_start : RunJournalsStart
run_journals_start w setup journal started starts = record {
  startup = journal;
  started = started;
  starts = starts;
  others = [];
  are = sym (append-nil journal);
  by = startup_by w setup journal started starts;
  counts = all_count w journal (startup_by w setup journal started starts);
}

pub run_journals_grow : RunJournalsGrow
run_journals_grow w setup journal more x by =
    let all : AreByHarts w [] (journal ++ more) = by_both w [] journal more x.by by in
    record {
      startup = x.startup;
      started = x.started;
      starts = x.starts;
      others = x.others ++ more;
      are = ap (λ (es : List Event). es ++ more) x.are ∙ append_assoc x.startup x.others more;
      by = all;
      counts = all_count w (journal ++ more) all;
    }
