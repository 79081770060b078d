-- Whether every hart has ended by exit, as a journal is gone through.
use Rattle.std.proofs.Common.{◌≡◌, ℕ, zero, suc, ◌+◌, ◌<◌, ◌≤◌, nat_le, true, false, List, [], ◌∷◌, ◌++◌, length, length-append, take, drop, get_or, refl, sym, ap, ◌∙◌, append-nil, append_assoc, arith}
use Rattle.std.specs.List.{list_all}
use Rattle.std.proofs.Math.Seq.{take-append_seam}
use Rattle.std.proofs.lemmas.Bool.{and_from, and_left, and_right, le-leb}
use Rattle.std.proofs.lemmas.Grind.{flat_map-append}
use Rattle.std.proofs.lemmas.List.{take_more}
use Rattle.history_event.specs.declared.event.Event.{Event}
use Rattle.history_event.specs.declared.state.Ending.{Ending}
use Rattle.history_state.specs.Setting.{exited}
use Rattle.link_keeper.specs.Beginning.{ending_by, ends_in, first_exited}

-- ---- ends

all_exits : (n : ℕ) (es more : List Ending) → length es ≡ n → list_all exited es ≡ true → first_exited n (es ++ more) ≡ true
all_exits n es more count exits =
    let low : n ≤ length (es ++ more) = (let whole : length (es ++ more) ≡ length es + length more = length-append es more in omega (arith, whole, count)) in
    and_from (nat_le n (length (es ++ more))) (list_all exited (take n (es ++ more))) (le-leb n (length (es ++ more)) low)
    (ap (λ (k : ℕ). list_all exited (take k (es ++ more))) (sym count) ∙ ap (list_all exited) (take-append_seam es more) ∙ exits)

one_fails : (es : List Ending) (n : ℕ) (x : Ending) (more : List Ending) → length es < n → exited x ≡ false → list_all exited (take n (es ++ x ∷ more)) ≡ false
one_fails [] zero x more low other = absurd (let no : 0 < 0 = low in omega (arith, no))
one_fails [] (suc n) x more low other = and_left (exited x) (list_all exited (take n more)) other
one_fails (e ∷ es) zero x more low other = absurd (let no : suc (length es) < 0 = low in omega (arith, no))
one_fails (e ∷ es) (suc n) x more low other =
    and_right (exited e) (list_all exited (take n (es ++ x ∷ more))) (one_fails es n x more (let l : suc (length es) < suc n = low in omega (arith, l)) other)

-- ---- a journal

abbrev before : ℕ → List Event → List Ending
before i events = ends_in (take i events)

both_parts : (i : ℕ) (events : List Event) → take i events ++ drop i events ≡ events
both_parts zero events = refl
both_parts (suc i) [] = refl
both_parts (suc i) (e ∷ events) = ap (λ (es : List Event). e ∷ es) (both_parts i events)

ends_parts : (i : ℕ) (events : List Event) → ends_in events ≡ before i events ++ ends_in (drop i events)
ends_parts i events = ap ends_in (sym (both_parts i events)) ∙ flat_map-append ending_by (take i events) (drop i events)

pub ends_more : (i : ℕ) (events : List Event) (e : Event) → i < length events → get_or events i e ≡ e → before (i + 1) events ≡ before i events ++ ending_by e
ends_more i events e low at =
    ap ends_in (take_more events i e low) ∙ flat_map-append ending_by (take i events) (get_or events i e ∷ [])
    ∙ ap (λ (d : Event). before i events ++ (ending_by d ++ [])) at ∙ ap (λ (es : List Ending). before i events ++ es) (append-nil (ending_by e))

-- as many as are wanted have ended
pub done_at : (n i : ℕ) (events : List Event) → length (before i events) ≡ n → list_all exited (before i events) ≡ true → first_exited n (ends_in events) ≡ true
done_at n i events count exits = ap (first_exited n) (ends_parts i events) ∙ all_exits n (before i events) (ends_in (drop i events)) count exits

-- one did otherwise
pub fails_at : (n i : ℕ) (events : List Event) (e : Event) (x : Ending) → i < length events → get_or events i e ≡ e → ending_by e ≡ x ∷ [] → exited x ≡ false → length (before i events) < n
    → first_exited n (ends_in events) ≡ false
fails_at n i events e x low at is other few =
    let parts : ends_in events ≡ before i events ++ x ∷ ends_in (drop (i + 1) events) =
    ends_parts (i + 1) events ∙ ap (λ (es : List Ending). es ++ ends_in (drop (i + 1) events)) (ends_more i events e low at ∙ ap (λ (es : List Ending). before i events ++ es) is)
    ∙ append_assoc (before i events) (x ∷ []) (ends_in (drop (i + 1) events)) in
    ap (first_exited n) parts
    ∙ and_right (nat_le n (length (before i events ++ x ∷ ends_in (drop (i + 1) events)))) (list_all exited (take n (before i events ++ x ∷ ends_in (drop (i + 1) events))))
    (one_fails (before i events) n x (ends_in (drop (i + 1) events)) few other)
