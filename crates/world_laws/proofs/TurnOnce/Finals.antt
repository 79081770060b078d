-- The end of an object's destructors, before and behind what is settled.
use Rattle.std.proofs.Common.{◌≡◌, ℕ, Bool, true, false, not, ◌&&◌, cond, List, [], ◌∷◌, ◌++◌, Option, Some, None, refl, sym, ap, subst, ◌∙◌, append-nil}
use Rattle.std.specs.Option.{is_some}
use Rattle.history_event.specs.declared.event.Event.{Event}
use Rattle.history_event.specs.declared.event.Event.TheVariants.{Fini}
use Rattle.history_event.specs.declared.handed.Function.{Function}
use Rattle.history_state.specs.After.{after}
use Rattle.history_state.specs.Memory.{image_of}
use Rattle.history_state.specs.Objects.{has, object_at}
use Rattle.history_state.specs.Setting.{Setting}
use Rattle.history_state.specs.State.{Linked, State}
use Rattle.history_state.specs.Step.{step}
use Rattle.history_state.specs.Lemmas.History.{after_push}
use Rattle.history_calls.specs.Functions.{AreAddresses, destructors}
use Rattle.hart_moves.specs.Harts.{HartState}
use Rattle.hart_moves.specs.Moves.{Did, Finalises, Finals, all_finis, did_by, own_fini}

-- all of a state but its grants
abbrev pub core_of : State → State
core_of s = record s { grants = [] }

abbrev pub Alike : List Event → List Event → Type 0
Alike past other = core_of (after past) ≡ core_of (after other)

finis_alike : (s t : State) → core_of s ≡ core_of t → all_finis s ≡ all_finis t
finis_alike s t same = ap all_finis same

images_alike : (s t : State) (o : ℕ) → core_of s ≡ core_of t → image_of s o ≡ image_of t o
images_alike s t o same = ap (λ (u : State). image_of u o) same

own_alike : (s t : State) (h o : ℕ) → core_of s ≡ core_of t → own_fini s h o ≡ own_fini t h o
own_alike s t h o same = ap (λ (u : State). own_fini u h o) same

step_alike : (s t : State) (h o : ℕ) → core_of s ≡ core_of t → core_of (step s (Fini h o)) ≡ core_of (step t (Fini h o))
step_alike s t h o same = ap (λ (u : State). step u (Fini h o)) same

push_alike : (past other : List Event) (h o : ℕ) → Alike past other → Alike (past ++ Fini h o ∷ []) (other ++ Fini h o ∷ [])
push_alike past other h o same = ap core_of (after_push past (Fini h o)) ∙ step_alike (after past) (after other) h o same ∙ sym (ap core_of (after_push other (Fini h o)))

-- ---- objects without functions

no_first : (a : ℕ) (rest : List ℕ) → [] ≡ a ∷ rest → ⊥
no_first a rest e = let no : [] ≡ a ∷ rest = e in cc

same_first : (a b : ℕ) (rest more : List ℕ) → a ∷ rest ≡ b ∷ more → a ≡ b
same_first a b rest more e = let same : a ∷ rest ≡ b ∷ more = e in cc

not_both : (found : Option Linked) (f : ℕ) (more : List ℕ) → AreAddresses destructors (f ∷ more) found → AreAddresses destructors [] found → ⊥
not_both (Some m) f more x y = no_first f more (y ∙ sym x)
not_both None f more x y = x

finals_alike : (w : Setting) (h : ℕ) (past other events others : List Event) (next also : Option Function) → Alike past other → Finals w h past events next → Finals w h other others also → events ≡ others
finals_alike w h past other events others next also same (Finals.no_more _ none) (Finals.no_more _ nor) = refl
finals_alike w h past other events others next also same (Finals.no_more _ none) (Finals.one_runs _ p f r m fs entries) = refl
finals_alike w h past other events others next also same (Finals.no_more _ none) (Finals.one_passes _ p r b l fs entries m more) = absurd (no_first p r (sym none ∙ finis_alike (after past) (after other) same ∙ fs))
finals_alike w h past other events others next also same (Finals.one_runs _ object function rest more finis addresses) (Finals.no_more _ nor) = refl
finals_alike w h past other events others next also same (Finals.one_runs _ object function rest more finis addresses) (Finals.one_runs _ p f r m fs entries) = refl
finals_alike w h past other events others next also same (Finals.one_runs _ object function rest more finis addresses) (Finals.one_passes _ p r b l fs entries m also_more) =
    let first : object ≡ p = same_first object p rest r (sym finis ∙ finis_alike (after past) (after other) same ∙ fs) in
    absurd (not_both (image_of (after other) p) function more
    (subst (λ (found : Option Linked). AreAddresses destructors (function ∷ more) found) (images_alike (after past) (after other) object same ∙ ap (λ (o : ℕ). image_of (after other) o) first) addresses) entries)
finals_alike w h past other events others next also same (Finals.one_passes _ object rest behind last finis addresses may finals) (Finals.no_more _ nor) =
    absurd (no_first object rest (sym nor ∙ sym (finis_alike (after past) (after other) same) ∙ finis))
finals_alike w h past other events others next also same (Finals.one_passes _ object rest behind last finis addresses may finals) (Finals.one_runs _ p f r m fs entries) =
    let first : object ≡ p = same_first object p rest r (sym finis ∙ finis_alike (after past) (after other) same ∙ fs) in
    absurd (not_both (image_of (after other) p) f m entries
    (subst (λ (found : Option Linked). AreAddresses destructors [] found) (images_alike (after past) (after other) object same ∙ ap (λ (o : ℕ). image_of (after other) o) first) addresses))
finals_alike w h past other events others next also same (Finals.one_passes _ object rest behind last finis addresses may finals) (Finals.one_passes _ p r b l fs entries m more) =
    let first : p ≡ object = sym (same_first object p rest r (sym finis ∙ finis_alike (after past) (after other) same ∙ fs)) in
    let later : Finals w h (other ++ Fini h object ∷ []) b l = subst (λ (n : ℕ). Finals w h (other ++ Fini h n ∷ []) b l) first more in
    ap (λ (es : List Event). Fini h object ∷ es) (finals_alike w h (past ++ Fini h object ∷ []) (other ++ Fini h object ∷ []) behind b last l (push_alike past other h object same) finals later)
    ∙ ap (λ (n : ℕ). Fini h n ∷ b) (sym first)

-- ---- the object's own event

own_push : (past other : List Event) (h o : ℕ) (t : Bool) → Alike past other → Alike (past ++ cond t (Fini h o ∷ []) []) (other ++ cond t (Fini h o ∷ []) [])
own_push past other h o true same = push_alike past other h o same
own_push past other h o false same = ap (λ (es : List Event). core_of (after es)) (append-nil past) ∙ same ∙ sym (ap (λ (es : List Event). core_of (after es)) (append-nil other))

pub finalises_alike : (w : Setting) (past other : List Event) (h : ℕ) (b : HartState) (code object : ℕ) (did also : Did) (c d : HartState) → Alike past other → Finalises w past h b code object did c → Finalises w other h b code object also d → did ≡ also
finalises_alike w past other h b code object did also c d same x y =
    let own : own_fini (after past) h object ≡ own_fini (after other) h object = own_alike (after past) (after other) h object same in
    let finals : Finals w h (other ++ own_fini (after past) h object) y.events y.next = subst (λ (es : List Event). Finals w h (other ++ es) y.events y.next) (sym own) y.finals in
    let more : x.events ≡ y.events = finals_alike w h (past ++ own_fini (after past) h object) (other ++ own_fini (after past) h object) x.events y.events x.next y.next
    (own_push past other h object (is_some (object_at (after past) object) && not (has (after past).finis object)) same) x.finals finals in
    x.is ∙ ap (λ (es : List Event). did_by (own_fini (after past) h object ++ es)) more ∙ ap (λ (es : List Event). did_by (es ++ y.events)) own ∙ sym y.is
