-- An opening's functions, and a closing's, are settled by the state.
use Rattle.std.proofs.Common.{◌≡◌, ◌⊎◌, inl, inr, ⊎_elim, ℕ, zero, suc, ◌+◌, ◌<◌, ◌≤◌, List, [], ◌∷◌, ◌++◌, get_or, map, take, length, Option, Some, None, refl, sym, ap, subst, ◌∙◌, arith}
use Rattle.std.specs.List.{Contains, flat_map, slice_get}
use Rattle.std.proofs.lemmas.Bool.{cases_lt}
use Rattle.std.proofs.lemmas.List.{take_all}
use Rattle.std.proofs.lemmas.Option.{slice_get_cases}
use Rattle.history_event.specs.declared.handed.Function.{Function}
use Rattle.history_graph.specs.declared.graph.Edge.{Edge}
use Rattle.history_graph.specs.Initialised.{InitNext, InitOrder, program_last}
use Rattle.history_state.specs.Links.{found_edges}
use Rattle.history_state.specs.Memory.{image_of}
use Rattle.history_state.specs.Objects.{mapped}
use Rattle.history_state.specs.State.{Linked, State}
use Rattle.history_state.specs.Lemmas.Lists.{at_in, here, later}
use Rattle.history_calls.specs.Functions.{AreAddresses, AreConstructors, AreDestructors, AreOf, AreStartConstructors, constructors, destructors, object_of, preceded, preinits}
use Rattle.history_calls.specs.Lemmas.Unique.{both_found}

-- ---- one order

same_next : (edges : List Edge) (new done : List ℕ) (o p : ℕ) → InitNext edges new done o → InitNext edges new done p → o ≡ p
same_next edges new done o p x y = ⊎_elim
    (λ (lt : x.place < y.place). absurd (y.first x.place o lt x.stands x.may))
    (λ (ge : y.place ≤ x.place). ⊎_elim
    (λ (lt : y.place < x.place). absurd (x.first y.place p lt y.stands y.may))
    (λ (le : x.place ≤ y.place).
    let same : x.place ≡ y.place = omega (arith, ge, le) in
    both_found (slice_get new y.place) o p (subst (λ (n : ℕ). slice_get new n ≡ Some o) same x.stands) y.stands)
    (cases_lt y.place x.place))
    (cases_lt x.place y.place)

take_more : (xs : List ℕ) (k x : ℕ) → slice_get xs k ≡ Some x → take (suc k) xs ≡ take k xs ++ x ∷ []
take_more [] k x at = absurd (let d : None ≡ Some x = at in cc)
take_more (y ∷ xs) zero x at = let same : y ≡ x = cc in ap (λ (n : ℕ). n ∷ []) same
take_more (y ∷ xs) (suc k) x at = ap (λ (ys : List ℕ). y ∷ ys) (take_more xs k x at)

-- once all of one order is there, the other has no more
no_more : (edges : List Edge) (new a b : List ℕ) (k o : ℕ) → InitOrder edges new a → InitOrder edges new b → take k a ≡ take k b → slice_get a k ≡ Some o → length b ≤ k → ⊥
no_more edges new a b k o x y same at short =
    let next = x.each k o at in
    let there : Contains b o = y.all o (at_in new next.place o next.stands) in
    next.may.undone (subst (λ (xs : List ℕ). Contains xs o) (sym (same ∙ take_all k b short)) there)

abbrev Part : List ℕ → ℕ → Type 0
Part xs k = ((o : ℕ) × (slice_get xs k ≡ Some o)) ⊎ (length xs ≤ k)

part : (xs : List ℕ) (k : ℕ) → Part xs k
part xs k = ⊎_elim
    (λ (h : (o : ℕ) × (k < length xs) × (slice_get xs k ≡ Some o) × (get_or xs k o ≡ o)). inl (h.0, h.2))
    (λ (h : (length xs ≤ k) × (slice_get xs k ≡ None)). inr h.0)
    (slice_get_cases xs k).1

ended : (xs : List ℕ) (k : ℕ) → length xs ≤ k → take (suc k) xs ≡ take k xs
ended xs k le = take_all (suc k) xs (omega (arith, le)) ∙ sym (take_all k xs le)

one_more : (edges : List Edge) (new a b : List ℕ) (k : ℕ) → InitOrder edges new a → InitOrder edges new b → take k a ≡ take k b → take (suc k) a ≡ take (suc k) b
one_more edges new a b k x y same = by (part a k) (part b k)
  where
    by : Part a k → Part b k → take (suc k) a ≡ take (suc k) b
    by (inl p) (inl q) =
        let one : p.0 ≡ q.0 = same_next edges new (take k b) p.0 q.0 (subst (λ (done : List ℕ). InitNext edges new done p.0) same (x.each k p.0 p.1)) (y.each k q.0 q.1) in
        take_more a k p.0 p.1 ∙ ap (λ (xs : List ℕ). xs ++ p.0 ∷ []) same ∙ ap (λ (n : ℕ). take k b ++ n ∷ []) one ∙ sym (take_more b k q.0 q.1)
    by (inl p) (inr short) = absurd (no_more edges new a b k p.0 x y same p.1 short)
    by (inr short) (inl q) = absurd (no_more edges new b a k q.0 y x (sym same) q.1 short)
    by (inr short) (inr also) = ended a k short ∙ same ∙ sym (ended b k also)

same_fronts : (edges : List Edge) (new a b : List ℕ) (k : ℕ) → InitOrder edges new a → InitOrder edges new b → take k a ≡ take k b
same_fronts edges new a b zero x y = refl
same_fronts edges new a b (suc k) x y = one_more edges new a b k x y (same_fronts edges new a b k x y)

same_order : (edges : List Edge) (new a b : List ℕ) → InitOrder edges new a → InitOrder edges new b → a ≡ b
same_order edges new a b x y =
    sym (take_all (length a + length b) a (omega arith)) ∙ same_fronts edges new a b (length a + length b) x y ∙ take_all (length a + length b) b (omega arith)

-- ---- one list of functions

head_is : (x y : ℕ) (xs ys : List ℕ) → x ∷ xs ≡ y ∷ ys → x ≡ y
head_is x y xs ys e = cc

tail_is : (x y : ℕ) (xs ys : List ℕ) → x ∷ xs ≡ y ∷ ys → xs ≡ ys
tail_is x y xs ys e = cc

same_addresses : (addresses : Linked → List ℕ) (found : Option Linked) (a b : List ℕ) → AreAddresses addresses a found → AreAddresses addresses b found → a ≡ b
same_addresses addresses (Some m) a b x y = x ∙ sym y
same_addresses addresses None a b x y = absurd x

same_function : (s : State) (addresses : Linked → List ℕ) (f g : Function) → f.object ≡ g.object → AreAddresses addresses f.addresses (image_of s f.object)
    → AreAddresses addresses g.addresses (image_of s g.object) → f ≡ g
same_function s addresses f g objects x y =
    let lists : f.addresses ≡ g.addresses = same_addresses addresses (image_of s g.object) f.addresses g.addresses
    (subst (λ (n : ℕ). AreAddresses addresses f.addresses (image_of s n)) objects x) y in
    ap (λ (n : ℕ). record f { object = n }) objects ∙ ap (λ (xs : List ℕ). record g { addresses = xs }) lists

same_functions : (s : State) (addresses : Linked → List ℕ) (a b : List Function) → map object_of a ≡ map object_of b → AreOf s addresses a → AreOf s addresses b → a ≡ b
same_functions s addresses [] [] same x y = refl
same_functions s addresses [] (g ∷ b) same x y = absurd (let d : [] ≡ g.object ∷ map object_of b = same in cc)
same_functions s addresses (f ∷ a) [] same x y = absurd (let d : f.object ∷ map object_of a ≡ [] = same in cc)
same_functions s addresses (f ∷ a) (g ∷ b) same x y =
    let first : f ≡ g = same_function s addresses f g (head_is f.object g.object (map object_of a) (map object_of b) same) (x f (here f a)) (y g (here g b)) in
    ap (λ (z : Function). z ∷ a) first
    ∙ ap (λ (zs : List Function). g ∷ zs) (same_functions s addresses a b (tail_is f.object g.object (map object_of a) (map object_of b) same) (λ z h. x z (later f a z h)) (λ z h. y z (later g b z h)))

pub one_initialisation : (s : State) (news : List ℕ) (a b : List Function) → AreConstructors s news a → AreConstructors s news b → a ≡ b
one_initialisation s news a b x y = same_functions s constructors a b (same_order (flat_map found_edges (mapped s)) (program_last (Some 1) news) (map object_of a) (map object_of b) x.order y.order) x.addresses y.addresses

pub one_finalisation : (s : State) (set : List ℕ) (a b : List Function) → AreDestructors s set a → AreDestructors s set b → a ≡ b
one_finalisation s set a b x y = same_functions s destructors a b (x.order ∙ sym y.order) x.addresses y.addresses

pub one_start : (s : State) (news : List ℕ) (a b : List Function) → AreStartConstructors s news a → AreStartConstructors s news b → a ≡ b
one_start s news a b x y =
    let plains : x.plain ≡ y.plain = one_initialisation s news x.plain y.plain x.are y.are in
    let firsts : x.before ≡ y.before = same_addresses preinits (image_of s 1) x.before y.before x.program y.program in
    x.is ∙ ap (preceded x.before) plains ∙ ap (λ (xs : List ℕ). preceded xs y.plain) firsts ∙ sym y.is
