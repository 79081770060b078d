-- Harts that are set off one after another.
use Rattle.std.proofs.Common.{◌≡◌, ⊎_elim, ℕ, ◌+◌, ◌<◌, false, List, [], ◌∷◌, ◌++◌, length, map, get_or, take, Some, refl, sym, ap, subst, ◌∙◌}
use Rattle.std.specs.List.{Contains, slice_get}
use Rattle.std.proofs.lemmas.List.Elements.{Contains-push_cases}
use Rattle.std.proofs.lemmas.List.{take_more}
use Rattle.std.proofs.lemmas.Option.{none-some}
use Rattle.history_event.specs.declared.handed.Function.{Function}
use Rattle.history_event.specs.declared.handed.HartEntry.{HartEntry}
use Rattle.hart_moves.specs.Harts.{HartState, Purpose}
use Rattle.hart_moves.specs.Moves.{runs}
use Rattle.hart_moves.specs.Starting.{starting_hart, starting_harts, starting_registers}
use Rattle.word_memory.specs.WordSeats.Making.{new_harts}
use Rattle.word_rule.specs.declared.view.HartView.{HartView}
use Rattle.world_threads.proofs.Ways.{new_hart_at}
use lib.ListN.{set}

-- a new hart isn't calling
pub new_calling : (n k : ℕ) (j : HartView) → slice_get (new_harts n) k ≡ Some j → j.lane.calling ≡ false
new_calling n k j got = subst (λ (v : HartView). v.lane.calling ≡ false) (sym (new_hart_at n k j got)) refl

map_push : {X Z : Type 0} (f : X → Z) (xs : List X) (x : X) → map f (xs ++ x ∷ []) ≡ map f xs ++ f x ∷ []
map_push f [] x = refl
map_push f (y ∷ ys) x = ap (λ l. f y ∷ l) (map_push f ys x)

-- one more of both
pub pushed : {X Y Z : Type 0} (f : X → Z) (g : Y → Z) (xs : List X) (ys : List Y) (x : X) (y : Y) → map f xs ≡ map g ys → f x ≡ g y → map f (xs ++ x ∷ []) ≡ map g (ys ++ y ∷ [])
pushed f g xs ys x y same here = map_push f xs x ∙ ap (λ l. l ++ f x ∷ []) same ∙ ap (λ z. map g ys ++ z ∷ []) here ∙ sym (map_push g ys y)

-- of the elements so far, one more
pub more_taken : {X Y Z : Type 0} (f : X → Z) (g : Y → Z) (xs : List X) (ys : List Y) (x : X) (n k m : ℕ) (d : Y) → map f xs ≡ map g (take n ys) → f x ≡ g (get_or ys k d) → k ≡ n → m ≡ n + 1 → n < length ys
    → map f (xs ++ x ∷ []) ≡ map g (take m ys)
more_taken f g xs ys x n k m d same here place count low =
    pushed f g xs (take n ys) x (get_or ys n d) same (here ∙ ap (λ (i : ℕ). g (get_or ys i d)) place)
    ∙ ap (map g) (sym (take_more ys n d low)) ∙ ap (λ (i : ℕ). map g (take i ys)) (sym count)

pub take_whole : {X : Type 0} (xs : List X) → take (length xs) xs ≡ xs
take_whole [] = refl
take_whole (x ∷ xs) = ap (λ l. x ∷ l) (take_whole xs)

pub each_pushed : {X Y : Type 0} (P : Y → Type 0) (f : X → Y) (xs : List X) (x : X) → ((y : Y) → Contains (map f xs) y → P y) → P (f x) → (y : Y) → Contains (map f (xs ++ x ∷ [])) y → P y
each_pushed P f xs x all here y there = ⊎_elim
    (λ (before : Contains (map f xs) y). all y before)
    (λ (e : f x ≡ y). subst P e here)
    (Contains-push_cases (map f xs) (f x) y (subst (λ l. Contains l y) (map_push f xs x) there))

-- the first one changed in what isn't looked at
pub still : {X Y : Type 0} (f : X → Y) (xs : List X) (x d : X) → f x ≡ f (get_or xs 0 d) → map f (set xs 0 x) ≡ map f xs
still f [] x d same = refl
still f (y ∷ ys) x d same = ap (λ z. z ∷ map f ys) same

-- the first one runs functions before
pub runs_first : {X : Type 0} (f : X → HartState) (xs : List X) (x d : X) (entry : HartEntry) (functions : List Function) (fuel : ℕ) (entries : List HartEntry)
    → slice_get entries 0 ≡ Some entry → map f xs ≡ map (starting_hart fuel) entries
    → f x ≡ runs (Purpose.of_startup (starting_registers entry)) functions (f (get_or xs 0 d)).frames (f (get_or xs 0 d))
    → map f (set xs 0 x) ≡ starting_harts fuel functions entries
runs_first f xs x d entry functions fuel [] got same ran = absurd (none-some entry got)
runs_first f [] x d entry functions fuel (e ∷ es) got same ran = absurd (cc)
runs_first f (y ∷ ys) x d entry functions fuel (e ∷ es) got same ran =
    let here : f y ≡ starting_hart fuel e = cc in
    let rest : map f ys ≡ map (starting_hart fuel) es = cc in
    let is : e ≡ entry = cc in
    let first : f x ≡ runs (Purpose.of_startup (starting_registers e)) functions [] (starting_hart fuel e)
    = ran ∙ ap (λ (b : HartState). runs (Purpose.of_startup (starting_registers entry)) functions b.frames b) here
    ∙ ap (λ (z : HartEntry). runs (Purpose.of_startup (starting_registers z)) functions [] (starting_hart fuel e)) (sym is) in
    ap (λ z. z ∷ map f ys) first ∙ ap (λ l. runs (Purpose.of_startup (starting_registers e)) functions [] (starting_hart fuel e) ∷ l) rest
