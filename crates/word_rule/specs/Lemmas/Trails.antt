-- The part on the generation, over the steps of harts and of the keeper.
use Rattle.std.proofs.Common.{◌≡◌, ◌⊎◌, ⊎_elim, ℕ, zero, suc, ◌≤◌, ◌<◌, Bool, true, false, ◌&&◌, if◌then◌else◌, ◌==◌, List, [], ◌∷◌, ◌++◌, append_assoc, append-nil, Option, Some, None, Contains, refl, sym, ap, subst, ◌∙◌, arith, eqb-true, true≢false}
use Rattle.std.proofs.lemmas.List.Elements.{Contains-append_cases}
use Rattle.word_rule.specs.declared.entry.Entry.{Entry}
use Rattle.word_rule.specs.declared.entry.Exchange.{Exchange}
use Rattle.word_rule.specs.declared.view.Row.{Row}
use Rattle.word_rule.specs.declared.view.TrailItem.{TrailItem}
use Rattle.word_rule.specs.declared.view.TrailItem.TheVariants.{Call, Took, Exchanged, Done, Generation as ReadGeneration}
use Rattle.word_rule.specs.Layout.{generation_at, harts_at_most}
use Rattle.word_rule.specs.Views.{put, entries_by, entries_of, is_block, last_block, later_block, NoneAbove, NoneLater, readings_by, readings_of, tried_entry}
use Rattle.word_rule.specs.Generations.{AllKept, Generations, HasLast, IsKept, IsMarkedOnce, IsUnknown, IsUnmarked, MarksOnce}
use Rattle.word_rule.specs.Lemmas.Put.{put_each}

pub kept_push : (before : List Entry) (trail : List TrailItem) (item : TrailItem) → AllKept before trail → IsKept (before ++ entries_of trail) item → AllKept before (trail ++ item ∷ [])
kept_push before [] item all new = (subst (λ es. IsKept es item) (append-nil before) new, tt)
kept_push before (x ∷ xs) item all new = (all.0, kept_push (before ++ entries_by x) xs item all.1 (subst (λ es. IsKept es item) (sym (append_assoc before (entries_by x) (entries_of xs))) new))

pub once_push : (before : List Entry) (trail : List TrailItem) (item : TrailItem) → MarksOnce before trail → IsMarkedOnce (before ++ entries_of trail) item → MarksOnce before (trail ++ item ∷ [])
once_push before [] item all new = (subst (λ es. IsMarkedOnce es item) (append-nil before) new, tt)
once_push before (x ∷ xs) item all new = (all.0, once_push (before ++ entries_by x) xs item all.1 (subst (λ es. IsMarkedOnce es item) (sym (append_assoc before (entries_by x) (entries_of xs))) new))

-- an item without an answer of mark 2 is marked once behind any entries
pub unmarked_once : (before : List Entry) (item : TrailItem) → IsUnmarked item → IsMarkedOnce before item
unmarked_once before (Call item) other = tt
unmarked_once before (Took e) other = λ two. absurd (other two)
unmarked_once before (Exchanged x) other = λ two. absurd (other two)
unmarked_once before Done other = tt
unmarked_once before (ReadGeneration generation number block) other = tt

pub unmarked_grows : (trail : List TrailItem) (item : TrailItem) → MarksOnce [] trail → IsUnmarked item → MarksOnce [] (trail ++ item ∷ [])
unmarked_grows trail item once other = once_push [] trail item once (unmarked_once (entries_of trail) item other)

pub first_grows : (trail : List TrailItem) (e : Entry) → MarksOnce [] trail → IsUnknown (entries_of trail) e → MarksOnce [] (trail ++ Took e ∷ [])
first_grows trail e once new = once_push [] trail (Took e) once (λ _. new)

-- ---- the last block of a module

there : {A : Type 0} (x : A) (xs : List A) (y : A) → Contains xs y → Contains (x ∷ xs) y
there x xs y c = let low = c.1 in (suc c.0, omega arith, c.2)

-- an entry that is no such answer leaves it
last_push : (generation number : ℕ) (es : List Entry) (e : Entry) → is_block generation number e ≡ false → last_block generation number (es ++ e ∷ []) ≡ last_block generation number es
last_push generation number [] e other = ap (λ b. later_block None b e.value) other
last_push generation number (x ∷ xs) e other = ap (λ o. later_block o (is_block generation number x) x.value) (last_push generation number xs e other)

-- no answer on thread-local storage is a grant
grant_apart : (generation number : ℕ) (e : Entry) → e.mark ≡ 3 → is_block generation number e ≡ false
grant_apart generation number e three = go (e.slot == number) (e.generation == generation) e.mark three
  where
    go : (a b : Bool) (mark : ℕ) → mark ≡ 3 → (a && b && (if mark == 2 then true else (if mark == 1 then (if e.slot == 0 then false else true) else false))) ≡ false
    go false b mark is = refl
    go true false mark is = refl
    go true true mark is = subst (λ mark. (if mark == 2 then true else (if mark == 1 then (if e.slot == 0 then false else true) else false)) ≡ false) (sym is) refl

-- nor is the grant whose exchange was made
pub last_tried : (generation number : ℕ) (es : List Entry) (t : Option Exchange) → ((x : Exchange) → t ≡ Some x → x.grant.entry.mark ≡ 3) → last_block generation number (es ++ tried_entry t) ≡ last_block generation number es
last_tried generation number es None grants = ap (last_block generation number) (append-nil es)
last_tried generation number es (Some x) grants = last_push generation number es x.grant.entry (grant_apart generation number x.grant.entry (grants x refl))

-- where there is none, no entry is such an answer
pub none_is : (generation number : ℕ) (es : List Entry) → last_block generation number es ≡ None → (e : Entry) → Contains es e → is_block generation number e ≡ false
none_is generation number [] none_there e c = let low : c.0 < 0 = c.1 in absurd (omega arith)
none_is generation number (x ∷ es) none_there y d = go (none_is generation number es) (last_block generation number es) refl (is_block generation number x) refl none_there y d
  where
    go : (last_block generation number es ≡ None → (e : Entry) → Contains es e → is_block generation number e ≡ false)
        → (o : Option ℕ) → last_block generation number es ≡ o → (t : Bool) → is_block generation number x ≡ t → later_block o t x.value ≡ None
        → (e : Entry) → Contains (x ∷ es) e → is_block generation number e ≡ false
    go rest (Some b) o t ti is e c = let q : Some b ≡ None = is in absurd (cc)
    go rest None o true ti is e c = let q : Some x.value ≡ None = is in absurd (cc)
    go rest None o false ti is e (zero, low, c) = subst (λ e. is_block generation number e ≡ false) c ti
    go rest None o false ti is e (suc i, low, c) = rest o e (i, omega (arith, low), c)

-- the block is that of the last such answer
pub last_is : (generation number : ℕ) (es : List Entry) (b : ℕ) → last_block generation number es ≡ Some b → HasLast generation number es b
last_is generation number [] b is = let q : None ≡ Some b = is in absurd (cc)
last_is generation number (e ∷ es) b is = go (last_is generation number es b) (last_block generation number es) refl (is_block generation number e) refl is
  where
    go : (last_block generation number es ≡ Some b → HasLast generation number es b) → (o : Option ℕ) → last_block generation number es ≡ o
        → (t : Bool) → is_block generation number e ≡ t → later_block o t e.value ≡ Some b → HasLast generation number (e ∷ es) b
    go rest (Some c) o t ti is = let q : Some c ≡ Some b = is in let same : c ≡ b = cc in let r = rest (o ∙ ap Some same) in
        record { before = e ∷ r.before; answer = r.answer; behind = r.behind; are = ap (λ es. e ∷ es) r.are; block = r.block; value = r.value; last = r.last }
    go rest None o true ti is = let q : Some e.value ≡ Some b = is in record { before = []; answer = e; behind = es; are = refl; block = ti; value = cc; last = none_is generation number es o }
    go rest None o false ti is = let q : None ≡ Some b = is in absurd (cc)

-- and where no entry is one, there is none
pub is_none : (generation number : ℕ) (es : List Entry) → ((e : Entry) → Contains es e → is_block generation number e ≡ false) → last_block generation number es ≡ None
is_none generation number [] other = refl
is_none generation number (x ∷ es) other =
    (λ i. later_block (is_none generation number es (λ e c. other e (there x es e c)) i) (other x (0, omega arith, refl) i) x.value)

-- a module without a block at a generation that no entry is later than has none at a later generation
pub none_later : (n generation number : ℕ) (es : List Entry) → NoneLater n es → last_block n number es ≡ None → n ≤ generation → last_block generation number es ≡ None
none_later n generation number es low none_there up = is_none generation number es (λ e c. go e (low e c) (none_is n number es none_there e c) (e.generation == generation) refl)
  where
    between : (a b c : Bool) → b ≡ false → (a && b && c) ≡ false
    between false b c is = refl
    between true true c is = absurd (true≢false is)
    between true false c is = refl

    go : (e : Entry) → e.generation ≤ n → is_block n number e ≡ false → (b : Bool) → (e.generation == generation) ≡ b → is_block generation number e ≡ false
    go e low other true is =
        let same : e.generation ≡ generation = eqb-true e.generation generation is in
        let at : n ≡ generation = omega arith in subst (λ g. is_block g number e ≡ false) at other
    go e low other false is = between (e.slot == number) (e.generation == generation) _ is

-- ---- the rule

-- what the rule says of a trail's readings
abbrev pub AreReadings : ℕ → List TrailItem → Type 0
AreReadings generation trail = AllKept [] trail × NoneAbove generation (readings_of trail)

-- no generation is read
pub none_read : (generation : ℕ) → NoneAbove generation []
none_read generation n c = let low : c.0 < 0 = c.1 in absurd (omega arith)

pub one_read : (generation n : ℕ) → n ≡ generation → NoneAbove generation (n ∷ [])
one_read generation n is x (zero, low, c) = let same : n ≡ x = c in omega arith
one_read generation n is x (suc i, low, c) = absurd (omega (arith, low))

readings_push : (trail : List TrailItem) (item : TrailItem) → readings_of (trail ++ item ∷ []) ≡ readings_of trail ++ readings_by item
readings_push [] item = append-nil (readings_by item)
readings_push (x ∷ xs) item = ap (λ l. readings_by x ++ l) (readings_push xs item) ∙ sym (append_assoc (readings_by x) (readings_of xs) (readings_by item))

pub reads_push : (generation : ℕ) (trail : List TrailItem) (item : TrailItem) → AreReadings generation trail → IsKept (entries_of trail) item → NoneAbove generation (readings_by item) → AreReadings generation (trail ++ item ∷ [])
reads_push generation trail item old new low = (
  kept_push [] trail item old.0 new,
  subst (NoneAbove generation) (sym (readings_push trail item)) (λ n c. ⊎_elim (old.1 n) (low n) (Contains-append_cases (readings_of trail) (readings_by item) n c)),
)

-- a hart's trail grows by an item that is true, or stays
pub trails_grow : (word word' : ℕ → ℕ) (generation : ℕ) (row : ℕ → Row) (trail : ℕ → List TrailItem) (m : ℕ) (t : List TrailItem) → word' generation_at ≡ word generation_at → AreReadings generation t
    → Generations word generation row trail → Generations word' generation row (put trail m t)
trails_grow word word' generation row trail m t same kept g = record {
  current = same ∙ g.current;
  issued = g.issued;
  kept = put_each (λ j t. j < harts_at_most → AllKept [] t) trail m t (λ j _. g.kept j) (λ _. kept.0);
  read = put_each (λ j t. j < harts_at_most → NoneAbove generation (readings_of t)) trail m t (λ j _. g.read j) (λ _. kept.1);
}

-- the keeper's rows change: what is issued to one hart grows by an entry that isn't newer than the generation, or stays
pub rows_grow : (word word' : ℕ → ℕ) (generation generation' : ℕ) (row row' : ℕ → Row) (trail : ℕ → List TrailItem) → word' generation_at ≡ generation' → generation ≤ generation'
    → ((m : ℕ) → m < harts_at_most → (e : Entry) → Contains (row' m).issued e → Contains (row m).issued e ⊎ (e.generation ≤ generation'))
    → Generations word generation row trail → Generations word' generation' row' trail
rows_grow word word' generation generation' row row' trail same up back g = record {
  current = same;
  issued = λ m few e c. ⊎_elim (λ (was : Contains (row m).issued e). let low : e.generation ≤ generation = g.issued m few e was in omega arith) (λ (low : e.generation ≤ generation'). low) (back m few e c);
  kept = g.kept;
  read = λ m few n c. let low : n ≤ generation = g.read m few n c in omega arith;
}
