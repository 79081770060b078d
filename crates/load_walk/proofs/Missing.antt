-- The paths that were missed: as a list of their bytes, and how often a library missed what a name may be.
use Rattle.std.proofs.Common.{◌≡◌, ◌≢◌, ◌≤◌, inl, inr, ℕ, Bool, true, false, cond, List, [], ◌∷◌, ◌++◌, length, map, None, refl, sym, subst, ◌∙◌, arith, append_assoc}
use Rattle.std.specs.Global.{Vec}
use Rattle.std.specs.List.{AllByRecursion, IsDistinct, list_any}
use Rattle.std.specs.Set.{distinct_count, is_member, unique_keys}
use Rattle.std.specs.Str.{bytes_eq}
use Rattle.std.proofs.ByRecursion.{All-weaker}
use Rattle.std.proofs.lemmas.Bool.{cases_Bool}
use Rattle.std.proofs.lemmas.Cmp.{nat_list_eq_equiv}
use Rattle.std.proofs.lemmas.Grind.{common_steps}
use Rattle.std.proofs.lemmas.List.{map-append}
use Rattle.std.proofs.lemmas.List.Folds.{list_any-append}
use Rattle.std.proofs.lemmas.Map.Made.{length-le_from_is_member}
use Rattle.std.proofs.lemmas.Slice.Eq.{bytes_eq-Decides}
use Rattle.indexmap.specs.IndexSet.{insert_key}
use Rattle.scope_rule.specs.declared.arrival.Arrival.{Arrival}
use Rattle.scope_rule.specs.Finding.{Reading, here, absent, failed, with_path, at_path}
use Rattle.scope_rule.specs.Load.{Load, nowhere, find_path}
use Rattle.load_walk.specs.Walking.{Agrees}
use Rattle.load_walk.specs.declared.walker.Walker.{Walker}

-- ---- a set of paths as the list of their bytes

-- the bytes of each path
abbrev pub bytes_of : List (Vec ℕ) → List (List ℕ)
bytes_of paths = map (λ path. path.items) paths

-- paths of the same bytes are the same key
abbrev pub same_path : Vec ℕ → Vec ℕ → Bool
same_path one other = bytes_eq one.items other.items

-- the set's test of a path is the list's
pub any_is : (paths : List (Vec ℕ)) (bytes : List ℕ) → list_any (λ path. bytes_eq bytes path.items) paths ≡ is_member bytes_eq (bytes_of paths) bytes
any_is [] bytes = refl
any_is (path ∷ rest) bytes = rw (any_is rest bytes) refl

-- a new path goes last
pub inserted_last : (paths : List (Vec ℕ)) (path : Vec ℕ) → is_member bytes_eq (bytes_of paths) path.items ≡ false → bytes_of (insert_key same_path paths path) ≡ bytes_of paths ++ path.items ∷ []
inserted_last paths path new =
    let absent : list_any (same_path path) paths ≡ false = any_is paths path.items ∙ new in
    rw absent (map-append (λ (p : Vec ℕ). p.items) paths (path ∷ []))

-- a path that was missed reads as absent, so it finds nothing
pub missed_reads : (reading : List ℕ → Reading) (missed : List (List ℕ)) (path : List ℕ) → AllByRecursion (λ p. reading p ≡ absent) missed → is_member bytes_eq missed path ≡ true → reading path ≡ absent
missed_reads reading [] path h e = absurd cc
missed_reads reading (p ∷ rest) path h e =
    elim (cases_Bool (bytes_eq path p)) [
      | inl same ↦ subst (λ (q : List ℕ). reading q ≡ absent) (sym ((bytes_eq-Decides path p).0 same)) h.0
      | inr other ↦ missed_reads reading rest path h.1 (grind (arith, e, other))
    ]

pub missed_path : (load : Load) (arrivals : List Arrival) (path : List ℕ) → with_path load.there path ≡ None → at_path arrivals path ≡ None → load.reading path ≡ absent → find_path load arrivals path ≡ nowhere
unfolding find_path
missed_path load arrivals path known new none = rw (known, new, none) refl

-- ---- as many as there are

-- all of these stand in a list
abbrev pub AllIn : List (List ℕ) → List (List ℕ) → Type 0
AllIn xs ys = AllByRecursion (λ x. is_member bytes_eq ys x ≡ true) xs

lacks_unique : (x : List ℕ) (xs : List (List ℕ)) → is_member bytes_eq xs x ≡ false → AllByRecursion (λ y. bytes_eq x y ≡ false) (unique_keys bytes_eq xs)
lacks_unique x [] none = tt
lacks_unique x (y ∷ ys) none =
    let other : bytes_eq x y ≡ false = grind (arith, none) in
    let rest : is_member bytes_eq ys x ≡ false = grind (arith, none) in
    elim (is_member bytes_eq ys y) as (λ v. AllByRecursion (λ z. bytes_eq x z ≡ false) (cond v (unique_keys bytes_eq ys) (y ∷ unique_keys bytes_eq ys))) [ true ↦ lacks_unique x ys rest | false ↦ (other, lacks_unique x ys rest) ]

unique_distinct : (xs : List (List ℕ)) → IsDistinct bytes_eq (unique_keys bytes_eq xs)
unfolding IsDistinct
unique_distinct [] = tt
unique_distinct (x ∷ xs) = (elim (is_member bytes_eq xs x) as (λ v. is_member bytes_eq xs x ≡ v → IsDistinct bytes_eq (cond v (unique_keys bytes_eq xs) (x ∷ unique_keys bytes_eq xs))) [ true ↦ λ e. unique_distinct xs | false ↦ λ e. (lacks_unique x xs e, unique_distinct xs) ]) refl

unique_in : (xs ys : List (List ℕ)) → AllIn xs ys → (q : List ℕ) → is_member bytes_eq (unique_keys bytes_eq xs) q ≡ true → is_member bytes_eq ys q ≡ true
unique_in [] ys all q e = absurd cc
unique_in (x ∷ xs) ys all q e =
    elim (cases_Bool (bytes_eq q x)) [
      | inl same ↦ rw ((bytes_eq-Decides q x).0 same) all.0
      | inr other ↦ unique_in xs ys all.1 q (grind (arith, e, other))
    ]

-- as many as stand in a list, each counted once, it has at least
pub as_many : (xs ys : List (List ℕ)) → AllIn xs ys → distinct_count bytes_eq xs ≤ length ys
as_many xs ys all = length-le_from_is_member nat_list_eq_equiv (unique_keys bytes_eq xs) ys (unique_distinct xs) (unique_in xs ys all)

-- ---- a reading that has no more misses than were seen

-- what a reading gives, but for a failure where it would have a miss
abbrev firm : Reading → Reading
firm absent = failed
firm r = r

-- nothing at the missed paths alone
abbrev pub strictly : (List ℕ → Reading) → Walker → List ℕ → Reading
strictly reading w path = cond (is_member bytes_eq w.missed path) absent (firm (reading path))

firm_there : (r : Reading) → firm r ≢ absent
firm_there absent e = absurd cc
firm_there r e = absurd cc

-- a path that reads so as absent was missed
pub all_missed : (reading : List ℕ → Reading) (w : Walker) (paths : List (List ℕ)) → AllByRecursion (λ path. strictly reading w path ≡ absent) paths → AllIn paths w.missed
all_missed reading w [] h = tt
all_missed reading w (path ∷ paths) h =
    ((elim (is_member bytes_eq w.missed path) as (λ v. cond v absent (firm (reading path)) ≡ absent → v ≡ true) [ true ↦ λ e. refl | false ↦ λ e. absurd (firm_there (reading path) e) ]) h.0, all_missed reading w paths h.1)

-- it agrees with what was read so far
missed_strictly : (reading : List ℕ → Reading) (w : Walker) (front rest : List (List ℕ)) → w.missed ≡ front ++ rest → AllByRecursion (λ path. strictly reading w path ≡ absent) rest
missed_strictly reading w front [] is = tt
missed_strictly reading w front (m ∷ rest) is =
    let self : bytes_eq m m ≡ true = (bytes_eq-Decides m m).1 refl in
    let there : is_member bytes_eq w.missed m ≡ true = rw (is, list_any-append) (grind (arith, common_steps, self)) in
    (rw there refl, missed_strictly reading w (front ++ m ∷ []) rest (is ∙ sym (append_assoc front (m ∷ []) rest)))

object_strictly : (reading : List ℕ → Reading) (w : Walker) (o : Arrival) → Agrees reading w → reading o.path ≡ here o.object o.table → strictly reading w o.path ≡ here o.object o.table
object_strictly reading w o agrees read =
    (elim (is_member bytes_eq w.missed o.path) as (λ v. is_member bytes_eq w.missed o.path ≡ v → cond v absent (firm (reading o.path)) ≡ here o.object o.table) [
      | true ↦ λ e. absurd (let d : absent ≡ here o.object o.table = sym (missed_reads reading w.missed o.path agrees.missed e) ∙ read in cc)
      | false ↦ λ e. rw read refl
    ]) refl

pub strictly_agrees : (reading : List ℕ → Reading) (w : Walker) → Agrees reading w → Agrees (strictly reading w) w
strictly_agrees reading w agrees = record {
  objects = All-weaker (λ o. reading o.path ≡ here o.object o.table) (λ o. strictly reading w o.path ≡ here o.object o.table) (λ o read. object_strictly reading w o agrees read) w.arrivals agrees.objects;
  missed = missed_strictly reading w [] w.missed refl;
}
