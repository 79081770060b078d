-- The worked counts, readings and refusals.
use Rattle.std.proofs.Common.{◌≡◌, ⊎_elim, ℕ, ◌+◌, ◌<◌, ◌≤◌, List, [], ◌∷◌, Some, None, refl, sym, ap, subst, inl, inr, arith}
use Rattle.std.specs.Prelude.{codes, ◌-◌, ◌^◌}
use Rattle.std.specs.Set.{distinct_count}
use Rattle.std.specs.Str.{bytes_eq}
use Rattle.std.proofs.lemmas.Bool.{true≢false}
use Rattle.ld_base.specs.declared.fault.DlFault.{DlFault}
use Rattle.ld_base.specs.declared.fault.DlFault.TheVariants.{BadFlags, MissingLibrary, ReadFault}
use Rattle.library_source.specs.Count.{RisesBy}
use Rattle.history_state.specs.After.{after, after_from}
use Rattle.history_state.specs.Step.{initialise, loaded}
use Rattle.history_calls.specs.Laws.{RefusesAsk}
use Rattle.history_calls.specs.Laws.RefusesAsk.{long, flags, space, full}
use Rattle.history_calls.specs.Worked.{libn_by, started}
use Rattle.scope_rule.specs.Finding.{candidates}
use Rattle.history_calls.specs.CallLaws.Coming.NeedsNoRead.{is_refused, is_programs, only_if_there}
use Rattle.history_calls.specs.CallLaws.Counts.{ArePathsAtStart}
use Rattle.history_calls.specs.CallLaws.Worked.{FailsTo, MissesTo, ProgramMissesTo, ReadsNoneBy, RefusalsAre, same_folder, two_folders}

another : (name path : List ℕ) → Some (MissingLibrary name) ≡ Some (ReadFault path) → ⊥
another name path e = cc

name_is : (name other : List ℕ) → Some (MissingLibrary name) ≡ Some (MissingLibrary other) → name ≡ other
name_is name other e = cc

no_library : (path name : List ℕ) → Some (ReadFault path) ≡ Some (MissingLibrary name) → ⊥
no_library path name e = cc

abbrev count_of : List (List ℕ) → ℕ
count_of paths = distinct_count bytes_eq paths

misses : (folders : List (List ℕ)) (to : ℕ) → 3 + count_of (candidates folders (codes "x.so")) ≤ to → MissesTo folders to
misses folders to few = record {
  failed = λ path e. absurd (another (codes "x.so") path e);
  missed = λ name e. record {
    paths = candidates folders name;
    are = refl;
    each = inl (subst (λ (n : List ℕ). 3 + count_of (candidates folders n) ≤ to) (name_is (codes "x.so") name e) few);
  };
}

pub both : MissesTo two_folders 5
both = misses two_folders 5 (let count : count_of (candidates two_folders (codes "x.so")) ≡ 2 = refl in omega (arith, count))

pub same_once : MissesTo same_folder 4
same_once = misses same_folder 4 (let count : count_of (candidates same_folder (codes "x.so")) ≡ 1 = refl in omega (arith, count))

too_few : (much to : ℕ) → to < 3 + much → to ≤ 100 → RisesBy much 3 to → ⊥
too_few much to few small rises = ⊎_elim
    (λ (le : 3 + much ≤ to). omega (arith, le, few))
    (λ (high : 2 ^ 64 - 1 ≤ to). omega (arith, high, small))
    rises

pub not_one : MissesTo two_folders 4 → ⊥
not_one shows =
    let at = shows.missed (codes "x.so") refl in
    let count : count_of at.paths ≡ 2 = ap count_of at.are in
    too_few (count_of at.paths) 4 (omega (arith, count)) (omega arith) at.each

pub program : ProgramMissesTo 4
program = record {
  failed = λ path e. absurd (another (codes "app") path e);
  missed = λ name e. record {
    paths = name ∷ [];
    are = inr (sym (name_is (codes "app") name e), refl);
    each = inl (let count : count_of (name ∷ []) ≡ 1 = refl in omega (arith, count));
  };
}

some_paths : (paths : List (List ℕ)) → ArePathsAtStart two_folders (codes "app") (codes "app") paths → 1 ≤ count_of paths
some_paths paths are = ⊎_elim
    (λ (e : paths ≡ candidates two_folders (codes "app")). let count : count_of paths ≡ 2 = ap count_of e in omega (arith, count))
    (λ (e : (codes "app" ≡ codes "app") × (paths ≡ codes "app" ∷ [])). let count : count_of paths ≡ 1 = ap count_of e.1 in omega (arith, count))
    are

pub not_none : ProgramMissesTo 3 → ⊥
not_none shows =
    let at = shows.missed (codes "app") refl in
    let some = some_paths at.paths at.are in
    too_few (count_of at.paths) 3 (omega (arith, some)) (omega arith) at.each

pub fails : FailsTo 2
fails = record { failed = λ path e. inl (omega arith); missed = λ name e. absurd (no_library (codes "lib/x.so") name e) }

pub not_invented : FailsTo 1 → ⊥
not_invented shows = ⊎_elim (λ (le : 1 + 1 ≤ 1). omega (arith, le)) (λ (high : 2 ^ 64 - 1 ≤ 1). omega (arith, high)) (shows.failed (codes "lib/x.so") refl)

pub reads_none_by_flags : ReadsNoneBy 3
unfolding after_from loaded initialise
reads_none_by_flags = is_refused (BadFlags 3) (flags refl refl)

pub reads_none_noload : ReadsNoneBy 5
reads_none_noload = only_if_there refl

-- a library by RTLD_LAZY alone may have to be read
not_refused : (fault : DlFault) → RefusesAsk (after started) (libn_by 1) fault → ⊥
unfolding after_from loaded initialise
not_refused fault (long is) = true≢false (sym is)
not_refused fault (flags short bad) = true≢false bad
not_refused fault (space number short good bad) = true≢false bad.1
not_refused fault (full short good none) = none

pub may_read : ReadsNoneBy 1 → ⊥
may_read (is_refused fault refuses) = not_refused fault refuses
may_read (is_programs none) = let d : Some (codes "libn.so") ≡ None = none in cc
may_read (only_if_there is) = true≢false (sym is)

pub refusals_are : RefusalsAre
refusals_are = (refl, refl, refl)
