-- One member more, of which nothing but its file's object differs.
use Rattle.std.proofs.Common.{◌≡◌, ◌==◌, ℕ, ◌+◌, ◌<◌, ◌≤◌, inl, inr, arith, List, [], ◌∷◌, ◌++◌, length, map, take, get_or, sym, ap, ◌∙◌}
use Rattle.std.proofs.lemmas.List.{map-append, take_more}
use Rattle.std.proofs.lemmas.List.Elements.{All-push, All-weaker}
use Rattle.std.specs.List.{All}
use Rattle.std.specs.Prelude.{Option, Some, None}
use Rattle.ld_base.specs.declared.linking.File.{File}
use Rattle.ld_base.specs.declared.object.Object.{Object}
use Rattle.library_source.specs.Count.{Rises}
use Rattle.trace_view.specs.declared.members.Member.{Member}
use Rattle.ldso_view.specs.Spelled.{IsFound, IsFoundFrom, path_in, unknown}

pub one_more : (all members : List Member) (m d : Member) (i : ℕ) → i < length members → map unknown all ≡ map unknown (take i members)
    → unknown m ≡ unknown (get_or members i d) → map unknown (all ++ m ∷ []) ≡ map unknown (take (i + 1) members)
one_more all members m d i lt before same =
    map-append unknown all (m ∷ []) ∙ ap (λ (xs : List Member). xs ++ unknown m ∷ []) before
    ∙ ap (λ (x : Member). map unknown (take i members) ++ x ∷ []) same
    ∙ sym (map-append unknown (take i members) (get_or members i d ∷ []))
    ∙ ap (map unknown) (sym (take_more members i d lt))

-- ---- faults that a library counts

rises_more : (low before after high : ℕ) → low ≤ before → after ≤ high → Rises before after → Rises low high
rises_more low before after high down up (inl more) = inl (omega arith)
rises_more low before after high down up (inr end) = inr (omega arith)

-- what was found between two counts was found between counts further apart
pub found_between : (files : Option (List File)) (low before after high : ℕ) (folder : List ℕ) (m : Member) → low ≤ before → after ≤ high
    → IsFoundFrom files before after folder m → IsFoundFrom files low high folder m
found_between files low before after high folder m down up = by m.object
  where
    by : (o : Option Object) → IsFound files before after (path_in folder m.path) (m.serial == 1) o
        → IsFound files low high (path_in folder m.path) (m.serial == 1) o
    by None (inl rises) = inl (rises_more low before after high down up rises)
    by None (inr nothing) = inr nothing
    by (Some object) is = is

pub found_more : (files : Option (List File)) (low before after : ℕ) (folder : List ℕ) (all : List Member) (m : Member) → low ≤ before → before ≤ after
    → All (IsFoundFrom files low before folder) all → IsFoundFrom files before after folder m → All (IsFoundFrom files low after folder) (all ++ m ∷ [])
found_more files low before after folder all m down up these this =
    All-push (IsFoundFrom files low after folder) all m
    (All-weaker (IsFoundFrom files low before folder) (IsFoundFrom files low after folder)
    (λ x is. found_between files low low before after folder x (omega arith) up is) all these)
    (found_between files low before after after folder m down (omega arith) this)
