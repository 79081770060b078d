-- What a whole load comes to.
use Rattle.std.proofs.Common.{◌≡◌, ◌≤◌, ◌+◌, inr, ℕ, Bool, List, [], ◌∷◌, ◌++◌, drop, take, length, refl, arith, add-zero, append_assoc, append-nil, length-append, Option, Some, None, Result, Ok, Err, sym, ap, subst, ◌∙◌}
use Rattle.std.specs.List.{AllByRecursion}
use Rattle.std.specs.Prelude.{IfOk, IfErr}
use Rattle.std.proofs.lemmas.List.{drop-drop}
use Rattle.std.specs.Result.{IsErrOf}
use Rattle.std.proofs.lemmas.Result.{IfErr-at_err}
use Rattle.ld_base.specs.declared.fault.DlFault.{DlFault}
use Rattle.ld_base.specs.declared.fault.DlFault.TheVariants as dl
use Rattle.ld_base.specs.declared.fault.Shown.{Shown}
use Rattle.ld_base.specs.declared.linking.Loaded.{Loaded}
use Rattle.library_source.specs.Count.{Rises}
use Rattle.library_source.specs.Files.{Over}
use Rattle.scope_rule.specs.declared.arrival.Arrival.{Arrival}
use Rattle.scope_rule.specs.Finding.{Reading, here}
use Rattle.scope_rule.specs.Load.{record_of, records, shares}
use Rattle.scope_rule.specs.Needed.{first_lack, missing_version}
use Rattle.scope_rule.specs.Breadth.{breadth}
use Rattle.scope_rule.specs.Seen.{Seen}
use Rattle.scope_rule.specs.declared.namespace.Namespace.{Namespace}
use Rattle.load_walk.specs.Files.{Verdict, reading_of}
use Rattle.load_walk.specs.Plan.{IsPlan, IsRefused, HasToWait, is_deep}
use Rattle.load_walk.specs.Records.{AddsRecord, Completes, Gathers, Incomplete, added_by, preload_count}
use Rattle.load_walk.specs.Staging.{Source, Stage, FaultIs}
use Rattle.load_walk.specs.Walking.{walk_of}
use Rattle.load_walk.specs.declared.ask.LoadAsk.{LoadAsk}
use Rattle.load_walk.specs.declared.ask.LoadFault.{LoadFault}
use Rattle.load_walk.specs.declared.ask.LoadFault.TheVariants as faults
use Rattle.load_walk.specs.declared.ask.LoadPlan.{LoadPlan}
use Rattle.load_walk.specs.declared.walker.Walker.{Walker}
use Rattle.load_walk.proofs.Walkers.{brings_all}

-- ---- the records of new objects

-- the records so far, and those of any further objects, are all of them together
pub record IsSoFar (ask : LoadAsk) (found : List ℕ) (objects : List Arrival) (added : List Loaded) (start more : ℕ) : Type 0 where
  pub all : (rest : List Arrival) → added ++ records ask.hart (is_deep ask) (ask.next + length added) rest (shares more (drop start found) rest) ≡ added_by ask found (objects ++ rest)

pub none_so_far : (ask : LoadAsk) (found : List ℕ) → IsSoFar ask found [] [] 1 (preload_count ask)
none_so_far ask found = record { all = λ rest. rw add-zero refl }

pub one_more : (ask : LoadAsk) (found : List ℕ) (objects : List Arrival) (old new : List Loaded) (start more end : ℕ) (o : Arrival) → IsSoFar ask found objects old start more → AddsRecord ask found start more old o new end → IsSoFar ask found (objects ++ o ∷ []) new end 0
one_more ask found objects old new start more end o so adds = record {
  all = λ rest.
      let own : ℕ = more + length o.object.needed in
      let first : Loaded = record_of ask.hart (is_deep ask) (ask.next + length old) o (take own (drop start found)) in
      let next : ask.next + length (old ++ first ∷ []) ≡ (ask.next + length old) + 1 = omega (arith, length-append old (first ∷ [])) in
      let behind : drop (start + own) found ≡ drop own (drop start found) = sym (drop-drop own start found) in
      rw (adds.is, adds.place, next, behind) (append_assoc old (first ∷ []) _ ∙ so.all (o ∷ rest) ∙ ap (added_by ask found) (sym (append_assoc objects (o ∷ []) rest)));
}

pub all_of : (ask : LoadAsk) (found : List ℕ) (objects arrivals : List Arrival) (added : List Loaded) (start more : ℕ) → IsSoFar ask found objects added start more → objects ≡ arrivals → added ≡ added_by ask found arrivals
all_of ask found objects arrivals added start more so is = sym (append-nil added) ∙ so.all [] ∙ ap (added_by ask found) (append-nil objects ∙ is)

-- what was read of them
pub records_read : (reading : List ℕ → Reading) (hart : ℕ) (deep : Bool) (serial more : ℕ) (serials : List ℕ) (arrivals : List Arrival) → AllByRecursion (λ o. reading o.path ≡ here o.object o.table) arrivals
    → AllByRecursion (λ o. reading o.path ≡ here o.object o.table) (records hart deep serial arrivals (shares more serials arrivals))
records_read reading hart deep serial more serials [] h = tt
records_read reading hart deep serial more serials (o ∷ rest) h = (h.0, records_read reading hart deep (serial + 1) 0 (drop (more + length o.object.needed) serials) rest h.1)

-- ---- a version that isn't there

-- the fault of a version is one of a version
abbrev IsVersion : DlFault → Type 0
IsVersion (dl.MissingVersion path file name) = Unit {0}
IsVersion fault = ⊥

version_is : (objects added : List Loaded) (fault : DlFault) → missing_version objects added ≡ Some fault → IsVersion fault
version_is objects [] fault e = absurd cc
version_is objects (o ∷ rest) fault e =
    (elim (first_lack objects o) as (λ l. elim l as (λ x. Option DlFault) [ Some v ↦ Some (dl.MissingVersion o.path v.file v.name) | None ↦ missing_version objects rest ] ≡ Some fault → IsVersion fault) [
      | Some v ↦ λ is. let same : dl.MissingVersion o.path v.file v.name ≡ fault = cc in subst IsVersion same tt
      | None ↦ version_is objects rest fault
    ]) e

-- ---- what the load answers

-- what a fault of the load, or of its versions, gives for each answer
pub record Answers (verdict : Verdict) (ask : LoadAsk) (ns : Namespace) (first now : Source) (r : Result LoadPlan LoadFault) : Type 0 where
  pub plan : IfOk r (λ plan. Over first.files (IsPlan verdict ask ns plan))
  pub refused : (fault : DlFault) → IsErrOf r (faults.Refused fault) → Over first.files (IsRefused verdict ask ns.objects first.misses now.misses fault)
  pub waits : (shown : Shown) → IsErrOf r (faults.Wait shown) → Over first.files (HasToWait verdict ask ns.objects shown)
  pub read_fault : (path : List ℕ) → IsErrOf r (faults.Refused (dl.ReadFault path)) → Rises first.faults now.faults

module _ (verdict : Verdict) (ask : LoadAsk) (ns : Namespace) (first now : Source) where
  pub faulted_answers : (fault : LoadFault) → FaultIs verdict ask ns.objects first now fault → Answers verdict ask ns first now (Err fault)
  faulted_answers fault is = record {
    plan = tt;
    refused = λ f e. (IfErr-at_err (FaultIs verdict ask ns.objects first now) e is).0;
    waits = λ shown e. IfErr-at_err (FaultIs verdict ask ns.objects first now) e is;
    read_fault = λ path e. (IfErr-at_err (FaultIs verdict ask ns.objects first now) e is).1 path refl;
  }

  -- a load that was gone through
  module _ (w : Walker) (root : ℕ) (added : List Loaded) (stage : Stage verdict ask ns.objects first now w) (all : length w.names ≤ length w.found) (gathers : Gathers ask w root added) where
    abbrev reading : List ℕ → Reading
    reading path = reading_of verdict stage.over.files ask path

    plan_is : (plan : LoadPlan) → Completes ns root added plan → Over first.files (IsPlan verdict ask ns plan)
    plan_is plan completes = record {
      files = stage.over.files;
      are = stage.over.are;
      holds = record {
        walk = walk_of w;
        brings = brings_all ask ns.objects w reading stage.walker all stage.over.holds;
        root = rw completes.same_root gathers.is_root;
        added = completes.same_added ∙ gathers.are;
        read = rw (completes.same_added, gathers.are) (records_read reading ask.hart (is_deep ask) ask.next (preload_count ask) (drop 1 w.found) w.arrivals stage.over.holds.objects);
        breadth = rw (completes.same_added, completes.same_root) completes.breadth;
        versions = rw completes.same_added completes.versions;
      };
    }

    incomplete_is : (fault : LoadFault) → Incomplete ns added fault → FaultIs verdict ask ns.objects first now fault
    incomplete_is (faults.Refused fault) lacks =
        let version : IsVersion fault = version_is (ns.objects ++ added) added fault lacks in (
          record {
            files = stage.over.files;
            are = stage.over.are;
            holds = record {
              stops = inr (record {
                walk = walk_of w;
                brings = brings_all ask ns.objects w reading stage.walker all stage.over.holds;
                lacks = rw (← gathers.are) lacks;
              });
              missed = λ name e. absurd (subst IsVersion e version);
            };
          },
          λ path e. absurd (subst IsVersion e version),
        )
    incomplete_is (faults.Wait shown) no_way = absurd no_way
    incomplete_is faults.Memory t = tt

    pub complete_answers : (r : Result LoadPlan LoadFault) → IfOk r (λ plan. Completes ns root added plan) → IfErr r (λ fault. Incomplete ns added fault) → Answers verdict ask ns first now r
    complete_answers (Ok plan) completes incomplete = record {
      plan = plan_is plan completes;
      refused = λ f e. absurd cc;
      waits = λ shown e. absurd cc;
      read_fault = λ path e. absurd cc;
    }
    complete_answers (Err fault) completes incomplete = faulted_answers fault (incomplete_is fault incomplete)

-- ---- what is seen of a namespace with new objects

pub seen_versions : (s t : Seen) (new added : List Loaded) (f : Option DlFault) → s ≡ t → new ≡ added → f ≡ missing_version s.objects new → f ≡ missing_version t.objects added
seen_versions s t new added f same is e = e ∙ ap (λ (x : Seen). missing_version x.objects new) same ∙ ap (missing_version t.objects) is

pub seen_breadth : (s t : Seen) (root : ℕ) (order : List ℕ) → s ≡ t → order ≡ breadth s root → order ≡ breadth t root
seen_breadth s t root order same e = e ∙ ap (λ (x : Seen). breadth x root) same
