-- A load and its library, one path after another: what was read of the files, and how far the load came.
use Rattle.std.proofs.Common.{◌≡◌, ◌≤◌, ◌+◌, inl, inr, ℕ, true, List, [], ◌∷◌, ◌++◌, length, Option, Some, None, Result, Ok, Err, refl, sym, ap, ◌∙◌, arith, length-append, ◌≢◌, Bool, false, not}
use Rattle.std.specs.List.{AllByRecursion, position_or_len}
use Rattle.std.proofs.ByRecursion.{All-push}
use Rattle.std.proofs.lemmas.List.Folds.{position_or_len_push}
use Rattle.std.proofs.lemmas.List.Sums.{prefix_len-le-length}
use Rattle.std.specs.Set.{distinct_count, is_member}
use Rattle.std.specs.Str.{bytes_eq}
use Rattle.std.proofs.lemmas.Slice.Eq.{bytes_eq-Decides}
use Rattle.ld_base.specs.declared.fault.DlFault.{DlFault}
use Rattle.ld_base.specs.declared.fault.NotAccepted.{NotAccepted}
use Rattle.ld_base.specs.declared.linking.File.{File}
use Rattle.ld_base.specs.declared.linking.Loaded.{Loaded}
use Rattle.library_source.specs.Count.{Rises, RisesBy}
use Rattle.library_source.specs.Files.{AreFiles, Over, file_at}
use Rattle.scope_rule.specs.declared.arrival.Arrival.{Arrival}
use Rattle.scope_rule.specs.Finding.{Reading, here, absent, at_path}
use Rattle.scope_rule.specs.Load.{Load, Walk, Stops, refuses, stops, waits, by_reading, finds, take_found, paths_of}
use Rattle.load_walk.specs.Files.{Verdict, reading_of, reading_until, failing, is_program, load_of, load_over, load_until}
use Rattle.load_walk.specs.Plan.{IsMissed}
use Rattle.load_walk.specs.Staging.{Alone, Source, Stays, Stage, Faulted, TakesFile, Reads}
use Rattle.load_walk.specs.Walking.{walk_of, Agrees, IsToRead, EndsWith, Looks, grown, IsUnread}
use Rattle.load_walk.specs.declared.ask.LoadAsk.{LoadAsk}
use Rattle.load_walk.specs.declared.ask.LoadFault.{LoadFault}
use Rattle.load_walk.specs.declared.walker.Walker.{Walker}
use Rattle.load_walk.proofs.Missing.{AllIn, as_many, strictly, strictly_agrees, all_missed}
use Rattle.load_walk.proofs.Walkers.{starts, found_on, missed_on, misses_on, grows_on, ends_stops, read_ends}
use Rattle.std.specs.Prelude.{MatchOption, IfSome, position}
use Rattle.std.specs.Global.{Vec}
use Rattle.std.specs.Result.{IsErrOf}
use Rattle.std.proofs.lemmas.Bool.{false_from_ne_true}
use Rattle.std.proofs.lemmas.Grind.{common_steps}
use Rattle.library_source.specs.declared.library.ReadError.{ReadError}
use Rattle.library_source.specs.declared.library.ReadError.TheVariants.{Missing}
use Rattle.ld_base.specs.declared.fault.DlFault.TheVariants as dl
use Rattle.load_walk.specs.declared.ask.LoadFault.TheVariants as faults
use Rattle.load_walk.specs.declared.walker.Next.TheVariants as next

-- ---- readings that agree but for one path

-- two texts that differ, as the test says it
differ : (p q : List ℕ) → bytes_eq p q ≡ false → p ≢ q
differ p q h e = absurd (let t : bytes_eq p q ≡ true = (bytes_eq-Decides p q).1 e in cc)

differs : (p q : List ℕ) → p ≢ q → bytes_eq p q ≡ false
differs p q h = false_from_ne_true (bytes_eq p q) (λ e. h ((bytes_eq-Decides p q).0 e))

-- two readings that agree but for one path
abbrev pub AgreeBut : List ℕ → (List ℕ → Reading) → (List ℕ → Reading) → Type 0
AgreeBut p one other = (q : List ℕ) → q ≢ p → other q ≡ one q

-- what holds of a list's elements and one more
position_none : {X : Type 0} (p : X → Bool) (x : X) (xs : List X) → position p (x ∷ xs) ≡ None → (p x ≡ false) × (position p xs ≡ None)
position_none p x xs e = (grind (arith, common_steps), grind (arith, common_steps))

position_push : {X : Type 0} (p : X → Bool) (xs : List X) (x : X) → position p (xs ++ x ∷ []) ≡ None → (position p xs ≡ None) × (p x ≡ false)
position_push p xs x e =
    let long : position_or_len p xs ≤ length xs = prefix_len-le-length (λ y. not (p y)) xs in
    let more = position_or_len_push p xs x in
    (grind (arith, common_steps, length-append xs (x ∷ []), more), grind (arith, common_steps, length-append xs (x ∷ []), more))

-- no new object has the path, so what was read of them stands
objects_stand : (p : List ℕ) (one other : List ℕ → Reading) → AgreeBut p one other → (arrivals : List Arrival) → at_path arrivals p ≡ None
    → AllByRecursion (λ o. one o.path ≡ here o.object o.table) arrivals → AllByRecursion (λ o. other o.path ≡ here o.object o.table) arrivals
objects_stand p one other agree [] h k = tt
objects_stand p one other agree (o ∷ rest) h k =
    let none = position_none (λ (x : Arrival). bytes_eq x.path p) o rest h in
    (agree o.path (differ o.path p none.0) ∙ k.0, objects_stand p one other agree rest none.1 k.1)

-- the path wasn't missed, so what was missed stands
missed_stand : (p : List ℕ) (one other : List ℕ → Reading) → AgreeBut p one other → (missed : List (List ℕ)) → is_member bytes_eq missed p ≡ false
    → AllByRecursion (λ path. one path ≡ absent) missed → AllByRecursion (λ path. other path ≡ absent) missed
missed_stand p one other agree [] h k = tt
missed_stand p one other agree (m ∷ rest) h k =
    let here_it_is_not : bytes_eq p m ≡ false = grind (arith, h) in
    (agree m (λ e. differ p m here_it_is_not (sym e)) ∙ k.0, missed_stand p one other agree rest (grind (arith, h)) k.1)

-- what agreed still agrees
agrees_still : (p : List ℕ) (one other : List ℕ → Reading) (w : Walker) → AgreeBut p one other → IsUnread w p → Agrees one w → Agrees other w
agrees_still p one other w agree unread agrees = record {
  objects = objects_stand p one other agree w.arrivals unread.unknown agrees.objects;
  missed = missed_stand p one other agree w.missed unread.unmissed agrees.missed;
}

-- ---- files

-- where the files are told, they have this at a path
abbrev pub TellsAt : Option (List File) → List ℕ → Option (List ℕ) → Type 0
TellsAt told p want = MatchOption told (Unit {0}) (λ all. file_at all p ≡ want)

-- some files agree with what was read so far, and have this at a path that wasn't read; where none are told, they have nothing else
record ReadsAt (verdict : Verdict) (ask : LoadAsk) (told : Option (List File)) (w : Walker) (p : List ℕ) (want : Option (List ℕ)) (files : List File) : Type 0 where
  pub at : file_at files p ≡ want
  pub agrees : Agrees (reading_of verdict files ask) w
  pub others : told ≡ None → (q : List ℕ) → (q ≡ p → want ≡ None) → at_path w.arrivals q ≡ None → file_at files q ≡ None

reads_at : (verdict : Verdict) (ask : LoadAsk) (w : Walker) (p : List ℕ) (want : Option (List ℕ)) (told : Option (List File)) → TellsAt told p want → ((reading : List ℕ → Reading) → Agrees reading w → IsUnread w p)
    → (over : Over told (λ files. Agrees (reading_of verdict files ask) w)) → Alone told w over.files → Over told (ReadsAt verdict ask told w p want)
unfolding reading_of
reads_at verdict ask w p want (Some all) tells unread over alone = record {
  files = over.files;
  are = over.are;
  holds = record { at = ap (λ (fs : List File). file_at fs p) over.are ∙ tells; agrees = over.holds; others = λ none. absurd cc };
}
reads_at verdict ask w p None None tells unread over alone = record {
  files = over.files;
  are = tt;
  holds = record { at = alone refl p (unread (reading_of verdict over.files ask) over.holds).unknown; agrees = over.holds; others = λ none q may new. alone refl q new };
}
reads_at verdict ask w p (Some bytes) None tells unread over alone =
    let own : bytes_eq p p ≡ true = (bytes_eq-Decides p p).1 refl in
    let to : List File = record { path = p; bytes = bytes } ∷ over.files in
    let same : (q : List ℕ) → q ≢ p → file_at to q ≡ file_at over.files q = λ q ne. rw (differs p q (λ d. ne (sym d))) refl in
    let one : List ℕ → Reading = reading_of verdict over.files ask in
    record {
      files = to;
      are = tt;
      holds = record {
        at = rw own refl;
        agrees = agrees_still p one (reading_of verdict to ask) w (λ q ne. rw (same q ne) refl) (unread one over.holds) over.holds;
        others = λ none q may new. same q (λ e. absurd (let d : Some bytes ≡ None = may e in cc)) ∙ alone refl q new;
      };
    }

-- what a read tells of the files
pub tells_absent : (told : Option (List File)) (p q : List ℕ) (r : Result (Vec ℕ) ReadError) → q ≡ p → IfSome told (λ all. IsErrOf r Missing → file_at all q ≡ None) → IsErrOf r Missing → TellsAt told p None
tells_absent None p q r same h e = tt
tells_absent (Some all) p q r same h e = rw (← same) (h e)

pub tells_found : (told : Option (List File)) (p q items : List ℕ) (bytes : Vec ℕ) → q ≡ p → items ≡ bytes.items → IfSome told (λ all. file_at all q ≡ Some bytes.items) → TellsAt told p (Some items)
tells_found None p q items bytes same e h = tt
tells_found (Some all) p q items bytes same e h = rw (← same) (h ∙ ap Some (sym e))

-- ---- counts and states

stays_then : (first mid now : Source) → Stays first mid → Stays mid now → Stays first now
stays_then first mid now a b = record { files = b.files ∙ a.files; faults = omega (arith, a.faults, b.faults); misses = omega (arith, a.misses, b.misses) }

rises_wider : (n m a b c d : ℕ) → n ≤ m → a ≤ b → c ≤ d → RisesBy m b c → RisesBy n a d
rises_wider n m a b c d fewer before after (inl le) = inl (omega arith)
rises_wider n m a b c d fewer before after (inr end) = inr (omega arith)

rises_more : (n a b c : ℕ) → RisesBy n a b → b ≤ c → Rises b c → RisesBy (n + 1) a c
rises_more n a b c (inl le) stay (inl lt) = inl (omega arith)
rises_more n a b c (inl le) stay (inr end) = inr end
rises_more n a b c (inr end) stay rises = inr (omega arith)

files_for : (told : Option (List File)) → (files : List File) × AreFiles told files
files_for None = ([], tt)
files_for (Some all) = (all, refl)

-- what a name that stops a load for a missing library is
abbrev pub NameLaw : Type 0
NameLaw = (load : Load) (w : Walk) (name other : List ℕ) → take_found load w name (finds load (length w.found) w.arrivals name) ≡ Err (refuses (dl.MissingLibrary other)) →
    (other ≡ name) × AllByRecursion (λ path. load.reading path ≡ absent) (paths_of load (length w.found) name)

-- a load at its start
pub begins : (verdict : Verdict) (ask : LoadAsk) (there : List Loaded) (first : Source) → Stage verdict ask there first first (record { names = ask.name ∷ []; found = []; arrivals = []; missed = [] })
unfolding files_for
begins verdict ask there first = let f = files_for first.files in record {
  walker = starts ask there;
  stays = record { files = refl; faults = omega arith; misses = omega arith };
  count = inl (omega arith);
  over = record { files = f.0; are = f.1; holds = record { objects = tt; missed = tt } };
  alone = λ none path new. rw none refl;
}

-- ---- one name, or one path, further

module _ (verdict : Verdict) (ask : LoadAsk) (there : List Loaded) (first mid : Source) (w : Walker) (stage : Stage verdict ask there first mid w) where
  pub stage_found : (serial : ℕ) → Looks ask there w (Ok (next.Found serial)) → Stage verdict ask there first mid (record w { found = w.found ++ serial ∷ [] })
  stage_found serial looks = record {
    walker = found_on ask there w serial stage.walker looks;
    stays = stage.stays;
    count = stage.count;
    over = record { files = stage.over.files; are = stage.over.are; holds = record { objects = stage.over.holds.objects; missed = stage.over.holds.missed } };
    alone = stage.alone;
  }

  -- the files with what was read at the path
  reads : (p : List ℕ) (want : Option (List ℕ)) → TellsAt mid.files p want → IsToRead ask there w p → Over first.files (ReadsAt verdict ask first.files w p want)
  reads p want tells to_read = reads_at verdict ask w p want first.files (rw stage.stays.files at tells) to_read.unread stage.over stage.alone

  pub stage_missed : (now : Source) (p : List ℕ) → Stays mid now → Rises mid.misses now.misses → TellsAt mid.files p None → IsToRead ask there w p → Stage verdict ask there first now (missed_on w p)
  unfolding reading_of
  stage_missed now p stays rises tells to_read =
      let more = reads p None tells to_read in
      record {
        walker = misses_on ask there w p stage.walker;
        stays = stays_then first mid now stage.stays stays;
        count = rw (length-append w.missed (p ∷ [])) (rises_more (length w.missed) first.misses mid.misses now.misses stage.count stays.misses rises);
        over = record {
          files = more.files;
          are = more.are;
          holds = record { objects = more.holds.agrees.objects; missed = All-push (λ q. reading_of verdict more.files ask q ≡ absent) w.missed p more.holds.agrees.missed (rw more.holds.at refl) };
        };
        alone = λ none path new. more.holds.others none path (λ e. refl) new;
      }

  pub stage_grown : (now : Source) (o : Arrival) (bytes : List ℕ) → Stays mid now → TellsAt mid.files o.path (Some bytes) → IsToRead ask there w o.path → verdict bytes (is_program ask o.path) ≡ Ok (o.object, o.table) → Stage verdict ask there first now (grown ask w o)
  unfolding reading_of
  stage_grown now o bytes stays tells to_read is =
      let more = reads o.path (Some bytes) tells to_read in
      record {
        walker = grows_on ask there w o stage.walker to_read;
        stays = stays_then first mid now stage.stays stays;
        count = rises_wider (length w.missed) (length w.missed) first.misses first.misses mid.misses now.misses (omega arith) (omega arith) stays.misses stage.count;
        over = record {
          files = more.files;
          are = more.are;
          holds = record { objects = All-push (λ x. reading_of verdict more.files ask x.path ≡ here x.object x.table) w.arrivals o more.holds.agrees.objects (rw (more.holds.at, is) refl); missed = more.holds.agrees.missed };
        };
        alone = λ none path new.
            let apart = position_push (λ (x : Arrival). bytes_eq x.path path) w.arrivals o new in
            more.holds.others none path (λ e. absurd (differ o.path path apart.1 (sym e))) apart.0;
      }

  -- ---- what ends the load

  -- what is read at the path ends the load, and no library is missing
  faulted_at : (now : Source) (p : List ℕ) (fault : DlFault) → Stays mid now → IsToRead ask there w p
      → Over first.files (λ files. Agrees (reading_until verdict files ask fault) w × (by_reading p (reading_until verdict files ask fault p) ≡ stops (refuses fault)))
      → ((name : List ℕ) → fault ≡ dl.MissingLibrary name → ⊥) → ((path : List ℕ) → fault ≡ dl.ReadFault path → Rises first.faults now.faults)
      → Faulted verdict ask there first now (faults.Refused fault)
  faulted_at now p fault stays to_read over not_missing rises = record {
    stays = stays_then first mid now stage.stays stays;
    is = (
      record {
        files = over.files;
        are = over.are;
        holds = record {
          stops = inl (read_ends ask there w p (reading_until verdict over.files ask fault) (refuses fault) stage.walker to_read over.holds.0 over.holds.1);
          missed = λ name e. absurd (not_missing name e);
        };
      },
      rises,
    );
  }

  pub faulted_failed : (now : Source) (p : List ℕ) → Stays mid now → Rises mid.faults now.faults → IsToRead ask there w p → Faulted verdict ask there first now (faults.Refused (dl.ReadFault p))
  faulted_failed now p stays rises to_read =
      let one : List ℕ → Reading = reading_of verdict stage.over.files ask in
      let own : bytes_eq p p ≡ true = (bytes_eq-Decides p p).1 refl in
      let agrees : Agrees (failing p one) w = agrees_still p one (failing p one) w (λ q ne. rw (differs q p ne) refl) (to_read.unread one stage.over.holds) stage.over.holds in
      faulted_at now p (dl.ReadFault p) stays to_read (record { files = stage.over.files; are = stage.over.are; holds = (agrees, rw own refl) })
      (λ name e. absurd cc) (λ path e. rises_wider 1 1 first.faults mid.faults now.faults now.faults (omega arith) stage.stays.faults (omega arith) rises)

  faulted_broken : (now : Source) (p bytes : List ℕ) (broken : NotAccepted) → Stays mid now → TellsAt mid.files p (Some bytes) → IsToRead ask there w p → verdict bytes (is_program ask p) ≡ Err broken → Faulted verdict ask there first now (faults.Refused (dl.NotAccepted p broken))
  unfolding reading_of
  faulted_broken now p bytes broken stays tells to_read is =
      let more = reads p (Some bytes) tells to_read in
      faulted_at now p (dl.NotAccepted p broken) stays to_read (record { files = more.files; are = more.are; holds = (more.holds.agrees, rw (more.holds.at, is) refl) })
      (λ name e. absurd cc) (λ path e. absurd cc)

  -- what became of the bytes that were read
  pub bytes_taken : (now : Source) (p bytes : List ℕ) (new : Walker) (r : Result (Unit {0}) LoadFault) → Stays mid now → TellsAt mid.files p (Some bytes) → IsToRead ask there w p → TakesFile verdict ask w p bytes new r → Reads verdict ask there first now new r
  bytes_taken now p bytes new (Ok done) stays tells to_read (o, path, is, same) = rw same (stage_grown now o bytes stays (rw path tells) (rw path to_read) (rw path is))
  bytes_taken now p bytes new (Err (faults.Refused fault)) stays tells to_read (broken, same, is) = rw same (faulted_broken now p bytes broken stays tells to_read is)
  bytes_taken now p bytes new (Err (faults.Wait shown)) stays tells to_read no_way = absurd no_way
  bytes_taken now p bytes new (Err faults.Memory) stays tells to_read t = record { stays = stays_then first mid now stage.stays stays; is = tt }

  -- ---- what the next name ends the load for

  abbrev over_files : List ℕ → Reading
  over_files path = reading_of verdict stage.over.files ask path

  -- the fault isn't that of a failed read, so that the load stops for it over the files themselves
  stops_now : (fault : DlFault) → EndsWith (load_of ask there over_files) (walk_of w) (faults.Refused fault) → Stops (load_until verdict fault ask there stage.over.files) (refuses fault)
  stops_now (dl.ReadFault path) ends = absurd ends
  stops_now fault ends = ends_stops (load_of ask there over_files) (walk_of w) (refuses fault) ends

  -- each path that a missing name may have was missed
  missed_now : NameLaw → (name : List ℕ) → Looks ask there w (Err (faults.Refused (dl.MissingLibrary name))) → IsMissed (load_over verdict ask there stage.over.files) name first.misses mid.misses
  missed_now law name looks =
      let e = looks over_files stage.over.holds in
      let own = law (load_of ask there over_files) (walk_of w) e.name name e.ends in
      let strict : List ℕ → Reading = strictly over_files w in
      let f = looks strict (strictly_agrees over_files w stage.over.holds) in
      let none = law (load_of ask there strict) (walk_of w) f.name name f.ends in
      let paths : List (List ℕ) = paths_of (load_of ask there over_files) (length w.found) name in
      let all : AllIn paths w.missed = all_missed over_files w paths (rw none.0 none.1) in
      record {
        is = record {
          before = walk_of w;
          comes = record { steps = length w.found; walked = e.walked; next = rw own.0 e.next };
          absent = rw own.0 own.1;
        };
        each = rises_wider (distinct_count bytes_eq paths) (length w.missed) first.misses first.misses mid.misses mid.misses (as_many paths w.missed all) (omega arith) (omega arith) stage.count;
      }

  pub faulted_now : NameLaw → (fault : LoadFault) → Looks ask there w (Err fault) → Faulted verdict ask there first mid fault
  faulted_now law (faults.Refused fault) looks =
      let ends = looks over_files stage.over.holds in
      record {
        stays = stage.stays;
        is = (
          record {
            files = stage.over.files;
            are = stage.over.are;
            holds = record { stops = inl (stops_now fault ends); missed = λ name e. missed_now law name (rw e at looks) };
          },
          λ path e. absurd (rw e at ends),
        );
      }
  faulted_now law (faults.Wait shown) looks = record {
    stays = stage.stays;
    is = record { files = stage.over.files; are = stage.over.are; holds = ends_stops (load_of ask there over_files) (walk_of w) (waits shown) (looks over_files stage.over.holds) };
  }
  faulted_now law faults.Memory looks = record { stays = stage.stays; is = tt }
