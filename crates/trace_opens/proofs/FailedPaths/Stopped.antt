-- An opening that a failed read stops, and one that an empty file stops.
use Rattle.std.proofs.Common.{◌≡◌, ◌≢◌, ◌⊎◌, inl, inr, ⊎_elim, ℕ, Bool, true, false, List, [], Option, Some, None, refl, sym, ap, subst, ◌∙◌}
use Rattle.std.specs.Prelude.{if◌then◌else◌, ◌==◌, ◌&&◌, Result, Ok, Err}
use Rattle.std.specs.Str.{bytes_eq}
use Rattle.std.specs.Option.{option_map}
use Rattle.std.proofs.lemmas.Bool.{cases_Bool}
use Rattle.std.proofs.lemmas.Slice.Eq.{bytes_eq-Decides}
use Rattle.ld_base.specs.declared.fault.DlFault.{DlFault}
use Rattle.ld_base.specs.declared.fault.DlFault.TheVariants as faults
use Rattle.ld_base.specs.declared.fault.NotAccepted.{NotAccepted}
use Rattle.ld_base.specs.declared.linking.File.{File}
use Rattle.ld_base.specs.declared.linking.Loaded.{Loaded}
use Rattle.ld_base.specs.declared.linking.State.{State as ObjectState}
use Rattle.ld_base.specs.declared.object.Object.{Object}
use Rattle.ld_base.specs.declared.parts.HashTable.{HashTable}
use Rattle.ld_base.specs.declared.linking.State.TheVariants as states
use Rattle.library_source.specs.Files.{file_at}
use Rattle.history_event.specs.declared.event.OpenAsk.{OpenAsk}
use Rattle.history_state.specs.Flags.{is_noload}
use Rattle.history_state.specs.Objects.{is_startup}
use Rattle.history_state.specs.Opening.{IsStopped}
use Rattle.history_state.specs.Setting.{AreReadings, MayHold, MayRead, ReadingsBy, Setting, load_of}
use Rattle.history_state.specs.State.{State}
use Rattle.scope_rule.specs.Finding.{Reading, here, unaccepted, absent, failed}
use Rattle.scope_rule.specs.Load.{Load, Walk, Stop, Found, Brings, Stops, refuses, waits, present, stops, by_reading, use_in, use_of}
use Rattle.scope_rule.specs.Loads.{ReadsNothing, alone, named_there}
use Rattle.trace_opens.specs.FailedPaths.Emptied.{RefusesEmpty, emptied, with_empty}
use Rattle.trace_opens.proofs.FailedPaths.Changed.{changed_at, changed_there, stopped_so, stops_so, unchanged_there}

-- laws of loads
pub record LoadLaws : Type 0 where
  pub one_stop : (load : Load) (first second : Stop) → Stops load first → Stops load second → first ≡ second
  pub not_both : (load : Load) (w : Walk) (why : Stop) → Brings load w → Stops load why → ⊥
  pub brings : (load : Load) (o : Loaded) (root : ℕ) → ReadsNothing load → named_there load ≡ Some o → use_of load.hart o ≡ present root → Brings load (alone root)
  pub ends : (load : Load) (o : Loaded) (why : Stop) → ReadsNothing load → named_there load ≡ Some o → use_of load.hart o ≡ stops why → Stops load why
  pub missing : (load : Load) → ReadsNothing load → named_there load ≡ None → Stops load (refuses (faults.MissingLibrary load.name))

differ : (p q : List ℕ) → bytes_eq p q ≡ false → p ≢ q
differ p q other same = absurd (let t : bytes_eq p q ≡ true = (bytes_eq-Decides p q).1 same in cc)

flipped : (p q : List ℕ) → bytes_eq q p ≡ true → bytes_eq p q ≡ true
flipped p q same = (bytes_eq-Decides p q).1 (sym ((bytes_eq-Decides q p).0 same))

unflipped : (p q : List ℕ) → bytes_eq q p ≡ false → bytes_eq p q ≡ false
unflipped p q other = ⊎_elim
    (λ (same : bytes_eq p q ≡ true). absurd (differ q p other (sym ((bytes_eq-Decides p q).0 same))))
    (λ (f : bytes_eq p q ≡ false). f)
    (cases_Bool (bytes_eq p q))

-- ---- faults that no object that is there gives, nor a missing name

pub record IsOfPath (fault : DlFault) : Type 0 where
  pub unused : (path : List ℕ) → faults.ClosingHere path ≡ fault → ⊥
  pub unmissed : (name : List ℕ) → faults.MissingLibrary name ≡ fault → ⊥

failed_is : (p : List ℕ) → IsOfPath (faults.ReadFault p)
failed_is p = record { unused = λ path is. absurd cc; unmissed = λ name is. absurd cc }

broken_is : (p : List ℕ) (broken : NotAccepted) → IsOfPath (faults.NotAccepted p broken)
broken_is p broken = record { unused = λ path is. absurd cc; unmissed = λ name is. absurd cc }

-- what an object that is there may be used for
abbrev UseIs : DlFault → Found → Type 0
UseIs fault f = ((root : ℕ) × (f ≡ present root)) ⊎ ((why : Stop) × (f ≡ stops why) × (why ≡ refuses fault → ⊥))

use_if : (fault : DlFault) (b : Bool) (f g : Found) → UseIs fault f → UseIs fault g → UseIs fault (if b then f else g)
use_if fault true f g x y = x
use_if fault false f g x y = y

use_is : (fault : DlFault) → IsOfPath fault → (hart : ℕ) (o : Loaded) (state : ObjectState) → UseIs fault (use_in hart o state)
use_is fault of hart o (states.Initialising h) = use_if fault (h == hart) _ _ (inl (o.serial, refl)) (inr (waits _, refl, λ q. absurd cc))
use_is fault of hart o states.Ready = inl (o.serial, refl)
use_is fault of hart o (states.Dying h) =
    use_if fault (h == hart) _ _ (inr (refuses (faults.ClosingHere o.path), refl, λ q. of.unused o.path (let d : refuses (faults.ClosingHere o.path) ≡ refuses fault = q in cc)))
    (inr (waits _, refl, λ q. absurd cc))

not_used : (fault : DlFault) → IsOfPath fault → (hart : ℕ) (o : Loaded) → use_of hart o ≡ stops (refuses fault) → ⊥
not_used fault of hart o is = ⊎_elim
    (λ (x : (root : ℕ) × (use_of hart o ≡ present root)). absurd (let d : present x.0 ≡ stops (refuses fault) = sym x.1 ∙ is in cc))
    (λ (x : (why : Stop) × (use_of hart o ≡ stops why) × (why ≡ refuses fault → ⊥)). x.2 (let d : stops x.0 ≡ stops (refuses fault) = sym x.1 ∙ is in cc))
    (use_is fault of hart o o.state)

-- where nothing is read, no load stops for such a fault
never : LoadLaws → (fault : DlFault) → IsOfPath fault → (load : Load) → ReadsNothing load → Stops load (refuses fault) → ⊥
never laws fault of load nothing s = at (named_there load) refl
  where
    at : (found : Option Loaded) → named_there load ≡ found → ⊥
    at None is = of.unmissed load.name (let d : refuses (faults.MissingLibrary load.name) ≡ refuses fault = laws.one_stop load _ _ (laws.missing load nothing is) s in cc)
    at (Some o) is = ⊎_elim
        (λ (x : (root : ℕ) × (use_of load.hart o ≡ present root)). laws.not_both load (alone x.0) (refuses fault) (laws.brings load o x.0 nothing is x.1) s)
        (λ (x : (why : Stop) × (use_of load.hart o ≡ stops why) × (why ≡ refuses fault → ⊥)). x.2 (laws.one_stop load x.0 (refuses fault) (laws.ends load o x.0 nothing is x.1) s))
        (use_is fault of load.hart o o.state)

-- ---- what other paths read as

elsewhere_failed : (p path : List ℕ) (r : Reading) → bytes_eq path p ≡ false → by_reading path r ≡ stops (refuses (faults.ReadFault p)) → ⊥
elsewhere_failed p path (here o table) other is = absurd cc
elsewhere_failed p path (unaccepted broken) other is = absurd cc
elsewhere_failed p path absent other is = absurd cc
elsewhere_failed p path failed other is = differ path p other (let d : stops (refuses (faults.ReadFault path)) ≡ stops (refuses (faults.ReadFault p)) = is in let e : faults.ReadFault path ≡ faults.ReadFault p = cc in cc)

elsewhere_broken : (p path : List ℕ) (broken : NotAccepted) (r : Reading) → bytes_eq path p ≡ false → by_reading path r ≡ stops (refuses (faults.NotAccepted p broken)) → ⊥
elsewhere_broken p path broken (here o table) other is = absurd cc
elsewhere_broken p path broken (unaccepted b) other is = differ path p other (let d : stops (refuses (faults.NotAccepted path b)) ≡ stops (refuses (faults.NotAccepted p broken)) = is in let e : faults.NotAccepted path b ≡ faults.NotAccepted p broken = cc in cc)
elsewhere_broken p path broken absent other is = absurd cc
elsewhere_broken p path broken failed other is = absurd cc

-- ---- what may be read

module _ (p : List ℕ) where
  same_file : (files : List File) (q : List ℕ) → bytes_eq q p ≡ false → file_at (emptied p files) q ≡ file_at files q
  same_file files q other = rw (unflipped p q other) refl

  held : (files : Option (List File)) (q : List ℕ) (bytes : Option (List ℕ)) → bytes_eq q p ≡ false → MayHold files q bytes → MayHold (option_map (emptied p) files) q bytes
  held None q bytes other h = tt
  held (Some files) q bytes other h = same_file files q other ∙ h

  unheld : (files : Option (List File)) (q : List ℕ) (bytes : Option (List ℕ)) → bytes_eq q p ≡ false → MayHold (option_map (emptied p) files) q bytes → MayHold files q bytes
  unheld None q bytes other h = tt
  unheld (Some files) q bytes other h = sym (same_file files q other) ∙ h

  empty_held : (files : Option (List File)) (q : List ℕ) → bytes_eq q p ≡ true → MayHold (option_map (emptied p) files) q (Some [])
  empty_held None q same = tt
  empty_held (Some files) q same = rw (flipped p q same) refl

module _ (w : Setting) (p : List ℕ) (broken : NotAccepted) where
  abbrev after : Setting
  after = with_empty w p

  moved : (program : Bool) (q : List ℕ) (x : Reading) → bytes_eq q p ≡ false → MayRead w program q x → MayRead after program q x
  moved program q (here o table) other m = (m.0, held p w.files q (Some m.0) other m.1, m.2)
  moved program q (unaccepted b) other m = (m.0, held p w.files q (Some m.0) other m.1, m.2)
  moved program q absent other m = held p w.files q None other m
  moved program q failed other m = tt

  unmoved : (program : Bool) (q : List ℕ) (x : Reading) → bytes_eq q p ≡ false → MayRead after program q x → MayRead w program q x
  unmoved program q (here o table) other m = (m.0, unheld p w.files q (Some m.0) other m.1, m.2)
  unmoved program q (unaccepted b) other m = (m.0, unheld p w.files q (Some m.0) other m.1, m.2)
  unmoved program q absent other m = unheld p w.files q None other m
  unmoved program q failed other m = tt

  module _ (s : State) (name : List ℕ) (r : List ℕ → Reading) where
    reads : RefusesEmpty w broken → AreReadings w s name r → AreReadings after s name (changed_at p (unaccepted broken) r)
    reads refuses_it all q = at (bytes_eq q p) refl
      where
        at : (b : Bool) → bytes_eq q p ≡ b → MayRead after (is_startup s && bytes_eq name q) q (if b then unaccepted broken else r q)
        at true is = ([], empty_held p w.files q is, refuses_it (is_startup s && bytes_eq name q))
        at false is = moved (is_startup s && bytes_eq name q) q (r q) is (all q)

    unreads : AreReadings after s name r → AreReadings w s name (changed_at p failed r)
    unreads all q = at (bytes_eq q p) refl
      where
        at : (b : Bool) → bytes_eq q p ≡ b → MayRead w (is_startup s && bytes_eq name q) q (if b then failed else r q)
        at true is = tt
        at false is = unmoved (is_startup s && bytes_eq name q) q (r q) is (all q)

-- ---- openings

pub fails_as_emptied : LoadLaws → (w : Setting) (s : State) (hart : ℕ) (ask : OpenAsk) (name : List ℕ) (id : ℕ) (p : List ℕ) (broken : NotAccepted) → RefusesEmpty w broken
    → IsStopped w s hart ask name id (faults.ReadFault p) → IsStopped (with_empty w p) s hart ask name id (faults.NotAccepted p broken)
fails_as_emptied laws w s hart ask name id p broken refuses_it x = record {
  named = x.named;
  reading = changed_at p (unaccepted broken) x.reading;
  read = by (is_noload ask.flags) x.read;
  loads = λ n. x.loads (record { noload = n.noload; none = n.none });
  stops = stops_so (load_of w s hart id name x.reading) (changed_at p (unaccepted broken) x.reading) (faults.ReadFault p) (faults.NotAccepted p broken)
      (changed_there x.reading p (unaccepted broken) (faults.ReadFault p) (faults.NotAccepted p broken) (λ path other is. elsewhere_failed p path (x.reading path) other is) refl) (λ o is. not_used (faults.ReadFault p) (failed_is p) hart o is) (λ n is. absurd cc) x.stops;
}
  where
    by : (b : Bool) → ReadingsBy b w s name x.reading → ReadingsBy b (with_empty w p) s name (changed_at p (unaccepted broken) x.reading)
    by true none = absurd (never laws (faults.ReadFault p) (failed_is p) (load_of w s hart id name x.reading) none x.stops)
    by false all = reads w p broken s name x.reading refuses_it all

pub emptied_fails : LoadLaws → (w : Setting) (s : State) (hart : ℕ) (ask : OpenAsk) (name : List ℕ) (id : ℕ) (p : List ℕ) (broken : NotAccepted) → IsStopped (with_empty w p) s hart ask name id (faults.NotAccepted p broken) → IsStopped w s hart ask name id (faults.ReadFault p)
emptied_fails laws w s hart ask name id p broken x = record {
  named = x.named;
  reading = changed_at p failed x.reading;
  read = by (is_noload ask.flags) x.read;
  loads = λ n. x.loads (record { noload = n.noload; none = n.none });
  stops = stops_so (load_of (with_empty w p) s hart id name x.reading) (changed_at p failed x.reading) (faults.NotAccepted p broken) (faults.ReadFault p)
      (changed_there x.reading p failed (faults.NotAccepted p broken) (faults.ReadFault p) (λ path other is. elsewhere_broken p path broken (x.reading path) other is) refl) (λ o is. not_used (faults.NotAccepted p broken) (broken_is p broken) hart o is) (λ n is. absurd cc) x.stops;
}
  where
    by : (b : Bool) → ReadingsBy b (with_empty w p) s name x.reading → ReadingsBy b w s name (changed_at p failed x.reading)
    by true none = absurd (never laws (faults.NotAccepted p broken) (broken_is p broken) (load_of (with_empty w p) s hart id name x.reading) none x.stops)
    by false all = unreads w p broken s name x.reading all

-- ---- a read that fails elsewhere

-- what the empty file may read as: it is refused, or its read fails
abbrev ReadsEmpty : NotAccepted → Reading → Type 0
ReadsEmpty broken x = (x ≡ unaccepted broken) ⊎ (x ≡ failed)

not_both : (r : Result (Object × HashTable) NotAccepted) (broken : NotAccepted) (object : Object × HashTable) → r ≡ Err broken → r ≡ Ok object → ⊥
not_both r broken object none some = absurd (let d : Err broken ≡ Ok object = sym none ∙ some in cc)

module _ (w : Setting) (files : List File) (told : w.files ≡ Some files) (p : List ℕ) (broken : NotAccepted) (refuses_it : RefusesEmpty w broken) where
  empty_at : (bytes : Option (List ℕ)) → MayHold (option_map (emptied p) w.files) p bytes → Some [] ≡ bytes
  empty_at bytes held =
      let at : MayHold (Some (emptied p files)) p bytes = subst (λ (fs : Option (List File)). MayHold (option_map (emptied p) fs) p bytes) told held in
      sym (empty_held p (Some files) p ((bytes_eq-Decides p p).1 refl)) ∙ at

  reads_empty : (program : Bool) (x : Reading) → MayRead (with_empty w p) program p x → ReadsEmpty broken x
  reads_empty program (here o table) m =
      let bytes : [] ≡ m.0 = (let d : Some [] ≡ Some m.0 = empty_at (Some m.0) m.1 in cc) in
      absurd (not_both (w.machine.verdict [] program) broken (o, table) (refuses_it program) (ap (λ (b : List ℕ). w.machine.verdict b program) bytes ∙ m.2))
  reads_empty program (unaccepted other) m =
      let bytes : [] ≡ m.0 = (let d : Some [] ≡ Some m.0 = empty_at (Some m.0) m.1 in cc) in
      let d : Err broken ≡ Err other = sym (refuses_it program) ∙ ap (λ (b : List ℕ). w.machine.verdict b program) bytes ∙ m.2 in
      let same : broken ≡ other = cc in
      inl (ap unaccepted (sym same))
  reads_empty program absent m = let d : Some [] ≡ None = empty_at None m in absurd cc
  reads_empty program failed m = inr refl

  module _ (s : State) (hart : ℕ) (ask : OpenAsk) (name : List ℕ) (id : ℕ) (q : List ℕ) (r : List ℕ → Reading) where
    abbrev load_by : (List ℕ → Reading) → Load
    load_by reading = load_of w s hart id name reading

    -- what the path reads as stops the load for another fault
    stays : (t : DlFault) → by_reading p (r p) ≡ stops (refuses t) → (faults.ReadFault q ≡ t → ⊥) → Stops (load_by r) (refuses (faults.ReadFault q)) → Stops (load_by (changed_at p failed r)) (refuses (faults.ReadFault q))
    stays t at_it other = stopped_so (load_by (changed_at p failed r)) r (faults.ReadFault p) t
        (unchanged_there r p failed (faults.ReadFault p) t (λ path elsewhere is. elsewhere_failed p path (r path) elsewhere is) at_it)
        (λ o is. not_used (faults.ReadFault p) (failed_is p) hart o is) (λ n is. absurd cc) (faults.ReadFault q) other

    -- the read of that path itself fails
    fails_there : q ≡ p → Stops (load_by r) (refuses (faults.ReadFault q)) → Stops (load_by (changed_at p failed r)) (refuses (faults.ReadFault q))
    fails_there same x =
        subst (λ (path : List ℕ). Stops (load_by (changed_at p failed r)) (refuses (faults.ReadFault path))) (sym same)
        (stops_so (load_by r) (changed_at p failed r) (faults.ReadFault p) (faults.ReadFault p)
        (changed_there r p failed (faults.ReadFault p) (faults.ReadFault p) (λ path elsewhere is. elsewhere_failed p path (r path) elsewhere is) refl)
        (λ o is. not_used (faults.ReadFault p) (failed_is p) hart o is) (λ n is. absurd cc) (subst (λ (path : List ℕ). Stops (load_by r) (refuses (faults.ReadFault path))) same x))

    fails_on : ReadsEmpty broken (r p) → Stops (load_by r) (refuses (faults.ReadFault q)) → Stops (load_by (changed_at p failed r)) (refuses (faults.ReadFault q))
    fails_on (inl is) x = stays (faults.NotAccepted p broken) (ap (by_reading p) is) (λ same. absurd cc) x
    fails_on (inr is) x = ⊎_elim
        (λ (same : bytes_eq q p ≡ true). fails_there ((bytes_eq-Decides q p).0 same) x)
        (λ (other : bytes_eq q p ≡ false). stays (faults.ReadFault p) (ap (by_reading p) is) (λ same. differ q p other (let d : faults.ReadFault q ≡ faults.ReadFault p = same in cc)) x)
        (cases_Bool (bytes_eq q p))

  fails_told : LoadLaws → (s : State) (hart : ℕ) (ask : OpenAsk) (name : List ℕ) (id : ℕ) (q : List ℕ) → IsStopped (with_empty w p) s hart ask name id (faults.ReadFault q) → IsStopped w s hart ask name id (faults.ReadFault q)
  fails_told laws s hart ask name id q x = by (is_noload ask.flags) refl x.read
    where
      by : (b : Bool) → is_noload ask.flags ≡ b → ReadingsBy b (with_empty w p) s name x.reading → IsStopped w s hart ask name id (faults.ReadFault q)
      by true is none = absurd (never laws (faults.ReadFault q) (failed_is q) (load_of w s hart id name x.reading) none x.stops)
      by false is all = record {
        named = x.named;
        reading = changed_at p failed x.reading;
        read = subst (λ (b : Bool). ReadingsBy b w s name (changed_at p failed x.reading)) (sym is) (unreads w p broken s name x.reading all);
        loads = λ n. x.loads (record { noload = n.noload; none = n.none });
        stops = fails_on s hart ask name id q x.reading (reads_empty (is_startup s && bytes_eq name p) (x.reading p) (all p)) x.stops;
      }

-- a read that fails over the empty file may fail without it
pub fails_anyway : LoadLaws → (w : Setting) (s : State) (hart : ℕ) (ask : OpenAsk) (name : List ℕ) (id : ℕ) (p : List ℕ) (broken : NotAccepted) (q : List ℕ) → RefusesEmpty w broken
    → IsStopped (with_empty w p) s hart ask name id (faults.ReadFault q) → IsStopped w s hart ask name id (faults.ReadFault q)
fails_anyway laws w s hart ask name id p broken q refuses_it x = by w.files refl
  where
    by : (told : Option (List File)) → w.files ≡ told → IsStopped w s hart ask name id (faults.ReadFault q)
    by (Some files) is = fails_told w files is p broken refuses_it laws s hart ask name id q x
    by None is =
        let same : with_empty w p ≡ w = ap (λ (fs : Option (List File)). record w { files = fs }) (ap (option_map (emptied p)) is ∙ sym is) in
        subst (λ (v : Setting). IsStopped v s hart ask name id (faults.ReadFault q)) same x
