-- One hart's name after another.
use Rattle.std.proofs.Common.{◌≡◌, ℕ, suc, ◌+◌, ◌<◌, true, false, List, [], ◌∷◌, ◌++◌, length, take, drop, get_or, None, refl, sym, ap, subst, ◌∙◌, arith}
use Rattle.std.proofs.lemmas.List.{append-nil, append_assoc, length-take, take-append-drop, take_more}
use Rattle.std.proofs.Math.Seq.{drop-cons}
use Rattle.ld_base.specs.declared.fault.DlFault.{DlFault}
use Rattle.ld_base.specs.declared.fault.DlFault.TheVariants.{NotCode}
use Rattle.history_journal.specs.Following.{machine_of}
use Rattle.link_calls.specs.Coming.{LooksUpIn}
use Rattle.history_event.specs.declared.event.Event.{Event}
use Rattle.history_event.specs.declared.event.Event.TheVariants.{Sym}
use Rattle.history_event.specs.declared.event.SymAnswer.TheVariants as symbols
use Rattle.history_state.specs.After.{after}
use Rattle.history_state.specs.Lemmas.History.{after_push}
use Rattle.history_state.specs.Setting.{Setting}
use Rattle.history_state.specs.State.{State}
use Rattle.history_calls.specs.declared.link_served.served.Served.{Served}
use Rattle.history_calls.specs.declared.link_served.served.Served.TheVariants as served
use Rattle.history_calls.specs.Answer.{returns, loading, closing, refused, again}
use Rattle.history_calls.specs.Call.{dlsym_in, looks_up}
use Rattle.history_calls.specs.Served.{InstallsNothing}
use Rattle.history_calls.specs.Startup.{FindHarts, FindsStart, LacksHart, found_at, hart_ask, is_executable, program_entry}
use Rattle.link_state.specs.Table.{LinkTable}
use Rattle.link_startup.specs.StartParts.Harts.{FoundAll, IsFoundAt, IsLackingAt, IsLackingFrom, LacksFrom, NameComesTo, StartsAt}
use Rattle.link_startup.specs.StartParts.Loaded.{HasLoaded}
use Rattle.link_startup.specs.declared.start_parts.harts.Unstarted.{Unstarted}
use Rattle.link_startup.specs.declared.start_parts.harts.Unstarted.TheVariants as unstarted
use Rattle.link_startup.proofs.StartParts.Found.{AreStatic, found_makes_none, found_so, gives_look_up, refused_so}

-- some run on a machine of so many harts: which look-ups may be answered how is the same in each
some_run : ℕ → Setting
some_run harts = record { machine = machine_of harts; folders = []; preload = []; files = None }

-- ---- one name

found_one : (old new : LinkTable) (hart : ℕ) (name bytes : List ℕ) (value : ℕ) → AreStatic (after old.events) → bytes ≡ name
    → LooksUpIn old hart (dlsym_in 0 0 bytes) (served.Done value) new → IsFoundAt old.events hart name value new.events
unfolding some_run
found_one old new hart name bytes value static is looked =
    let so = found_so (some_run old.harts) old.events hart (dlsym_in 0 0 bytes) looked.given (returns value) (hart_ask name) value static
    (looked.served (some_run old.harts) refl) (ap (λ (n : List ℕ). looks_up (hart_ask n)) is) refl in
    record {
      serial = so.0;
      index = so.1;
      are = looked.are ∙ ap (λ (es : List Event). old.events ++ es) so.2;
      may = λ w. so.3;
    }

refused_one : (old new : LinkTable) (hart : ℕ) (program name bytes : List ℕ) (fault : DlFault) → bytes ≡ name
    → LooksUpIn old hart (dlsym_in 0 0 bytes) (served.Refused fault) new → LacksFrom old.events hart program (name ∷ []) fault new.events
unfolding some_run
refused_one old new hart program name bytes fault is looked =
    let so = refused_so (some_run old.harts) old.events hart (dlsym_in 0 0 bytes) looked.given (refused fault) (hart_ask name) fault
    (looked.served (some_run old.harts) refl) (ap (λ (n : List ℕ). looks_up (hart_ask n)) is) refl in
    record {
      given = Sym hart (hart_ask name) (symbols.Refused fault) ∷ [];
      are = looked.are ∙ ap (λ (es : List Event). old.events ++ es) so.0;
      lacks = λ w. LacksHart.is_refused old.events hart name [] fault so.1;
    }

-- a look-up comes to nothing else
pub looked_so : (old new : LinkTable) (hart : ℕ) (name bytes : List ℕ) (came : Served) → AreStatic (after old.events) → bytes ≡ name
    → LooksUpIn old hart (dlsym_in 0 0 bytes) came new → NameComesTo old.events hart name came new.events
unfolding some_run
looked_so old new hart name bytes (served.Done value) static is looked = found_one old new hart name bytes value static is looked
looked_so old new hart name bytes (served.Opened root installs functions) static is looked =
    let opened = looked.served (some_run old.harts) refl in
    gives_look_up (some_run old.harts) old.events hart (dlsym_in 0 0 bytes) looked.given (loading root opened.added) (hart_ask bytes) opened.gives refl
looked_so old new hart name bytes (served.Closing dying functions) static is looked =
    let closed = looked.served (some_run old.harts) refl in
    gives_look_up (some_run old.harts) old.events hart (dlsym_in 0 0 bytes) looked.given (closing dying.list) (hart_ask bytes) closed.gives refl
looked_so old new hart name bytes (served.Refused fault) static is looked = λ program. refused_one old new hart program name bytes fault is looked
looked_so old new hart name bytes (served.Again for) static is looked =
    gives_look_up (some_run old.harts) old.events hart (dlsym_in 0 0 bytes) looked.given (again for) (hart_ask bytes) (looked.served (some_run old.harts) refl) refl
looked_so old new hart name bytes served.Memory static is looked = tt

-- and makes no block, since each is static
pub makes_none : (old new : LinkTable) (hart : ℕ) (bytes : List ℕ) (came : Served) → AreStatic (after old.events)
    → LooksUpIn old hart (dlsym_in 0 0 bytes) came new → InstallsNothing old.made → InstallsNothing new.made
unfolding some_run
makes_none old new hart bytes (served.Done value) static looked none =
    let so = found_so (some_run old.harts) old.events hart (dlsym_in 0 0 bytes) looked.given (returns value) (hart_ask bytes) value static
    (looked.served (some_run old.harts) refl) refl refl in
    found_makes_none (after new.events) hart (hart_ask bytes) (symbols.Found so.0 so.1 value) looked.given new.made so.2 looked.made_by
makes_none old new hart bytes (served.Opened root installs functions) static looked none = subst InstallsNothing (sym looked.made_by) none
makes_none old new hart bytes (served.Closing dying functions) static looked none = subst InstallsNothing (sym looked.made_by) none
makes_none old new hart bytes (served.Refused fault) static looked none = subst InstallsNothing (sym looked.made_by) none
makes_none old new hart bytes (served.Again for) static looked none = subst InstallsNothing (sym looked.made_by) none
makes_none old new hart bytes served.Memory static looked none = subst InstallsNothing (sym looked.made_by) none

module _ (past : List Event) (hart : ℕ) (name : List ℕ) (value : ℕ) (events : List Event) (found : IsFoundAt past hart name value events) where
  pub same_then : after events ≡ after past
  same_then = ap after found.are ∙ after_push past (found_at hart name found.serial found.index value)

  pub loaded_then : HasLoaded past → HasLoaded events
  loaded_then loaded = record {
    hart = loaded.hart;
    ask = loaded.ask;
    root = loaded.root;
    added = loaded.added;
    ranges = loaded.ranges;
    found = loaded.found ++ found_at hart name found.serial found.index value ∷ [];
    are = found.are ∙ ap (λ (es : List Event). es ++ found_at hart name found.serial found.index value ∷ []) loaded.are;
    same = same_then ∙ loaded.same;
  }

  pub starts_there : is_executable (after events) value ≡ true → StartsAt past hart name value events
  starts_there code = record {
    serial = found.serial;
    index = found.index;
    are = found.are;
    finds = λ w. record { may = found.may w; code = ap (λ (s : State). is_executable s value) (sym same_then) ∙ code };
  }

  pub is_not_code_there : (program : List ℕ) (fault : DlFault) → is_executable (after events) value ≡ false → fault ≡ NotCode program name
      → IsLackingAt past hart program name (unstarted.Refused fault) events
  is_not_code_there program fault none is =
      let elsewhere : is_executable (after past) value ≡ false = ap (λ (s : State). is_executable s value) (sym same_then) ∙ none in
      record {
        given = found_at hart name found.serial found.index value ∷ [];
        are = found.are;
        lacks = λ w. subst (LacksHart w program past hart (name ∷ []) (found_at hart name found.serial found.index value ∷ [])) (sym is)
            (LacksHart.is_not_code past hart name [] found.serial found.index value (found.may w) elsewhere);
      }

-- ---- a name behind others

-- a further name behind those that were found
found_more : (w : Setting) (past : List Event) (h : ℕ) (names : List (List ℕ)) (found : List Event) (addresses : List ℕ) (name : List ℕ) (serial index value : ℕ)
    → FindHarts w past h names found addresses → FindsStart w (past ++ found) (h + length names) name serial index value
    → FindHarts w past h (names ++ name ∷ []) (found ++ found_at (h + length names) name serial index value ∷ []) (addresses ++ value ∷ [])
found_more w past h names found addresses name serial index value (FindHarts.no_more p i) starts =
    let none : h + 0 ≡ h = omega arith in
    subst (λ n. FindHarts w past h (name ∷ []) (found_at n name serial index value ∷ []) (value ∷ [])) (sym none)
    (FindHarts.one_more past h name [] serial index value [] []
    (subst (λ n. FindsStart w past n name serial index value) none (subst (λ (p : List Event). FindsStart w p (h + 0) name serial index value) (append-nil past) starts))
    (FindHarts.no_more (past ++ found_at h name serial index value ∷ []) (h + 1)))
found_more w past h names found addresses name serial index value (FindHarts.one_more p i first rest s k v more others begins finds) starts =
    let one : h + suc (length rest) ≡ (h + 1) + length rest = omega arith in
    FindHarts.one_more past h first (rest ++ name ∷ []) s k v _ _ begins
    (subst (λ n. FindHarts w (past ++ found_at h first s k v ∷ []) (h + 1) (rest ++ name ∷ []) (more ++ found_at n name serial index value ∷ []) (others ++ value ∷ [])) (sym one)
    (found_more w (past ++ found_at h first s k v ∷ []) (h + 1) rest more others name serial index value finds
    (subst (λ n. FindsStart w ((past ++ found_at h first s k v ∷ []) ++ more) n name serial index value) one
    (subst (λ (p : List Event). FindsStart w p (h + suc (length rest)) name serial index value) (sym (append_assoc past (found_at h first s k v ∷ []) more)) starts))))

-- what lacks a hart at one name does so before others
lacks_before : (w : Setting) (program : List ℕ) (past : List Event) (h : ℕ) (name : List ℕ) (given : List Event) (fault : DlFault) (others : List (List ℕ))
    → LacksHart w program past h (name ∷ []) given fault → LacksHart w program past h (name ∷ others) given fault
lacks_before w program past h name given fault others (LacksHart.is_refused p i n ns f may) = LacksHart.is_refused past h name others fault may
lacks_before w program past h name given fault others (LacksHart.is_not_code p i n ns serial index value may none) =
    LacksHart.is_not_code past h name others serial index value may none
lacks_before w program past h name given fault others (LacksHart.one_more p i n ns serial index value more f starts lacks) = elim lacks [ ]

-- and behind names that were found
lacks_behind : (w : Setting) (program : List ℕ) (past : List Event) (h : ℕ) (names : List (List ℕ)) (found : List Event) (addresses : List ℕ) (name : List ℕ)
    (given : List Event) (fault : DlFault) (others : List (List ℕ))
    → FindHarts w past h names found addresses → LacksHart w program (past ++ found) (h + length names) (name ∷ []) given fault
    → LacksHart w program past h (names ++ name ∷ others) (found ++ given) fault
lacks_behind w program past h names found addresses name given fault others (FindHarts.no_more p i) lacks =
    let none : h + 0 ≡ h = omega arith in
    lacks_before w program past h name given fault others
    (subst (λ n. LacksHart w program past n (name ∷ []) given fault) none
    (subst (λ (p : List Event). LacksHart w program p (h + 0) (name ∷ []) given fault) (append-nil past) lacks))
lacks_behind w program past h names found addresses name given fault others (FindHarts.one_more p i first rest s k v more values begins finds) lacks =
    let one : h + suc (length rest) ≡ (h + 1) + length rest = omega arith in
    LacksHart.one_more past h first (rest ++ name ∷ others) s k v (more ++ given) fault begins
    (lacks_behind w program (past ++ found_at h first s k v ∷ []) (h + 1) rest more values name given fault others finds
    (subst (λ n. LacksHart w program ((past ++ found_at h first s k v ∷ []) ++ more) n (name ∷ []) given fault) one
    (subst (λ (p : List Event). LacksHart w program p (h + suc (length rest)) (name ∷ []) given fault) (sym (append_assoc past (found_at h first s k v ∷ []) more)) lacks)))

-- ---- all names

pub none_yet : (past : List Event) (starts : List ℕ) → starts ≡ program_entry (after past) ∷ [] → FoundAll past [] starts past
none_yet past starts e = record {
  addresses = [];
  first = e;
  further = record { found = []; are = sym (append-nil past); finds = λ w. FindHarts.no_more past 1 };
  same = refl;
}

module _ (past : List Event) (names : List (List ℕ)) (starts : List ℕ) (events : List Event) (all : FoundAll past names starts events) where
  pub found_next : (hart : ℕ) (name : List ℕ) (value : ℕ) (more : List Event) → hart ≡ 1 + length names → StartsAt events hart name value more
      → FoundAll past (names ++ name ∷ []) (starts ++ value ∷ []) more
  found_next hart name value more number next =
      let e : Event = found_at (1 + length names) name next.serial next.index value in
      let event : found_at hart name next.serial next.index value ≡ e = ap (λ (n : ℕ). found_at n name next.serial next.index value) number in
      let are : more ≡ events ++ e ∷ [] = next.are ∙ ap (λ (x : Event). events ++ x ∷ []) event in
      record {
        addresses = all.addresses ++ value ∷ [];
        first = ap (λ (vs : List ℕ). vs ++ value ∷ []) all.first;
        further = record {
          found = all.further.found ++ e ∷ [];
          are = are ∙ ap (λ (es : List Event). es ++ e ∷ []) all.further.are ∙ append_assoc past all.further.found (e ∷ []);
          finds = λ w. found_more w past 1 names all.further.found all.addresses name next.serial next.index value (all.further.finds w)
              (subst (λ (es : List Event). FindsStart w es (1 + length names) name next.serial next.index value) all.further.are
              (subst (λ (n : ℕ). FindsStart w events n name next.serial next.index value) number (next.finds w)));
        };
        same = ap after are ∙ after_push events e ∙ all.same;
      }

  lacks_next : (hart : ℕ) (program name : List ℕ) (fault : DlFault) (others : List (List ℕ)) (more : List Event) → hart ≡ 1 + length names
      → LacksFrom events hart program (name ∷ []) fault more → LacksFrom past 1 program (names ++ name ∷ others) fault more
  lacks_next hart program name fault others more number lacks = record {
    given = all.further.found ++ lacks.given;
    are = lacks.are ∙ ap (λ (es : List Event). es ++ lacks.given) all.further.are ∙ append_assoc past all.further.found lacks.given;
    lacks = λ w. lacks_behind w program past 1 names all.further.found all.addresses name lacks.given fault others (all.further.finds w)
        (subst (λ (es : List Event). LacksHart w program es (1 + length names) (name ∷ []) lacks.given fault) all.further.are
        (subst (λ (n : ℕ). LacksHart w program events n (name ∷ []) lacks.given fault) number (lacks.lacks w)));
  }

  pub lacks_so : (hart : ℕ) (program name : List ℕ) (why : Unstarted) (others : List (List ℕ)) (more : List Event) → hart ≡ 1 + length names
      → IsLackingAt events hart program name why more → IsLackingFrom past 1 program (names ++ name ∷ others) why more
  lacks_so hart program name (unstarted.Refused fault) others more number lacks = lacks_next hart program name fault others more number lacks
  lacks_so hart program name unstarted.Memory others more number lacks = tt

-- the names up to one of them, and those behind it
module _ (names items : List (List ℕ)) (index : ℕ) (name : List ℕ) (are : items ≡ names) (within : index < length items) (is : name ≡ get_or items index name) where
  there : get_or names index name ≡ name
  there = ap (λ (ns : List (List ℕ)). get_or ns index name) (sym are) ∙ sym is

  before : index < length names
  before = subst (λ (ns : List (List ℕ)). index < length ns) are within

  pub number_of : index + 1 ≡ 1 + length (take index names)
  number_of = omega (arith, length-take index names, before)

  pub names_next : take index names ++ name ∷ [] ≡ take (index + 1) names
  names_next = ap (λ (n : List ℕ). take index names ++ n ∷ []) (sym there) ∙ sym (take_more names index name before)

  pub names_all : take index names ++ name ∷ drop (suc index) names ≡ names
  names_all =
      ap (λ (n : List ℕ). take index names ++ n ∷ drop (suc index) names) (sym there)
      ∙ ap (λ (ns : List (List ℕ)). take index names ++ ns) (sym (drop-cons names index name before)) ∙ take-append-drop index names
