-- Whether a run starts, and how, is settled by the files.
use Rattle.std.proofs.Common.{◌≡◌, ℕ, ◌+◌, Bool, true, false, List, [], ◌∷◌, ◌++◌, map, Some, refl, sym, ap, subst, ◌∙◌}
use Rattle.std.proofs.lemmas.Bool.{true≢false}
use Rattle.ld_base.specs.declared.fault.DlFault.{DlFault}
use Rattle.ld_base.specs.declared.linking.File.{File}
use Rattle.ld_base.specs.declared.linking.Loaded.{Loaded}
use Rattle.history_event.specs.declared.event.Event.{Event}
use Rattle.history_event.specs.declared.event.Event.TheVariants.{Open, Sym}
use Rattle.history_event.specs.declared.event.OpenAnswer.TheVariants as openings
use Rattle.history_event.specs.declared.event.Range.{Range}
use Rattle.history_event.specs.declared.event.SymAnswer.TheVariants as symbols
use Rattle.history_calls.specs.declared.link_served.startup.Setup.{Setup}
use Rattle.history_calls.specs.declared.link_served.startup.Started.{Started}
use Rattle.history_state.specs.After.{after}
use Rattle.history_state.specs.Allowed.{Allowed}
use Rattle.history_state.specs.Lookup.{FindsSymbol, RefusesSymbol}
use Rattle.history_state.specs.Objects.{serial_of}
use Rattle.history_state.specs.Setting.{Setting}
use Rattle.history_state.specs.State.{State}
use Rattle.history_calls.specs.Answer.{Answer, returns, loading, refused}
use Rattle.history_calls.specs.Call.{opens}
use Rattle.history_calls.specs.Functions.{AreStartConstructors}
use Rattle.history_calls.specs.Gives.{Gives}
use Rattle.history_calls.specs.Gives.EventAnswers.{is_loaded, is_there, is_not_opened as answers_refused}
use Rattle.history_calls.specs.Gives.Gives.{by_event}
use Rattle.history_calls.specs.Laws.{is_chance, is_read_fault}
use Rattle.history_calls.specs.Startup.{FailsToStart, FindHarts, LacksHart, Starts, entries_from, found_at, hart_ask, is_executable, opening, program_ask, program_entry}
use Rattle.history_calls.specs.Startup.FailsToStart.{is_not_opened, lacks_hart}
use Rattle.history_calls.specs.Startup.FindHarts.{no_more, one_more}
use Rattle.history_calls.specs.Startup.LacksHart.{is_refused, is_not_code, one_more as one_later}
use Rattle.history_calls.specs.Lemmas.OneOrder.{one_start}
use Rattle.history_calls.specs.Lemmas.Opened.{OutcomeLaws}
use Rattle.history_calls.specs.Lemmas.Told.{one_opening}
use Rattle.history_calls.specs.Lemmas.Unique.{found_or_refused, same_found, same_refusal}

-- ---- the harts

finds_of : (w : Setting) (past : List Event) (h : ℕ) (name : List ℕ) (serial index value : ℕ) → Allowed w past (found_at h name serial index value)
    → FindsSymbol (after past) h (hart_ask name) serial index value
finds_of w past h name serial index value may = may.1

refuses_of : (w : Setting) (past : List Event) (h : ℕ) (name : List ℕ) (fault : DlFault) → Allowed w past (Sym h (hart_ask name) (symbols.Refused fault))
    → RefusesSymbol (after past) h (hart_ask name) fault
refuses_of w past h name fault may = may.1

-- two look-ups of a name
record Same (h : ℕ) (name : List ℕ) (serial index value other at address : ℕ) : Type 0 where
  event : found_at h name serial index value ≡ found_at h name other at address
  addresses : value ≡ address

same_look : (w : Setting) (past : List Event) (h : ℕ) (name : List ℕ) (serial index value other at address : ℕ) → Allowed w past (found_at h name serial index value)
    → Allowed w past (found_at h name other at address) → Same h name serial index value other at address
same_look w past h name serial index value other at address a b =
    let same = same_found (after past) h (hart_ask name) serial index value other at address (finds_of w past h name serial index value a) (finds_of w past h name other at address b) in
    record {
      event = ap (λ (n : ℕ). found_at h name n index value) same.0 ∙ ap (λ (n : ℕ). found_at h name other n value) same.1 ∙ ap (found_at h name other at) same.2;
      addresses = same.2;
    }

not_refused : (w : Setting) (past : List Event) (h : ℕ) (name : List ℕ) (serial index value : ℕ) (fault : DlFault) → Allowed w past (found_at h name serial index value)
    → Allowed w past (Sym h (hart_ask name) (symbols.Refused fault)) → ⊥
not_refused w past h name serial index value fault a b =
    found_or_refused (after past) h (hart_ask name) serial index value fault (finds_of w past h name serial index value a) (refuses_of w past h name fault b)

code_clash : (s : State) (value address : ℕ) → value ≡ address → is_executable s value ≡ true → is_executable s address ≡ false → ⊥
code_clash s value address same code none = true≢false (sym code ∙ ap (is_executable s) same ∙ none)

same_harts : (w : Setting) (past : List Event) (h : ℕ) (names : List (List ℕ)) (events others : List Event) (addresses more : List ℕ) → FindHarts w past h names events addresses
    → FindHarts w past h names others more → (events ≡ others) × (addresses ≡ more)
same_harts w past h names events others addresses more (no_more _ _) (no_more _ _) = (refl, refl)
same_harts w past h names events others addresses more (one_more _ _ name rest serial index value es vs finds later) (one_more _ _ _ _ other at address os ms also then) =
    let same = same_look w past h name serial index value other at address finds.may also.may in
    let rests = same_harts w (past ++ found_at h name serial index value ∷ []) (h + 1) rest es os vs ms later
    (subst (λ (e : Event). FindHarts w (past ++ e ∷ []) (h + 1) rest os ms) (sym same.event) then) in (
      ap (λ (e : Event). e ∷ es) same.event ∙ ap (λ (all : List Event). found_at h name other at address ∷ all) rests.0,
      ap (λ (v : ℕ). v ∷ vs) same.addresses ∙ ap (λ (all : List ℕ). address ∷ all) rests.1,
    )

harts_or_lack : (w : Setting) (program : List ℕ) (past : List Event) (h : ℕ) (names : List (List ℕ)) (events others : List Event) (addresses : List ℕ) (fault : DlFault)
    → FindHarts w past h names events addresses → LacksHart w program past h names others fault → ⊥
harts_or_lack w program past h names events others addresses fault (no_more _ _) lacks = elim lacks [ ]
harts_or_lack w program past h names events others addresses fault (one_more _ _ name rest serial index value es vs finds later) (is_refused _ _ _ _ _ may) =
    not_refused w past h name serial index value fault finds.may may
harts_or_lack w program past h names events others addresses fault (one_more _ _ name rest serial index value es vs finds later) (is_not_code _ _ _ _ other at address may none) =
    let same = same_look w past h name serial index value other at address finds.may may in
    code_clash (after past) value address same.addresses finds.code none
harts_or_lack w program past h names events others addresses fault (one_more _ _ name rest serial index value es vs finds later) (one_later _ _ _ _ other at address os _ also then) =
    let same = same_look w past h name serial index value other at address finds.may also.may in
    harts_or_lack w program (past ++ found_at h name serial index value ∷ []) (h + 1) rest es os vs fault later
    (subst (λ (e : Event). LacksHart w program (past ++ e ∷ []) (h + 1) rest os fault) (sym same.event) then)

same_lacks : (w : Setting) (program : List ℕ) (past : List Event) (h : ℕ) (names : List (List ℕ)) (events others : List Event) (fault other : DlFault)
    → LacksHart w program past h names events fault → LacksHart w program past h names others other → (fault ≡ other) × (events ≡ others)
same_lacks w program past h names events others fault other (is_refused _ _ name rest _ may) (is_refused _ _ _ _ _ also) =
    let same = same_refusal (after past) h (hart_ask name) fault other (refuses_of w past h name fault may) (refuses_of w past h name other also) in
    (same, ap (λ (x : DlFault). Sym h (hart_ask name) (symbols.Refused x) ∷ []) same)
same_lacks w program past h names events others fault other (is_refused _ _ name rest _ may) (is_not_code _ _ _ _ serial index value also none) =
    absurd (not_refused w past h name serial index value fault also may)
same_lacks w program past h names events others fault other (is_refused _ _ name rest _ may) (one_later _ _ _ _ serial index value es _ finds later) =
    absurd (not_refused w past h name serial index value fault finds.may may)
same_lacks w program past h names events others fault other (is_not_code _ _ name rest serial index value may none) (is_refused _ _ _ _ _ also) =
    absurd (not_refused w past h name serial index value other may also)
same_lacks w program past h names events others fault other (is_not_code _ _ name rest serial index value may none) (is_not_code _ _ _ _ more at address also neither) =
    let same = same_look w past h name serial index value more at address may also in (refl, ap (λ (e : Event). e ∷ []) same.event)
same_lacks w program past h names events others fault other (is_not_code _ _ name rest serial index value may none) (one_later _ _ _ _ more at address es _ finds later) =
    let same = same_look w past h name more at address serial index value finds.may may in
    absurd (code_clash (after past) address value same.addresses finds.code none)
same_lacks w program past h names events others fault other (one_later _ _ name rest serial index value es _ finds later) (is_refused _ _ _ _ _ also) =
    absurd (not_refused w past h name serial index value other finds.may also)
same_lacks w program past h names events others fault other (one_later _ _ name rest serial index value es _ finds later) (is_not_code _ _ _ _ more at address also none) =
    let same = same_look w past h name serial index value more at address finds.may also in
    absurd (code_clash (after past) value address same.addresses finds.code none)
same_lacks w program past h names events others fault other (one_later _ _ name rest serial index value es _ finds later) (one_later _ _ _ _ more at address os _ also then) =
    let same = same_look w past h name serial index value more at address finds.may also.may in
    let rests = same_lacks w program (past ++ found_at h name serial index value ∷ []) (h + 1) rest es os fault other later
    (subst (λ (e : Event). LacksHart w program (past ++ e ∷ []) (h + 1) rest os other) (sym same.event) then) in (
      rests.0,
      ap (λ (e : Event). e ∷ es) same.event ∙ ap (λ (all : List Event). found_at h name more at address ∷ all) rests.1,
    )

-- ---- the program's opening

abbrev open_answer : ℕ → List Loaded → Answer
open_answer root [] = returns root
open_answer root (first ∷ rest) = loading root (first ∷ rest)

pub no_chance : (root : ℕ) (added : List Loaded) → is_chance (open_answer root added) ≡ false
no_chance root [] = refl
no_chance root (first ∷ rest) = refl

opens_program : (w : Setting) (setup : Setup) (root : ℕ) (added : List Loaded) (ranges : List Range) → Allowed w [] (opening setup root added ranges)
    → Gives w [] 0 (opens (program_ask setup)) (opening setup root added ranges ∷ []) (open_answer root added)
opens_program w setup root [] ranges may = by_event _ _ _ (is_there (program_ask setup) 0 root ranges) may
opens_program w setup root (first ∷ rest) ranges may = by_event _ _ _ (is_loaded (program_ask setup) 0 root first rest ranges) may

refuses_program : (w : Setting) (setup : Setup) (fault : DlFault) → Allowed w [] (Open 0 (program_ask setup) (openings.Refused fault))
    → Gives w [] 0 (opens (program_ask setup)) (Open 0 (program_ask setup) (openings.Refused fault) ∷ []) (refused fault)
refuses_program w setup fault may = by_event _ _ _ (answers_refused (program_ask setup) fault) may

answers_apart : (root : ℕ) (added : List Loaded) (fault : DlFault) → open_answer root added ≡ refused fault → ⊥
answers_apart root [] fault e = let d : returns root ≡ refused fault = e in cc
answers_apart root (first ∷ rest) fault e = let d : loading root (first ∷ rest) ≡ refused fault = e in cc

first_is : (e d : Event) → e ∷ [] ≡ d ∷ [] → e ≡ d
first_is e d same = cc

same_program : OutcomeLaws → (w : Setting) (setup : Setup) (files : List File) → w.files ≡ Some files → (root other : ℕ) (added more : List Loaded) (ranges others : List Range)
    → Allowed w [] (opening setup root added ranges) → Allowed w [] (opening setup other more others) → opening setup root added ranges ≡ opening setup other more others
same_program laws w setup files told root other added more ranges others a b = first_is _ _
    (one_opening laws w [] 0 (program_ask setup) files _ _ _ _ told (opens_program w setup root added ranges a) (opens_program w setup other more others b) (no_chance root added) (no_chance other more)).0

not_opened : OutcomeLaws → (w : Setting) (setup : Setup) (files : List File) → w.files ≡ Some files → (root : ℕ) (added : List Loaded) (ranges : List Range) (fault : DlFault)
    → Allowed w [] (opening setup root added ranges) → Allowed w [] (Open 0 (program_ask setup) (openings.Refused fault)) → is_read_fault fault ≡ false → ⊥
not_opened laws w setup files told root added ranges fault a b ample = answers_apart root added fault
    (one_opening laws w [] 0 (program_ask setup) files _ _ _ _ told (opens_program w setup root added ranges a) (refuses_program w setup fault b) (no_chance root added) ample).1

by_chance : (b : Bool) → (b ≡ false → ⊥) → b ≡ true
by_chance true none = refl
by_chance false none = absurd (none refl)

added_is : (setup : Setup) (root other : ℕ) (added more : List Loaded) (ranges others : List Range) → opening setup root added ranges ≡ opening setup other more others → added ≡ more
added_is setup root other added more ranges others e = cc

-- ---- startup

pub starts_or_fails : OutcomeLaws → (w : Setting) (setup : Setup) (files : List File) (root : ℕ) (added : List Loaded) (ranges : List Range) (found failed : List Event)
    (addresses : List ℕ) (fault : DlFault) → w.files ≡ Some files → Allowed w [] (opening setup root added ranges)
    → FindHarts w (opening setup root added ranges ∷ []) 1 setup.harts found addresses → FailsToStart w setup fault failed → is_read_fault fault ≡ true
starts_or_fails laws w setup files root added ranges found failed addresses fault told first finds (is_not_opened _ set may) =
    by_chance (is_read_fault fault) (not_opened laws w setup files told root added ranges fault first may)
starts_or_fails laws w setup files root added ranges found failed addresses fault told first finds (lacks_hart other more others events _ set may lacks) =
    let same = same_program laws w setup files told root other added more ranges others first may in
    absurd (harts_or_lack w setup.program (opening setup other more others ∷ []) 1 setup.harts found events addresses fault
    (subst (λ (e : Event). FindHarts w (e ∷ []) 1 setup.harts found addresses) same finds) lacks)

pub starts_one_way : OutcomeLaws → (w : Setting) (setup : Setup) (files : List File) (journal others : List Event) (started other : Started) → w.files ≡ Some files
    → Starts w setup journal started → Starts w setup others other → (journal ≡ others) × (started.functions ≡ other.functions) × (started.entries ≡ other.entries)
starts_one_way laws w setup files journal others started other told a b =
    let same = same_program laws w setup files told a.root b.root a.added b.added a.ranges b.ranges a.opens b.opens in
    let harts = same_harts w (opening setup b.root b.added b.ranges ∷ []) 1 setup.harts a.found b.found a.addresses b.addresses
    (subst (λ (e : Event). FindHarts w (e ∷ []) 1 setup.harts a.found a.addresses) same a.finds) b.finds in
    let journals : journal ≡ others =
    a.are ∙ ap (λ (e : Event). e ∷ a.found) same ∙ ap (λ (all : List Event). opening setup b.root b.added b.ranges ∷ all) harts.0 ∙ sym b.are in
    let news : map serial_of a.added ≡ map serial_of b.added = ap (map serial_of) (added_is setup a.root b.root a.added b.added a.ranges b.ranges same) in (
      journals,
      one_start (after others) (map serial_of b.added) started.functions other.functions
          (subst (λ (ds : List ℕ). AreStartConstructors (after others) ds started.functions) news
          (subst (λ (all : List Event). AreStartConstructors (after all) (map serial_of a.added) started.functions) journals a.constructed))
          b.constructed,
      a.entries ∙ ap (λ (all : List Event). entries_from (after all) 0 (program_entry (after all) ∷ a.addresses)) journals
          ∙ ap (λ (all : List ℕ). entries_from (after others) 0 (program_entry (after others) ∷ all)) harts.1 ∙ sym b.entries,
    )

refused_is : (fault other : DlFault) → refused fault ≡ refused other → fault ≡ other
refused_is fault other e = cc

pub fails_one_way : OutcomeLaws → (w : Setting) (setup : Setup) (files : List File) (journal others : List Event) (fault other : DlFault) → w.files ≡ Some files
    → FailsToStart w setup fault journal → FailsToStart w setup other others → is_read_fault fault ≡ false → is_read_fault other ≡ false → (fault ≡ other) × (journal ≡ others)
fails_one_way laws w setup files journal others fault other told (is_not_opened _ set may) (is_not_opened _ set' also) ample well =
    let same = one_opening laws w [] 0 (program_ask setup) files _ _ _ _ told (refuses_program w setup fault may) (refuses_program w setup other also) ample well in
    (refused_is fault other same.1, same.0)
fails_one_way laws w setup files journal others fault other told (is_not_opened _ set may) (lacks_hart root added ranges events _ set' also lacks) ample well =
    absurd (not_opened laws w setup files told root added ranges fault also may ample)
fails_one_way laws w setup files journal others fault other told (lacks_hart root added ranges events _ set may lacks) (is_not_opened _ set' also) ample well =
    absurd (not_opened laws w setup files told root added ranges other may also well)
fails_one_way laws w setup files journal others fault other told (lacks_hart root added ranges events _ set may lacks) (lacks_hart root' added' ranges' events' _ set' also lack') ample well =
    let same = same_program laws w setup files told root root' added added' ranges ranges' may also in
    let harts = same_lacks w setup.program (opening setup root' added' ranges' ∷ []) 1 setup.harts events events' fault other
    (subst (λ (e : Event). LacksHart w setup.program (e ∷ []) 1 setup.harts events fault) same lacks) lack' in (
      harts.0,
      ap (λ (e : Event). e ∷ events) same ∙ ap (λ (all : List Event). opening setup root' added' ranges' ∷ all) harts.1,
    )
