-- What calls come to for their callers, and startup, are legal.
use Rattle.std.proofs.Common.{◌≡◌, ℕ, suc, ◌+◌, List, [], ◌∷◌, ◌++◌, length, None, Some, refl, sym, ap, subst, ◌∙◌, arith}
use Rattle.ld_base.specs.declared.fault.DlFault.{DlFault}
use Rattle.history_event.specs.declared.event.Event.{Event}
use Rattle.history_event.specs.declared.event.Event.TheVariants.{Open, Sym}
use Rattle.history_event.specs.declared.event.OpenAnswer.TheVariants as openings
use Rattle.history_event.specs.declared.event.SymAnswer.TheVariants as symbols
use Rattle.history_event.specs.declared.handed.HartEntry.{HartEntry}
use Rattle.history_calls.specs.declared.link_served.served.Served.{Served}
use Rattle.history_calls.specs.declared.link_served.served.Served.TheVariants as served
use Rattle.history_calls.specs.declared.link_served.startup.Setup.{Setup}
use Rattle.history_calls.specs.declared.link_served.startup.Started.{Started}
use Rattle.history_state.specs.After.{after}
use Rattle.history_state.specs.Legal.{Legal}
use Rattle.history_state.specs.Setting.{Setting}
use Rattle.history_state.specs.State.{State}
use Rattle.history_state.specs.Lemmas.History.{legal_push, one_behind}
use Rattle.history_calls.specs.Call.{Call}
use Rattle.history_calls.specs.Served.{IsServed}
use Rattle.history_calls.specs.Startup.{FailsToStart, FindHarts, LacksHart, Starts, entries_from, found_at, hart_ask, harts_of, opening, program_ask, program_entry}
use Rattle.history_calls.specs.Lemmas.Given.{gives_legal}

append_none : (xs : List Event) → xs ++ [] ≡ xs
append_none [] = refl
append_none (x ∷ xs) = ap (λ ys. x ∷ ys) (append_none xs)

pub served_legal : (w : Setting) (past : List Event) (h : ℕ) (call : Call) (came : Served) (given : List Event) → Legal w past → IsServed w past h call came given → Legal w (past ++ given)
served_legal w past h call (served.Done value) given legal is = gives_legal w past h call given _ legal is
served_legal w past h call (served.Opened root installs functions) given legal is = gives_legal w past h call given _ legal is.gives
served_legal w past h call (served.Closing dying functions) given legal is = gives_legal w past h call given _ legal is.gives
served_legal w past h call (served.Refused fault) given legal is = gives_legal w past h call given _ legal is
served_legal w past h call (served.Again for) given legal is = gives_legal w past h call given _ legal is
served_legal w past h call served.Memory given legal is = subst (λ (es : List Event). Legal w (past ++ es)) (sym is) (subst (Legal w) (sym (append_none past)) legal)

-- ---- startup

none_legal : (w : Setting) → Legal w []
unfolding Legal
none_legal w k e at = absurd (let d : None ≡ Some e = at in cc)

harts_legal : (w : Setting) (past : List Event) (h : ℕ) (names : List (List ℕ)) (events : List Event) (addresses : List ℕ) → Legal w past → FindHarts w past h names events addresses → Legal w (past ++ events)
harts_legal w past h names events addresses legal (FindHarts.no_more _ _) = subst (Legal w) (sym (append_none past)) legal
harts_legal w past h names events addresses legal (FindHarts.one_more _ _ name rest serial index value more others finds later) =
    subst (Legal w) (one_behind past (found_at h name serial index value) more)
    (harts_legal w (past ++ found_at h name serial index value ∷ []) (h + 1) rest more others (legal_push w past (found_at h name serial index value) legal finds.may) later)

lacks_legal : (w : Setting) (program : List ℕ) (past : List Event) (h : ℕ) (names : List (List ℕ)) (events : List Event) (fault : DlFault) → Legal w past → LacksHart w program past h names events fault → Legal w (past ++ events)
lacks_legal w program past h names events fault legal (LacksHart.is_refused _ _ name rest _ may) = legal_push w past (Sym h (hart_ask name) (symbols.Refused fault)) legal may
lacks_legal w program past h names events fault legal (LacksHart.is_not_code _ _ name rest serial index value may code) = legal_push w past (found_at h name serial index value) legal may
lacks_legal w program past h names events fault legal (LacksHart.one_more _ _ name rest serial index value more _ finds later) =
    subst (Legal w) (one_behind past (found_at h name serial index value) more)
    (lacks_legal w program (past ++ found_at h name serial index value ∷ []) (h + 1) rest more fault (legal_push w past (found_at h name serial index value) legal finds.may) later)

pub starts_legal : (w : Setting) (setup : Setup) (journal : List Event) (started : Started) → Starts w setup journal started → Legal w journal
starts_legal w setup journal started starts =
    let first : Legal w (opening setup starts.root starts.added starts.ranges ∷ []) = legal_push w [] (opening setup starts.root starts.added starts.ranges) (none_legal w) starts.opens in
    subst (Legal w) (sym starts.are) (harts_legal w (opening setup starts.root starts.added starts.ranges ∷ []) 1 setup.harts starts.found starts.addresses first starts.finds)

pub fails_legal : (w : Setting) (setup : Setup) (fault : DlFault) (journal : List Event) → FailsToStart w setup fault journal → Legal w journal
fails_legal w setup fault journal (FailsToStart.is_not_opened _ set may) = legal_push w [] (Open 0 (program_ask setup) (openings.Refused fault)) (none_legal w) may
fails_legal w setup fault journal (FailsToStart.lacks_hart root added ranges events _ set may lacks) =
    lacks_legal w setup.program (opening setup root added ranges ∷ []) 1 setup.harts events fault (legal_push w [] (opening setup root added ranges) (none_legal w) may) lacks

an_address_each : (w : Setting) (past : List Event) (h : ℕ) (names : List (List ℕ)) (events : List Event) (addresses : List ℕ) → FindHarts w past h names events addresses → length addresses ≡ length names
an_address_each w past h names events addresses (FindHarts.no_more _ _) = refl
an_address_each w past h names events addresses (FindHarts.one_more _ _ name rest serial index value more others finds later) =
    ap suc (an_address_each w (past ++ found_at h name serial index value ∷ []) (h + 1) rest more others later)

entries_length : (s : State) (h : ℕ) (addresses : List ℕ) → length (entries_from s h addresses) ≡ length addresses
entries_length s h [] = refl
entries_length s h (pc ∷ rest) = ap suc (entries_length s (h + 1) rest)

pub harts_have_entries : (w : Setting) (setup : Setup) (journal : List Event) (started : Started) → Starts w setup journal started → length started.entries ≡ harts_of setup
harts_have_entries w setup journal started starts =
    let each = an_address_each w _ 1 setup.harts starts.found starts.addresses starts.finds in
    let long = entries_length (after journal) 0 (program_entry (after journal) ∷ starts.addresses) in
    ap (λ (es : List HartEntry). length es) starts.entries ∙ long ∙ plus (length starts.addresses) (length setup.harts) each
  where
    plus : (a b : ℕ) → a ≡ b → suc a ≡ b + 1
    plus a b e = omega (arith, e)
