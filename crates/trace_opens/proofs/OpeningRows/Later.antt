-- Openings once startup is over, for what they ask.
use Rattle.std.proofs.Common.{◌≡◌, inl, ◌<◌, ◌≤◌, ℕ, true, false, List, [], ◌∷◌, Option, Some, None, length, refl, sym, ap, subst, ◌∙◌, arith}
use Rattle.std.specs.Prelude.{nat_le}
use Rattle.std.proofs.lemmas.Bool.{true≢false}
use Rattle.std.proofs.lemmas.Bool.Decides.{nat_tests}
use Rattle.ld_base.specs.declared.fault.DlFault.{DlFault}
use Rattle.history_event.specs.declared.event.Event.{Event}
use Rattle.history_event.specs.declared.event.Event.TheVariants.{Open}
use Rattle.history_event.specs.declared.event.OpenAnswer.{OpenAnswer}
use Rattle.history_event.specs.declared.event.OpenAnswer.TheVariants as opens
use Rattle.history_event.specs.declared.event.OpenAsk.{OpenAsk}
use Rattle.history_event.specs.declared.event_line.OpenLine.{OpenLine}
use Rattle.history_state.specs.After.{after}
use Rattle.history_state.specs.Allowed.{Allowed}
use Rattle.history_state.specs.Asking.{AreNamespacesFull, IsAsked, IsBadNamespace, IsNamespace, MayAsk}
use Rattle.history_state.specs.Objects.{is_startup}
use Rattle.history_state.specs.Opening.{HasProgram, OpensName, Refuses}
use Rattle.history_state.specs.Opening.Refuses.{name_too_long, bad_flags, bad_namespace, namespaces_full, stopped, lacks_version, has_no_pages, unrelocated}
use Rattle.history_state.specs.Setting.{Setting}
use Rattle.history_state.specs.State.{State}
use Rattle.history_calls.specs.Answer.{refused}
use Rattle.history_calls.specs.CallLaws.Laws.{RefusedByAsking}
use Rattle.history_calls.specs.Laws.{AskFirst, is_want}
use Rattle.trace_opens.specs.OpeningRows.Asked.{IsKnown, IsRefusedFor}
use Rattle.trace_opens.specs.OpeningRows.Expected.{IsExpectedOpening, refusal}
use Rattle.trace_opens.proofs.OpeningRows.Answered.{came, gives}

not_begun : (s : State) (hart : ℕ) (ask : OpenAsk) → is_startup s ≡ false → MayAsk s hart ask
not_begun s hart ask started is = absurd (true≢false (sym is ∙ started))

-- ---- what may come has a name that is short, or that shows that it is too long

is_long : (name : List ℕ) → 256 < length name → nat_le 256 (length name) ≡ true
is_long name long = grind (arith, nat_tests)

module _ (w : Setting) (past : List Event) (hart : ℕ) (ask : OpenAsk) (started : is_startup (after past) ≡ false) where
  -- ---- what is refused for what it asks

  known_name : (name : Option (List ℕ)) → IsKnown name → (text : List ℕ) → name ≡ Some text → length text ≤ 256
  known_name name known text is = subst IsKnown is known

  as_refused : (answer : OpenAnswer) (fault : DlFault) → came answer ≡ refused fault → opens.Refused fault ≡ answer
  as_refused (opens.Done id root [] ranges) fault is = absurd cc
  as_refused (opens.Done id root (o ∷ rest) ranges) fault is = absurd cc
  as_refused opens.Absent fault is = absurd cc
  as_refused (opens.Refused other) fault is = let same : other ≡ fault = cc in ap opens.Refused (sym same)

  is_no_want : (answer : OpenAnswer) → is_want (came answer) ≡ false
  is_no_want (opens.Done id root [] ranges) = refl
  is_no_want (opens.Done id root (o ∷ rest) ranges) = refl
  is_no_want opens.Absent = refl
  is_no_want (opens.Refused fault) = refl

  pub expects_refusal : RefusedByAsking → AskFirst → (line : OpenLine) (fault : DlFault) → IsRefusedFor (after past) ask fault → IsExpectedOpening w past hart ask line (Some (refusal hart ask fault))
  expects_refusal by_asking first line fault x = record {
    may = record { may = record { may = not_begun (after past) hart ask started; refuses = by_asking w (after past) hart ask fault x.refuses (known_name ask.name x.known) }; chosen = tt };
    only = inl (λ answer said allowed. record {
      opening = refusal hart ask fault;
      is = refl;
      same = ap (Open hart ask) (as_refused answer fault
          (first w past hart ask (Open hart ask answer ∷ []) (came answer) fault x.refuses (gives w past hart ask answer allowed) (is_no_want answer)));
    });
  }

  -- ---- the null name

  no_name : {A : Type 0} (name : List ℕ) → ask.name ≡ None → ask.name ≡ Some name → A
  no_name name none some = absurd (let d : None ≡ Some name = sym none ∙ some in cc)

  bad_or_there : (ns : Option ℕ) (id number : ℕ) → IsNamespace (after past) ns None id → IsBadNamespace (after past) ns None number → ⊥
  bad_or_there (Some n) id number is bad = bad.1 is.1
  bad_or_there None id number is bad = is

  never_full : (ns : Option ℕ) → AreNamespacesFull (after past) ns None → ⊥
  never_full (Some n) full = full
  never_full None full = full

  refused_named : (id : ℕ) (fault : DlFault) → ask.name ≡ None → IsAsked (after past) ask id → Refuses w (after past) hart ask fault → ⊥
  refused_named id _ none asked (name_too_long name is count too) = no_name name none is
  refused_named id _ none asked (bad_flags short bad) = true≢false (sym asked.flags ∙ bad)
  refused_named id _ none asked (bad_namespace number short flags bad) = bad_or_there ask.ns id number
      (subst (λ (n : Option (List ℕ)). IsNamespace (after past) ask.ns n id) none asked.namespace) (subst (λ (n : Option (List ℕ)). IsBadNamespace (after past) ask.ns n number) none bad)
  refused_named id _ none asked (namespaces_full short flags full) = never_full ask.ns (subst (λ (n : Option (List ℕ)). AreNamespacesFull (after past) ask.ns n) none full)
  refused_named id _ none asked (stopped name i fault x) = no_name name none x.named.named
  refused_named id _ none asked (lacks_version name i fault x) = no_name name none x.named.named
  refused_named id _ none asked (has_no_pages name i pages x) = no_name name none x.named.named
  refused_named id _ none asked (unrelocated name i fault x) = no_name name none x.named.named

  same_id : (ns : Option ℕ) (id other : ℕ) → IsNamespace (after past) ns None id → IsNamespace (after past) ns None other → id ≡ other
  same_id (Some n) id other a b = a.0 ∙ sym b.0
  same_id None id other a b = absurd a

  program_only : (id : ℕ) (answer : OpenAnswer) → ask.name ≡ None → IsAsked (after past) ask id → Allowed w past (Open hart ask answer) → opens.Done id 1 [] [] ≡ answer
  program_only id (opens.Done other root added ranges) none asked x =
      let opened = subst (λ (n : Option (List ℕ)). OpensName w (after past) hart ask n other root added ranges) none x.name in
      let ids : id ≡ other = same_id ask.ns id other (subst (λ (n : Option (List ℕ)). IsNamespace (after past) ask.ns n id) none asked.namespace) (subst (λ (n : Option (List ℕ)). IsNamespace (after past) ask.ns n other) none x.asked.namespace) in
      ap (λ i. opens.Done i 1 [] []) ids ∙ ap (λ r. opens.Done other r [] []) (sym opened.program) ∙ ap (λ a. opens.Done other root a []) (sym opened.none) ∙ ap (opens.Done other root added) (sym opened.no_pages)
  program_only id opens.Absent none asked x = no_name x.name none x.named
  program_only id (opens.Refused fault) none asked x = absurd (refused_named id fault none asked x.refuses)

  pub expects_program : (line : OpenLine) (id : ℕ) → ask.name ≡ None → IsAsked (after past) ask id → HasProgram (after past)
      → IsExpectedOpening w past hart ask line (Some (record { hart = hart; ask = ask; answer = opens.Done id 1 [] []; choices = [] }))
  expects_program line id none asked program = record {
    may = record {
      may = record {
        may = not_begun (after past) hart ask started;
        asked = asked;
        name = subst (λ (n : Option (List ℕ)). OpensName w (after past) hart ask n id 1 [] []) (sym none) (record { program = refl; none = refl; no_pages = refl; stands = program });
      };
      chosen = record { count = refl; each = λ k o at. absurd (let d : None ≡ Some o = at in cc) };
    };
    only = inl (λ answer said allowed. record {
      opening = record { hart = hart; ask = ask; answer = opens.Done id 1 [] []; choices = [] };
      is = refl;
      same = ap (Open hart ask) (program_only id answer none asked allowed);
    });
  }
