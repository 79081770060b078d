-- What comes of a turn that asks, by what its call was answered.
use Rattle.std.proofs.Common.{◌≡◌, ◌⊎◌, ⊎_elim, inl, inr, ℕ, ◌<◌, nat_lt, ◌||◌, Bool, true, false, if◌then◌else◌, List, [], ◌∷◌, ◌++◌, length, length-append, drop, Option, Some, refl, sym, ap, subst, ◌∙◌, append-nil, append_assoc, arith}
use Rattle.std.proofs.Math.Seq.{drop-append_seam}
use Rattle.std.proofs.lemmas.Bool.{le-ltb, lt-ltb, ltb-true}
use Rattle.std.proofs.lemmas.List.{append_cancel_left}
use Rattle.std.specs.List.{Contains, list_any}
use Rattle.ld_base.specs.declared.fault.DlFault.{DlFault}
use Rattle.ld_base.specs.declared.fault.Shown.{Shown}
use Rattle.history_event.specs.declared.event.Event.{Event}
use Rattle.history_event.specs.declared.event.Event.TheVariants as events
use Rattle.history_event.specs.declared.event.OpenAnswer.TheVariants as openings
use Rattle.history_event.specs.declared.event.OpenAsk.{OpenAsk}
use Rattle.history_event.specs.declared.hart_end.HartEnd.{HartEnd}
use Rattle.history_event.specs.declared.state.Granting.{Granting}
use Rattle.history_state.specs.After.{after}
use Rattle.history_state.specs.Allowed.{MayEnd}
use Rattle.history_state.specs.Lemmas.History.{after_push}
use Rattle.history_state.specs.Lemmas.Lists.{here}
use Rattle.history_event.specs.declared.state.Standing.TheVariants.{Open}
use Rattle.history_journal.specs.Following.{machine_of}
use Rattle.history_state.specs.Setting.{Setting}
use Rattle.history_state.specs.State.{State}
use Rattle.history_calls.specs.Answer.{Answer, returns, granted, again, over}
use Rattle.history_calls.specs.Call.{Call, resolves, opens, looks_up, closes, unmaps, asks_fault, locates, writes, stops}
use Rattle.history_calls.specs.CallLaws.Counts.{ArePaths}
use Rattle.history_calls.specs.Ends.{EndsAs}
use Rattle.history_calls.specs.Gives.{EventAnswers, Gives, HasBlock, Serves, ending, variable_at}
use Rattle.history_calls.specs.Served.{AreBlockInstalls, InstallsNothing, Makes}
use Rattle.history_calls.specs.Laws.{hart_of}
use Rattle.history_calls.specs.Functions.{passed}
use Rattle.history_calls.specs.Waiting.{Shows}
use Rattle.history_calls.specs.declared.link_served.installs.Installs.{Installs}
use Rattle.hart_moves.specs.Due.{Due, Return, back, due}
use Rattle.hart_moves.specs.Harts.{HartState, Resolving}
use Rattle.hart_moves.specs.Lemmas.Legality.{turns_own}
use Rattle.hart_moves.specs.Moves.{Calls, Did, IsOffer, Moves, MovesAs, ended, events_of, freed, returning, settled_resolving, spent}
use Rattle.hart_moves.specs.Waiting.{awaiting}
use Rattle.hart_seat.specs.HartParts.Views.{offered_of}
use Rattle.hart_seat.specs.declared.hart_parts.due.Offered.{Offered}
use Rattle.link_state.specs.Locating.{IsLocated, IsNotLocated}
use Rattle.link_state.specs.Table.{LinkTable, appended}
use Rattle.link_state.specs.declared.faults.TlsFault.{TlsFault}
use Rattle.link_state.specs.declared.faults.TlsFault.TheVariants as tls
use Rattle.world_answers.specs.Faults.{tls_end}
use Rattle.world_answers.specs.GuestsPart.Counting.{Rise, is_refusal}
use Rattle.world_answers.specs.ReturnsPart.Completing.{is_complete}
use Rattle.world_answers.specs.GuestsPart.Lemmas.Counting.{refusal_shows, spare_counts}
use Rattle.world_answers.specs.Answers.{AnswersDue}
use Rattle.world_answers.specs.Openings.{TurnRefusalIsCounted}
use Rattle.world_answers.specs.ReturnsPart.Answering.{WasAnswered}
use Rattle.history_calls.specs.CallLaws.Coming.{IsOver}
use Rattle.ld_base.specs.declared.linking.File.{File}
use Rattle.world_memory.specs.TurnAnswers.Answered.{AnswersTurn, IsAnswered}
use Rattle.world_memory.specs.TurnAnswers.Changes.{LeaveMemory}
use Rattle.world_memory.specs.TurnAnswers.Turn.{TakesService}
use Rattle.world_memory.specs.declared.turn_answers.answered.Answered.{Answered}
use Rattle.world_memory.specs.declared.turn_answers.answered.Answered.TheVariants as answered
use Rattle.world_memory.specs.declared.turn_answers.answered.MemoryChange.{MemoryChange}
use Rattle.world_memory.specs.declared.turn_answers.answered.MemoryChange.TheVariants as change
use Rattle.world_turns.specs.Counts.{Counts, ShowInCounts, has_candidate}
use Rattle.kept_words.specs.Posting.{NewGrant, event_of, granting_of}
use Rattle.link_keeper.specs.Acting.{Acts, Answers, ComesToEvents, IsDone, NotLocating, OpenNothing, is_locating, is_storing, may_give_block}
use Rattle.link_keeper.specs.Keeping.{is_opening}
use Rattle.link_keeper.specs.declared.acting.Reply.{Reply}
use Rattle.link_keeper.specs.declared.acting.Reply.TheVariants as reply
use Rattle.link_keeper.proofs.Acted.{HasFirst, IsFree, all_open_none, Shape, calls_come, completes_come, is_again, is_grant, never, shape}

-- ---- calls

call_moves : (w : Setting) (past : List Event) (h : ℕ) (b c : HartState) (call : Call) (to : Return) (did : Did) → due (after past) b ≡ Due.serve call to → Calls w past h b call to did c
    → Moves w past h b did c
call_moves w past h b c call to did is x = subst (λ (d : Due). MovesAs w past h b d did c) (sym is) x

-- a hart goes on where it is done with its grant
done_on : (r : Resolving) → settled_resolving r ≡ Resolving.idle → settled_resolving (settled_resolving r) ≡ Resolving.idle
done_on r is = ap settled_resolving is

-- ---- events

room_events : (d : Due) (did : Did) (c : HartState) (spare : ℕ) (x : ComesToEvents d did c) → (may_give_block d ≡ true → 0 < spare) → is_storing did reply.Events ≡ true → 0 < spare
room_events d did c spare x room stores = room (x.stored (sym (ap (λ (y : Did). is_storing y reply.Events) x.is) ∙ stores))

-- ---- an answer by which a call is to be tried again, or is granted a slot; and any other

abbrev Meets : List Event → Answer → Answered → Type 0
Meets past answer (answered.Returns value does) = (is_again answer ≡ false) × (is_grant answer ≡ false)
Meets past answer (answered.Loading root installs functions) = (is_again answer ≡ false) × (is_grant answer ≡ false)
Meets past answer (answered.Closing dying functions) = (is_again answer ≡ false) × (is_grant answer ≡ false)
Meets past answer (answered.Granted offered) = (g : Granting) × (answer ≡ granted g) × IsOffer (after past) g (offered_of offered)
Meets past answer (answered.Told text message) = (is_again answer ≡ false) × (is_grant answer ≡ false)
Meets past answer (answered.Again for) = answer ≡ again for
Meets past answer (answered.Over reason) = (is_again answer ≡ false) × (is_grant answer ≡ false)

meets : (past appended : List Event) (h : ℕ) (made : Installs) (call : Call) (answer : Answer) (came : Answered) → IsAnswered past appended h made call answer came → Meets past answer came
meets past appended h made call answer came (IsAnswered.is_returned value does changes) = (refl, refl)
meets past appended h made call answer came (IsAnswered.is_refused fault changes) = (refl, refl)
meets past appended h made call answer came (IsAnswered.is_loaded root added installs functions changes are) = (refl, refl)
meets past appended h made call answer came (IsAnswered.is_closing dying functions changes are) = (refl, refl)
meets past appended h made call answer came (IsAnswered.is_granted grant offered changes offer) = (grant, refl, offer)
meets past appended h made call answer came (IsAnswered.is_told_none changes) = (refl, refl)
meets past appended h made call answer came (IsAnswered.is_told fault text is changes) = (refl, refl)
meets past appended h made call answer came (IsAnswered.has_to_wait for changes) = refl
meets past appended h made call answer came (IsAnswered.is_over reason changes) = (refl, refl)

-- what memory gets where nothing is to be installed or taken away
leaves : (past appended : List Event) (h : ℕ) (made : Installs) (call : Call) (answer : Answer) (came : Answered) → IsAnswered past appended h made call answer came
    → (is_again answer ≡ true) ⊎ (is_grant answer ≡ true) → LeaveMemory (after past) appended
leaves past appended h made call answer came (IsAnswered.is_returned value does changes) so = ⊎_elim never never so
leaves past appended h made call answer came (IsAnswered.is_refused fault changes) so = ⊎_elim never never so
leaves past appended h made call answer came (IsAnswered.is_loaded root added installs functions changes are) so = ⊎_elim never never so
leaves past appended h made call answer came (IsAnswered.is_closing dying functions changes are) so = ⊎_elim never never so
leaves past appended h made call answer came (IsAnswered.is_granted grant offered changes offer) so = changes
leaves past appended h made call answer came (IsAnswered.is_told_none changes) so = ⊎_elim never never so
leaves past appended h made call answer came (IsAnswered.is_told fault text is changes) so = ⊎_elim never never so
leaves past appended h made call answer came (IsAnswered.has_to_wait for changes) so = changes
leaves past appended h made call answer came (IsAnswered.is_over reason changes) so = ⊎_elim never never so

-- ---- to be tried again

again_event : (h : ℕ) (call : Call) (e : Event) (answer : Answer) (for : Shown) → EventAnswers h call e answer → answer ≡ again for → ⊥
again_event h call e answer for (EventAnswers.is_loaded ask id root first rest ranges) is = never (ap is_again is)
again_event h call e answer for (EventAnswers.is_there ask id root ranges) is = never (ap is_again is)
again_event h call e answer for (EventAnswers.is_absent ask) is = never (ap is_again is)
again_event h call e answer for (EventAnswers.is_not_opened ask fault) is = never (ap is_again is)
again_event h call e answer for (EventAnswers.dies handle first rest) is = never (ap is_again is)
again_event h call e answer for (EventAnswers.stays handle) is = never (ap is_again is)
again_event h call e answer for (EventAnswers.is_not_closed handle fault) is = never (ap is_again is)
again_event h call e answer for (EventAnswers.is_unmapped set) is = never (ap is_again is)
again_event h call e answer for (EventAnswers.is_granted owner eights slot number choice value at) is = never (ap is_again is)
again_event h call e answer for (EventAnswers.is_unresolved owner eights slot at) is = never (ap is_again is)
again_event h call e answer for (EventAnswers.is_not_code owner eights slot serial index at) is = never (ap is_again is)
again_event h call e answer for (EventAnswers.is_found ask serial index value) is = never (ap is_again is)
again_event h call e answer for (EventAnswers.is_not_found ask fault) is = never (ap is_again is)
again_event h call e answer for (EventAnswers.is_told fault) is = never (ap is_again is)
again_event h call e answer for (EventAnswers.is_written bytes) is = never (ap is_again is)

shows_again : (w : Setting) (past : List Event) (h : ℕ) (call : Call) (given : List Event) (answer : Answer) (for : Shown) → Gives w past h call given answer → answer ≡ again for
    → (given ≡ []) × Shows w (after past) h call for
shows_again w past h call given answer for (Gives.by_event _ e _ answers may) is = absurd (again_event h call e answer for answers is)
shows_again w past h call given answer for (Gives.by_first_block ask e f value finds) is = never (ap is_again is)
shows_again w past h call given answer for (Gives.in_new_block number offset block e gets) is = never (ap is_again is)
shows_again w past h call given answer for (Gives.in_block number offset block has) is = never (ap is_again is)
shows_again w past h call given answer for (Gives.to_again _ shown shows) is = let same : shown ≡ for = cc in (refl, subst (Shows w (after past) h call) same shows)
shows_again w past h call given answer for (Gives.to_end _ reason ends) is = never (ap is_again is)

-- ---- a grant

-- the call's one event is the grant
record GrantedBy (h : ℕ) (appended : List Event) (given : Granting) : Type 0 where
  g : NewGrant
  hart : g.hart ≡ h
  is : given ≡ granting_of g
  one : appended ≡ event_of g ∷ []

granted_one : (h : ℕ) (call : Call) (e : Event) (answer : Answer) (g : Granting) (appended : List Event) → EventAnswers h call e answer → answer ≡ granted g → appended ≡ e ∷ ending h answer
    → GrantedBy h appended g
granted_one h call e answer g appended (EventAnswers.is_loaded ask id root first rest ranges) is are = never (ap is_grant is)
granted_one h call e answer g appended (EventAnswers.is_there ask id root ranges) is are = never (ap is_grant is)
granted_one h call e answer g appended (EventAnswers.is_absent ask) is are = never (ap is_grant is)
granted_one h call e answer g appended (EventAnswers.is_not_opened ask fault) is are = never (ap is_grant is)
granted_one h call e answer g appended (EventAnswers.dies handle first rest) is are = never (ap is_grant is)
granted_one h call e answer g appended (EventAnswers.stays handle) is are = never (ap is_grant is)
granted_one h call e answer g appended (EventAnswers.is_not_closed handle fault) is are = never (ap is_grant is)
granted_one h call e answer g appended (EventAnswers.is_unmapped set) is are = never (ap is_grant is)
granted_one h call e answer g appended (EventAnswers.is_granted owner eights slot number choice value at) is are = record {
  g = record { number = number; hart = h; owner = owner; slot = slot; choice = choice; value = value };
  hart = refl;
  is = (let same : granted (record { number = number; hart = h; owner = owner; slot = slot; choice = choice; value = value; standing = Open }) ≡ granted g = is in cc);
  one = are;
}
granted_one h call e answer g appended (EventAnswers.is_unresolved owner eights slot at) is are = never (ap is_grant is)
granted_one h call e answer g appended (EventAnswers.is_not_code owner eights slot serial index at) is are = never (ap is_grant is)
granted_one h call e answer g appended (EventAnswers.is_found ask serial index value) is are = never (ap is_grant is)
granted_one h call e answer g appended (EventAnswers.is_not_found ask fault) is are = never (ap is_grant is)
granted_one h call e answer g appended (EventAnswers.is_told fault) is are = never (ap is_grant is)
granted_one h call e answer g appended (EventAnswers.is_written bytes) is are = never (ap is_grant is)

granted_by : (w : Setting) (past : List Event) (h : ℕ) (call : Call) (given appended : List Event) (answer : Answer) (g : Granting) → Gives w past h call given answer → appended ≡ given ++ ending h answer
    → answer ≡ granted g → GrantedBy h appended g
granted_by w past h call given appended answer g (Gives.by_event _ e _ answers may) are is = granted_one h call e answer g appended answers is are
granted_by w past h call given appended answer g (Gives.by_first_block ask e f value finds) are is = never (ap is_grant is)
granted_by w past h call given appended answer g (Gives.in_new_block number offset block e gets) are is = never (ap is_grant is)
granted_by w past h call given appended answer g (Gives.in_block number offset block has) are is = never (ap is_grant is)
granted_by w past h call given appended answer g (Gives.to_again _ shown shows) are is = never (ap is_grant is)
granted_by w past h call given appended answer g (Gives.to_end _ reason ends) are is = never (ap is_grant is)

-- ---- a call that is no request of thread-local storage

locating_of : (call : Call) → is_locating call ≡ true → (number : ℕ) × (offset : ℕ) × (call ≡ locates number offset)
locating_of (resolves owner eights) is = never is
locating_of (opens ask) is = never is
locating_of (looks_up ask) is = never is
locating_of (closes handle) is = never is
locating_of (unmaps set) is = never is
locating_of asks_fault is = never is
locating_of (locates number offset) is = (number, offset, refl)
locating_of (writes bytes) is = never is
locating_of (stops reason) is = never is

not_locating : {d : Due} (call : Call) (to : Return) → NotLocating d → d ≡ Due.serve call to → is_locating call ≡ true → ⊥
not_locating {d} call to other is locating =
    let x = locating_of call locating in
    other x.0 x.1 to (is ∙ ap (λ (y : Call). Due.serve y to) x.2)

module _ (w : Setting) (state : LinkTable) (past : List Event) (h : ℕ) (b c : HartState) (f : IsFree b (due (after past) b)) where
  -- a hart that waits still
  pub waits_act : (for : Shown) (does : MemoryChange) (answer : Reply) (spare : ℕ) → state.events ≡ past → due (after past) b ≡ Due.wait for → c ≡ spent (awaiting for (freed b))
      → does ≡ change.Nothing → answer ≡ reply.Again for → Acts w past state h b c spare does answer
  waits_act for does answer spare are is left nothing same =
      subst (λ (r : Reply). Acts w past state h b c spare does r) (sym same) (subst (λ (m : MemoryChange). Acts w past state h b c spare m (reply.Again for)) (sym nothing) (record {
        did = Did.waits for;
        moves = subst (λ (d : Due). MovesAs w past h b d (Did.waits for) c) (sym is) (record { is = refl; leaves = left });
        are = are ∙ sym (append-nil past);
        changes = tt;
        answers = Answers.by_waiting for is refl (ap (λ (y : HartState). settled_resolving y.resolving) left ∙ done_on b.resolving f.rests);
        room = λ stores. never stores;
      }))

  module _ (made : Installs) (came : Answered) (t : AnswersTurn w past state.events made h (due (after past) b) came) where
    -- it has to wait
    pub again_acts : (for : Shown) (does : MemoryChange) (answer : Reply) (spare : ℕ) → came ≡ answered.Again for → c ≡ spent (awaiting for (freed b)) → does ≡ change.Nothing → answer ≡ reply.Again for
        → Acts w past state h b c spare does answer
    again_acts for does answer spare is left nothing same =
        let meets_it : t.answer ≡ again for = subst (Meets past t.answer) is (meets past t.appended h made t.call t.answer came t.answered) in
        let shows = shows_again w past h t.call t.serves.given t.answer for t.serves.gives meets_it in
        let empty : t.appended ≡ [] = t.serves.are ∙ (λ i. shows.0 i ++ ending h (meets_it i)) in
        let x : Calls w past h b t.call t.return (Did.waits for) c = record {
          appended = t.appended;
          answer = again for;
          serves = subst (λ (a : Answer). Serves w past h t.call t.appended a) meets_it t.serves;
          takes = record { is = refl; leaves = left };
        } in
        subst (λ (r : Reply). Acts w past state h b c spare does r) (sym same) (subst (λ (m : MemoryChange). Acts w past state h b c spare m (reply.Again for)) (sym nothing) (record {
          did = Did.waits for;
          moves = call_moves w past h b c t.call t.return (Did.waits for) t.is x;
          are = t.are ∙ ap (λ (es : List Event). past ++ es) empty;
          changes = tt;
          answers = Answers.by_again t.call for refl shows.1 (ap (λ (y : HartState). settled_resolving y.resolving) left ∙ done_on b.resolving f.rests);
          room = λ stores. never stores;
        }))

    -- a slot is granted
    pub grant_acts : (o : Offered) (does : MemoryChange) (answer : Reply) (spare : ℕ) → came ≡ answered.Granted o → c ≡ spent (record b { resolving = Resolving.to_exchange (offered_of o) }) → does ≡ change.Nothing
        → answer ≡ reply.Granted o → Acts w past state h b c spare does answer
    grant_acts o does answer spare is left nothing same =
        let m : (g : Granting) × (t.answer ≡ granted g) × IsOffer (after past) g (offered_of o) = subst (Meets past t.answer) is (meets past t.appended h made t.call t.answer came t.answered) in
        let n : GrantedBy h t.appended m.0 = granted_by w past h t.call t.serves.given t.appended t.answer m.0 t.serves.gives t.serves.are m.1 in
        let x : Calls w past h b t.call t.return (Did.serves [] t.appended) c = record {
          appended = t.appended;
          answer = granted m.0;
          serves = subst (λ (a : Answer). Serves w past h t.call t.appended a) m.1 t.serves;
          takes = record { offered = offered_of o; offer = m.2; is = refl; leaves = left };
        } in
        subst (λ (r : Reply). Acts w past state h b c spare does r) (sym same) (subst (λ (m : MemoryChange). Acts w past state h b c spare m (reply.Granted o)) (sym nothing) (record {
          did = Did.serves [] t.appended;
          moves = call_moves w past h b c t.call t.return (Did.serves [] t.appended) t.is x;
          are = t.are;
          changes = leaves past t.appended h made t.call t.answer came t.answered (inr (ap is_grant m.1));
          answers = Answers.by_grant n.g o (ap (λ (es : List Event). Did.serves [] es) n.one) n.hart (subst (λ (g : Granting). IsOffer (after past) g (offered_of o)) n.is m.2) (ap (λ (y : HartState). y.resolving) left);
          room = λ stores. never stores;
        }))

    -- anything else comes to events
    module _ (other : NotLocating (due (after past) b)) (rest : (is_again t.answer ≡ false) × (is_grant t.answer ≡ false)) where
      pub first_of : HasFirst t.call t.appended t.answer
      first_of = by (shape w past h t.call t.serves.given t.appended t.answer t.serves.gives t.serves.are)
        where
          by : Shape t.call t.appended t.answer → HasFirst t.call t.appended t.answer
          by (Shape.some x) = x
          by (Shape.empty x) = ⊎_elim
              (λ (again : is_again t.answer ≡ true). never (sym rest.0 ∙ again))
              (λ (locating : is_locating t.call ≡ true). absurd (not_locating t.call t.return other t.is locating))
              x.why

      module _ (new : LinkTable) (does : MemoryChange) (noted : (more : List Event) × (new.events ≡ state.events ++ more)) (x : TakesService w past new.events new.made h (due (after past) b) b c does) where
        behind : events_of x.did ≡ first_of.first ∷ (first_of.rest ++ noted.0)
        behind = append_cancel_left past (events_of x.did) (first_of.first ∷ (first_of.rest ++ noted.0))
            (sym x.are ∙ noted.1 ∙ ap (λ (es : List Event). es ++ noted.0) (t.are ∙ ap (λ (es : List Event). past ++ es) first_of.some) ∙ append_assoc past (first_of.first ∷ first_of.rest) noted.0)

        pub comes : ComesToEvents (due (after past) b) x.did c
        comes = subst (λ (d : Due). ComesToEvents d x.did c) (sym t.is)
            (calls_come w past h b c t.call t.return x.did first_of.first (first_of.rest ++ noted.0) (subst (λ (d : Due). MovesAs w past h b d x.did c) t.is x.moves) f.rests behind (sym first_of.grants ∙ rest.1))

        pub events_act : (answer : Reply) (spare : ℕ) → (may_give_block (due (after past) b) ≡ true → 0 < spare) → answer ≡ reply.Events → Acts w past new h b c spare does answer
        events_act answer spare room same = subst (λ (r : Reply). Acts w past new h b c spare does r) (sym same) (record {
          did = x.did;
          moves = x.moves;
          are = x.are;
          changes = x.changes;
          answers = Answers.by_events comes;
          room = room_events (due (after past) b) x.did c spare comes room;
        })

        -- where it refuses an opening, that was in the journal when the call was answered
        pub refused_alone : (e : Event) → is_refusal e ≡ true → new.events ≡ past ++ e ∷ [] → state.events ≡ past ++ e ∷ []
        refused_alone e refuses are =
            let both : first_of.first ∷ (first_of.rest ++ noted.0) ≡ e ∷ [] = sym behind ∙ append_cancel_left past (events_of x.did) (e ∷ []) (sym x.are ∙ are) in
            let same : first_of.first ≡ e = cc in
            let alone : first_of.rest ≡ [] = (first_of.alone (ap is_refusal same ∙ refuses)).0 in
            t.are ∙ ap (λ (es : List Event). past ++ es) (first_of.some ∙ (λ i. same i ∷ alone i))

-- ---- the turn in which functions have run

pub complete_acts : (w : Setting) (past : List Event) (state : LinkTable) (h : ℕ) (b c : HartState) (d : Due) (does : MemoryChange) (answer : Reply) (spare : ℕ) → d ≡ due (after past) b → is_complete d ≡ true → IsFree b d
    → TakesService w past state.events state.made h d b c change.Nothing → does ≡ change.Nothing → answer ≡ reply.Events → Acts w past state h b c spare does answer
complete_acts w past state h b c (Due.complete purpose object rest below) does answer spare is asks f x nothing same =
    let comes : ComesToEvents (Due.complete purpose object rest below) x.did c = completes_come w past h b c purpose object rest below x.did x.moves f.rests in
    subst (λ (r : Reply). Acts w past state h b c spare does r) (sym same) (subst (λ (m : MemoryChange). Acts w past state h b c spare m reply.Events) (sym nothing) (record {
      did = x.did;
      moves = subst (λ (d : Due). MovesAs w past h b d x.did c) is x.moves;
      are = x.are;
      changes = x.changes;
      answers = Answers.by_events (subst (λ (d : Due). ComesToEvents d x.did c) is comes);
      room = room_events (Due.complete purpose object rest below) x.did c spare comes (λ gives. never gives);
    }))
complete_acts w past state h b c Due.nothing does answer spare is asks f x nothing same = never asks
complete_acts w past state h b c (Due.exchange o) does answer spare is asks f x nothing same = never asks
complete_acts w past state h b c (Due.finish o found) does answer spare is asks f x nothing same = never asks
complete_acts w past state h b c Due.fuel_out does answer spare is asks f x nothing same = never asks
complete_acts w past state h b c Due.instruction does answer spare is asks f x nothing same = never asks
complete_acts w past state h b c (Due.copy copy start bytes) does answer spare is asks f x nothing same = never asks
complete_acts w past state h b c (Due.serve call to) does answer spare is asks f x nothing same = never asks
complete_acts w past state h b c (Due.wait for) does answer spare is asks f x nothing same = never asks
complete_acts w past state h b c (Due.store text stored word more) does answer spare is asks f x nothing same = never asks
complete_acts w past state h b c (Due.enter function frames) does answer spare is asks f x nothing same = never asks
complete_acts w past state h b c (Due.finalise code object) does answer spare is asks f x nothing same = never asks

-- it opens nothing
pub complete_opens : (w : Setting) (past events : List Event) (made : Installs) (h : ℕ) (b c : HartState) (d : Due) → is_complete d ≡ true → (x : TakesService w past events made h d b c change.Nothing)
    → OpenNothing (events_of x.did)
complete_opens w past events made h b c (Due.complete purpose object rest below) asks x = subst OpenNothing (sym (ap events_of x.moves.passes.is)) (all_open_none purpose h (object ∷ passed rest))
complete_opens w past events made h b c Due.nothing asks x = never asks
complete_opens w past events made h b c (Due.exchange o) asks x = never asks
complete_opens w past events made h b c (Due.finish o found) asks x = never asks
complete_opens w past events made h b c Due.fuel_out asks x = never asks
complete_opens w past events made h b c Due.instruction asks x = never asks
complete_opens w past events made h b c (Due.copy copy start bytes) asks x = never asks
complete_opens w past events made h b c (Due.serve call to) asks x = never asks
complete_opens w past events made h b c (Due.wait for) asks x = never asks
complete_opens w past events made h b c (Due.store text stored word more) asks x = never asks
complete_opens w past events made h b c (Due.enter function frames) asks x = never asks
complete_opens w past events made h b c (Due.finalise code object) asks x = never asks

-- ---- a call that ends its hart, for want of memory or of a block

ended_done : (reason : HartEnd) (b : HartState) → settled_resolving b.resolving ≡ Resolving.idle → IsDone (ended reason (spent b))
ended_done reason b is = done_on b.resolving is

pub end_acts : (w : Setting) (past : List Event) (state : LinkTable) (h : ℕ) (b c : HartState) (call : Call) (to : Return) (reason : HartEnd) (does : MemoryChange) (answer : Reply) (spare : ℕ)
    → IsFree b (due (after past) b) → due (after past) b ≡ Due.serve call to → EndsAs (after past) h call reason → MayEnd w (after past) h → state.events ≡ past ++ events.Ended h reason ∷ []
    → c ≡ ended reason (spent b) → does ≡ change.Nothing → answer ≡ reply.Events → Acts w past state h b c spare does answer
end_acts w past state h b c call to reason does answer spare f is ends may noted left nothing same =
    let x : Calls w past h b call to (Did.serves [] (events.Ended h reason ∷ [])) c = record {
      appended = events.Ended h reason ∷ [];
      answer = over reason;
      serves = record { given = []; gives = Gives.to_end call reason ends; may_end = λ other e. may; are = refl };
      takes = record { is = refl; leaves = left };
    } in
    subst (λ (r : Reply). Acts w past state h b c spare does r) (sym same) (subst (λ (m : MemoryChange). Acts w past state h b c spare m reply.Events) (sym nothing) (record {
      did = Did.serves [] (events.Ended h reason ∷ []);
      moves = call_moves w past h b c call to (Did.serves [] (events.Ended h reason ∷ [])) is x;
      are = noted;
      changes = (refl, refl, tt);
      answers = Answers.by_events (record {
        first = events.Ended h reason;
        rest = [];
        is = refl;
        quiet = tt;
        behind = tt;
        plain = refl;
        stored = never;
        alone = never;
        rests = subst IsDone (sym left) (ended_done reason b f.rests);
      });
      room = λ stores. never stores;
    }))

-- ---- a request of thread-local storage

-- what it appended: a block, or nothing
data Located (w : Setting) (past : List Event) (h : ℕ) : List Event → Type 0 where
  comes_new : (owner address : ℕ) → Located w past h (events.Tls h owner address ∷ [])
  was_there : Located w past h []

locate_event : (h : ℕ) (call : Call) (e : Event) (answer : Answer) (n o : ℕ) → EventAnswers h call e answer → call ≡ locates n o → ⊥
locate_event h call e answer n o (EventAnswers.is_loaded ask id root first rest ranges) is = never (ap is_locating is)
locate_event h call e answer n o (EventAnswers.is_there ask id root ranges) is = never (ap is_locating is)
locate_event h call e answer n o (EventAnswers.is_absent ask) is = never (ap is_locating is)
locate_event h call e answer n o (EventAnswers.is_not_opened ask fault) is = never (ap is_locating is)
locate_event h call e answer n o (EventAnswers.dies handle first rest) is = never (ap is_locating is)
locate_event h call e answer n o (EventAnswers.stays handle) is = never (ap is_locating is)
locate_event h call e answer n o (EventAnswers.is_not_closed handle fault) is = never (ap is_locating is)
locate_event h call e answer n o (EventAnswers.is_unmapped set) is = never (ap is_locating is)
locate_event h call e answer n o (EventAnswers.is_granted owner eights slot number choice value at) is = never (ap is_locating is)
locate_event h call e answer n o (EventAnswers.is_unresolved owner eights slot at) is = never (ap is_locating is)
locate_event h call e answer n o (EventAnswers.is_not_code owner eights slot serial index at) is = never (ap is_locating is)
locate_event h call e answer n o (EventAnswers.is_found ask serial index value) is = never (ap is_locating is)
locate_event h call e answer n o (EventAnswers.is_not_found ask fault) is = never (ap is_locating is)
locate_event h call e answer n o (EventAnswers.is_told fault) is = never (ap is_locating is)
locate_event h call e answer n o (EventAnswers.is_written bytes) is = never (ap is_locating is)

located : (w : Setting) (past : List Event) (h number offset value : ℕ) (call : Call) (given : List Event) (answer : Answer) → Gives w past h call given answer → call ≡ locates number offset → answer ≡ returns value
    → Located w past h given
located w past h number offset value call given answer (Gives.by_event _ e _ answers may) is at = absurd (locate_event h call e answer number offset answers is)
located w past h number offset value call given answer (Gives.by_first_block ask e f n finds) is at = never (ap is_locating is)
located w past h number offset value call given answer (Gives.in_new_block n o block e gets) is at = subst (λ (x : Event). Located w past h (x ∷ [])) (sym gets.is) (Located.comes_new gets.of.serial block)
located w past h number offset value call given answer (Gives.in_block n o block has) is at = Located.was_there
located w past h number offset value call given answer (Gives.to_again _ shown shows) is at = Located.was_there
located w past h number offset value call given answer (Gives.to_end _ reason ends) is at = absurd (let bad : over reason ≡ returns value = at in cc)

ends_by : {w : Setting} {past : List Event} {h number offset : ℕ} {reason : HartEnd} → Gives w past h (locates number offset) [] (over reason) → EndsAs (after past) h (locates number offset) reason
ends_by {w} {past} {h} {number} {offset} {reason} x = by x refl refl
  where
    by : {call : Call} {given : List Event} {answer : Answer} → Gives w past h call given answer → answer ≡ over reason → given ≡ [] → EndsAs (after past) h call reason
    by (Gives.by_event _ e _ answers may) is none = absurd (let bad : e ∷ [] ≡ [] = none in cc)
    by (Gives.by_first_block ask e f value finds) is none = absurd (let bad : returns value ≡ over reason = is in cc)
    by (Gives.in_new_block n o block e gets) is none = absurd (let bad : e ∷ [] ≡ [] = none in cc)
    by (Gives.in_block n o block has) is none = absurd (let bad : returns (variable_at block o) ≡ over reason = is in cc)
    by (Gives.to_again call shown shows) is none = absurd (let bad : again shown ≡ over reason = is in cc)
    by (Gives.to_end call other ends) is none = subst (EndsAs (after past) h call) (let same : over other ≡ over reason = is in let both : other ≡ reason = cc in both) ends

-- what the state has made of it
abbrev MadeOf : State → List Event → Installs → Type 0
MadeOf s (events.Tls h serial address ∷ rest) made = AreBlockInstalls s h serial address made
MadeOf s other made = InstallsNothing made

made_of : {s : State} {given : List Event} {made : Installs} → Makes s given made → MadeOf s given made
made_of (Makes.a_block hart serial address rest made installed) = installed
made_of (Makes.no_block hart ask answer made nothing) = nothing
made_of (Makes.no_event made nothing) = nothing

module _ (w : Setting) (old new : LinkTable) (h number offset block : ℕ) (b c : HartState) (f : IsFree b (due (after old.events) b)) (on : w.machine ≡ machine_of old.harts)
    (is : due (after old.events) b ≡ Due.serve (locates number offset) (back b)) (x : IsLocated old h number block new) (left : c ≡ spent (returning (back b) (variable_at block offset) (freed b))) where
  located_call : (given : List Event) → x.given ≡ given → Calls w old.events h b (locates number offset) (back b) (Did.serves [] given) c
  located_call given same = record {
    appended = given;
    answer = returns (variable_at block offset);
    serves = record {
      given = given;
      gives = subst (λ (es : List Event). Gives w old.events h (locates number offset) es (returns (variable_at block offset))) same (x.gives offset w on);
      may_end = λ reason e. absurd (let bad : returns (variable_at block offset) ≡ over reason = e in cc);
      are = sym (append-nil given);
    };
    takes = record { is = refl; leaves = left };
  }

  done : IsDone c
  done = subst IsDone (sym left) (done_on b.resolving f.rests)

  by_located : (given : List Event) (is_new : Bool) (spare : ℕ) → Located w old.events h given → x.given ≡ given → is_new ≡ nat_lt (length old.events) (length new.events) → 0 < spare
      → Acts w old.events new h b c spare change.Made (if is_new then reply.Events else reply.Block number block)
  by_located given is_new spare (Located.comes_new owner address) same test room =
      let events_are : new.events ≡ old.events ++ events.Tls h owner address ∷ [] = x.events ∙ ap (λ (es : List Event). old.events ++ es) same in
      let longer : length old.events < length new.events = (let count = ap length events_are ∙ length-append old.events (events.Tls h owner address ∷ []) in omega (arith, count)) in
      let yes_new : is_new ≡ true = test ∙ lt-ltb (length old.events) (length new.events) longer in
      let did : Did = Did.serves [] (events.Tls h owner address ∷ []) in
      subst (λ (t : Bool). Acts w old.events new h b c spare change.Made (if t then reply.Events else reply.Block number block)) (sym yes_new) (record {
        did = did;
        moves = call_moves w old.events h b c (locates number offset) (back b) did is (located_call (events.Tls h owner address ∷ []) same);
        are = events_are;
        changes = inl (record {
          first = events.Tls h owner address;
          behind = [];
          are = refl;
          takes_none = refl;
          installed = subst (λ (s : State). AreBlockInstalls s h owner address new.made) (ap after events_are ∙ after_push old.events (events.Tls h owner address))
              (made_of (subst (λ (es : List Event). Makes (after new.events) es new.made) same x.made));
          leave = tt;
        });
        answers = Answers.by_events (record {
          first = events.Tls h owner address;
          rest = [];
          is = refl;
          quiet = tt;
          behind = tt;
          plain = refl;
          stored = λ stores. ap may_give_block is;
          alone = never;
          rests = done;
        });
        room = λ stores. room;
      })
  by_located given is_new spare Located.was_there same test room =
      let events_are : new.events ≡ old.events = x.events ∙ ap (λ (es : List Event). old.events ++ es) same ∙ append-nil old.events in
      let not_new : is_new ≡ false = test ∙ le-ltb (length old.events) (length new.events) (let count = ap length events_are in omega (arith, count)) in
      subst (λ (t : Bool). Acts w old.events new h b c spare change.Made (if t then reply.Events else reply.Block number block)) (sym not_new) (record {
        did = Did.serves [] [];
        moves = call_moves w old.events h b c (locates number offset) (back b) (Did.serves [] []) is (located_call [] same);
        are = events_are ∙ sym (append-nil old.events);
        changes = inr (made_of (subst (λ (es : List Event). Makes (after new.events) es new.made) same x.made), tt);
        answers = Answers.by_block number offset block (back b) is refl (subst (λ (es : List Event). HasBlock (after es) h number block) events_are x.own) done;
        room = λ stores. room;
      })

  opened_none : {given : List Event} → Located w old.events h given → OpenNothing given
  opened_none (Located.comes_new owner address) = (refl, tt)
  opened_none Located.was_there = tt

  pub located_opens : OpenNothing (drop (length old.events) new.events)
  located_opens = subst OpenNothing (sym (ap (drop (length old.events)) x.events ∙ drop-append_seam old.events x.given))
      (opened_none (located w old.events h number offset (variable_at block offset) (locates number offset) x.given (returns (variable_at block offset)) (x.gives offset w on) refl refl))

  pub locate_acts : (is_new : Bool) (does : MemoryChange) (answer : Reply) (spare : ℕ) → is_new ≡ nat_lt (length old.events) (length new.events) → does ≡ change.Made
      → answer ≡ (if is_new then reply.Events else reply.Block number block) → 0 < spare → Acts w old.events new h b c spare does answer
  locate_acts is_new does answer spare test made same room =
      subst (λ (r : Reply). Acts w old.events new h b c spare does r) (sym same)
      (subst (λ (m : MemoryChange). Acts w old.events new h b c spare m (if is_new then reply.Events else reply.Block number block)) (sym made)
      (by_located x.given is_new spare (located w old.events h number offset (variable_at block offset) (locates number offset) x.given (returns (variable_at block offset)) (x.gives offset w on) refl refl) refl test room))

-- without a block it ends
pub unlocated_acts : (w : Setting) (old mid new : LinkTable) (h number offset : ℕ) (b c : HartState) (fault : TlsFault) (does : MemoryChange) (answer : Reply) (spare : ℕ) → IsFree b (due (after old.events) b)
    → w.machine ≡ machine_of old.harts → due (after old.events) b ≡ Due.serve (locates number offset) (back b) → IsNotLocated old h number fault mid → MayEnd w (after old.events) h
    → new ≡ appended mid (events.Ended h (tls_end fault)) → c ≡ ended (tls_end fault) (spent b) → does ≡ change.Nothing → answer ≡ reply.Events → Acts w old.events new h b c spare does answer
unlocated_acts w old mid new h number offset b c fault does answer spare f on is none may noted left nothing same =
    end_acts w old.events new h b c (locates number offset) (back b) (tls_end fault) does answer spare f is (ends_as fault none) may
    (ap (λ (t : LinkTable). t.events) noted ∙ ap (λ (t : LinkTable). t.events ++ events.Ended h (tls_end fault) ∷ []) (is_old fault none)) left nothing same
  where
    is_old : (fault : TlsFault) → IsNotLocated old h number fault mid → mid ≡ old
    is_old (tls.BadModule bad) none = none.is
    is_old (tls.NoRoom pages) none = none.is
    is_old tls.Memory none = none

    ends_as : (fault : TlsFault) → IsNotLocated old h number fault mid → EndsAs (after old.events) h (locates number offset) (tls_end fault)
    ends_as (tls.BadModule bad) none = ends_by (none.gives offset w on)
    ends_as (tls.NoRoom pages) none = ends_by (none.gives offset w on)
    ends_as tls.Memory none = EndsAs.no_memory (locates number offset) refl

-- ---- what the library's counts show

open_none : (e : Event) → is_opening e ≡ false → is_refusal e ≡ false
open_none (events.Open hart ask answer) is = never (sym is)
open_none (events.Close hart handle answer) is = refl
open_none (events.Unmapped hart set) is = refl
open_none (events.Grant number hart owner slot choice value) is = refl
open_none (events.Bound number) is = refl
open_none (events.Lost number saw) is = refl
open_none (events.Unresolved hart owner slot choice) is = refl
open_none (events.Sym hart ask answer) is = refl
open_none (events.Tls hart owner address) is = refl
open_none (events.Init hart object) is = refl
open_none (events.Fini hart object) is = refl
open_none (events.Wrote hart bytes) is = refl
open_none (events.Told hart fault) is = refl
open_none (events.Ended hart reason) is = refl

pub refuse_none : (es : List Event) → OpenNothing es → list_any is_refusal es ≡ false
refuse_none [] none = refl
refuse_none (e ∷ rest) none = (λ i. open_none e none.0 i || refuse_none rest none.1 i)

pub none_shown : (folders : List (List ℕ)) (past new more : List Event) (old now : Counts) → Rise old now → new ≡ past ++ more → OpenNothing more → ShowInCounts folders (drop (length past) new) old now
none_shown folders past new more old now rise are none =
    subst (λ (es : List Event). ShowInCounts folders es old now) (sym (ap (drop (length past)) are ∙ drop-append_seam past more)) (spare_counts folders old now more rise (refuse_none more none))

refusal_is : (e : Event) → is_refusal e ≡ true → (h : ℕ) × (ask : OpenAsk) × (fault : DlFault) × (e ≡ events.Open h ask (openings.Refused fault))
refusal_is (events.Open hart ask (openings.Refused fault)) is = (hart, ask, fault, refl)
refusal_is (events.Open hart ask (openings.Done id root added ranges)) is = never is
refusal_is (events.Open hart ask openings.Absent) is = never is
refusal_is (events.Close hart handle answer) is = never is
refusal_is (events.Unmapped hart set) is = never is
refusal_is (events.Grant number hart owner slot choice value) is = never is
refusal_is (events.Bound number) is = never is
refusal_is (events.Lost number saw) is = never is
refusal_is (events.Unresolved hart owner slot choice) is = never is
refusal_is (events.Sym hart ask answer) is = never is
refusal_is (events.Tls hart owner address) is = never is
refusal_is (events.Init hart object) is = never is
refusal_is (events.Fini hart object) is = never is
refusal_is (events.Wrote hart bytes) is = never is
refusal_is (events.Told hart fault) is = never is
refusal_is (events.Ended hart reason) is = never is

some_paths : (folders : List (List ℕ)) (name : List ℕ) (paths : List (List ℕ)) → ArePaths folders name paths → has_candidate folders name ≡ true → 0 < length paths
some_paths folders name paths are has = ltb-true 0 (length paths) (ap (λ (ps : List (List ℕ)). nat_lt 0 (length ps)) are ∙ has)

-- of a turn that comes to events: a refused opening, which was counted when the call was answered, or none
pub events_shown : (folders : List (List ℕ)) (w : Setting) (past mid new : List Event) (h : ℕ) (b c : HartState) (did : Did) (old now : Counts) → Rise old now → Moves w past h b did c
    → new ≡ past ++ events_of did → (x : ComesToEvents (due (after past) b) did c) → ((e : Event) → is_refusal e ≡ true → new ≡ past ++ e ∷ [] → mid ≡ past ++ e ∷ [])
    → TurnRefusalIsCounted folders past mid h (due (after past) b) old.faults now.faults old.misses now.misses → ShowInCounts folders (drop (length past) new) old now
events_shown folders w past mid new h b c did old now rise moves are x back counted = by (is_refusal x.first) refl
  where
    events_are : events_of did ≡ x.first ∷ x.rest
    events_are = ap events_of x.is

    whole : drop (length past) new ≡ x.first ∷ x.rest
    whole = ap (drop (length past)) (are ∙ ap (λ (es : List Event). past ++ es) events_are) ∙ drop-append_seam past (x.first ∷ x.rest)

    by : (t : Bool) → is_refusal x.first ≡ t → ShowInCounts folders (drop (length past) new) old now
    by false none = subst (λ (es : List Event). ShowInCounts folders es old now) (sym whole) (spare_counts folders old now (x.first ∷ x.rest) rise (λ i. none i || refuse_none x.rest x.behind i))
    by true refuses =
        let alone = x.alone refuses in
        let is = refusal_is x.first refuses in
        let own : hart_of x.first ≡ Some h = turns_own w past h b c did moves x.first (subst (λ (es : List Event). Contains es x.first) (sym events_are) (here x.first x.rest)) in
        let one : x.first ∷ x.rest ≡ events.Open is.0 is.1 (openings.Refused is.2) ∷ [] = (λ i. is.3 i ∷ alone.0 i) in
        let hart : is.0 ≡ h = (let both : Some is.0 ≡ Some h = sym (ap hart_of is.3) ∙ own in cc) in
        let new_is : new ≡ past ++ events.Open is.0 is.1 (openings.Refused is.2) ∷ [] = are ∙ ap (λ (es : List Event). past ++ es) (events_are ∙ one) in
        let mid_is : mid ≡ past ++ events.Open h is.1 (openings.Refused is.2) ∷ [] =
        back (events.Open is.0 is.1 (openings.Refused is.2)) refl new_is ∙ ap (λ (n : ℕ). past ++ events.Open n is.1 (openings.Refused is.2) ∷ []) hart in
        subst (λ (es : List Event). ShowInCounts folders es old now) (sym (whole ∙ one))
        (refusal_shows (ArePaths folders) folders (some_paths folders) is.0 is.1 is.2 old now rise (counted alone.1.0 alone.1.1 alone.1.2 is.1 is.2 mid_is))

-- one that comes to no events, or to a grant, opens nothing
other_opens : {w : Setting} {past : List Event} {h : ℕ} {b c : HartState} {did : Did} {r : Reply} → Answers w past h b c did r → (r ≡ reply.Events → ⊥) → OpenNothing (events_of did)
other_opens (Answers.by_events x) other = absurd (other refl)
other_opens (Answers.by_grant g o is hart offer leaves) other = subst (λ (d : Did). OpenNothing (events_of d)) (sym is) (refl, tt)
other_opens (Answers.by_block number offset block back at is has rests) other = subst (λ (d : Did). OpenNothing (events_of d)) (sym is) tt
other_opens (Answers.by_again call for is shows rests) other = subst (λ (d : Did). OpenNothing (events_of d)) (sym is) tt
other_opens (Answers.by_waiting for at is rests) other = subst (λ (d : Did). OpenNothing (events_of d)) (sym is) tt

pub other_shown : (folders : List (List ℕ)) (w : Setting) (past : List Event) (state : LinkTable) (h : ℕ) (b c : HartState) (spare : ℕ) (does : MemoryChange) (r : Reply) (old now : Counts) → Rise old now
    → Acts w past state h b c spare does r → (r ≡ reply.Events → ⊥) → ShowInCounts folders (drop (length past) state.events) old now
other_shown folders w past state h b c spare does r old now rise x other = none_shown folders past state.events (events_of x.did) old now rise x.are (other_opens x.answers other)

-- ---- a call that was answered

module _ (w : Setting) (state mid : LinkTable) (folders : List (List ℕ)) (files : Option (List File)) (id : ℕ) (b b' : HartState) (came : Answered)
    (answers : AnswersDue state folders files id (due (after state.events) b) came mid) (over : IsOver (machine_of state.harts) folders files w) (same : b' ≡ b) (harts : mid.harts ≡ state.harts) where
  pub was_answered : WasAnswered mid id b' came
  was_answered = record {
    setting = w;
    machine = over.machine ∙ ap machine_of (sym harts);
    past = state.events;
    answers = subst (λ (y : HartState). AnswersTurn w state.events mid.events mid.made id (due (after state.events) y) came) (sym same) (answers w over);
  }

-- an answer that is neither
pub other_meets : (past : List Event) (answer : Answer) (came : Answered) → ((o : Offered) → came ≡ answered.Granted o → ⊥) → ((for : Shown) → came ≡ answered.Again for → ⊥) → Meets past answer came
    → (is_again answer ≡ false) × (is_grant answer ≡ false)
other_meets past answer (answered.Returns value does) no_grant no_again m = m
other_meets past answer (answered.Loading root installs functions) no_grant no_again m = m
other_meets past answer (answered.Closing dying functions) no_grant no_again m = m
other_meets past answer (answered.Granted offered) no_grant no_again m = absurd (no_grant offered refl)
other_meets past answer (answered.Told text message) no_grant no_again m = m
other_meets past answer (answered.Again for) no_grant no_again m = absurd (no_again for refl)
other_meets past answer (answered.Over reason) no_grant no_again m = m

pub others_meet : {w : Setting} {past es : List Event} {made : Installs} {h : ℕ} {d : Due} {came : Answered} (t : AnswersTurn w past es made h d came) → ((o : Offered) → came ≡ answered.Granted o → ⊥)
    → ((for : Shown) → came ≡ answered.Again for → ⊥) → (is_again t.answer ≡ false) × (is_grant t.answer ≡ false)
others_meet {w} {past} {es} {made} {h} {d} {came} t no_grant no_again = other_meets past t.answer came no_grant no_again (meets past t.appended h made t.call t.answer came t.answered)

pub unlocated_is : (old mid : LinkTable) (h number : ℕ) (fault : TlsFault) → IsNotLocated old h number fault mid → mid ≡ old
unlocated_is old mid h number (tls.BadModule bad) none = none.is
unlocated_is old mid h number (tls.NoRoom pages) none = none.is
unlocated_is old mid h number tls.Memory none = none

pub unlocated_opens : (old mid new : LinkTable) (h number : ℕ) (fault : TlsFault) (reason : HartEnd) → IsNotLocated old h number fault mid → new ≡ appended mid (events.Ended h reason)
    → OpenNothing (drop (length old.events) new.events)
unlocated_opens old mid new h number fault reason none noted =
    subst OpenNothing (sym (ap (drop (length old.events)) (ap (λ (t : LinkTable). t.events) noted ∙ ap (λ (t : LinkTable). t.events ++ events.Ended h reason ∷ []) (unlocated_is old mid h number fault none))
    ∙ drop-append_seam old.events (events.Ended h reason ∷ []))) (refl, tt)

-- ---- a turn over a state that the turn before it left as it was

pub carried_due : (old mid : LinkTable) (b c : HartState) (d : Due) → mid ≡ old → c ≡ b → due (after mid.events) c ≡ d → due (after old.events) b ≡ d
carried_due old mid b c d same left is =
    sym (ap (λ (t : LinkTable). due (after t.events) c) same ∙ ap (λ (y : HartState). due (after old.events) y) left) ∙ is

pub carried_acts : (w : Setting) (old mid new : LinkTable) (h : ℕ) (a b c : HartState) (spare : ℕ) (does : MemoryChange) (answer : Reply) → mid ≡ old → b ≡ a
    → Acts w mid.events new h b c spare does answer → Acts w old.events new h a c spare does answer
carried_acts w old mid new h a b c spare does answer same left x =
    subst (λ (t : LinkTable). Acts w t.events new h a c spare does answer) same (subst (λ (y : HartState). Acts w mid.events new h y c spare does answer) left x)

pub carried_shown : (folders : List (List ℕ)) (old mid new : LinkTable) (before now : Counts) → mid ≡ old → ShowInCounts folders (drop (length mid.events) new.events) before now
    → ShowInCounts folders (drop (length old.events) new.events) before now
carried_shown folders old mid new before now same x = subst (λ (t : LinkTable). ShowInCounts folders (drop (length t.events) new.events) before now) same x

-- functions that have run show nothing in the counts
pub complete_shown : (folders : List (List ℕ)) (w : Setting) (past : List Event) (state : LinkTable) (h : ℕ) (b c : HartState) (d : Due) (counts : Counts) → is_complete d ≡ true
    → TakesService w past state.events state.made h d b c change.Nothing → ShowInCounts folders (drop (length past) state.events) counts counts
complete_shown folders w past state h b c d counts asks x =
    none_shown folders past state.events (events_of x.did) counts counts (record { faults = omega arith; misses = omega arith }) x.are
    (complete_opens w past state.events state.made h b c d asks x)

-- nor does a hart that waits still
pub waits_shown : (folders : List (List ℕ)) (old mid : LinkTable) (counts : Counts) → mid ≡ old → ShowInCounts folders (drop (length old.events) mid.events) counts counts
waits_shown folders old mid counts same =
    none_shown folders old.events mid.events [] counts counts (record { faults = omega arith; misses = omega arith }) (ap (λ (t : LinkTable). t.events) same ∙ sym (append-nil old.events)) tt
