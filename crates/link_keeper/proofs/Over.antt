-- A turn that was taken is handed over to its hart.
use Rattle.std.proofs.Common.{◌≡◌, ◌⊎◌, ⊎_elim, inl, inr, ℕ, ◌==◌, true, false, if◌then◌else◌, Bool, List, [], ◌∷◌, ◌++◌, length, map, Option, None, Some, refl, sym, ap, subst, ◌∙◌, append-nil}
use Rattle.std.specs.Prelude.{IsSome, find}
use Rattle.std.specs.Option.{is_some, option_map_or}
use Rattle.std.specs.List.{Contains}
use Rattle.std.proofs.lemmas.Bool.{eq-eqb}
use Rattle.ld_base.specs.declared.fault.Shown.{Shown}
use Rattle.history_event.specs.declared.event.Event.{Event}
use Rattle.history_event.specs.declared.event.Event.TheVariants as events
use Rattle.history_event.specs.declared.state.Module.{Module}
use Rattle.word_rule.specs.declared.entry.Entry.{Entry}
use Rattle.word_rule.specs.declared.view.HartView.{HartView}
use Rattle.word_rule.specs.declared.view.KeeperView.{KeeperView}
use Rattle.word_rule.specs.declared.view.TrailItem.{TrailItem}
use Rattle.word_rule.specs.declared.view.TrailItem.TheVariants.{Took}
use Rattle.history_state.specs.After.{after}
use Rattle.history_state.specs.Legal.{Legal}
use Rattle.history_state.specs.Lemmas.History.{after_push, legal_is_lawful, legal_push, one_behind}
use Rattle.history_state.specs.Lemmas.Lists.{first_or_later, found_in, none_in}
use Rattle.history_state.specs.Setting.{Setting}
use Rattle.history_state.specs.State.{State}
use Rattle.history_state.specs.Storage.{tls_block}
use Rattle.history_calls.specs.Call.{locates}
use Rattle.history_calls.specs.Gives.{HasBlock}
use Rattle.history_journal.specs.Following.{machine_of}
use Rattle.hart_fits.specs.Fits.{HartFits, IsBefore, IsInFinals}
use Rattle.hart_fits.specs.Lemmas.Owners.{owners_end}
use Rattle.hart_fits.specs.Lemmas.Waits.{waits_are_shown}
use Rattle.hart_fits.specs.Over.{RunningIsNotOver}
use Rattle.hart_linker.specs.Between.{HasGrant, IsAtRow}
use Rattle.hart_moves.specs.Due.{Due, Return, due}
use Rattle.hart_moves.specs.Harts.{HartState, Resolving}
use Rattle.hart_moves.specs.Lemmas.Legality.{allowed_split, turns_allowed, turns_own}
use Rattle.hart_moves.specs.Moves.{AreAllowed, Did, IsOffer, events_of, settled_resolving}
use Rattle.hart_moves.specs.Trails.{Located, beside_of, block_of, located_by}
use Rattle.hart_moves.specs.TurnEvents.Appends.{Appends, NoneEndsOrUnmaps}
use Rattle.hart_moves.specs.TurnEvents.Laws.{TurnsAppend}
use Rattle.hart_seat.specs.HartParts.Views.{offered_of}
use Rattle.hart_seat.specs.declared.hart_parts.due.Offered.{Offered}
use Rattle.hart_trails.specs.Entries.{again_entry, block_entry, entry_behind, module_of}
use Rattle.hart_trails.specs.Trails.{Leaves, Reads, took_behind}
use Rattle.link_state.specs.Table.{LinkTable}
use Rattle.tls_blocks.specs.Numbers.{module_at}
use Rattle.world_memory.specs.TurnAnswers.Changes.{Changes}
use Rattle.world_memory.specs.declared.turn_answers.answered.MemoryChange.{MemoryChange}
use Rattle.world_turns.specs.WorldEnds.Lemmas.Endings.{sparing_events}
use Rattle.kept_words.specs.Handed.{IsIssued}
use Rattle.kept_words.specs.Posting.{NewGrant, event_of, granting_of}
use Rattle.link_keeper.specs.Acting.{Answers, ComesToEvents, IsDone, is_storing, is_tls}
use Rattle.link_keeper.specs.Handing.{HasEvents, HasGrantEvent, IsPassed, MayHandOver, is_stored}
use Rattle.link_keeper.specs.Keeping.{WasOver}
use Rattle.link_keeper.specs.Serving.{IsHandedOver, IsTaken}
use Rattle.link_keeper.specs.declared.acting.Reply.{Reply}
use Rattle.link_keeper.specs.declared.acting.Reply.TheVariants as reply
use Rattle.link_keeper.proofs.Acted.{never}
use Rattle.link_keeper.proofs.Ending.{alone_of}
use Rattle.link_keeper.proofs.Rest.{Same, all_same}

-- ---- by what it was answered

as_events : {w : Setting} {past : List Event} {h : ℕ} {b c : HartState} {did : Did} {r : Reply} → Answers w past h b c did r → r ≡ reply.Events → ComesToEvents (due (after past) b) did c
as_events (Answers.by_events x) is = x
as_events (Answers.by_grant g o _ hart offer leaves) is = absurd (let bad : reply.Granted o ≡ reply.Events = is in cc)
as_events (Answers.by_block number offset block back at _ has done) is = absurd (let bad : reply.Block number block ≡ reply.Events = is in cc)
as_events (Answers.by_again call for _ shows done) is = absurd (let bad : reply.Again for ≡ reply.Events = is in cc)
as_events (Answers.by_waiting for at _ done) is = absurd (let bad : reply.Again for ≡ reply.Events = is in cc)

record IsGrant (past : List Event) (h : ℕ) (c : HartState) (did : Did) (o : Offered) : Type 0 where
  g : NewGrant
  is : did ≡ Did.serves [] (event_of g ∷ [])
  hart : g.hart ≡ h
  offer : IsOffer (after past) (granting_of g) (offered_of o)
  leaves : c.resolving ≡ Resolving.to_exchange (offered_of o)

as_grant : {w : Setting} {past : List Event} {h : ℕ} {b c : HartState} {did : Did} {r : Reply} (o : Offered) → Answers w past h b c did r → r ≡ reply.Granted o → IsGrant past h c did o
as_grant {w} {past} {h} {b} {c} {did} o (Answers.by_grant g other is hart offer leaves) at =
    let same : other ≡ o = (let both : reply.Granted other ≡ reply.Granted o = at in cc) in
    subst (IsGrant past h c did) same (record { g = g; is = is; hart = hart; offer = offer; leaves = leaves })
as_grant o (Answers.by_events x) at = absurd (let bad : reply.Events ≡ reply.Granted o = at in cc)
as_grant o (Answers.by_block number offset block back _ is has done) at = absurd (let bad : reply.Block number block ≡ reply.Granted o = at in cc)
as_grant o (Answers.by_again call for is shows done) at = absurd (let bad : reply.Again for ≡ reply.Granted o = at in cc)
as_grant o (Answers.by_waiting for _ is done) at = absurd (let bad : reply.Again for ≡ reply.Granted o = at in cc)

record IsBlock (past : List Event) (h : ℕ) (b c : HartState) (did : Did) (number block : ℕ) : Type 0 where
  offset : ℕ
  back : Return
  at : due (after past) b ≡ Due.serve (locates number offset) back
  is : did ≡ Did.serves [] []
  has : HasBlock (after past) h number block
  done : IsDone c

as_block : {w : Setting} {past : List Event} {h : ℕ} {b c : HartState} {did : Did} {r : Reply} (number block : ℕ) → Answers w past h b c did r → r ≡ reply.Block number block → IsBlock past h b c did number block
as_block {w} {past} {h} {b} {c} {did} number block (Answers.by_block n offset x back at is has done) same =
    let both : reply.Block n x ≡ reply.Block number block = same in
    let first : n ≡ number = cc in
    let second : x ≡ block = cc in
    subst (λ (m : ℕ). IsBlock past h b c did m block) first (subst (IsBlock past h b c did n) second (record { offset = offset; back = back; at = at; is = is; has = has; done = done }))
as_block number block (Answers.by_events x) same = absurd (let bad : reply.Events ≡ reply.Block number block = same in cc)
as_block number block (Answers.by_grant g o is hart offer leaves) same = absurd (let bad : reply.Granted o ≡ reply.Block number block = same in cc)
as_block number block (Answers.by_again call for is shows done) same = absurd (let bad : reply.Again for ≡ reply.Block number block = same in cc)
as_block number block (Answers.by_waiting for at is done) same = absurd (let bad : reply.Again for ≡ reply.Block number block = same in cc)

record IsAgain (w : Setting) (past : List Event) (h : ℕ) (c : HartState) (did : Did) (for : Shown) : Type 0 where
  is : did ≡ Did.waits for
  issued : IsIssued w past h (again_entry past for)
  done : IsDone c

as_again : {w : Setting} {past : List Event} {h : ℕ} {b c : HartState} {did : Did} {r : Reply} (for : Shown) → HartFits w past h b → Answers w past h b c did r → r ≡ reply.Again for
    → IsAgain w past h c did for
as_again {w} {past} {h} {b} {c} {did} for fits (Answers.by_again call other is shows done) same =
    let both : other ≡ for = (let all : reply.Again other ≡ reply.Again for = same in cc) in
    subst (IsAgain w past h c did) both (record { is = is; issued = IsIssued.of_again past [] call other (sym (append-nil past)) shows refl; done = done })
as_again {w} {past} {h} {b} {c} {did} for fits (Answers.by_waiting other at is done) same =
    let both : other ≡ for = (let all : reply.Again other ≡ reply.Again for = same in cc) in
    subst (IsAgain w past h c did) both (record { is = is; issued = IsIssued.of_wait past [] other (sym (append-nil past)) (waits_are_shown w past h b other fits.waits at) refl; done = done })
as_again for fits (Answers.by_events x) same = absurd (let bad : reply.Events ≡ reply.Again for = same in cc)
as_again for fits (Answers.by_grant g o is hart offer leaves) same = absurd (let bad : reply.Granted o ≡ reply.Again for = same in cc)
as_again for fits (Answers.by_block number offset block back at is has done) same = absurd (let bad : reply.Block number block ≡ reply.Again for = same in cc)

-- ---- before the last event of a turn its hart goes on

front_spares : (front : List Event) (e : Event) (rest all : List Event) → all ≡ front ++ e ∷ rest → NoneEndsOrUnmaps all → NoneEndsOrUnmaps front
front_spares [] e rest all is spares = tt
front_spares (x ∷ front) e rest all is spares =
    let whole : NoneEndsOrUnmaps (x ∷ (front ++ e ∷ rest)) = subst NoneEndsOrUnmaps is spares in
    (whole.0, front_spares front e rest (front ++ e ∷ rest) refl whole.1)

-- what is in front of an element of a list that ends so is in front of its end
front_of_end : (front before : List Event) (e x : Event) (rest : List Event) → before ++ x ∷ [] ≡ front ++ e ∷ rest → NoneEndsOrUnmaps before → NoneEndsOrUnmaps front
front_of_end [] before e x rest is spares = tt
front_of_end (y ∷ front) [] e x rest is spares = absurd (short front (let both : x ∷ [] ≡ y ∷ (front ++ e ∷ rest) = is in let behind : [] ≡ front ++ e ∷ rest = cc in behind))
  where
    short : (front : List Event) → [] ≡ front ++ e ∷ rest → ⊥
    short [] bad = let is : [] ≡ e ∷ rest = bad in cc
    short (z ∷ zs) bad = let is : [] ≡ z ∷ (zs ++ e ∷ rest) = bad in cc
front_of_end (y ∷ front) (z ∷ before) e x rest is spares =
    let both : z ∷ (before ++ x ∷ []) ≡ y ∷ (front ++ e ∷ rest) = is in
    let behind : before ++ x ∷ [] ≡ front ++ e ∷ rest = cc in
    let same : z ≡ y = cc in
    ((subst (λ (d : Event). NoneEndsOrUnmaps (d ∷ [])) same (spares.0, tt)).0, front_of_end front before e x rest behind spares.1)

front_goes_on : (past : List Event) (h : ℕ) (b c : HartState) (did : Did) (front : List Event) (e : Event) (rest : List Event) → Appends past h b did c → events_of did ≡ front ++ e ∷ rest → NoneEndsOrUnmaps front
front_goes_on past h b c did front e rest (Appends.no_end spares same) is = front_spares front e rest (events_of did) is spares
front_goes_on past h b c did front e rest (Appends.unmapping set are same) is = front_of_end front [] e (events.Unmapped h set) rest (sym are ∙ is) tt
front_goes_on past h b c did front e rest (Appends.an_end before reason spares are same) is = front_of_end front before e (events.Ended h reason) rest (sym are ∙ is) spares
front_goes_on past h b c did front e rest (Appends.after_finals code spares finals same all) is = front_spares front e rest (events_of did) is spares

legal_on : (w : Setting) (past more : List Event) → Legal w past → AreAllowed w past more → Legal w (past ++ more)
legal_on w past [] legal may = subst (Legal w) (sym (append-nil past)) legal
legal_on w past (e ∷ rest) legal may = subst (Legal w) (one_behind past e rest) (legal_on w (past ++ e ∷ []) rest (legal_push w past e legal may.0) may.1)

-- ---- the entries of events and blocks

stored_tls : (past : List Event) (e : Event) → is_stored (entry_behind past e) ≡ true → is_tls e ≡ true
unfolding module_of
stored_tls past (events.Open hart ask answer) is = never is
stored_tls past (events.Close hart handle answer) is = never is
stored_tls past (events.Unmapped hart set) is = never is
stored_tls past (events.Grant number hart owner slot choice value) is = never is
stored_tls past (events.Bound number) is = never is
stored_tls past (events.Lost number saw) is = never is
stored_tls past (events.Unresolved hart owner slot choice) is = never is
stored_tls past (events.Sym hart ask answer) is = never is
stored_tls past (events.Tls hart owner address) is = refl
stored_tls past (events.Init hart object) is = never is
stored_tls past (events.Fini hart object) is = never is
stored_tls past (events.Wrote hart bytes) is = never is
stored_tls past (events.Told hart fault) is = never is
stored_tls past (events.Ended hart reason) is = never is

-- a module that is there is found by its number
found_by : (modules : List Module) (m : Module) → Contains modules m → IsSome (module_at modules m.number)
found_by [] m there = absurd (none_in m there)
found_by (x ∷ rest) m there = ⊎_elim
    (λ (same : x ≡ m).
    subst IsSome (sym (ap (λ (t : Bool). if t then Some x else find (λ (y : Module). y.number == m.number) rest) (eq-eqb x.number m.number (ap (λ (y : Module). y.number) same)))) refl)
    (λ (later : Contains rest m). by (x.number == m.number) (found_by rest m later))
    (first_or_later x rest m there)
  where
    by : (t : Bool) → IsSome (module_at rest m.number) → IsSome (if t then Some x else module_at rest m.number)
    by true some = refl
    by false some = some

not_zero : (slot : ℕ) → (if slot == 0 then false else true) ≡ true → (slot == 0) ≡ false
not_zero slot is = by (slot == 0) refl
  where
    by : (t : Bool) → (slot == 0) ≡ t → t ≡ false
    by false at = refl
    by true at = never (sym (ap (λ (u : Bool). if u then false else true) at) ∙ is)

-- the module of a new block
module_found : (modules : List Module) (owner : ℕ) (slot : ℕ) → slot ≡ option_map_or (λ m. m.number) (find (λ m. m.serial == owner) modules) 0 → (slot == 0) ≡ false → IsSome (module_at modules slot)
module_found modules owner slot is some = by (find (λ m. m.serial == owner) modules) refl
  where
    by : (o : Option Module) → find (λ m. m.serial == owner) modules ≡ o → IsSome (module_at modules slot)
    by None none =
        let zero : slot ≡ 0 = is ∙ ap (λ (o : Option Module). option_map_or (λ m. m.number) o 0) none in
        never (sym some ∙ eq-eqb slot 0 zero)
    by (Some m) at =
        subst (λ (n : ℕ). IsSome (module_at modules n)) (sym (is ∙ ap (λ (o : Option Module). option_map_or (λ m. m.number) o 0) at)) (found_by modules m (found_in (λ (x : Module). x.serial == owner) modules m at).0)

located : (s : State) (h number block : ℕ) → HasBlock s h number block → block_of s h number ≡ Some (record { number = number; block = block })
located s h number block has =
    ap (λ (m : Option Module). elim m [
      | Some x ↦ elim (tls_block s h x.serial) [ Some b ↦ Some (record { number = number; block = b }) | None ↦ None ]
      | None ↦ None
    ]) has.there
    ∙ ap (λ (o : Option ℕ). elim o [ Some b ↦ Some (record { number = number; block = b }) | None ↦ None ]) has.is

at_row : (h : HartView) (r : Resolving) → settled_resolving r ≡ Resolving.idle → h.lane.calling ≡ false → IsAtRow h r
at_row h Resolving.idle is calling = calling
at_row h (Resolving.to_exchange o) is calling = absurd (let bad : Resolving.to_exchange o ≡ Resolving.idle = is in cc)
at_row h (Resolving.to_finish o found) is calling = absurd (let bad : Resolving.to_finish o found ≡ Resolving.idle = is in cc)
at_row h (Resolving.to_settle o found) is calling = calling

-- what is asked of an entry that is no event's: it is this one
pub record IsAsked (w : Setting) (k : KeeperView) (id : ℕ) (entry its : Entry) : Type 0 where
  pub is : entry ≡ its
  pub mark : (entry.mark ≡ 2) ⊎ (entry.mark ≡ 6)
  pub number : entry.number ≡ length k.events
  pub generation : entry.generation ≡ k.generation
  pub issued : IsIssued w k.events id entry

-- ---- the turn

module _ (not_over : RunningIsNotOver) (append : TurnsAppend) (w : Setting) (begun : List Event) (t : LinkTable) (k : KeeperView) (h : HartView) (id : ℕ) (b c : HartState) (spare : ℕ) (does : MemoryChange) (answer : Reply)
    (on : w.machine ≡ machine_of t.harts) (hand : MayHandOver w begun k h id) (turn : IsTaken w t k id b c spare does answer) where
  abbrev did : Did
  did = turn.acts.did

  allowed : AreAllowed w k.events (events_of turn.acts.did)
  allowed = turns_allowed w k.events id b c turn.acts.did turn.acts.moves

  alone : WasOver w k.events → id ≡ 0
  alone = alone_of not_over w begun k id b hand.view turn.fits turn.runs

  -- so it is before each of its events
  alone_in : (front rest : List Event) (e : Event) → events_of turn.acts.did ≡ front ++ e ∷ rest → WasOver w (k.events ++ front) → id ≡ 0
  alone_in front rest e split was =
      let spares : NoneEndsOrUnmaps front = front_goes_on k.events id b c turn.acts.did front e rest (append w k.events id b c turn.acts.did turn.acts.moves) split in
      let ends = sparing_events k.events front spares in
      let may = (allowed_split w k.events front (e ∷ rest) (subst (AreAllowed w k.events) split allowed)).0 in
      ⊎_elim
      (λ (yet : IsBefore k.events id b).
      absurd (not_over w (k.events ++ front) id (legal_is_lawful w (k.events ++ front) (legal_on w k.events front hand.view.kept.legal may)) hand.low
      (λ x there. owners_end w k.events hand.view.kept.own x (subst (λ es. Contains es x) ends there))
      (λ there. yet.runs turn.runs (subst (λ es. Contains (map (λ x. x.hart) es) id) ends there)) was.0 was.1 was.2 was.3))
      (λ (last : IsInFinals w k.events id b). last.first)
      turn.fits.place

  -- ---- events

  module _ (is : answer ≡ reply.Events) where
    abbrev x : ComesToEvents (due (after k.events) b) turn.acts.did c
    x = as_events turn.acts.answers is

    own_is : events_of turn.acts.did ≡ (as_events turn.acts.answers is).first ∷ (as_events turn.acts.answers is).rest
    own_is = ap events_of (as_events turn.acts.answers is).is

    has_events : HasEvents w t k id (as_events turn.acts.answers is).first (as_events turn.acts.answers is).rest does
    has_events = record {
      machine = on;
      ahead = turn.acts.are ∙ ap (λ (es : List Event). k.events ++ es) own_is;
      plain = x.plain;
      quiet = x.quiet;
      of = λ e there. turns_own w k.events id b c turn.acts.did turn.acts.moves e (subst (λ (es : List Event). Contains es e) (sym own_is) there);
      may = subst (AreAllowed w k.events) own_is allowed;
      alone = λ front behind e split was. alone_in front behind e (own_is ∙ split) was;
      changes = subst (λ (es : List Event). Changes (after k.events) es t.made does) own_is turn.acts.changes;
    }

    pub events_given : (e : Event) × (rest : List Event) × HasEvents w t k id e rest does
    events_given = ((as_events turn.acts.answers is).first, (as_events turn.acts.answers is).rest, has_events)

    module _ (l : KeeperView) (i : HartView) (entry : Entry)
        (passed : IsPassed w begun k l h i ((as_events turn.acts.answers is).first ∷ (as_events turn.acts.answers is).rest)
        (took_behind k.events ((as_events turn.acts.answers is).first ∷ (as_events turn.acts.answers is).rest)) entry)
        (entry_is : entry ≡ entry_behind k.events (as_events turn.acts.answers is).first) (idle : i.lane.calling ≡ false) where
      stays : Same (after (k.events ++ x.first ∷ [])) (after l.events)
      stays = subst (λ (es : List Event). Same (after (k.events ++ x.first ∷ [])) (after es)) (one_behind k.events x.first x.rest ∙ sym passed.events) (all_same (k.events ++ x.first ∷ []) x.rest x.quiet)

      leaves : (read : List TrailItem) → Reads (after k.events) b read → Leaves k.events b (beside_of k.events id b turn.acts.did) turn.acts.did (read ++ took_behind k.events (x.first ∷ x.rest))
      leaves read reads = subst (λ (d : Did). Leaves k.events b (beside_of k.events id b turn.acts.did) d (read ++ took_behind k.events (x.first ∷ x.rest))) (sym x.is)
          (subst (λ (front : List TrailItem). Leaves k.events b (beside_of k.events id b turn.acts.did) (Did.serves [] (x.first ∷ x.rest)) (front ++ took_behind k.events (x.first ∷ x.rest))) (append-nil read)
          (Leaves.entries [] x.first x.rest read reads))

      stores : is_stored entry ≡ true → is_tls x.first ≡ true
      stores stored = stored_tls k.events x.first (sym (ap is_stored entry_is) ∙ stored)

      there_of : (e : Event) → is_stored (entry_behind k.events e) ≡ true → is_tls e ≡ true → IsSome (module_at (after (k.events ++ e ∷ [])).modules (module_of (after k.events) e))
      unfolding module_of
      there_of (events.Tls hart owner address) stored tls =
          subst (λ (s : State). IsSome (module_at s.modules (module_of (after k.events) (events.Tls hart owner address)))) (sym (after_push k.events (events.Tls hart owner address)))
          (module_found (after k.events).modules owner (module_of (after k.events) (events.Tls hart owner address)) refl (not_zero (module_of (after k.events) (events.Tls hart owner address)) stored))
      there_of (events.Open hart ask answer) stored tls = never tls
      there_of (events.Close hart handle answer) stored tls = never tls
      there_of (events.Unmapped hart set) stored tls = never tls
      there_of (events.Grant number hart owner slot choice value) stored tls = never tls
      there_of (events.Bound number) stored tls = never tls
      there_of (events.Lost number saw) stored tls = never tls
      there_of (events.Unresolved hart owner slot choice) stored tls = never tls
      there_of (events.Sym hart ask answer) stored tls = never tls
      there_of (events.Init hart object) stored tls = never tls
      there_of (events.Fini hart object) stored tls = never tls
      there_of (events.Wrote hart bytes) stored tls = never tls
      there_of (events.Told hart fault) stored tls = never tls
      there_of (events.Ended hart reason) stored tls = never tls

      events_are_over : IsHandedOver w begun k l h i id b c turn.acts.did spare entry
      events_are_over = record {
        items = took_behind k.events (x.first ∷ x.rest);
        passed = subst (λ (es : List Event). IsPassed w begun k l h i es (took_behind k.events (x.first ∷ x.rest)) entry) (sym own_is) passed;
        row = at_row i c.resolving x.rests idle;
        leaves = leaves;
        generation = ap (λ (y : Entry). y.generation) entry_is ∙ sym stays.generation;
        room = λ stored. turn.acts.room (ap (is_storing turn.acts.did) is ∙ ap (λ (d : Did). is_storing d reply.Events) x.is ∙ stores stored);
        there = λ stored.
            subst (λ (modules : List Module). IsSome (module_at modules entry.slot)) (sym stays.modules)
            (subst (λ (n : ℕ). IsSome (module_at (after (k.events ++ x.first ∷ [])).modules n)) (ap (λ (y : Entry). y.slot) (sym entry_is))
            (there_of x.first (sym (ap is_stored entry_is) ∙ stored) (stores stored)));
      }

    pub events_over : (l : KeeperView) (i : HartView) (entry : Entry)
        → ((e : Event) (rest : List Event) → HasEvents w t k id e rest does → IsPassed w begun k l h i (e ∷ rest) (took_behind k.events (e ∷ rest)) entry)
        → ((e : Event) (rest : List Event) → HasEvents w t k id e rest does → entry ≡ entry_behind k.events e) → i.lane.calling ≡ false
        → IsHandedOver w begun k l h i id b c turn.acts.did spare entry
    events_over l i entry passed entry_is idle = events_are_over l i entry
        (passed (as_events turn.acts.answers is).first (as_events turn.acts.answers is).rest has_events)
        (entry_is (as_events turn.acts.answers is).first (as_events turn.acts.answers is).rest has_events) idle

  -- ---- a grant

  module _ (o : Offered) (is : answer ≡ reply.Granted o) where
    grant_own : events_of turn.acts.did ≡ event_of (as_grant o turn.acts.answers is).g ∷ []
    grant_own = ap events_of (as_grant o turn.acts.answers is).is

    has_grant_event : HasGrantEvent w t k id (as_grant o turn.acts.answers is).g (offered_of o)
    has_grant_event = record {
      machine = on;
      ahead = turn.acts.are ∙ ap (λ (es : List Event). k.events ++ es) grant_own;
      hart = (as_grant o turn.acts.answers is).hart;
      may = (subst (AreAllowed w k.events) grant_own allowed).0;
      offer = (as_grant o turn.acts.answers is).offer;
      alone = alone;
    }

    grant_is_over : (l : KeeperView) (i : HartView) (entry : Entry) → IsPassed w begun k l h i (event_of (as_grant o turn.acts.answers is).g ∷ []) [] entry → HasGrant i (offered_of o) → entry.mark ≡ 3
        → entry.generation ≡ k.generation → IsHandedOver w begun k l h i id b c turn.acts.did spare entry
    grant_is_over l i entry passed grant mark generation =
        let g : NewGrant = (as_grant o turn.acts.answers is).g in
        let plain : is_stored entry ≡ false = ap (λ (m : ℕ). if m == 2 then true else (if m == 1 then (if entry.slot == 0 then false else true) else false)) mark in
        record {
          items = [];
          passed = subst (λ (es : List Event). IsPassed w begun k l h i es [] entry) (sym grant_own) passed;
          row = subst (IsAtRow i) (sym (as_grant o turn.acts.answers is).leaves) grant;
          leaves = λ read reads. subst (λ (d : Did). Leaves k.events b (beside_of k.events id b turn.acts.did) d (read ++ [])) (sym (as_grant o turn.acts.answers is).is)
              (subst (λ (front : List TrailItem). Leaves k.events b (beside_of k.events id b turn.acts.did) (Did.serves [] (event_of g ∷ [])) (front ++ [])) (append-nil read)
              (Leaves.entries [] (event_of g) [] read reads));
          generation = generation ∙ hand.view.kept.generation
              ∙ sym (ap (λ (es : List Event). (after es).generation) passed.events ∙ ap (λ (s : State). s.generation) (after_push k.events (event_of g)));
          room = λ stored. never (sym plain ∙ stored);
          there = λ stored. never (sym plain ∙ stored);
        }

    pub grant_given : (g : NewGrant) × HasGrantEvent w t k id g (offered_of o)
    grant_given = ((as_grant o turn.acts.answers is).g, has_grant_event)

    pub grant_over : (l : KeeperView) (i : HartView) (entry : Entry)
        → ((g : NewGrant) → HasGrantEvent w t k id g (offered_of o) → IsPassed w begun k l h i (event_of g ∷ []) [] entry) → HasGrant i (offered_of o) → entry.mark ≡ 3
        → entry.generation ≡ k.generation → IsHandedOver w begun k l h i id b c turn.acts.did spare entry
    grant_over l i entry passed grant mark generation =
        grant_is_over l i entry (passed (as_grant o turn.acts.answers is).g has_grant_event) grant mark generation

  -- ---- no event

  journal_is : events_of turn.acts.did ≡ [] → t.events ≡ k.events
  journal_is empty = turn.acts.are ∙ ap (λ (es : List Event). k.events ++ es) empty ∙ append-nil k.events

  module _ (number block : ℕ) (is : answer ≡ reply.Block number block) where
    abbrev y : IsBlock k.events id b c turn.acts.did number block
    y = as_block number block turn.acts.answers is

    block_journal : t.events ≡ k.events
    block_journal = journal_is (ap events_of y.is)

    l_is : Located
    l_is = record { number = number; block = block }

    block_is_issued : IsIssued w k.events id (block_entry k.events (record { number = number; block = block }))
    block_is_issued = IsIssued.of_block k.events [] (record { number = number; block = block }) (sym (append-nil k.events)) (located (after k.events) id number block y.has) refl

    beside_is : (beside_of k.events id b turn.acts.did).located ≡ Some (record { number = number; block = block })
    beside_is = ap (λ (d : Did). (beside_of k.events id b d).located) y.is
        ∙ ap (λ (d : Due). located_by (after (k.events ++ [])) id d []) y.at
        ∙ ap (λ (es : List Event). block_of (after es) id number) (append-nil k.events) ∙ located (after k.events) id number block y.has

    block_is_over : (l : KeeperView) (i : HartView) (entry : Entry) → entry ≡ block_entry k.events (record { number = number; block = block }) → IsPassed w begun k l h i [] (Took entry ∷ []) entry
        → i.lane.calling ≡ false → IsHandedOver w begun k l h i id b c turn.acts.did spare entry
    block_is_over l i entry entry_is passed idle =
        let events_are : l.events ≡ k.events = passed.events ∙ append-nil k.events in
        record {
          items = Took entry ∷ [];
          passed = subst (λ (es : List Event). IsPassed w begun k l h i es (Took entry ∷ []) entry) (sym (ap events_of y.is)) passed;
          row = at_row i c.resolving y.done idle;
          leaves = λ read reads. subst (λ (d : Did). Leaves k.events b (beside_of k.events id b turn.acts.did) d (read ++ Took entry ∷ [])) (sym y.is)
              (subst (λ (z : Entry). Leaves k.events b (beside_of k.events id b turn.acts.did) (Did.serves [] []) (read ++ Took z ∷ [])) (sym entry_is)
              (Leaves.answers (record { number = number; block = block }) read beside_is reads));
          generation = ap (λ (z : Entry). z.generation) entry_is ∙ ap (λ (es : List Event). (after es).generation) (sym events_are);
          room = λ stored. turn.acts.room (ap (is_storing turn.acts.did) is);
          there = λ stored.
              subst (λ (es : List Event). IsSome (module_at (after es).modules entry.slot)) (sym events_are)
              (subst (λ (n : ℕ). IsSome (module_at (after k.events).modules n)) (ap (λ (z : Entry). z.slot) (sym entry_is)) (ap is_some y.has.there));
        }

    pub block_asked : (entry : Entry) → entry ≡ block_entry t.events (record { number = number; block = block })
        → IsAsked w k id entry (block_entry k.events (record { number = number; block = block }))
    block_asked entry is =
        let own : entry ≡ block_entry k.events (record { number = number; block = block }) =
        is ∙ ap (λ (es : List Event). block_entry es (record { number = number; block = block })) block_journal in
        record {
          is = own;
          mark = inl (ap (λ (e : Entry). e.mark) own);
          number = ap (λ (e : Entry). e.number) own;
          generation = ap (λ (e : Entry). e.generation) own ∙ sym hand.view.kept.generation;
          issued = subst (IsIssued w k.events id) (sym own) block_is_issued;
        }

    pub block_over : (l : KeeperView) (i : HartView) (entry last : Entry) → entry ≡ block_entry t.events (record { number = number; block = block }) → last ≡ entry
        → IsPassed w begun k l h i [] (Took entry ∷ []) entry → i.lane.calling ≡ false → IsHandedOver w begun k l h i id b c turn.acts.did spare last
    block_over l i entry last is same passed idle =
        subst (IsHandedOver w begun k l h i id b c turn.acts.did spare) (sym same)
        (block_is_over l i entry (is ∙ ap (λ (es : List Event). block_entry es (record { number = number; block = block })) block_journal) passed idle)

  module _ (for : Shown) (is : answer ≡ reply.Again for) where
    abbrev z : IsAgain w k.events id c turn.acts.did for
    z = as_again for turn.fits turn.acts.answers is

    again_journal : t.events ≡ k.events
    again_journal = journal_is (ap events_of z.is)

    again_is_issued : IsIssued w k.events id (again_entry k.events for)
    again_is_issued = z.issued

    again_is_over : (l : KeeperView) (i : HartView) (entry : Entry) → entry ≡ again_entry k.events for → IsPassed w begun k l h i [] (Took entry ∷ []) entry → i.lane.calling ≡ false
        → IsHandedOver w begun k l h i id b c turn.acts.did spare entry
    again_is_over l i entry entry_is passed idle =
        let events_are : l.events ≡ k.events = passed.events ∙ append-nil k.events in
        record {
          items = Took entry ∷ [];
          passed = subst (λ (es : List Event). IsPassed w begun k l h i es (Took entry ∷ []) entry) (sym (ap events_of z.is)) passed;
          row = at_row i c.resolving z.done idle;
          leaves = λ read reads. subst (λ (d : Did). Leaves k.events b (beside_of k.events id b turn.acts.did) d (read ++ Took entry ∷ [])) (sym z.is)
              (subst (λ (e : Entry). Leaves k.events b (beside_of k.events id b turn.acts.did) (Did.waits for) (read ++ Took e ∷ [])) (sym entry_is) (Leaves.tries_again for read reads));
          generation = ap (λ (e : Entry). e.generation) entry_is ∙ ap (λ (es : List Event). (after es).generation) (sym events_are);
          room = λ stored. never (sym (ap is_stored entry_is) ∙ stored);
          there = λ stored. never (sym (ap is_stored entry_is) ∙ stored);
        }

    pub again_asked : (entry : Entry) → entry ≡ again_entry t.events for → IsAsked w k id entry (again_entry k.events for)
    again_asked entry is =
        let own : entry ≡ again_entry k.events for = is ∙ ap (λ (es : List Event). again_entry es for) again_journal in
        record {
          is = own;
          mark = inr (ap (λ (e : Entry). e.mark) own);
          number = ap (λ (e : Entry). e.number) own;
          generation = ap (λ (e : Entry). e.generation) own ∙ sym hand.view.kept.generation;
          issued = subst (IsIssued w k.events id) (sym own) again_is_issued;
        }

    pub again_over : (l : KeeperView) (i : HartView) (entry last : Entry) → entry ≡ again_entry t.events for → last ≡ entry → IsPassed w begun k l h i [] (Took entry ∷ []) entry
        → i.lane.calling ≡ false → IsHandedOver w begun k l h i id b c turn.acts.did spare last
    again_over l i entry last is same passed idle =
        subst (IsHandedOver w begun k l h i id b c turn.acts.did spare) (sym same)
        (again_is_over l i entry (is ∙ ap (λ (es : List Event). again_entry es for) again_journal) passed idle)
