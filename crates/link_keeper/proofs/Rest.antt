-- The events of a turn are passed, one after another.
use Rattle.std.proofs.Common.{◌≡◌, ◌⊎◌, ⊎_elim, inl, ℕ, ◌+◌, ◌<◌, ◌≤◌, true, false, List, [], ◌∷◌, ◌++◌, length, length-append, drop, Option, None, Some, Bool, get_or, if◌then◌else◌, refl, sym, ap, subst, ◌∙◌, append-nil, append_assoc, arith}
use Rattle.std.proofs.Math.Seq.{drop-append_seam}
use Rattle.std.specs.List.{Contains}
use Rattle.std.proofs.lemmas.Bool.{false≢true}
use Rattle.std.proofs.lemmas.List.Elements.{Contains-append_cases}
use Rattle.ld_base.specs.declared.fault.DlFault.{DlFault}
use Rattle.history_event.specs.declared.event.CloseAnswer.TheVariants as closes
use Rattle.history_event.specs.declared.event.Event.{Event}
use Rattle.history_event.specs.declared.event.Event.TheVariants as events
use Rattle.history_event.specs.declared.event.OpenAnswer.TheVariants as opens
use Rattle.history_event.specs.declared.event.Range.{Range}
use Rattle.history_event.specs.declared.event.SymAnswer.TheVariants as syms
use Rattle.history_event.specs.declared.state.Granting.{Granting}
use Rattle.history_event.specs.declared.state.Module.{Module}
use Rattle.word_rule.specs.declared.entry.Entry.{Entry}
use Rattle.word_rule.specs.declared.view.HartView.{HartView}
use Rattle.word_rule.specs.declared.view.KeeperView.{KeeperView}
use Rattle.word_rule.specs.declared.view.Offer.{Offer}
use Rattle.word_rule.specs.declared.view.Row.{Row}
use Rattle.word_rule.specs.declared.view.TrailItem.{TrailItem}
use Rattle.word_rule.specs.declared.view.TrailItem.TheVariants.{Took}
use Rattle.word_rule.specs.KeeperSteps.{awaited_if, handed}
use Rattle.word_rule.specs.Layout.{harts_at_most}
use Rattle.word_rule.specs.Views.{IsLong, known_of, row_of}
use Rattle.word_steps.specs.Knowing.{counted}
use Rattle.slot_bind.specs.Rows.{begun, handed_over, row_with}
use Rattle.history_state.specs.After.{after}
use Rattle.history_state.specs.Allowed.{Allowed}
use Rattle.history_state.specs.Lemmas.History.{after_push, one_behind}
use Rattle.history_state.specs.Lemmas.Lists.{here, later, none_in, only_in}
use Rattle.history_state.specs.Setting.{Setting}
use Rattle.history_state.specs.State.{State}
use Rattle.history_state.specs.Step.{die, initialise, loaded, lower, step}
use Rattle.history_calls.specs.Laws.{hart_of}
use Rattle.link_state.specs.Granting.{HasOpenGrant}
use Rattle.link_state.specs.Table.{LinkTable}
use Rattle.hart_trails.specs.Entries.{answered, entry_behind, module_of}
use Rattle.hart_moves.specs.Moves.{AreAllowed}
use Rattle.hart_trails.specs.Trails.{is_granting, took_behind, took_by}
use Rattle.kept_words.specs.Keeping.{AlikeKept, AwaitedIsAlike, IsAlike, QuietKept}
use Rattle.kept_words.specs.Kept.{AreKept}
use Rattle.kept_words.specs.Staying.{EventsStay, leaves_memory, number_in}
use Rattle.link_keeper.proofs.Kept.{inside, later_number, row_field}
use Rattle.link_keeper.specs.Entering.{AnswersBy, AreQuiet, EntersAt, ModuleBy}
use Rattle.link_keeper.specs.Keeping.{FirstGoesOn, KeepsView, WasOver}
use Rattle.link_keeper.specs.Passing.{AreLeft, HasPassed, InStep, IsNext, IsNextEntry, IsPassing, PassesNext, left_of, took}
use Rattle.link_keeper.proofs.Settled.{first_goes_on}

-- ---- quiet events

-- they leave the generation, modules and pages
pub record Same (s t : State) : Type 0 where
  pub generation : t.generation ≡ s.generation
  pub modules : t.modules ≡ s.modules
  pub ranges : t.ranges ≡ s.ranges

same : (s : State) → Same s s
same s = record { generation = refl; modules = refl; ranges = refl }

one_same : (s : State) (e : Event) → leaves_memory e ≡ true → Same s (step s e)
unfolding loaded die lower initialise
one_same s (events.Open hart ask (opens.Done id root added ranges)) leaves = absurd (false≢true leaves)
one_same s (events.Open hart ask opens.Absent) leaves = record { generation = refl; modules = refl; ranges = refl }
one_same s (events.Open hart ask (opens.Refused fault)) leaves = record { generation = refl; modules = refl; ranges = refl }
one_same s (events.Close hart handle (closes.Done set)) leaves = record { generation = refl; modules = refl; ranges = refl }
one_same s (events.Close hart handle (closes.Refused fault)) leaves = record { generation = refl; modules = refl; ranges = refl }
one_same s (events.Unmapped hart set) leaves = absurd (false≢true leaves)
one_same s (events.Grant number hart owner slot choice value) leaves = absurd (false≢true leaves)
one_same s (events.Bound number) leaves = absurd (false≢true leaves)
one_same s (events.Lost number saw) leaves = absurd (false≢true leaves)
one_same s (events.Unresolved hart owner slot choice) leaves = record { generation = refl; modules = refl; ranges = refl }
one_same s (events.Sym hart ask (syms.Found serial index value)) leaves = record { generation = refl; modules = refl; ranges = refl }
one_same s (events.Sym hart ask (syms.Refused fault)) leaves = record { generation = refl; modules = refl; ranges = refl }
one_same s (events.Tls hart owner address) leaves = absurd (false≢true leaves)
one_same s (events.Init hart object) leaves = record { generation = refl; modules = refl; ranges = refl }
one_same s (events.Fini hart object) leaves = record { generation = refl; modules = refl; ranges = refl }
one_same s (events.Wrote hart bytes) leaves = record { generation = refl; modules = refl; ranges = refl }
one_same s (events.Told hart fault) leaves = record { generation = refl; modules = refl; ranges = refl }
one_same s (events.Ended hart reason) leaves = record { generation = refl; modules = refl; ranges = refl }

pub all_same : (past rest : List Event) → AreQuiet rest → Same (after past) (after (past ++ rest))
all_same past [] quiet = subst (λ (es : List Event). Same (after past) (after es)) (sym (append-nil past)) (same (after past))
all_same past (e ∷ rest) quiet =
    let one : Same (after past) (after (past ++ e ∷ [])) = subst (Same (after past)) (sym (after_push past e)) (one_same (after past) e quiet.0) in
    let more : Same (after (past ++ e ∷ [])) (after ((past ++ e ∷ []) ++ rest)) = all_same (past ++ e ∷ []) rest quiet.1 in
    subst (λ (es : List Event). Same (after past) (after es)) (one_behind past e rest)
    (record { generation = more.generation ∙ one.generation; modules = more.modules ∙ one.modules; ranges = more.ranges ∙ one.ranges })

pub no_grant : (e : Event) → leaves_memory e ≡ true → is_granting e ≡ false
no_grant (events.Open hart ask answer) leaves = refl
no_grant (events.Close hart handle answer) leaves = refl
no_grant (events.Unmapped hart set) leaves = refl
no_grant (events.Grant number hart owner slot choice value) leaves = absurd (false≢true leaves)
no_grant (events.Bound number) leaves = refl
no_grant (events.Lost number saw) leaves = refl
no_grant (events.Unresolved hart owner slot choice) leaves = refl
no_grant (events.Sym hart ask answer) leaves = refl
no_grant (events.Tls hart owner address) leaves = refl
no_grant (events.Init hart object) leaves = refl
no_grant (events.Fini hart object) leaves = refl
no_grant (events.Wrote hart bytes) leaves = refl
no_grant (events.Told hart fault) leaves = refl
no_grant (events.Ended hart reason) leaves = refl

pub no_module : (s : State) (e : Event) → leaves_memory e ≡ true → module_of s e ≡ 0
unfolding module_of
no_module s (events.Open hart ask answer) leaves = refl
no_module s (events.Close hart handle answer) leaves = refl
no_module s (events.Unmapped hart set) leaves = refl
no_module s (events.Grant number hart owner slot choice value) leaves = refl
no_module s (events.Bound number) leaves = refl
no_module s (events.Lost number saw) leaves = refl
no_module s (events.Unresolved hart owner slot choice) leaves = refl
no_module s (events.Sym hart ask answer) leaves = refl
no_module s (events.Tls hart owner address) leaves = absurd (false≢true leaves)
no_module s (events.Init hart object) leaves = refl
no_module s (events.Fini hart object) leaves = refl
no_module s (events.Wrote hart bytes) leaves = refl
no_module s (events.Told hart fault) leaves = refl
no_module s (events.Ended hart reason) leaves = refl

-- ---- trails

took_by_one : (past : List Event) (e : Event) → is_granting e ≡ false → took_by past e ≡ Took (entry_behind past e) ∷ []
took_by_one past e none = ap (λ (b : Bool). if b then [] else Took (entry_behind past e) ∷ []) none

pub took_one : (past : List Event) (e : Event) → is_granting e ≡ false → took_behind past (e ∷ []) ≡ Took (entry_behind past e) ∷ []
took_one past e none = append-nil (took_by past e) ∙ took_by_one past e none

pub took_both : (past one other : List Event) → took_behind past (one ++ other) ≡ took_behind past one ++ took_behind (past ++ one) other
took_both past [] other = ap (λ (es : List Event). took_behind es other) (sym (append-nil past))
took_both past (e ∷ rest) other =
    ap (λ (items : List TrailItem). took_by past e ++ items)
    (took_both (past ++ e ∷ []) rest other ∙ ap (λ (es : List Event). took_behind (past ++ e ∷ []) rest ++ took_behind es other) (one_behind past e rest))
    ∙ sym (append_assoc (took_by past e) (took_behind (past ++ e ∷ []) rest) (took_behind (past ++ e ∷ rest) other))

-- ---- what is left

pub left_is : (journal past own : List Event) → journal ≡ past ++ own → drop (length past) journal ≡ own
left_is journal past own is = ap (drop (length past)) is ∙ drop-append_seam past own

pub ahead_is : (w : Setting) (state : LinkTable) (k : KeeperView) (h : ℕ) → AreLeft w state k h → state.events ≡ k.events ++ left_of state k
ahead_is w state k h left = left.ahead.1 ∙ ap (λ (own : List Event). k.events ++ own) (sym (left_is state.events k.events left.ahead.0 left.ahead.1))

-- ---- an event more is counted, and memory is as it was

pub quiet_view : EventsStay → (w : Setting) (begun : List Event) (k l : KeeperView) (e : Event) → KeepsView w begun k → AreKept w begun l → leaves_memory e ≡ true → l.events ≡ k.events ++ e ∷ []
    → ((m : ℕ) → (row_of l m).pending ≡ (row_of k m).pending) → (WasOver w k.events → (hart_of e ≡ Some 0) ⊎ (hart_of e ≡ None)) → KeepsView w begun l
quiet_view stay w begun k l e view kept leaves are pending alone = record {
  kept = kept;
  pending = λ m g low waits.
      let was : (row_of k m).pending ≡ Some g = sym (pending m) ∙ waits in
      let x : HasOpenGrant (after k.events) m (number_in k.events m g) = view.pending m g low was in
      subst (λ (es : List Event). HasOpenGrant (after es) m (number_in es m g)) (sym are)
      (record {
        grant = x.grant;
        there = subst (λ (gs : List Granting). Contains gs x.grant) (sym (stay (after k.events) e leaves).grants ∙ ap (λ (s : State). s.grants) (sym (after_push k.events e))) x.there;
        pending = x.pending;
        of = x.of;
        numbered = x.numbered ∙ sym (later_number k.events (e ∷ []) m g (view.kept.granted m g low (inl was)));
      });
  last = subst (FirstGoesOn w) (sym are) (first_goes_on w k.events e view.last alone);
}

-- ---- one event

module _ (stay : EventsStay) (alike : AlikeKept) (awaits : AwaitedIsAlike) (quiet_kept : QuietKept) (w : Setting) (given : List Event) (state : LinkTable) (k : KeeperView) (h : HartView) (id : ℕ)
    (passing : IsPassing w given state k h id) (fresh : h.lane.offer ≡ None) (e : Event) (rest : List Event) (are : left_of state k ≡ e ∷ rest) (k1 : KeeperView) (h1 : HartView) (found : k1 ≡ awaited_if id true k)
    (calls : h1 ≡ begun h1.lane.seen h) where
  ahead : state.events ≡ k.events ++ e ∷ rest
  ahead = ahead_is w state k id passing.left ∙ ap (λ (own : List Event). k.events ++ own) are

  quiet : AreQuiet (e ∷ rest)
  quiet = subst AreQuiet are passing.left.quiet

  own : hart_of e ≡ Some id
  own = passing.left.of e (subst (λ (es : List Event). Contains es e) (sym are) (here e rest))

  may : AreAllowed w k.events (e ∷ rest)
  may = subst (AreAllowed w k.events) are passing.left.may

  low : id < harts_at_most
  low = let few : w.machine.harts ≤ harts_at_most = passing.view.kept.few in let below : id < w.machine.harts = passing.low in omega (arith, few, below)

  long : IsLong k
  long = passing.view.kept.long

  is_alike : IsAlike k (awaited_if id true k)
  is_alike = awaits k id long low

  same_events : k1.events ≡ k.events
  same_events = ap (λ (x : KeeperView). x.events) found

  pub entry_is_next : (entry : Entry) → entry ≡ entry_behind k.events e → IsNextEntry k1 entry
  entry_is_next entry is = record {
    mark = ap (λ (x : Entry). x.mark) is;
    number = ap (λ (x : Entry). x.number) is ∙ ap (λ (es : List Event). length es + 1) (sym same_events);
    generation =
        let at : entry.generation ≡ (after (k.events ++ e ∷ [])).generation = ap (λ (x : Entry). x.generation) is in
        let one : (after (k.events ++ e ∷ [])).generation ≡ (after k.events).generation = (all_same k.events (e ∷ []) (quiet.0, tt)).generation in
        let kept : k.generation ≡ (after k.events).generation = passing.view.kept.generation in
        let now : k1.generation ≡ k.generation = ap (λ (x : KeeperView). x.generation) found in
        omega (arith, at, one, kept, now);
  }

  module _ (entry : Entry) (is : entry ≡ entry_behind k.events e) (k2 : KeeperView) (h2 : HartView) (hands : k2 ≡ handed_over id entry (counted e k1)) (takes : h2 ≡ took entry k2.events h1)
      (step : InStep k2 h2) where
    hands_is : k2 ≡ handed_over id entry (counted e (awaited_if id true k))
    hands_is = hands ∙ ap (λ (x : KeeperView). handed_over id entry (counted e x)) found

    takes_is : h2 ≡ took entry k2.events (begun h1.lane.seen h)
    takes_is = takes ∙ ap (took entry k2.events) calls

    events_are : k2.events ≡ k.events ++ e ∷ []
    events_are = ap (λ (x : KeeperView). x.events) hands_is

    pending_is : (m : ℕ) → (row_of k2 m).pending ≡ (row_of k m).pending
    pending_is m = ap (λ (x : KeeperView). (row_of x m).pending) hands_is
        ∙ row_field (λ (y : Row). y.pending) (counted e (awaited_if id true k)) id (handed entry.mark (row_with entry (row_of (awaited_if id true k) id))) (inside (awaited_if id true k) id is_alike.long low) refl m
        ∙ is_alike.pending m

    kept : AreKept w given k2
    kept = subst (AreKept w given) (sym hands_is)
        (quiet_kept w given (awaited_if id true k) id e entry (alike w given k (awaited_if id true k) is_alike passing.view.kept) passing.low own quiet.0 may.0 is)

    view : KeepsView w given k2
    view = quiet_view stay w given k k2 e passing.view kept quiet.0 events_are pending_is
        (λ over. inl (own ∙ ap (λ (n : ℕ). Some n) (passing.left.alone [] rest e are (subst (WasOver w) (sym (append-nil k.events)) over))))

    now_ahead : state.events ≡ k2.events ++ rest
    now_ahead = ahead ∙ sym (one_behind k.events e rest) ∙ ap (λ (es : List Event). es ++ rest) (sym events_are)

    rest_is : left_of state k2 ≡ rest
    rest_is = left_is state.events k2.events rest now_ahead

    left : AreLeft w state k2 id
    left = record {
      ahead = (rest, now_ahead);
      quiet = subst AreQuiet (sym rest_is) quiet.1;
      of = λ d there. passing.left.of d (subst (λ (es : List Event). Contains es d) (sym are) (later e rest d (subst (λ (es : List Event). Contains es d) rest_is there)));
      may = subst (λ (own : List Event). AreAllowed w k2.events own) (sym rest_is) (subst (λ (es : List Event). AreAllowed w es rest) (sym events_are) may.1);
      alone = λ front behind d split over. passing.left.alone (e ∷ front) behind d (are ∙ ap (λ (es : List Event). e ∷ es) (sym rest_is ∙ split))
          (subst (WasOver w) (ap (λ (es : List Event). es ++ front) events_are ∙ one_behind k.events e front) over);
    }

    pub passes : IsPassing w given state k2 h2 id
    passes = record {
      view = view;
      left = left;
      low = passing.low;
      number = passing.number ∙ sym (ap (λ (x : HartView). x.number) takes_is);
      step = step;
      heard = ap (λ (x : HartView). x.heard) takes_is;
      idle = ap (λ (x : HartView). x.lane.calling) takes_is;
      settled = pending_is id ∙ passing.settled;
    }

    pub passed_one : HasPassed (e ∷ []) k k2 h h2
    passed_one = record {
      events = events_are;
      number = ap (λ (x : HartView). x.number) takes_is;
      trail = ap (λ (x : HartView). x.trail) takes_is ∙ ap (λ (x : Entry). h.trail ++ Took x ∷ []) is ∙ ap (λ (items : List TrailItem). h.trail ++ items) (sym (took_one k.events e (no_grant e quiet.0)));
      tried = ap (λ (x : HartView). x.lane.tried) takes_is;
      opens = ap (λ (x : KeeperView). x.opens) hands_is;
      pending = pending_is;
      entries = entry ∷ [];
      known = ap (λ (x : HartView). known_of x.lane) takes_is ∙ append-nil (h.lane.taken ++ entry ∷ []) ∙ ap (λ (es : List Entry). es ++ entry ∷ []) taken_is;
      plain = λ x there.
          let its : entry ≡ x = only_in entry x there in (
            ap (λ (y : Entry). y.mark) (sym its ∙ is),
            ap (λ (y : Entry). y.slot) (sym its ∙ is) ∙ no_module (after k.events) e quiet.0,
            (let number : x.number ≡ length k.events + 1 = ap (λ (y : Entry). y.number) (sym its ∙ is) in
                let count : length k2.events ≡ length k.events + 1 = ap length events_are ∙ length-append k.events (e ∷ []) in
                omega (arith, number, count)),
          );
    }
      where
        taken_is : h.lane.taken ≡ known_of h.lane
        taken_is = sym (append-nil h.lane.taken) ∙ ap (λ (o : Option Offer). known_of (record h.lane { offer = o })) (sym fresh)

-- ---- one after another

pub passes_none : (k : KeeperView) (h : HartView) → HasPassed [] k k h h
passes_none k h = record {
  events = sym (append-nil k.events);
  number = refl;
  trail = sym (append-nil h.trail);
  tried = refl;
  opens = refl;
  pending = λ m. refl;
  entries = [];
  known = sym (append-nil (known_of h.lane));
  plain = λ x there. absurd (none_in x there);
}

pub passes_more : (one other : List Event) (k l m : KeeperView) (h i j : HartView) → HasPassed one k l h i → HasPassed other l m i j → HasPassed (one ++ other) k m h j
passes_more one other k l m h i j a b = record {
  events = b.events ∙ ap (λ (es : List Event). es ++ other) a.events ∙ append_assoc k.events one other;
  number = b.number ∙ a.number;
  trail = b.trail ∙ ap (λ (items : List TrailItem). items ++ took_behind l.events other) a.trail ∙ append_assoc h.trail (took_behind k.events one) (took_behind l.events other)
      ∙ ap (λ (es : List Event). h.trail ++ (took_behind k.events one ++ took_behind es other)) a.events ∙ ap (λ (items : List TrailItem). h.trail ++ items) (sym (took_both k.events one other));
  tried = b.tried ∙ a.tried;
  opens = b.opens ∙ a.opens;
  pending = λ j. b.pending j ∙ a.pending j;
  entries = a.entries ++ b.entries;
  known = b.known ∙ ap (λ (es : List Entry). es ++ b.entries) a.known ∙ append_assoc (known_of h.lane) a.entries b.entries;
  plain = λ x there. ⊎_elim
      (λ (old : Contains a.entries x).
      let p = a.plain x old in
      let low : x.number ≤ length l.events = p.2 in
      let long : length m.events ≡ length l.events + length other = ap length b.events ∙ length-append l.events other in
      (p.0, p.1, omega (arith, low, long)))
      (λ (new : Contains b.entries x). b.plain x new)
      (Contains-append_cases a.entries b.entries x there);
}

-- ---- the entry of an event

seam : (past : List Event) (e : Event) (rest : List Event) (d : Event) → get_or (past ++ e ∷ rest) (length past) d ≡ e
seam [] e rest d = refl
seam (x ∷ past) e rest d = seam past e rest d

block_modules : (s : State) (hart owner address : ℕ) → (step s (events.Tls hart owner address)).modules ≡ s.modules
block_modules s hart owner address = refl

told_ranges : (s : State) (hart : ℕ) (fault : Option DlFault) → (step s (events.Told hart fault)).ranges ≡ s.ranges
told_ranges s hart fault = refl

pub enters : (journal slice : List Event) (index : ℕ) (event d : Event) (slot value generation : ℕ) (modules : List Module) (ranges : List Range) → slice ≡ journal → event ≡ get_or slice index d
    → ModuleBy modules event slot → AnswersBy ranges event value → modules ≡ (after journal).modules → ranges ≡ (after journal).ranges → generation ≡ (after journal).generation
    → EntersAt journal index (record { mark = 1; number = index + 1; slot = slot; value = value; generation = generation })
enters journal slice index event d slot value generation modules ranges same at by_module by_ranges modules_are ranges_are generation_is past e rest are place quiet =
    let event_is : event ≡ e = at ∙ ap (λ (es : List Event). get_or es index d) (same ∙ are) ∙ ap (λ (n : ℕ). get_or (past ++ e ∷ rest) n d) (sym place) ∙ seam past e rest d in
    let number_is : index + 1 ≡ length past + 1 = ap (λ (n : ℕ). n + 1) (sym place) in
    let slot_is : slot ≡ module_of (after past) e =
    by_module (after past) (λ hart owner address is. modules_are ∙ stays.modules ∙ ap (λ (s : State). s.modules) (after_push past e)
    ∙ ap (λ (x : Event). (step (after past) x).modules) (sym event_is ∙ is) ∙ block_modules (after past) hart owner address) ∙ ap (module_of (after past)) event_is in
    let value_is : value ≡ answered (after past) e =
    by_ranges (after past) (λ hart fault is. ranges_are ∙ stays.ranges ∙ ap (λ (s : State). s.ranges) (after_push past e)
    ∙ ap (λ (x : Event). (step (after past) x).ranges) (sym event_is ∙ is) ∙ told_ranges (after past) hart (Some fault)) ∙ ap (answered (after past)) event_is in
    λ i. record { mark = 1; number = number_is i; slot = slot_is i; value = value_is i; generation = (generation_is ∙ stays.generation) i }
  where
    stays : Same (after (past ++ e ∷ [])) (after journal)
    stays = subst (λ (es : List Event). Same (after (past ++ e ∷ [])) (after es)) (one_behind past e rest ∙ sym are) (all_same (past ++ e ∷ []) rest quiet)

-- ---- the next event

pub next_low : (state : LinkTable) (k : KeeperView) (index : ℕ) (e : Event) (rest : List Event) → index ≡ length k.events → IsNext state k e rest → index < length state.events
next_low state k index e rest place next =
    let whole : length state.events ≡ length k.events + length (e ∷ rest) = ap length next.ahead ∙ length-append k.events (e ∷ rest) in
    omega (arith, place, whole)

pub next_entry : (state : LinkTable) (k : KeeperView) (index : ℕ) (entry : Entry) (e : Event) (rest : List Event) → index ≡ length k.events → IsNext state k e rest → EntersAt state.events index entry
    → entry ≡ entry_behind k.events e
next_entry state k index entry e rest place next enters_at = enters_at k.events e rest next.ahead (sym place) next.quiet

pub next_event : (journal slice : List Event) (k : KeeperView) (index : ℕ) (event d e : Event) (rest : List Event) → slice ≡ journal → event ≡ get_or slice index d → index ≡ length k.events
    → journal ≡ k.events ++ e ∷ rest → event ≡ e
next_event journal slice k index event d e rest same at place ahead =
    at ∙ ap (λ (es : List Event). get_or es index d) (same ∙ ahead) ∙ ap (λ (n : ℕ). get_or (k.events ++ e ∷ rest) n d) place ∙ seam k.events e rest d

pub passes_next : (k l : KeeperView) (h i : HartView) (id : ℕ) (event e : Event) (entry : Entry) → event ≡ e → entry ≡ entry_behind k.events e → l ≡ handed_over id entry (counted event k)
    → i ≡ took entry l.events h → InStep l i → PassesNext id e k l h i
passes_next k l h i id event e entry same is hands takes step = record {
  keeper = hands ∙ ap (λ (d : Event). handed_over id entry (counted d k)) same ∙ ap (λ (x : Entry). handed_over id x (counted e k)) is;
  seat = takes ∙ ap (λ (x : Entry). took x l.events h) is;
  step = step;
}

-- ---- by calls of their own

pub some_left : (own : List Event) → 0 < length own → (e : Event) × (rest : List Event) × (own ≡ e ∷ rest)
some_left [] some = absurd (omega (arith, some))
some_left (e ∷ rest) some = (e, rest, refl)

pub left_some : (w : Setting) (given : List Event) (state : LinkTable) (k : KeeperView) (h : HartView) (id index : ℕ) → IsPassing w given state k h id → index ≡ length k.events → index < length state.events
    → (e : Event) × (rest : List Event) × (left_of state k ≡ e ∷ rest)
left_some w given state k h id index passing place low =
    let whole : length state.events ≡ length k.events + length (left_of state k) = ap length (ahead_is w state k id passing.left) ∙ length-append k.events (left_of state k) in
    some_left (left_of state k) (omega (arith, whole, place, low))

module _ (stay : EventsStay) (alike : AlikeKept) (awaits : AwaitedIsAlike) (quiet_kept : QuietKept) (w : Setting) (given : List Event) (state : LinkTable) (k : KeeperView) (h : HartView) (id : ℕ)
    (passing : IsPassing w given state k h id) (fresh : h.lane.offer ≡ None) (k1 : KeeperView) (h1 : HartView) (found : k1 ≡ awaited_if id true k) (calls : h1 ≡ begun h1.lane.seen h) where
  pub one_next : (e : Event) (rest : List Event) → left_of state k ≡ e ∷ rest → IsNext state k1 e rest
  one_next e rest are = record {
    ahead = ahead_is w state k id passing.left ∙ ap (λ (own : List Event). k.events ++ own) are ∙ ap (λ (x : KeeperView). x.events ++ e ∷ rest) (sym found);
    quiet = (subst AreQuiet are passing.left.quiet).1;
    entry = entry_is_next stay alike awaits quiet_kept w given state k h id passing fresh e rest are k1 h1 found calls (entry_behind k1.events e) (ap (λ (x : KeeperView). entry_behind x.events e) found);
  }

  module _ (k2 : KeeperView) (h2 : HartView) (e : Event) (rest : List Event) (are : left_of state k ≡ e ∷ rest) (next : PassesNext id e k1 k2 h1 h2) where
    same_entry : entry_behind k1.events e ≡ entry_behind k.events e
    same_entry = ap (λ (x : KeeperView). entry_behind x.events e) found

    pub one_passes : IsPassing w given state k2 h2 id
    one_passes = passes stay alike awaits quiet_kept w given state k h id passing fresh e rest are k1 h1 found calls (entry_behind k1.events e) same_entry k2 h2 next.keeper next.seat next.step

    pub one_passed : HasPassed (e ∷ []) k k2 h h2
    one_passed = passed_one stay alike awaits quiet_kept w given state k h id passing fresh e rest are k1 h1 found calls (entry_behind k1.events e) same_entry k2 h2 next.keeper next.seat next.step

-- ---- the loop

pub left_more : (w : Setting) (given : List Event) (state : LinkTable) (k0 k k2 : KeeperView) (h h2 : HartView) (id : ℕ) (own : List Event) (e : Event) (rest : List Event) → IsPassing w given state k h id
    → left_of state k0 ≡ own ++ left_of state k → left_of state k ≡ e ∷ rest → HasPassed (e ∷ []) k k2 h h2 → left_of state k0 ≡ (own ++ e ∷ []) ++ left_of state k2
left_more w given state k0 k k2 h h2 id own e rest passing before are passed =
    let now_ahead : state.events ≡ k2.events ++ rest =
    ahead_is w state k id passing.left ∙ ap (λ (es : List Event). k.events ++ es) are ∙ sym (one_behind k.events e rest) ∙ ap (λ (es : List Event). es ++ rest) (sym passed.events) in
    before ∙ ap (λ (es : List Event). own ++ es) are ∙ sym (one_behind own e rest) ∙ ap (λ (es : List Event). (own ++ e ∷ []) ++ es) (sym (left_is state.events k2.events rest now_ahead))

none_of : (own : List Event) → length own ≡ 0 → own ≡ []
none_of [] is = refl
none_of (e ∷ rest) is = absurd (omega (arith, is))

pub all_passed : (w : Setting) (given : List Event) (state : LinkTable) (k0 k : KeeperView) (h0 h : HartView) (id : ℕ) (own : List Event) → IsPassing w given state k h id
    → left_of state k0 ≡ own ++ left_of state k → length state.events ≤ length k.events → HasPassed own k0 k h0 h → HasPassed (left_of state k0) k0 k h0 h
all_passed w given state k0 k h0 h id own passing before over passed =
    let whole : length state.events ≡ length k.events + length (left_of state k) = ap length (ahead_is w state k id passing.left) ∙ length-append k.events (left_of state k) in
    let none : left_of state k ≡ [] = none_of (left_of state k) (omega (arith, whole, over)) in
    subst (λ (es : List Event). HasPassed es k0 k h0 h) (sym (before ∙ ap (λ (es : List Event). own ++ es) none ∙ append-nil own)) passed

-- ---- the first event of a turn

module _ (stay : EventsStay) (quiet_kept : QuietKept) (w : Setting) (given : List Event) (k l : KeeperView) (h i : HartView) (id : ℕ) (e : Event) (view : KeepsView w given k) (low : id < w.machine.harts)
    (own : hart_of e ≡ Some id) (leaves : leaves_memory e ≡ true) (may : Allowed w k.events e) (alone : WasOver w k.events → id ≡ 0) where
  few : id < harts_at_most
  few = let all : w.machine.harts ≤ harts_at_most = view.kept.few in omega (arith, all, low)

  -- it may be handed
  pub first_entry : IsNextEntry k (entry_behind k.events e)
  first_entry = record {
    mark = refl;
    number = refl;
    generation =
        let one : (after (k.events ++ e ∷ [])).generation ≡ (after k.events).generation = (all_same k.events (e ∷ []) (leaves, tt)).generation in
        let kept : k.generation ≡ (after k.events).generation = view.kept.generation in
        omega (arith, one, kept);
  }

  module _ (next : PassesNext id e k l h i) where
    pub first_pending : (m : ℕ) → (row_of l m).pending ≡ (row_of k m).pending
    first_pending m = ap (λ (x : KeeperView). (row_of x m).pending) next.keeper
        ∙ row_field (λ (y : Row). y.pending) (counted e k) id (handed 1 (row_with (entry_behind k.events e) (row_of k id))) (inside k id view.kept.long few) refl m

    pub first_events : l.events ≡ k.events ++ e ∷ []
    first_events = ap (λ (x : KeeperView). x.events) next.keeper

    pub first_view : KeepsView w given l
    first_view = quiet_view stay w given k l e view
        (subst (AreKept w given) (sym next.keeper) (quiet_kept w given k id e (entry_behind k.events e) view.kept low own leaves may refl)) leaves first_events first_pending
        (λ over. inl (own ∙ ap (λ (n : ℕ). Some n) (alone over)))

    pub first_known : known_of i.lane ≡ h.lane.taken ++ entry_behind k.events e ∷ []
    first_known = ap (λ (x : HartView). known_of x.lane) next.seat ∙ append-nil (h.lane.taken ++ entry_behind k.events e ∷ [])

    pub first_trail : is_granting e ≡ false → i.trail ≡ h.trail ++ took_behind k.events (e ∷ [])
    first_trail none = ap (λ (x : HartView). x.trail) next.seat ∙ ap (λ (items : List TrailItem). h.trail ++ items) (sym (took_one k.events e none))
