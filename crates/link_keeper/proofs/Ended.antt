-- A hart ends.
use Rattle.std.proofs.Common.{◌≡◌, inr, IsTrue, ℕ, ◌+◌, ◌<◌, false, List, [], ◌∷◌, ◌++◌, length, length-append, Option, None, refl, sym, ap, subst, ◌∙◌, append-nil, arith}
use Rattle.history_event.specs.declared.event.Event.{Event}
use Rattle.history_event.specs.declared.event.Event.TheVariants.{Ended}
use Rattle.history_event.specs.declared.hart_end.HartEnd.{HartEnd}
use Rattle.history_event.specs.declared.hart_end.HartEnd.TheVariants.{Memory}
use Rattle.word_rule.specs.declared.entry.Entry.{Entry}
use Rattle.word_rule.specs.declared.view.HartView.{HartView}
use Rattle.word_rule.specs.declared.view.KeeperView.{KeeperView}
use Rattle.word_rule.specs.declared.view.Offer.{Offer}
use Rattle.word_rule.specs.declared.view.TrailItem.{TrailItem}
use Rattle.word_rule.specs.declared.view.TrailItem.TheVariants.{Took}
use Rattle.word_rule.specs.Views.{known_of}
use Rattle.history_state.specs.After.{after}
use Rattle.history_state.specs.Allowed.{MayEnd}
use Rattle.history_state.specs.Lemmas.Lists.{only_in}
use Rattle.history_state.specs.Legal.{Lawful}
use Rattle.history_state.specs.Lemmas.History.{legal_is_lawful}
use Rattle.history_state.specs.Owed.{ends_at_most, times_ended}
use Rattle.history_state.specs.Setting.{Machine, Setting, are_finals}
use Rattle.history_state.specs.Slots.{HasNoGrant}
use Rattle.history_journal.specs.Following.{MayFollow, machine_of}
use Rattle.hart_moves.specs.Follows.{HasNone}
use Rattle.hart_moves.specs.Harts.{HartState}
use Rattle.hart_moves.specs.Moves.{ended}
use Rattle.hart_trails.specs.Entries.{entry_behind}
use Rattle.hart_fits.specs.Fits.{FitsMayEnd, HartFits, OthersLeaveHart}
use Rattle.hart_fits.specs.Over.{RunningIsNotOver}
use Rattle.link_state.specs.Table.{LinkTable, appended}
use Rattle.tls_blocks.specs.Blocks.{BlockTable}
use Rattle.kept_words.specs.Keeping.{QuietKept}
use Rattle.kept_words.specs.Staying.{EventsStay}
use Rattle.link_keeper.specs.Beginning.{EndsAgain}
use Rattle.link_keeper.specs.Attending.{Attends, NobodysCame}
use Rattle.hart_linker.specs.Between.{BlocksFit, HasHeard}
use Rattle.link_keeper.specs.Keeping.{KeepsState, KeepsView, WasOver}
use Rattle.link_keeper.specs.Passing.{IsNext, PassesNext}
use Rattle.hart_linker.specs.Serving.{EndsTurn, WasRunning}
use Rattle.link_keeper.proofs.Ending.{IsPlain, alone_of, blocks_plain, event_plain, heard_on}
use Rattle.link_keeper.proofs.Fitting.{fits_on}
use Rattle.link_keeper.proofs.Lasting.{nobodys_finals}
use Rattle.link_keeper.proofs.Rest.{first_entry, first_events, first_known, first_view, no_module}

-- what a hart that is idle knows is what it took
pub idle_known : (h : HartView) → h.lane.offer ≡ None → known_of h.lane ≡ h.lane.taken
idle_known h none = ap (λ (o : Option Offer). known_of (record h.lane { offer = o })) none ∙ append-nil h.lane.taken

-- ---- what it comes to

pub record Ends (w : Setting) (given : List Event) (t : LinkTable) (k l : KeeperView) (before i : HartView) (reason : HartEnd) (b c : HartState) (id : ℕ) : Type 0 where
  pub keeps : KeepsState w given t l
  pub turn : EndsTurn w before i reason b c
  pub heard : HasHeard w given i
  pub calling : i.lane.calling ≡ false
  pub blocks : (d : BlockTable) → BlocksFit d before → BlocksFit d i
  pub events : l.events ≡ k.events ++ Ended id reason ∷ []

-- ---- the end of a hart that may end, once it is known to call

module _ (w : Setting) (given : List Event) (state : LinkTable) (k : KeeperView) (before h : HartView) (id : ℕ) (keeps : KeepsState w given state k) (heard : HasHeard w given before) (same : id ≡ before.number)
    (at : Attends k before h id) (may : MayEnd w (after k.events) id) (low : id < w.machine.harts) (alone : WasOver w k.events → id ≡ 0) where
  pub noted_follows : (reason : HartEnd) → MayFollow state.harts state.events (Ended id reason)
  noted_follows reason = record { setting = w; machine = keeps.machine; may = subst (λ (es : List Event). MayEnd w (after es) id) keeps.same may }

  module _ (stay : EventsStay) (quiet_kept : QuietKept) (reason : HartEnd) (t : LinkTable) (noted : t.events ≡ state.events ++ Ended id reason ∷ []) (harts : t.harts ≡ state.harts) where
    pub noted_next : IsNext t k (Ended id reason) []
    noted_next = record {
      ahead = noted ∙ ap (λ (es : List Event). es ++ Ended id reason ∷ []) (sym keeps.same);
      quiet = tt;
      entry = first_entry stay quiet_kept w given k k h h id (Ended id reason) keeps.view low refl refl may alone;
    }

    module _ (l : KeeperView) (i : HartView) (next : PassesNext id (Ended id reason) k l h i) where
      events_are : l.events ≡ k.events ++ Ended id reason ∷ []
      events_are = first_events stay quiet_kept w given k l h i id (Ended id reason) keeps.view low refl refl may alone next

      view : KeepsView w given l
      view = first_view stay quiet_kept w given k l h i id (Ended id reason) keeps.view low refl refl may alone next

      noted_keeps : KeepsState w given t l
      noted_keeps = record {
        view = view;
        machine = keeps.machine ∙ ap machine_of (sym harts);
        same = events_are ∙ ap (λ (es : List Event). es ++ Ended id reason ∷ []) keeps.same ∙ sym noted;
      }

      heard_is : i.heard ≡ l.events
      heard_is = ap (λ (x : HartView). x.heard) next.seat

      number_is : i.number ≡ before.number
      number_is = ap (λ (x : HartView). x.number) next.seat ∙ at.number

      module _ (idle : before.lane.offer ≡ None) where
        known : known_of i.lane ≡ known_of before.lane ++ entry_behind k.events (Ended id reason) ∷ []
        known = first_known stay quiet_kept w given k l h i id (Ended id reason) keeps.view low refl refl may alone next
            ∙ ap (λ (es : List Entry). es ++ entry_behind k.events (Ended id reason) ∷ []) (at.taken ∙ sym (idle_known before idle))

        count : length l.events ≡ length k.events + 1
        count = ap length events_are ∙ length-append k.events (Ended id reason ∷ [])

        noted_heard : HasHeard w given i
        noted_heard = heard_on w given l before i (entry_behind k.events (Ended id reason) ∷ []) view heard heard_is
            (let whole : length k.events ≡ length before.heard + length at.longer.0 = ap length at.longer.1 ∙ length-append before.heard at.longer.0 in let one : length l.events ≡ length k.events + 1 = count in omega (arith, whole, one)) known
            (λ e there event.
            let its : e.number ≡ length k.events + 1 = ap (λ (x : Entry). x.number) (sym (only_in (entry_behind k.events (Ended id reason)) e there)) in
            let one : length l.events ≡ length k.events + 1 = count in omega (arith, its, one))

        noted_blocks : (d : BlockTable) → BlocksFit d before → BlocksFit d i
        noted_blocks d fit = blocks_plain d before i (entry_behind k.events (Ended id reason) ∷ []) known
            (λ e there. subst IsPlain (only_in (entry_behind k.events (Ended id reason)) e there) (event_plain (entry_behind k.events (Ended id reason)) refl (no_module (after k.events) (Ended id reason) refl))) fit

        noted_turn : (b c : HartState) → c ≡ ended reason b → EndsTurn w before i reason b c
        noted_turn b c left = record {
          same = number_is;
          past = k.events;
          since = at.longer;
          none = subst (λ (n : ℕ). HasNone k.events n (length before.heard) (length k.events)) same at.none;
          free = subst (λ (n : ℕ). HasNoGrant (after k.events) n) same at.free;
          may = subst (λ (n : ℕ). MayEnd w (after k.events) n) same may;
          heard = heard_is ∙ events_are ∙ ap (λ (n : ℕ). k.events ++ Ended n reason ∷ []) same;
          trail = ap (λ (x : HartView). x.trail) next.seat
              ∙ ap (λ (items : List TrailItem). items ++ Took (entry_behind k.events (Ended id reason)) ∷ []) at.trail
              ∙ ap (λ (n : ℕ). before.trail ++ Took (entry_behind k.events (Ended n reason)) ∷ []) same;
          left = left;
        }

        pub notes : (b c : HartState) → c ≡ ended reason b → Ends w given t k l before i reason b c id
        notes b c left = record {
          keeps = noted_keeps;
          turn = noted_turn b c left;
          heard = noted_heard;
          calling = ap (λ (x : HartView). x.lane.calling) next.seat;
          blocks = noted_blocks;
          events = events_are;
        }

        pub notes_again : reason ≡ Memory → IsTrue (are_finals w (after k.events)) → EndsAgain w given before i
        notes_again memory over = record {
          same = number_is;
          past = k.events;
          since = at.longer;
          none = subst (λ (n : ℕ). HasNone k.events n (length before.heard) (length k.events)) same at.none;
          over = over;
          is = heard_is ∙ events_are ∙ ap (λ (n : ℕ). k.events ++ Ended n reason ∷ []) same ∙ ap (λ (r : HartEnd). k.events ++ Ended before.number r ∷ []) memory;
          trail = ap (λ (x : HartView). x.trail) next.seat
              ∙ ap (λ (items : List TrailItem). items ++ Took (entry_behind k.events (Ended id reason)) ∷ []) at.trail
              ∙ ap (λ (n : ℕ). before.trail ++ Took (entry_behind k.events (Ended n reason)) ∷ []) same
              ∙ ap (λ (r : HartEnd). before.trail ++ Took (entry_behind k.events (Ended before.number r)) ∷ []) memory;
          heard = noted_heard;
          calling = ap (λ (x : HartView). x.lane.calling) next.seat;
          blocks = noted_blocks;
        }

-- ---- the first hart, once every hart has ended by exit

pub record Again (w : Setting) (given : List Event) (t : LinkTable) (k l : KeeperView) (before i : HartView) (id : ℕ) : Type 0 where
  pub keeps : KeepsState w given t l
  pub again : EndsAgain w given before i
  pub events : l.events ≡ k.events ++ Ended id Memory ∷ []

pub again_may : (w : Setting) (begun : List Event) (k0 k : KeeperView) (before h : HartView) (id : ℕ) → NobodysCame k0.events k.events → id ≡ 0 → IsTrue (are_finals w (after k0.events)) → MayEnd w (after k.events) id
again_may w begun k0 k before h id came zeroth over = inr (zeroth, nobodys_finals w k0.events k.events came.more came.are came.nobodys over)

pub again_low : (w : Setting) (id : ℕ) → id ≡ 0 → 0 < w.machine.harts → id < w.machine.harts
again_low w id zeroth some = subst (λ (n : ℕ). n < w.machine.harts) (sym zeroth) some

pub ends_again : EventsStay → QuietKept → (w : Setting) (given : List Event) (state t : LinkTable) (k0 k l : KeeperView) (before h i : HartView) (id : ℕ) → KeepsState w given state k → HasHeard w given before
    → id ≡ before.number → id ≡ 0 → 0 < w.machine.harts → IsTrue (are_finals w (after k0.events)) → NobodysCame k0.events k.events → before.lane.offer ≡ None → Attends k before h id
    → t ≡ appended state (Ended id Memory) → ((e : Event) (rest : List Event) → IsNext t k e rest → PassesNext id e k l h i) → Again w given t k l before i id
ends_again stay quiet_kept w given state t k0 k l before h i id keeps heard same zeroth some over came idle at noted passes =
    let events = ap (λ (x : LinkTable). x.events) noted in
    let harts = ap (λ (x : LinkTable). x.harts) noted in
    let may = again_may w given k0 k before h id came zeroth over in
    let low = again_low w id zeroth some in
    let alone : WasOver w k.events → id ≡ 0 = λ was. zeroth in
    let next = passes (Ended id Memory) [] (noted_next w given state k before h id keeps heard same at may low alone stay quiet_kept Memory t events harts) in
    record {
      keeps = noted_keeps w given state k before h id keeps heard same at may low alone stay quiet_kept Memory t events harts l i next;
      again = notes_again w given state k before h id keeps heard same at may low alone stay quiet_kept Memory t events harts l i next idle refl
          (nobodys_finals w k0.events k.events came.more came.are came.nobodys over);
      events = events_are w given state k before h id keeps heard same at may low alone stay quiet_kept Memory t events harts l i next;
    }

-- ---- a hart that runs

module _ (others : OthersLeaveHart) (not_over : RunningIsNotOver) (may_end : FitsMayEnd) (w : Setting) (given : List Event) (state : LinkTable) (k : KeeperView) (before h : HartView) (id : ℕ)
    (keeps : KeepsState w given state k) (heard : HasHeard w given before) (same : id ≡ before.number) (run : WasRunning w before) (at : Attends k before h id) where
  fits : HartFits w k.events id run.before
  fits = fits_on others w given before.heard at.longer.0 k id run.before heard.legal keeps.view at.longer.1 at.none run.runs (subst (λ (n : ℕ). HartFits w before.heard n run.before) (sym same) run.fits)

  pub end_may : MayEnd w (after k.events) id
  end_may = may_end w k.events id run.before fits run.runs

  pub end_low : id < w.machine.harts
  end_low = fits.within

  pub end_alone : WasOver w k.events → id ≡ 0
  end_alone = alone_of not_over w given k id run.before keeps.view fits run.runs

  pub end_follows : (reason : HartEnd) → MayFollow state.harts state.events (Ended id reason)
  end_follows = noted_follows w given state k before h id keeps heard same at end_may end_low end_alone

  pub end_next : EventsStay → QuietKept → (reason : HartEnd) (t : LinkTable) → t.events ≡ state.events ++ Ended id reason ∷ [] → t.harts ≡ state.harts → IsNext t k (Ended id reason) []
  end_next = noted_next w given state k before h id keeps heard same at end_may end_low end_alone

pub end_times : ((w : Setting) (journal : List Event) (hart : ℕ) → Lawful w.machine journal → MayEnd w (after journal) hart → times_ended hart (after journal).endings < ends_at_most hart)
    → (w : Setting) (given : List Event) (state : LinkTable) (k : KeeperView) (id : ℕ) → KeepsState w given state k → MayEnd w (after k.events) id → times_ended id (after state.events).endings < ends_at_most id
end_times few w given state k id keeps may =
    subst (λ (es : List Event). times_ended id (after es).endings < ends_at_most id) keeps.same (few w k.events id (legal_is_lawful w k.events keeps.view.kept.legal) may)

pub end_within : (w : Setting) (given : List Event) (state : LinkTable) (k : KeeperView) (id : ℕ) → KeepsState w given state k → id < w.machine.harts → id < state.harts
end_within w given state k id keeps low = subst (λ (m : Machine). id < m.harts) keeps.machine low

pub ends : OthersLeaveHart → RunningIsNotOver → FitsMayEnd → EventsStay → QuietKept → (w : Setting) (given : List Event) (state t : LinkTable) (k l : KeeperView) (before h i : HartView) (id : ℕ) (reason : HartEnd)
    (b c : HartState) → KeepsState w given state k → HasHeard w given before → id ≡ before.number → WasRunning w before → before.lane.offer ≡ None → Attends k before h id → t ≡ appended state (Ended id reason)
    → ((e : Event) (rest : List Event) → IsNext t k e rest → PassesNext id e k l h i) → c ≡ ended reason b → Ends w given t k l before i reason b c id
ends others not_over may_end stay quiet_kept w given state t k l before h i id reason b c keeps heard same run idle at noted passes left =
    let events = ap (λ (x : LinkTable). x.events) noted in
    let harts = ap (λ (x : LinkTable). x.harts) noted in
    let may = end_may others not_over may_end w given state k before h id keeps heard same run at in
    let low = end_low others not_over may_end w given state k before h id keeps heard same run at in
    let alone = end_alone others not_over may_end w given state k before h id keeps heard same run at in
    notes w given state k before h id keeps heard same at may low alone stay quiet_kept reason t events harts l i
    (passes (Ended id reason) [] (noted_next w given state k before h id keeps heard same at may low alone stay quiet_kept reason t events harts)) idle b c left
