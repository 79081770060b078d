-- What a turn leaves of what a hart knows, and how a hart ends.
use Rattle.std.proofs.Common.{◌≡◌, ⊎_elim, ℕ, ◌≤◌, ◌==◌, ◌&&◌, Bool, true, false, if◌then◌else◌, List, [], ◌∷◌, ◌++◌, length, Option, None, refl, sym, ap, subst, ◌∙◌, arith}
use Rattle.std.specs.List.{Contains}
use Rattle.std.proofs.Math.Bool.{and-false}
use Rattle.std.proofs.lemmas.List.Elements.{Contains-append_cases}
use Rattle.history_event.specs.declared.event.Event.{Event}
use Rattle.word_rule.specs.declared.entry.Entry.{Entry}
use Rattle.word_rule.specs.declared.view.HartView.{HartView}
use Rattle.word_rule.specs.declared.view.KeeperView.{KeeperView}
use Rattle.word_rule.specs.Views.{is_block, known_of, last_block, later_block}
use Rattle.history_state.specs.Legal.{Legal}
use Rattle.history_state.specs.Lemmas.History.{legal_is_lawful}
use Rattle.history_state.specs.Lemmas.Lists.{here, later}
use Rattle.history_state.specs.Setting.{Setting}
use Rattle.hart_moves.specs.Harts.{HartState}
use Rattle.tls_blocks.specs.Blocks.{BlockTable}
use Rattle.hart_fits.specs.Fits.{HartFits, IsBefore, IsInFinals}
use Rattle.hart_fits.specs.Over.{RunningIsNotOver}
use Rattle.kept_words.specs.Handed.{is_event_mark}
use Rattle.hart_fits.specs.Lemmas.Owners.{owners_end}
use Rattle.hart_trails.specs.Owners.{AreOfHarts}
use Rattle.hart_linker.specs.Between.{BlocksFit, HasHeard}
use Rattle.link_keeper.specs.Keeping.{KeepsView, WasOver}

-- ---- only the first hart goes on once all are over

pub alone_of : RunningIsNotOver → (w : Setting) (begun : List Event) (k : KeeperView) (h : ℕ) (b : HartState) → KeepsView w begun k → HartFits w k.events h b → b.«end» ≡ None → WasOver w k.events → h ≡ 0
alone_of not_over w begun k h b view fits runs was = ⊎_elim
    (λ (before : IsBefore k.events h b).
    absurd (not_over w k.events h (legal_is_lawful w k.events view.kept.legal) fits.within (owners_end w k.events view.kept.own) (before.runs runs) was.0 was.1 was.2 was.3))
    (λ (last : IsInFinals w k.events h b). last.first)
    fits.place

-- ---- what it has heard

pub heard_on : (w : Setting) (begun : List Event) (k : KeeperView) (before now : HartView) (entries : List Entry) → KeepsView w begun k → HasHeard w begun before → now.heard ≡ k.events
    → length before.heard ≤ length k.events → known_of now.lane ≡ known_of before.lane ++ entries → ((e : Entry) → Contains entries e → is_event_mark e.mark ≡ true → e.number ≤ length k.events)
    → HasHeard w begun now
heard_on w begun k before now entries view heard are longer known new = record {
  legal = subst (Legal w) (sym are) view.kept.legal;
  begins = (view.kept.begins.0, are ∙ view.kept.begins.1);
  own = subst (AreOfHarts w) (sym are) view.kept.own;
  entries = λ e there event.
      let low : e.number ≤ length k.events = ⊎_elim
      (λ (old : Contains (known_of before.lane) e). let had : e.number ≤ length before.heard = heard.entries e old event in omega (arith, had, longer))
      (λ (more : Contains entries e). new e more event)
      (Contains-append_cases (known_of before.lane) entries e (subst (λ (es : List Entry). Contains es e) known there)) in
      subst (λ (es : List Event). e.number ≤ length es) (sym are) low;
}

-- ---- its blocks

-- an entry that is no answer on thread-local storage
abbrev pub IsPlain : Entry → Type 0
IsPlain e = (generation number : ℕ) → is_block generation number e ≡ false

pub event_plain : (e : Entry) → e.mark ≡ 1 → e.slot ≡ 0 → IsPlain e
event_plain e mark slot generation number =
    ap (λ (m : ℕ). (e.slot == number) && (e.generation == generation) && (if m == 2 then true else (if m == 1 then (if e.slot == 0 then false else true) else false))) mark
    ∙ ap (λ (s : ℕ). (e.slot == number) && (e.generation == generation) && (if s == 0 then false else true)) slot ∙ and-false ((e.slot == number) && (e.generation == generation))

pub last_plain : (entries : List Entry) → ((e : Entry) → Contains entries e → IsPlain e) → (es : List Entry) (generation number : ℕ) → last_block generation number (es ++ entries) ≡ last_block generation number es
last_plain entries plain [] generation number = none_of entries plain
  where
    none_of : (xs : List Entry) → ((e : Entry) → Contains xs e → IsPlain e) → last_block generation number xs ≡ None
    none_of [] all = refl
    none_of (x ∷ rest) all =
        ap (λ (o : Option ℕ). later_block o (is_block generation number x) x.value) (none_of rest (λ e there. all e (later x rest e there)))
        ∙ ap (λ (b : Bool). later_block None b x.value) (all x (here x rest) generation number)
last_plain entries plain (e ∷ es) generation number = ap (λ (o : Option ℕ). later_block o (is_block generation number e) e.value) (last_plain entries plain es generation number)

pub blocks_plain : (d : BlockTable) (before now : HartView) (entries : List Entry) → known_of now.lane ≡ known_of before.lane ++ entries → ((e : Entry) → Contains entries e → IsPlain e) → BlocksFit d before
    → BlocksFit d now
blocks_plain d before now entries known plain fit = record {
  same = λ number. fit.same number ∙ sym (ap (last_block d.generation number) known ∙ last_plain entries plain (known_of before.lane) d.generation number);
  latest = λ generation number later. ap (last_block generation number) known ∙ last_plain entries plain (known_of before.lane) generation number ∙ fit.latest generation number later;
}
