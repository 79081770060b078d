-- What the library's counts show stays while nothing is opened.
use Rattle.std.proofs.Common.{◌≡◌, ⊎_elim, inl, ℕ, ◌+◌, ◌≤◌, Bool, false, cond, List, [], ◌∷◌, ◌++◌, length, length-append, drop, count_by, Some, None, refl, sym, ap, subst, ◌∙◌, append_assoc, arith}
use Rattle.std.proofs.Math.Seq.{drop-append_seam}
use Rattle.std.proofs.lemmas.List.{drop-append-le}
use Rattle.std.proofs.lemmas.List.Sums.{sum_by-cons}
use Rattle.std.proofs.lemmas.List.Elements.{Contains-append_cases}
use Rattle.std.specs.List.{Contains}
use Rattle.std.proofs.lemmas.Bool.{false≢true}
use Rattle.ld_base.specs.declared.fault.DlFault.{DlFault}
use Rattle.history_event.specs.declared.event.Event.{Event}
use Rattle.history_event.specs.declared.event.Event.TheVariants as events
use Rattle.word_rule.specs.declared.view.KeeperView.{KeeperView}
use Rattle.word_rule.specs.Views.{BeginsWith}
use Rattle.history_state.specs.After.{after}
use Rattle.history_state.specs.Setting.{Setting}
use Rattle.link_state.specs.Table.{LinkTable}
use Rattle.history_state.specs.Lemmas.Lists.{here, later, only_in}
use Rattle.history_calls.specs.Laws.{hart_of, is_read_fault}
use Rattle.hart_moves.specs.Due.{due}
use Rattle.hart_moves.specs.Harts.{HartState}
use Rattle.world_answers.specs.Openings.{TurnReadsNothing}
use Rattle.world_turns.specs.Counts.{Counts, CountsJoin, ShowInCounts, is_missed, is_refused_for}
use Rattle.link_keeper.specs.Attending.{NobodysCame}
use Rattle.link_keeper.specs.Keeping.{KeepsState, OpensNothing, is_opening}
use Rattle.link_keeper.specs.Serving.{ServedReadsNothing}

not_refused : (of : DlFault → Bool) (e : Event) → is_opening e ≡ false → is_refused_for of e ≡ false
not_refused of (events.Open hart ask answer) is = absurd (false≢true (sym is))
not_refused of (events.Close hart handle answer) is = refl
not_refused of (events.Unmapped hart set) is = refl
not_refused of (events.Grant number hart owner slot choice value) is = refl
not_refused of (events.Bound number) is = refl
not_refused of (events.Lost number saw) is = refl
not_refused of (events.Unresolved hart owner slot choice) is = refl
not_refused of (events.Sym hart ask answer) is = refl
not_refused of (events.Tls hart owner address) is = refl
not_refused of (events.Init hart object) is = refl
not_refused of (events.Fini hart object) is = refl
not_refused of (events.Wrote hart bytes) is = refl
not_refused of (events.Told hart fault) is = refl
not_refused of (events.Ended hart reason) is = refl

pub nobodys_opening : (e : Event) → hart_of e ≡ None → is_opening e ≡ false
nobodys_opening (events.Open hart ask answer) is = absurd (let no : Some hart ≡ None = is in cc)
nobodys_opening (events.Close hart handle answer) is = refl
nobodys_opening (events.Unmapped hart set) is = refl
nobodys_opening (events.Grant number hart owner slot choice value) is = refl
nobodys_opening (events.Bound number) is = refl
nobodys_opening (events.Lost number saw) is = refl
nobodys_opening (events.Unresolved hart owner slot choice) is = refl
nobodys_opening (events.Sym hart ask answer) is = refl
nobodys_opening (events.Tls hart owner address) is = refl
nobodys_opening (events.Init hart object) is = refl
nobodys_opening (events.Fini hart object) is = refl
nobodys_opening (events.Wrote hart bytes) is = refl
nobodys_opening (events.Told hart fault) is = refl
nobodys_opening (events.Ended hart reason) is = refl

cond_no : (b : Bool) (m n : ℕ) → b ≡ false → cond b m n ≡ n
cond_no b m n is = ap (λ (t : Bool). cond t m n) is

count_none : (p : Event → Bool) (more : List Event) → ((e : Event) → Contains more e → p e ≡ false) → count_by p more ≡ 0
count_none p [] none = refl
count_none p (e ∷ rest) none =
    let zero = cond_no (p e) 1 0 (none e (here e rest)) in
    let others : count_by p rest ≡ 0 = count_none p rest (λ d there. none d (later e rest d there)) in
    let parts : count_by p (e ∷ rest) ≡ cond (p e) 1 0 + count_by p rest = sum_by-cons (λ (d : Event). cond (p d) 1 0) e rest in
    omega (arith, zero, others, parts)

rises_none : (n count : ℕ) → n ≡ 0 → count + n ≤ count
rises_none n count none = omega (arith, none)

pub shown_on : CountsJoin → (folders : List (List ℕ)) (begun old new : List Event) (first counts : Counts) → length begun ≤ length old → OpensNothing old new
    → ShowInCounts folders (drop (length begun) old) first counts → ShowInCounts folders (drop (length begun) new) first counts
shown_on join folders begun old new first counts short came shown =
    subst (λ (es : List Event). ShowInCounts folders es first counts) (sym (ap (drop (length begun)) came.are ∙ drop-append-le (length begun) old came.more short))
    (join folders (drop (length begun) old) came.more first counts counts shown (record {
      faults = inl (rises_none _ counts.faults (count_none (is_refused_for is_read_fault) came.more (λ e there. not_refused is_read_fault e (came.none e there))));
      misses = inl (rises_none _ counts.misses (count_none (is_refused_for (is_missed folders)) came.more (λ e there. not_refused (is_missed folders) e (came.none e there))));
    }))

-- grants were settled, and then an event came that opens nothing
pub one_more_came : (old between new : List Event) (e : Event) → NobodysCame old between → new ≡ between ++ e ∷ [] → is_opening e ≡ false → OpensNothing old new
one_more_came old between new e settled are not = record {
  more = settled.more ++ e ∷ [];
  are = are ∙ ap (λ (es : List Event). es ++ e ∷ []) settled.are ∙ append_assoc old settled.more (e ∷ []);
  none = λ d there. ⊎_elim
      (λ (x : Contains settled.more d). nobodys_opening d (settled.nobodys d x))
      (λ (x : Contains (e ∷ []) d). ap is_opening (sym (only_in e d x)) ∙ not)
      (Contains-append_cases settled.more (e ∷ []) d there);
}

pub begun_least : (w : Setting) (begun : List Event) (state : LinkTable) (k : KeeperView) → KeepsState w begun state k → length begun ≤ length k.events
begun_least w begun state k keeps =
    let whole : length k.events ≡ length begun + length keeps.view.kept.begins.0 = ap length keeps.view.kept.begins.1 ∙ length-append begun keeps.view.kept.begins.0 in
    omega (arith, whole)

-- ---- a turn behind grants that were settled

quiet_counts : (folders : List (List ℕ)) (more : List Event) (counts : Counts) → ((e : Event) → Contains more e → is_opening e ≡ false) → ShowInCounts folders more counts counts
quiet_counts folders more counts none = record {
  faults = inl (rises_none _ counts.faults (count_none (is_refused_for is_read_fault) more (λ e there. not_refused is_read_fault e (none e there))));
  misses = inl (rises_none _ counts.misses (count_none (is_refused_for (is_missed folders)) more (λ e there. not_refused (is_missed folders) e (none e there))));
}

-- what the turn's events show, all that came since shows
pub turn_shown : CountsJoin → (folders : List (List ℕ)) (old between past journal own new : List Event) (first now : Counts) → NobodysCame old between → between ≡ past → journal ≡ new → new ≡ between ++ own
    → ShowInCounts folders (drop (length past) journal) first now → ShowInCounts folders (drop (length old) new) first now
turn_shown join folders old between past journal own new first now settled same is are shown =
    let whole : new ≡ old ++ (settled.more ++ own) = are ∙ ap (λ (es : List Event). es ++ own) settled.are ∙ append_assoc old settled.more own in
    let its : drop (length past) journal ≡ own =
    ap (λ (es : List Event). drop (length es) journal) (sym same) ∙ ap (drop (length between)) (is ∙ are) ∙ drop-append_seam between own in
    subst (λ (es : List Event). ShowInCounts folders es first now) (sym (ap (drop (length old)) whole ∙ drop-append_seam old (settled.more ++ own)))
    (join folders settled.more own first first now (quiet_counts folders settled.more first (λ e there. nobodys_opening e (settled.nobodys e there)))
    (subst (λ (es : List Event). ShowInCounts folders es first now) its shown))

-- a turn behind them that reads nothing
pub unread_behind : (h : ℕ) (b : HartState) (k l m : KeeperView) (own past : List Event) → NobodysCame k.events l.events → l.events ≡ past → m.events ≡ l.events ++ own
    → ((e : Event) → Contains own e → hart_of e ≡ Some h) → ServedReadsNothing h b k m → TurnReadsNothing (after past) (due (after past) b)
unread_behind h b k l m own past settled same are of reads = subst (λ (es : List Event). TurnReadsNothing (after es) (due (after es) b)) (sym settled.are ∙ same)
    (reads settled.more own (are ∙ ap (λ (es : List Event). es ++ own) settled.are ∙ append_assoc k.events settled.more own) settled.nobodys of)

pub came_behind : (old between new : List Event) → NobodysCame old between → BeginsWith new between → BeginsWith new old
came_behind old between new settled behind = (settled.more ++ behind.0, behind.1 ∙ ap (λ (es : List Event). es ++ behind.0) settled.are ∙ append_assoc old settled.more behind.0)

-- and what came since shows, all that came since the seats were made does
pub more_shown : CountsJoin → (folders : List (List ℕ)) (begun old new : List Event) (first counts now : Counts) → length begun ≤ length old → BeginsWith new old
    → ShowInCounts folders (drop (length begun) old) first counts → ShowInCounts folders (drop (length old) new) counts now → ShowInCounts folders (drop (length begun) new) first now
more_shown join folders begun old new first counts now short behind shown more =
    let its : drop (length old) new ≡ behind.0 = ap (drop (length old)) behind.1 ∙ drop-append_seam old behind.0 in
    subst (λ (es : List Event). ShowInCounts folders es first now) (sym (ap (drop (length begun)) behind.1 ∙ drop-append-le (length begun) old behind.0 short))
    (join folders (drop (length begun) old) behind.0 first counts now shown (subst (λ (es : List Event). ShowInCounts folders es counts now) its more))
