-- Where files are told, a text has one verdict.
use Rattle.std.proofs.Common.{◌≡◌, ◌≢◌, ◌⊎◌, inl, inr, ℕ, suc, ◌+◌, true, false, List, [], ◌∷◌, ◌++◌, length, take, Option, Some, None, refl, sym, ap, ap₂, subst, ◌∙◌, append_assoc, append-nil}
use Rattle.std.specs.Prelude.{IsSome}
use Rattle.std.specs.List.{AllByRecursion, AllZip, Contains, flat_map, slice_get}
use Rattle.std.proofs.lemmas.List.Elements.{Contains-append_left, Contains-append_right, Contains-push, recursion_from_All}
use Rattle.ld_base.specs.declared.linking.File.{File}
use Rattle.history_event.specs.declared.event.Event.{Event}
use Rattle.history_state.specs.Allowed.{Allowed}
use Rattle.history_state.specs.Legal.{Legal, Whole}
use Rattle.history_state.specs.Setting.{Setting}
use Rattle.trace_check.specs.Harts.{IsNoEvent, NameHarts}
use Rattle.trace_check.specs.Judged.{IsIllegal, Judged, Says, Verdict, at, legal}
use Rattle.trace_check.specs.Laws.{OneEvent, OneVerdict}
use Rattle.trace_check.specs.Lines.{AreLines, EndsIn, HasNoFeed, IsBefore, IsLine, Lines, bytes_of, is_end}
use Rattle.trace_check.specs.declared.verdict.TraceCause.{TraceCause}
use Rattle.trace_check.specs.declared.verdict.TraceCause.TheVariants as causes
use Rattle.trace_opens.specs.OpeningRows.Expected.{trace_run}
use Rattle.trace_read.specs.Laws.{OneSaying}
use Rattle.trace_read.specs.Lines.{HasLine}
use Rattle.trace_read.specs.Said.{said_of}
use Rattle.trace_check.proofs.Counted.{one_count}

abbrev Bytes : Type 0
Bytes = List ℕ

-- ---- one cut of a text

behind_head : (b : ℕ) (bytes : Bytes) → HasNoFeed (b ∷ bytes) → HasNoFeed bytes
behind_head b bytes none there = none (Contains-append_right (b ∷ []) bytes 10 there)

at_head : (b : ℕ) (bytes : Bytes) → HasNoFeed (b ∷ bytes) → b ≡ 10 → ⊥
at_head b bytes none is = none (subst (λ x. Contains (x ∷ bytes) 10) (sym is) (Contains-append_left (10 ∷ []) bytes 10 (Contains-push [] 10)))

head_is : (x y : ℕ) (xs ys : Bytes) → x ∷ xs ≡ y ∷ ys → x ≡ y
head_is x y xs ys e = cc

tail_is : (x y : ℕ) (xs ys : Bytes) → x ∷ xs ≡ y ∷ ys → xs ≡ ys
tail_is x y xs ys e = cc

record IsOneCut (one other rest behind : Bytes) : Type 0 where
  pub front : one ≡ other
  pub back : rest ≡ behind

one_feed : (words more rest behind : Bytes) → HasNoFeed words → HasNoFeed more → words ++ 10 ∷ rest ≡ more ++ 10 ∷ behind → IsOneCut words more rest behind
one_feed [] [] rest behind none free same = record { front = refl; back = tail_is 10 10 rest behind same }
one_feed [] (b ∷ more) rest behind none free same = absurd (at_head b more free (sym (head_is 10 b rest (more ++ 10 ∷ behind) same)))
one_feed (b ∷ words) [] rest behind none free same = absurd (at_head b words none (head_is b 10 (words ++ 10 ∷ rest) behind same))
one_feed (b ∷ words) (c ∷ more) rest behind none free same =
    let rec = one_feed words more rest behind (behind_head b words none) (behind_head c more free) (tail_is b c (words ++ 10 ∷ rest) (more ++ 10 ∷ behind) same) in
    record { front = ap₂ (λ x xs. x ∷ xs) (head_is b c (words ++ 10 ∷ rest) (more ++ 10 ∷ behind) same) rec.front; back = rec.back }

ends_so : (line rest : Bytes) (x : IsLine line) → line ++ rest ≡ x.words ++ 10 ∷ rest
ends_so line rest x = ap (λ l. l ++ rest) x.are ∙ append_assoc x.words (10 ∷ []) rest

one_line : (line other rest behind : Bytes) → IsLine line → IsLine other → line ++ rest ≡ other ++ behind → IsOneCut line other rest behind
one_line line other rest behind x y same =
    let cut = one_feed x.words y.words rest behind x.one y.one (sym (ends_so line rest x) ∙ same ∙ ends_so other behind y) in
    record { front = x.are ∙ ap (λ w. w ++ 10 ∷ []) cut.front ∙ sym y.are; back = cut.back }

no_feed_in : (line rest text : Bytes) → IsLine line → line ++ rest ≡ text → HasNoFeed text → ⊥
no_feed_in line rest text x same none =
    none (subst (λ t. Contains t 10) same (Contains-append_left line rest 10 (subst (λ l. Contains l 10) (sym x.are) (Contains-push x.words 10))))

not_both : (line other : Bytes) → line ≡ other → is_end line ≡ true → is_end other ≡ false → ⊥
not_both line other same last before = let d : true ≡ false = sym last ∙ ap is_end same ∙ before in absurd cc

-- ---- one list of lines

record AreOne (events others : List Bytes) (last final : Option Bytes) (rest behind : Bytes) : Type 0 where
  pub events_are : events ≡ others
  pub last_is : last ≡ final
  pub rest_is : rest ≡ behind

only_ends : (last final : Option Bytes) (rest behind : Bytes) → EndsIn last rest → EndsIn final behind → bytes_of last ++ rest ≡ bytes_of final ++ behind → AreOne [] [] last final rest behind
only_ends None None rest behind x y same = record { events_are = refl; last_is = refl; rest_is = same }
only_ends None (Some line) rest behind x y same = absurd (no_feed_in line behind rest y.line (sym same) x)
only_ends (Some line) None rest behind x y same = absurd (no_feed_in line rest behind x.line same y)
only_ends (Some line) (Some other) rest behind x y same =
    let cut = one_line line other rest behind x.line y.line same in
    record { events_are = refl; last_is = ap (λ l. Some l) cut.front; rest_is = cut.back }

-- a line before a last one doesn't stand where the last one does
no_more : (line more rest : Bytes) (last : Option Bytes) → IsBefore line → EndsIn last rest → line ++ more ≡ bytes_of last ++ rest → ⊥
no_more line more rest None x y same = no_feed_in line more rest x.line same y
no_more line more rest (Some other) x y same = not_both other line (sym (one_line line other more rest x.line y.line same).front) y.last x.before

abbrev whole_of : List Bytes → Option Bytes → Bytes → Bytes
whole_of events last rest = flat_map (λ line. line) events ++ (bytes_of last ++ rest)

all_lines : (events others : List Bytes) (last final : Option Bytes) (rest behind : Bytes) → AllByRecursion IsBefore events → AllByRecursion IsBefore others
    → EndsIn last rest → EndsIn final behind → whole_of events last rest ≡ whole_of others final behind → AreOne events others last final rest behind
all_lines [] [] last final rest behind x y ends also same = only_ends last final rest behind ends also same
all_lines [] (line ∷ others) last final rest behind x y ends also same = absurd (no_more line (whole_of others final behind) rest last y.0 ends (sym (same ∙ append_assoc line (flat_map (λ l. l) others) (bytes_of final ++ behind))))
all_lines (line ∷ events) [] last final rest behind x y ends also same = absurd (no_more line (whole_of events last rest) behind final x.0 also (sym (append_assoc line (flat_map (λ l. l) events) (bytes_of last ++ rest)) ∙ same))
all_lines (line ∷ events) (other ∷ others) last final rest behind x y ends also same =
    let cut = one_line line other (whole_of events last rest) (whole_of others final behind) x.0.line y.0.line (sym (append_assoc line (flat_map (λ l. l) events) (bytes_of last ++ rest)) ∙ same ∙ append_assoc other (flat_map (λ l. l) others) (bytes_of final ++ behind)) in
    let rec = all_lines events others last final rest behind x.1 y.1 ends also cut.back in
    record { events_are = ap₂ (λ l ls. l ∷ ls) cut.front rec.events_are; last_is = rec.last_is; rest_is = rec.rest_is }

same_lines : (t u : Lines) → AreOne t.events u.events t.last u.last t.rest u.rest → t ≡ u
same_lines t u one =
    ap (λ (es : List Bytes). record { events = es; last = t.last; rest = t.rest }) one.events_are
    ∙ ap (λ (l : Option Bytes). record { events = u.events; last = l; rest = t.rest }) one.last_is
    ∙ ap (λ (r : Bytes). record { events = u.events; last = u.last; rest = r }) one.rest_is

pub one_split : (text : Bytes) (t u : Lines) → AreLines text t → AreLines text u → t ≡ u
one_split text t u x y = same_lines t u (all_lines t.events u.events t.last u.last t.rest u.rest
    (recursion_from_All IsBefore t.events x.before) (recursion_from_All IsBefore u.events y.before) x.ends y.ends (sym x.whole ∙ y.whole))

-- ---- one history

module _ (w : Setting) (files : List File) (told : w.files ≡ Some files) (one_event : OneEvent) (one_saying : OneSaying) where
  -- an event of each line, one behind the other
  abbrev Follow : List Event → List Bytes → List Event → Type 0
  Follow past [] [] = Unit {0}
  Follow past [] (e ∷ events) = ⊥
  Follow past (line ∷ lines) [] = ⊥
  Follow past (line ∷ lines) (e ∷ events) = HasLine line (said_of e) × Allowed w past e × Follow (past ++ e ∷ []) lines events

  abbrev LegalBehind : List Event → List Event → Type 0
  LegalBehind past events = (k : ℕ) (e : Event) → slice_get events k ≡ Some e → Allowed w (past ++ take k events) e

  follows : (past : List Event) (lines : List Bytes) (events : List Event) → AllZip (λ line e. HasLine line (said_of e)) lines events → LegalBehind past events → Follow past lines events
  follows past [] [] zip may = tt
  follows past [] (e ∷ events) zip may = absurd zip
  follows past (line ∷ lines) [] zip may = absurd zip
  follows past (line ∷ lines) (e ∷ events) zip may =
      (zip.0, subst (λ es. Allowed w es e) (append-nil past) (may 0 e refl), follows (past ++ e ∷ []) lines events zip.1 (λ k x here. subst (λ es. Allowed w es x) (sym (append_assoc past (e ∷ []) (take k events))) (may (suc k) x here)))

  says_follows : (lines : List Bytes) (events : List Event) → Says w lines events → Follow [] lines events
  unfolding Legal
  says_follows lines events says = follows [] lines events says.said says.legal

  same_event : (past : List Event) (line : Bytes) (e f : Event) → HasLine line (said_of e) → HasLine line (said_of f) → Allowed w past e → Allowed w past f → e ≡ f
  same_event past line e f x y may also = one_event w files past e f told may also (one_saying line (said_of e) (said_of f) x y)

  same_events : (past : List Event) (lines : List Bytes) (events others : List Event) → Follow past lines events → Follow past lines others → events ≡ others
  same_events past [] [] [] x y = refl
  same_events past [] [] (f ∷ others) x y = absurd y
  same_events past [] (e ∷ events) others x y = absurd x
  same_events past (line ∷ lines) [] others x y = absurd x
  same_events past (line ∷ lines) (e ∷ events) [] x y = absurd y
  same_events past (line ∷ lines) (e ∷ events) (f ∷ others) x y =
      let same : e ≡ f = same_event past line e f x.0 y.0 x.1 y.1 in
      ap₂ (λ a b. a ∷ b) same (same_events (past ++ e ∷ []) lines events others x.2 (subst (λ a. Follow (past ++ a ∷ []) lines others) (sym same) y.2))

  -- ---- the line at which it stops

  abbrev Stuck : List Event → Bytes → Type 0
  Stuck past line = (e : Event) → HasLine line (said_of e) → ¬ (Allowed w past e)

  goes_on : (past : List Event) (lines before behind : List Bytes) (line : Bytes) (events read : List Event) → lines ≡ before ++ line ∷ behind → Follow past lines events → Follow past before read
      → Stuck (past ++ read) line → ⊥
  goes_on past [] [] behind line events read is x y stuck = let d : [] ≡ line ∷ behind = is in cc
  goes_on past [] (b ∷ before) behind line events read is x y stuck = let d : [] ≡ b ∷ (before ++ line ∷ behind) = is in cc
  goes_on past (l ∷ lines) before behind line [] read is x y stuck = absurd x
  goes_on past (l ∷ lines) [] behind line (e ∷ events) [] is x y stuck =
      let d : l ∷ lines ≡ line ∷ behind = is in
      let same : l ≡ line = cc in
      stuck e (subst (λ a. HasLine a (said_of e)) same x.0) (subst (λ es. Allowed w es e) (sym (append-nil past)) x.1)
  goes_on past (l ∷ lines) [] behind line (e ∷ events) (f ∷ read) is x y stuck = absurd y
  goes_on past (l ∷ lines) (b ∷ before) behind line (e ∷ events) [] is x y stuck = absurd y
  goes_on past (l ∷ lines) (b ∷ before) behind line (e ∷ events) (f ∷ read) is x y stuck =
      let d : l ∷ lines ≡ b ∷ (before ++ line ∷ behind) = is in
      let heads : l ≡ b = cc in
      let tails : lines ≡ before ++ line ∷ behind = cc in
      let same : f ≡ e = same_event past b f e y.0 (subst (λ a. HasLine a (said_of e)) heads x.0) y.1 x.1 in
      goes_on (past ++ e ∷ []) lines before behind line events read tails x.2 (subst (λ a. Follow (past ++ a ∷ []) before read) same y.2)
      (subst (λ es. Stuck es line) (ap (λ a. past ++ a ∷ read) same ∙ sym (append_assoc past (e ∷ []) read)) stuck)

  record IsOneStop (before others : List Bytes) (line other : Bytes) (events read : List Event) : Type 0 where
    pub front : before ≡ others
    pub own : line ≡ other
    pub past : events ≡ read

  one_stop : (past : List Event) (before others behind more : List Bytes) (line other : Bytes) (events read : List Event) → before ++ line ∷ behind ≡ others ++ other ∷ more
      → Follow past before events → Follow past others read → Stuck (past ++ events) line → Stuck (past ++ read) other → IsOneStop before others line other events read
  one_stop past [] [] behind more line other [] [] is x y stuck also = let d : line ∷ behind ≡ other ∷ more = is in record { front = refl; own = cc; past = refl }
  one_stop past [] [] behind more line other [] (f ∷ read) is x y stuck also = absurd y
  one_stop past [] [] behind more line other (e ∷ events) read is x y stuck also = absurd x
  one_stop past [] (c ∷ others) behind more line other (e ∷ events) read is x y stuck also = absurd x
  one_stop past [] (c ∷ others) behind more line other [] [] is x y stuck also = absurd y
  one_stop past [] (c ∷ others) behind more line other [] (f ∷ read) is x y stuck also =
      let d : line ∷ behind ≡ c ∷ (others ++ other ∷ more) = is in
      let same : c ≡ line = cc in
      absurd (stuck f (subst (λ a. HasLine a (said_of f)) same y.0) (subst (λ es. Allowed w es f) (sym (append-nil past)) y.1))
  one_stop past (b ∷ before) [] behind more line other [] read is x y stuck also = absurd x
  one_stop past (b ∷ before) [] behind more line other (e ∷ events) (f ∷ read) is x y stuck also = absurd y
  one_stop past (b ∷ before) [] behind more line other (e ∷ events) [] is x y stuck also =
      let d : b ∷ (before ++ line ∷ behind) ≡ other ∷ more = is in
      let same : b ≡ other = cc in
      absurd (also e (subst (λ a. HasLine a (said_of e)) same x.0) (subst (λ es. Allowed w es e) (sym (append-nil past)) x.1))
  one_stop past (b ∷ before) (c ∷ others) behind more line other [] read is x y stuck also = absurd x
  one_stop past (b ∷ before) (c ∷ others) behind more line other (e ∷ events) [] is x y stuck also = absurd y
  one_stop past (b ∷ before) (c ∷ others) behind more line other (e ∷ events) (f ∷ read) is x y stuck also =
      let d : b ∷ (before ++ line ∷ behind) ≡ c ∷ (others ++ other ∷ more) = is in
      let heads : b ≡ c = cc in
      let tails : before ++ line ∷ behind ≡ others ++ other ∷ more = cc in
      let same : f ≡ e = same_event past c f e y.0 (subst (λ a. HasLine a (said_of e)) heads x.0) y.1 x.1 in
      let rec = one_stop (past ++ e ∷ []) before others behind more line other events read tails x.2 (subst (λ a. Follow (past ++ a ∷ []) others read) same y.2)
      (subst (λ es. Stuck es line) (sym (append_assoc past (e ∷ []) events)) stuck) (subst (λ es. Stuck es other) (ap (λ a. past ++ a ∷ read) same ∙ sym (append_assoc past (e ∷ []) read)) also) in
      record { front = ap₂ (λ a more. a ∷ more) heads rec.front; own = rec.own; past = ap₂ (λ a more. a ∷ more) (sym same) rec.past }

  -- ---- one verdict

  -- no event has the line, or none that has it may come
  data Why (events : List Event) (line : Bytes) : TraceCause → Type 0 where
    no_event : IsNoEvent line → Why events line causes.NotALine
    may_not : IsIllegal w events line → Why events line causes.Illegal

  stuck_by : (events : List Event) (line : Bytes) (cause : TraceCause) → Why events line cause → Stuck events line
  stuck_by events line causes.NotALine (no_event none) e has may = none (said_of e) has
  stuck_by events line causes.NotWhole x e has may = elim x [ ]
  stuck_by events line causes.NoEnd x e has may = elim x [ ]
  stuck_by events line causes.Illegal (may_not x) e has may = x.none e (one_saying line (said_of e) x.said has x.has) may

  same_cause : (events : List Event) (line : Bytes) (one other : TraceCause) → Why events line one → Why events line other → one ≡ other
  same_cause events line causes.NotALine causes.NotALine (no_event none) (no_event also) = refl
  same_cause events line causes.NotALine causes.Illegal (no_event none) (may_not y) = absurd (none y.said y.has)
  same_cause events line causes.Illegal causes.NotALine (may_not x) (no_event none) = absurd (none x.said x.has)
  same_cause events line causes.Illegal causes.Illegal (may_not x) (may_not y) = refl
  same_cause events line causes.NotALine causes.NotWhole x y = elim y [ ]
  same_cause events line causes.NotALine causes.NoEnd x y = elim y [ ]
  same_cause events line causes.Illegal causes.NotWhole x y = elim y [ ]
  same_cause events line causes.Illegal causes.NoEnd x y = elim y [ ]
  same_cause events line causes.NotWhole other x y = elim x [ ]
  same_cause events line causes.NoEnd other x y = elim x [ ]

  record Stops (t : Lines) (cause : TraceCause) (count : ℕ) : Type 0 where
    pub before : List Bytes
    pub behind : List Bytes
    pub line : Bytes
    pub events : List Event
    pub is : t.events ≡ before ++ line ∷ behind
    pub says : Says w before events
    pub why : Why events line cause
    pub counts : count ≡ length before

  same_stop : (t : Lines) (one other : TraceCause) (m n : ℕ) → Stops t one m → Stops t other n → at (m + 1) one ≡ at (n + 1) other
  same_stop t one other m n x y =
      let both = one_stop [] x.before y.before x.behind y.behind x.line y.line x.events y.events (sym x.is ∙ y.is) (says_follows x.before x.events x.says) (says_follows y.before y.events y.says)
      (stuck_by x.events x.line one x.why) (stuck_by y.events y.line other y.why) in
      ap₂ (λ k c. at (k + 1) c) (x.counts ∙ ap (λ (ls : List Bytes). length ls) both.front ∙ sym y.counts)
      (same_cause y.events y.line one other (subst (λ es. Why es y.line one) both.past (subst (λ l. Why x.events l one) both.own x.why)) y.why)

  all_read : (t : Lines) (cause : TraceCause) (count : ℕ) (events : List Event) → Stops t cause count → Says w t.events events → ⊥
  all_read t cause count events x says = goes_on [] t.events x.before x.behind x.line events x.events x.is (says_follows t.events events says) (says_follows x.before x.events x.says) (stuck_by x.events x.line cause x.why)

  -- what comes of a text all of whose lines are events', by its last line and what stands behind
  abbrev EndsAs : List Event → ℕ → Option Bytes → Bytes → Verdict → Type 0
  EndsAs events n None [] v = v ≡ at (n + 1) causes.NoEnd
  EndsAs events n None (b ∷ rest) v = v ≡ at (n + 1) causes.NotALine
  EndsAs events n (Some line) [] v = (Whole w events × (v ≡ legal (length events))) ⊎ ((¬ (Whole w events)) × (v ≡ at (n + 1) causes.NotWhole))
  EndsAs events n (Some line) (b ∷ rest) v = (Whole w events × (v ≡ at (n + 2) causes.NotALine)) ⊎ ((¬ (Whole w events)) × (v ≡ at (n + 1) causes.NotWhole))

  either_whole : (events : List Event) (good bad one other : Verdict) → (Whole w events × (one ≡ good)) ⊎ ((¬ (Whole w events)) × (one ≡ bad))
      → (Whole w events × (other ≡ good)) ⊎ ((¬ (Whole w events)) × (other ≡ bad)) → one ≡ other
  either_whole events good bad one other (inl x) (inl y) = x.1 ∙ sym y.1
  either_whole events good bad one other (inl x) (inr y) = absurd (y.0 x.0)
  either_whole events good bad one other (inr x) (inl y) = absurd (x.0 y.0)
  either_whole events good bad one other (inr x) (inr y) = x.1 ∙ sym y.1

  same_end : (events : List Event) (n : ℕ) (last : Option Bytes) (rest : Bytes) (one other : Verdict) → EndsAs events n last rest one → EndsAs events n last rest other → one ≡ other
  same_end events n None [] one other x y = x ∙ sym y
  same_end events n None (b ∷ rest) one other x y = x ∙ sym y
  same_end events n (Some line) [] one other x y = either_whole events (legal (length events)) (at (n + 1) causes.NotWhole) one other x y
  same_end events n (Some line) (b ∷ rest) one other x y = either_whole events (at (n + 2) causes.NotALine) (at (n + 1) causes.NotWhole) one other x y

  data Comes (t : Lines) : Verdict → Type 0 where
    stops : (cause : TraceCause) (count : ℕ) → Stops t cause count → Comes t (at (count + 1) cause)
    ends : (events : List Event) (v : Verdict) → Says w t.events events → EndsAs events (length t.events) t.last t.rest v → Comes t v

  is_cut : (events : List Event) (n : ℕ) (last : Option Bytes) (rest : Bytes) → last ≡ None → rest ≢ [] → EndsAs events n last rest (at (n + 1) causes.NotALine)
  is_cut events n None [] none some = absurd (some refl)
  is_cut events n None (b ∷ rest) none some = refl
  is_cut events n (Some line) rest none some = absurd (let d : Some line ≡ None = none in cc)

  no_end : (events : List Event) (n : ℕ) (last : Option Bytes) (rest : Bytes) → last ≡ None → rest ≡ [] → EndsAs events n last rest (at (n + 1) causes.NoEnd)
  no_end events n None [] none empty = refl
  no_end events n None (b ∷ rest) none empty = absurd (let d : b ∷ rest ≡ [] = empty in cc)
  no_end events n (Some line) rest none empty = absurd (let d : Some line ≡ None = none in cc)

  not_whole : (events : List Event) (n : ℕ) (last : Option Bytes) (rest : Bytes) → IsSome last → ¬ (Whole w events) → EndsAs events n last rest (at (n + 1) causes.NotWhole)
  not_whole events n None rest some not = absurd (let d : false ≡ true = some in cc)
  not_whole events n (Some line) [] some not = inr (not, refl)
  not_whole events n (Some line) (b ∷ rest) some not = inr (not, refl)

  has_more : (events : List Event) (n : ℕ) (last : Option Bytes) (rest : Bytes) → IsSome last → Whole w events → rest ≢ [] → EndsAs events n last rest (at (n + 2) causes.NotALine)
  has_more events n None rest some whole more = absurd (let d : false ≡ true = some in cc)
  has_more events n (Some line) [] some whole more = absurd (more refl)
  has_more events n (Some line) (b ∷ rest) some whole more = inl (whole, refl)

  is_legal : (events : List Event) (n : ℕ) (last : Option Bytes) (rest : Bytes) → IsSome last → Whole w events → rest ≡ [] → EndsAs events n last rest (legal (length events))
  is_legal events n None rest some whole empty = absurd (let d : false ≡ true = some in cc)
  is_legal events n (Some line) [] some whole empty = inl (whole, refl)
  is_legal events n (Some line) (b ∷ rest) some whole empty = absurd (let d : b ∷ rest ≡ [] = empty in cc)

  comes : (t : Lines) (v : Verdict) → Judged w t v → Comes t v
  comes t v (Judged.no_line before behind line events is says none) =
      stops causes.NotALine (length before) (record { before = before; behind = behind; line = line; events = events; is = is; says = says; why = no_event none; counts = refl })
  comes t v (Judged.not_allowed before behind line events is says not) =
      stops causes.Illegal (length before) (record { before = before; behind = behind; line = line; events = events; is = is; says = says; why = may_not not; counts = refl })
  comes t v (Judged.undecided before behind line events is says left) = let d : Some files ≡ None = sym told ∙ left.lacks.none in absurd cc
  comes t v (Judged.is_cut events says none some) = ends events _ says (is_cut events (length t.events) t.last t.rest none some)
  comes t v (Judged.no_end events says none empty) = ends events _ says (no_end events (length t.events) t.last t.rest none empty)
  comes t v (Judged.not_whole events says some not) = ends events _ says (not_whole events (length t.events) t.last t.rest some not)
  comes t v (Judged.goes_on events says some whole more) = ends events _ says (has_more events (length t.events) t.last t.rest some whole more)
  comes t v (Judged.is_legal events says some whole empty) = ends events _ says (is_legal events (length t.events) t.last t.rest some whole empty)

  one_end : (t : Lines) (one other : Verdict) → Comes t one → Comes t other → one ≡ other
  one_end t one other (stops cause count x) (stops why number y) = same_stop t cause why count number x y
  one_end t one other (stops cause count x) (ends events v says y) = absurd (all_read t cause count events x says)
  one_end t one other (ends events v says x) (stops cause count y) = absurd (all_read t cause count events y says)
  one_end t one other (ends events v says x) (ends others u also y) =
      let same : others ≡ events = same_events [] t.events others events (says_follows t.events others also) (says_follows t.events events says) in
      same_end events (length t.events) t.last t.rest one other x (subst (λ es. EndsAs es (length t.events) t.last t.rest other) same y)

  pub one_judged : (t : Lines) (one other : Verdict) → Judged w t one → Judged w t other → one ≡ other
  one_judged t one other x y = one_end t one other (comes t one x) (comes t other y)

pub one_verdict : OneEvent → OneSaying → OneVerdict
one_verdict one_event one_saying folders files text one other x y =
    let lines : y.lines ≡ x.lines = one_split text y.lines x.lines y.are x.are in
    let counts : y.named ≡ x.named = one_count one_saying x.lines.events y.named x.named (subst (λ t. NameHarts t.events y.named) lines y.harts) x.harts in
    one_judged (trace_run (x.named + 1) folders (Some files)) files refl one_event one_saying x.lines one other x.judged
    (subst (λ n. Judged (trace_run (n + 1) folders (Some files)) x.lines other) counts (subst (λ t. Judged (trace_run (y.named + 1) folders (Some files)) t other) lines y.judged))
