-- Events by what their lines say of them.
use Rattle.std.proofs.Common.{◌≡◌, ◌⊎◌, inl, inr, ℕ, false, List, [], ◌∷◌, Option, Some, None, refl, sym, ap, subst, ◌∙◌}
use Rattle.ld_base.specs.declared.linking.File.{File}
use Rattle.ld_base.specs.declared.linking.Loaded.{Loaded}
use Rattle.history_event.specs.declared.event.Event.{Event}
use Rattle.history_event.specs.declared.event.Event.TheVariants as events
use Rattle.history_event.specs.declared.event.OpenAnswer.TheVariants as answers
use Rattle.history_event.specs.declared.event.OpenAsk.{OpenAsk}
use Rattle.history_event.specs.declared.event.Range.{Range}
use Rattle.history_event.specs.declared.event_line.EventLine.{EventLine}
use Rattle.history_event.specs.declared.event_line.EventLine.TheVariants as lines
use Rattle.history_event.specs.declared.event_line.OpenLine.{OpenLine}
use Rattle.history_event.specs.declared.event_line.OpenLine.TheVariants as opens
use Rattle.history_state.specs.Allowed.{Allowed}
use Rattle.history_state.specs.Setting.{Setting}
use Rattle.history_calls.specs.Answer.{Answer, loading, returns}
use Rattle.history_calls.specs.Call as call
use Rattle.history_calls.specs.Gives.{EventAnswers}
use Rattle.history_calls.specs.Gives.EventAnswers.{is_loaded, is_there}
use Rattle.history_calls.specs.Gives.Gives.{by_event}
use Rattle.history_calls.specs.Laws.{OneOpening, is_chance}
use Rattle.trace_read.specs.Said.{said_of}

-- the event that a line says, where it says all of it
abbrev unsaid_open : ℕ → OpenAsk → OpenLine → Option Event
unsaid_open hart ask (opens.Done ns root added) = None
unsaid_open hart ask opens.Absent = Some (events.Open hart ask answers.Absent)
unsaid_open hart ask (opens.Refused fault) = Some (events.Open hart ask (answers.Refused fault))

abbrev unsaid : EventLine → Option Event
unsaid (lines.Open hart ask answer) = unsaid_open hart ask answer
unsaid (lines.Close hart handle answer) = Some (events.Close hart handle answer)
unsaid (lines.Unmapped hart set) = Some (events.Unmapped hart set)
unsaid (lines.Grant grant hart owner slot choice value) = Some (events.Grant grant hart owner slot choice value)
unsaid (lines.Bound grant) = Some (events.Bound grant)
unsaid (lines.Lost grant saw) = Some (events.Lost grant saw)
unsaid (lines.Unresolved hart owner slot choice) = Some (events.Unresolved hart owner slot choice)
unsaid (lines.Sym hart ask answer) = Some (events.Sym hart ask answer)
unsaid (lines.Tls hart owner address) = Some (events.Tls hart owner address)
unsaid (lines.Init hart object) = Some (events.Init hart object)
unsaid (lines.Fini hart object) = Some (events.Fini hart object)
unsaid (lines.Wrote hart bytes) = Some (events.Wrote hart bytes)
unsaid (lines.Told hart fault) = Some (events.Told hart fault)
unsaid (lines.Ended hart reason) = Some (events.Ended hart reason)

-- an opening that succeeds
record IsOpened (e : Event) : Type 0 where
  pub hart : ℕ
  pub ask : OpenAsk
  pub id : ℕ
  pub root : ℕ
  pub added : List Loaded
  pub ranges : List Range
  pub is : e ≡ events.Open hart ask (answers.Done id root added ranges)

said_back : (e : Event) → (unsaid (said_of e) ≡ Some e) ⊎ IsOpened e
said_back (events.Open hart ask (answers.Done id root added ranges)) = inr (record { hart = hart; ask = ask; id = id; root = root; added = added; ranges = ranges; is = refl })
said_back (events.Open hart ask answers.Absent) = inl refl
said_back (events.Open hart ask (answers.Refused fault)) = inl refl
said_back (events.Close hart handle answer) = inl refl
said_back (events.Unmapped hart set) = inl refl
said_back (events.Grant grant hart owner slot choice value) = inl refl
said_back (events.Bound grant) = inl refl
said_back (events.Lost grant saw) = inl refl
said_back (events.Unresolved hart owner slot choice) = inl refl
said_back (events.Sym hart ask answer) = inl refl
said_back (events.Tls hart owner address) = inl refl
said_back (events.Init hart object) = inl refl
said_back (events.Fini hart object) = inl refl
said_back (events.Wrote hart bytes) = inl refl
said_back (events.Told hart fault) = inl refl
said_back (events.Ended hart reason) = inl refl

-- ---- an opening

abbrev came_of : ℕ → List Loaded → Answer
came_of root [] = returns root
came_of root (o ∷ rest) = loading root (o ∷ rest)

opens_so : (hart : ℕ) (ask : OpenAsk) (id root : ℕ) (added : List Loaded) (ranges : List Range) → EventAnswers hart (call.opens ask) (events.Open hart ask (answers.Done id root added ranges)) (came_of root added)
opens_so hart ask id root [] ranges = is_there ask id root ranges
opens_so hart ask id root (o ∷ rest) ranges = is_loaded ask id root o rest ranges

sure : (root : ℕ) (added : List Loaded) → is_chance (came_of root added) ≡ false
sure root [] = refl
sure root (o ∷ rest) = refl

one_opened : OneOpening → (w : Setting) (files : List File) (past : List Event) (hart id root other_id other_root : ℕ) (ask : OpenAsk) (added others : List Loaded) (ranges more : List Range) → w.files ≡ Some files
    → Allowed w past (events.Open hart ask (answers.Done id root added ranges)) → Allowed w past (events.Open hart ask (answers.Done other_id other_root others more))
    → events.Open hart ask (answers.Done id root added ranges) ≡ events.Open hart ask (answers.Done other_id other_root others more)
one_opened law w files past hart id root other_id other_root ask added others ranges more told may also =
    let one : Event = events.Open hart ask (answers.Done id root added ranges) in
    let two : Event = events.Open hart ask (answers.Done other_id other_root others more) in
    let same : one ∷ [] ≡ two ∷ [] =
    (law w past hart ask files (one ∷ []) (two ∷ []) (came_of root added) (came_of other_root others) told
    (by_event (call.opens ask) one (came_of root added) (opens_so hart ask id root added ranges) may)
    (by_event (call.opens ask) two (came_of other_root others) (opens_so hart ask other_id other_root others more) also)
    (sure root added) (sure other_root others)).0 in
    cc

-- ---- all events

said_only : (e f : Event) → IsOpened f → said_of e ≡ said_of f → unsaid (said_of e) ≡ None
said_only e f opened same = ap unsaid (same ∙ ap said_of opened.is)

not_all : (e : Event) (line : Option Event) → line ≡ Some e → line ≡ None → ⊥
not_all e line some none = let d : Some e ≡ None = sym some ∙ none in cc

abbrev hart_in : EventLine → ℕ
hart_in (lines.Open hart ask answer) = hart
hart_in other = 0

abbrev ask_in : OpenAsk → EventLine → OpenAsk
ask_in else_ask (lines.Open hart ask answer) = ask
ask_in else_ask other = else_ask

-- the same opening, by the other's hart and ask
moved_to : {f : Event} (y : IsOpened f) (hart : ℕ) (ask : OpenAsk) → hart ≡ y.hart → ask ≡ y.ask → f ≡ events.Open hart ask (answers.Done y.id y.root y.added y.ranges)
moved_to y hart ask harts asks = y.is ∙ sym (ap (λ h. events.Open h y.ask (answers.Done y.id y.root y.added y.ranges)) harts) ∙ sym (ap (λ a. events.Open hart a (answers.Done y.id y.root y.added y.ranges)) asks)

both_opened : OneOpening → (w : Setting) (files : List File) (past : List Event) (e f : Event) (x : IsOpened e) (y : IsOpened f) → w.files ≡ Some files → Allowed w past e → Allowed w past f → said_of e ≡ said_of f → e ≡ f
both_opened law w files past e f x y told may also same =
    let said : said_of (events.Open x.hart x.ask (answers.Done x.id x.root x.added x.ranges)) ≡ said_of (events.Open y.hart y.ask (answers.Done y.id y.root y.added y.ranges)) = sym (ap said_of x.is) ∙ same ∙ ap said_of y.is in
    let harts : x.hart ≡ y.hart = ap hart_in said in
    let asks : x.ask ≡ y.ask = ap (ask_in x.ask) said in
    x.is ∙ one_opened law w files past x.hart x.id x.root y.id y.root x.ask x.added y.added x.ranges y.ranges told (subst (Allowed w past) x.is may) (subst (Allowed w past) (moved_to y x.hart x.ask harts asks) also)
    ∙ sym (moved_to y x.hart x.ask harts asks)

pub one : OneOpening → (w : Setting) (files : List File) (past : List Event) (e f : Event) → w.files ≡ Some files → Allowed w past e → Allowed w past f → said_of e ≡ said_of f → e ≡ f
one law w files past e f told may also same = by (said_back e) (said_back f)
  where
    by : (unsaid (said_of e) ≡ Some e) ⊎ IsOpened e → (unsaid (said_of f) ≡ Some f) ⊎ IsOpened f → e ≡ f
    by (inl a) (inl b) = let d : Some e ≡ Some f = sym a ∙ ap unsaid same ∙ b in cc
    by (inl a) (inr y) = absurd (not_all e (unsaid (said_of e)) a (said_only e f y same))
    by (inr x) (inl b) = absurd (not_all f (unsaid (said_of f)) b (said_only f e x (sym same)))
    by (inr x) (inr y) = both_opened law w files past e f x y told may also same
