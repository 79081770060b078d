-- On a table of atomic words the step of a kind is allowed to each seat that is ready for it.
use Rattle.std.proofs.Common.{◌≡◌, ◌≢◌, ℕ, ◌+◌, ◌%◌, ◌^◌, ◌<◌, List, [], refl, sym, ap, subst, ◌∙◌, slice_index, slice_set, ◌==◌}
use mathlib.Core.Option.{some, none}
use prog.Atomic.{either}
use lib.ListN.{get_elem?}
use Rattle.atomic_table.specs.Table.{Allows, keeps, Me, State, Step, step}
use Rattle.ld_base.specs.declared.linking.Role.TheVariants.{None as NoRole, Slot as SlotRole}
use Rattle.word_rule.specs.declared.kind.HartKind.{HartKind}
use Rattle.word_rule.specs.declared.kind.HartKind.TheVariants as harts
use Rattle.word_rule.specs.declared.kind.KeeperKind.{KeeperKind}
use Rattle.word_rule.specs.declared.kind.KeeperKind.TheVariants as keepers
use Rattle.word_rule.specs.declared.kind.Kind.{Kind}
use Rattle.word_rule.specs.declared.kind.Kind.TheVariants.{Hart as OfHart, Keeper as OfKeeper}
use Rattle.word_rule.specs.declared.view.HartView.{HartView}
use Rattle.word_rule.specs.declared.view.KeeperView.{KeeperView}
use Rattle.word_rule.specs.declared.view.View.{View}
use Rattle.word_rule.specs.declared.view.View.TheVariants.{Keeper, Hart, Note, Spent}
use Rattle.word_rule.specs.Layout.{to_lock, to_unlock}
use Rattle.word_rule.specs.Operations.{add, becomes, exchange, load, Op, operands, store}
use Rattle.word_rule.specs.HartSteps.{hart_op}
use Rattle.word_rule.specs.KeeperSteps.{keeper_op}
use Rattle.word_rule.specs.Rule.{IsGuest}
use Rattle.word_rule.specs.Table.{after_step, IsStep, Learns, op_of, Ready, Tells, word_of}
use Rattle.word_rule.specs.Lemmas.Steps.{hart_keeps, keeper_keeps}

Keeps : Kind → ℕ → View → Type 0
Keeps kind seat v = (words : List ℕ) (views : List View) → IsGuest words views → get_elem? views seat ≡ some v → slice_index words (word_of kind) < 18446744073709551616
    → IsGuest (slice_set words (word_of kind) (becomes (op_of kind) (slice_index words (word_of kind)))) (slice_set views seat (after_step kind v (slice_index words (word_of kind)))) × Learns kind v (slice_index words (word_of kind))

keeps_all : (kind : Kind) (seat : ℕ) (v : View) → Ready kind v → Keeps kind seat v
unfolding Keeps
keeps_all (OfHart kind) seat (Hart h) ready = hart_keeps kind seat h ready
keeps_all (OfKeeper kind) seat (Keeper k) ready = keeper_keeps kind seat k ready
keeps_all (OfHart kind) seat (Keeper k) ready = absurd ready
keeps_all (OfHart kind) seat (Note es slip) ready = absurd ready
keeps_all (OfHart kind) seat Spent ready = absurd ready
keeps_all (OfKeeper kind) seat (Hart h) ready = absurd ready
keeps_all (OfKeeper kind) seat (Note es slip) ready = absurd ready
keeps_all (OfKeeper kind) seat Spent ready = absurd ready

-- ---- the rule, over a table's state

abbrev pub Ruled : State Unit View → Type 0
Ruled s = IsGuest s.words s.views

-- what a step of the table asks, and what it then tells
may_step : (kind : Kind) (slots seat : ℕ) (v : View) (step : Step Unit) → Ready kind v → IsStep kind step
    → Allows Ruled slots seat (v, []) (word_of kind) (becomes (op_of kind)) (Tells kind step (v, []))
unfolding Keeps
may_step kind slots seat v step ready aimed s holds homes at small =
    let n : ℕ = slice_index s.words (word_of kind) in
    let k = keeps_all kind seat v ready s.words s.views holds at small in
    (after_step kind v n, keeps, tt, k.0, (refl, k.1, ready, aimed))

-- the same where the word, the operation and the seat are named otherwise
may_op : (kind : Kind) (slots seat word : ℕ) (op : Op) (me : Me Unit View) → me.1 ≡ [] → word ≡ word_of kind → op_of kind ≡ op → Ready kind me.0
    → let step : Step Unit = record { slots = slots; word = word; first = (operands op).0; second = (operands op).1; said = none } in
    Allows Ruled slots seat me word (becomes op) (Tells kind step me)
may_op kind slots seat word op me empty at is ready =
    subst (λ (q : ℕ × Op × Me Unit View).
    Allows Ruled slots seat q.2 q.0 (becomes q.1) (Tells kind (record { slots = slots; word = q.0; first = (operands q.1).0; second = (operands q.1).1; said = none }) q.2))
    (λ i. (sym at i, is i, (me.0, sym empty i)))
    (may_step kind slots seat me.0 (record { slots = slots; word = word_of kind; first = (operands (op_of kind)).0; second = (operands (op_of kind)).1; said = none }) ready (refl, refl))

-- ---- the four operations

pub may_load : (kind : Kind) (slots seat word : ℕ) (me : Me Unit View) → me.1 ≡ [] → word ≡ word_of kind → op_of kind ≡ load → Ready kind me.0
    → Allows Ruled slots seat me word (λ n. n) (Tells kind (step slots word 0 0 none) me)
may_load kind slots seat word me empty at is ready = may_op kind slots seat word load me empty at is ready

pub may_exchange : (kind : Kind) (slots seat word old new : ℕ) (me : Me Unit View) → me.1 ≡ [] → word ≡ word_of kind → op_of kind ≡ exchange old new → Ready kind me.0
    → Allows Ruled slots seat me word (λ n. either (n == old) new n) (Tells kind (step slots word old new none) me)
may_exchange kind slots seat word old new me empty at is ready = may_op kind slots seat word (exchange old new) me empty at is ready

pub may_add : (kind : Kind) (slots seat word k : ℕ) (me : Me Unit View) → me.1 ≡ [] → word ≡ word_of kind → op_of kind ≡ add k → Ready kind me.0
    → Allows Ruled slots seat me word (λ n. (n + k) % 2 ^ 64) (Tells kind (step slots word k 0 none) me)
may_add kind slots seat word k me empty at is ready = may_op kind slots seat word (add k) me empty at is ready

-- a store is told the number that it stored: what it found changes neither the view nor what is known
record Alike (kind : Kind) (v : View) (n m : ℕ) : Type 0 where
  pub after : after_step kind v n ≡ after_step kind v m
  pub learns : Learns kind v n → Learns kind v m

load_apart : (x : ℕ) → load ≢ store x
load_apart x e = absurd (cc)

exchange_apart : (a b x : ℕ) → exchange a b ≢ store x
exchange_apart a b x e = absurd (cc)

add_apart : (k x : ℕ) → add k ≢ store x
add_apart k x e = absurd (cc)

hart_alike : (kind : HartKind) (x : ℕ) → hart_op kind ≡ store x → (h : HartView) (n m : ℕ) → Alike (OfHart kind) (Hart h) n m
hart_alike (harts.Store ask y) x is h n m = record { after = refl; learns = λ l. l }
hart_alike (harts.Accept i e) x is h n m = record { after = refl; learns = λ l. l }
hart_alike (harts.Finish i won) x is h n m = record { after = refl; learns = λ l. l }
hart_alike (harts.Look ask) x is h n m = absurd (load_apart x is)
hart_alike (harts.Load ask) x is h n m = absurd (load_apart x is)
hart_alike (harts.Hold ask) x is h n m = absurd (load_apart x is)
hart_alike (harts.Lock ask control) x is h n m = absurd (exchange_apart control (control + to_lock) x is)
hart_alike (harts.Unlock d) x is h n m = absurd (add_apart to_lock x is)
hart_alike harts.Tally x is h n m = absurd (load_apart x is)
hart_alike (harts.Begin i) x is h n m = absurd (add_apart 8 x is)
hart_alike (harts.Arrive i) x is h n m = absurd (load_apart x is)
hart_alike (harts.Find i w) x is h n m = absurd (load_apart x is)
hart_alike (harts.Exchange g) x is h n m = absurd (exchange_apart g.lazy g.entry.value x is)
hart_alike (harts.Generation number) x is h n m = absurd (load_apart x is)
hart_alike harts.Listen x is h n m = absurd (load_apart x is)

keeper_alike : (kind : KeeperKind) (x : ℕ) → keeper_op kind ≡ store x → (k : KeeperView) (n m : ℕ) → Alike (OfKeeper kind) (Keeper k) n m
keeper_alike (keepers.Store d y) x is k n m = record { after = refl; learns = λ l. l }
keeper_alike (keepers.Fill i w y) x is k n m = record { after = refl; learns = λ l. l }
keeper_alike (keepers.Hand i mark) x is k n m = record { after = refl; learns = λ l. l }
keeper_alike (keepers.Open i) x is k n m = record { after = refl; learns = λ l. l }
keeper_alike (keepers.Generation g) x is k n m = record { after = refl; learns = λ l. l }
keeper_alike (keepers.Look d) x is k n m = absurd (load_apart x is)
keeper_alike (keepers.Load d) x is k n m = absurd (load_apart x is)
keeper_alike (keepers.Lock d control) x is k n m = absurd (exchange_apart control (control + to_lock) x is)
keeper_alike (keepers.Unlock d role lazy) x is k n m = absurd (add_apart (to_unlock NoRole role) x is)
keeper_alike (keepers.Count e) x is k n m = absurd (add_apart 1 x is)
keeper_alike (keepers.Await i) x is k n m = absurd (load_apart x is)
keeper_alike (keepers.Ask i) x is k n m = absurd (load_apart x is)
keeper_alike (keepers.Saw d i) x is k n m = absurd (load_apart x is)
keeper_alike (keepers.RetireSlot d) x is k n m = absurd (add_apart (to_unlock SlotRole NoRole) x is)
keeper_alike (keepers.Retire d old) x is k n m = absurd (add_apart (to_unlock old NoRole) x is)
keeper_alike (keepers.Recall m i) x is k n j = absurd (load_apart x is)
keeper_alike keepers.RecallGeneration x is k n j = absurd (load_apart x is)
keeper_alike (keepers.RecallRole d) x is k n j = absurd (load_apart x is)
keeper_alike keepers.Listen x is k n m = absurd (load_apart x is)

alike : (kind : Kind) (x : ℕ) → op_of kind ≡ store x → (v : View) → Ready kind v → (n m : ℕ) → Alike kind v n m
alike (OfHart kind) x is (Hart h) ready n m = hart_alike kind x is h n m
alike (OfKeeper kind) x is (Keeper k) ready n m = keeper_alike kind x is k n m
alike (OfHart kind) x is (Keeper k) ready n m = absurd ready
alike (OfHart kind) x is (Note es slip) ready n m = absurd ready
alike (OfHart kind) x is Spent ready n m = absurd ready
alike (OfKeeper kind) x is (Hart h) ready n m = absurd ready
alike (OfKeeper kind) x is (Note es slip) ready n m = absurd ready
alike (OfKeeper kind) x is Spent ready n m = absurd ready

pub may_store : (kind : Kind) (slots seat word x : ℕ) (me : Me Unit View) → me.1 ≡ [] → word ≡ word_of kind → op_of kind ≡ store x → Ready kind me.0
    → Allows Ruled slots seat me word (λ _. x) (λ _. Tells kind (step slots word x 0 none) me x)
may_store kind slots seat word x me empty at is ready s holds homes here small =
    let n : ℕ = slice_index s.words word in
    let a = may_op kind slots seat word (store x) me empty at is ready s holds homes here small in
    let same : Alike kind me.0 n x = alike kind x is me.0 ready n x in
    (a.0, a.1, a.2, a.3, (a.4.0 ∙ ap (λ (v : View). (v, [])) same.after, same.learns a.4.1, a.4.2, a.4.3))
