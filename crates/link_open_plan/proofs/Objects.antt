-- Objects that were read of files: their tables are their own, they may have images, and their relocations name symbols of their own.
use Rattle.std.proofs.Common.{◌≡◌, ℕ, Bool, List, ◌++◌, Ok, ap, ◌∙◌}
use Rattle.std.specs.Prelude.{IsTrue}
use Rattle.std.specs.List.{AllByRecursion, Contains}
use Rattle.elf_object.specs.Object.{names_own_symbols}
use Rattle.elf_object.specs.Verdict.{object_verdict}
use Rattle.ld_base.specs.declared.linking.Loaded.{Loaded}
use Rattle.ld_base.specs.declared.object.Object.{Object}
use Rattle.ld_base.specs.declared.parts.HashTable.{HashTable}
use Rattle.history_state.specs.Lemmas.Brought.{all_at}
use Rattle.history_event.specs.declared.event.OpenAsk.{OpenAsk}
use Rattle.history_state.specs.Flags.{is_global}
use Rattle.scope_rule.specs.Opening.{global_after, opens_after}
use Rattle.scope_rule.specs.Relocation.{names_symbols}
use Rattle.scope_rule.specs.Seen.{Seen, seen_in, with_added}
use Rattle.scope_rule.specs.declared.namespace.OpenRec.{OpenRec}
use Rattle.seg_image.specs.Accepted.{Accepted}
use Rattle.sym_hash.specs.Reached.{IsTableOf}
use Rattle.link_open_plan.specs.Before.{IsObject, WasRead, seen_with}
use Rattle.link_open_plan.specs.declared.before.Before.{Before}
use Rattle.link_open_plan.proofs.News.{all_by, all_joined}

-- what holds of each object that is read
abbrev pub HoldsOfRead : (Object → HashTable → Type 0) → Type 0
HoldsOfRead P = (bytes : List ℕ) (program : Bool) (object : Object) (table : HashTable) → object_verdict bytes program ≡ Ok (object, table) → P object table

-- those that were there and those that were read are objects
pub are_objects : HoldsOfRead (λ object table. IsTableOf table object) → HoldsOfRead (λ object table. Accepted object) → (there added : List Loaded)
    → AllByRecursion IsObject there → AllByRecursion WasRead added → AllByRecursion IsObject (there ++ added)
are_objects tables images there added old new = all_joined IsObject there added old (all_by WasRead IsObject added
    (λ o was. record { table = tables was.bytes was.program o.object o.table was.is; image = images was.bytes was.program o.object o.table was.is }) new)

pub have_tables : (objects : List Loaded) → AllByRecursion IsObject objects → AllByRecursion (λ o. IsTableOf o.table o.object) objects
have_tables objects all = all_by IsObject (λ o. IsTableOf o.table o.object) objects (λ o is. is.table) all

pub has_image : (objects : List Loaded) (o : Loaded) → AllByRecursion IsObject objects → Contains objects o → Accepted o.object
has_image objects o all inside = (all_at IsObject objects o all inside).image

pub of_read : (P : Object → Type 0) → HoldsOfRead (λ object table. P object) → (added : List Loaded) (o : Loaded) → AllByRecursion WasRead added → Contains added o → P o.object
of_read P holds added o all inside = let was = all_at WasRead added o all inside in holds was.bytes was.program o.object o.table was.is

pub names_own : HoldsOfRead (λ object table. IsTrue (names_own_symbols object)) → (added : List Loaded) (o : Loaded) → AllByRecursion WasRead added → Contains added o
    → IsTrue (names_symbols o.object)
names_own holds added o all inside = of_read (λ object. IsTrue (names_own_symbols object)) holds added o all inside

-- what is seen of the lists that an opening makes
pub seen_opened : (b : Before) (ask : OpenAsk) (root : ℕ) (added : List Loaded) (lent : Seen) (objects : List Loaded) (global : List ℕ) (opens : List OpenRec)
    → lent ≡ with_added (seen_in b.namespace.now) added → objects ≡ b.namespace.now.objects → global ≡ global_after lent root (is_global ask.flags) → opens ≡ opens_after root lent.opens
    → record { objects = objects ++ added; global = global; opens = opens } ≡ seen_with b ask root added
seen_opened b ask root added lent objects global opens is there first counted =
    ap (λ (os : List Loaded). record { objects = os ++ added; global = global; opens = opens }) there
    ∙ ap (λ (ds : List ℕ). record { objects = b.namespace.now.objects ++ added; global = ds; opens = opens }) (first ∙ ap (λ (ns : Seen). global_after ns root (is_global ask.flags)) is)
    ∙ ap (λ (rs : List OpenRec). record { objects = b.namespace.now.objects ++ added; global = global_after (with_added (seen_in b.namespace.now) added) root (is_global ask.flags); opens = rs })
    (counted ∙ ap (λ (ns : Seen). opens_after root ns.opens) is)
