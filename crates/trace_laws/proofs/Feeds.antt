-- No line feed stands in the words of a line.
use Rattle.std.proofs.Common.{◌≡◌, ⊎_elim, ℕ, zero, suc, ◌+◌, ◌/◌, ◌%◌, ◌≤◌, Bool, true, false, cond, not, ◌==◌, nat_lt, List, [], ◌∷◌, ◌++◌, length, Option, Some, None, Contains, codes, decimal, bytes_eq, refl, sym, ap, subst, ◌∙◌, true≢false, arith}
use Rattle.std.specs.Fmt.{digit_glyph, digits, digits_onto}
use Rattle.std.specs.List.{AllByRecursion, flat_map, list_all}
use Rattle.std.proofs.lemmas.Bool.{and_from, and_parts, ne_eqb}
use Rattle.std.proofs.lemmas.List.Folds.{list_all-append}
use Rattle.ld_base.specs.declared.fault.DlFault.{DlFault}
use Rattle.ld_base.specs.declared.fault.DlFault.TheVariants as faults
use Rattle.ld_base.specs.declared.linking.Choice.{Choice}
use Rattle.ld_base.specs.declared.linking.Choice.TheVariants as choices
use Rattle.ld_base.specs.declared.linking.Loaded.{Loaded}
use Rattle.ld_base.specs.declared.linking.TlsPlace.{TlsPlace}
use Rattle.ld_base.specs.FaultText.{fault_text, hex_text}
use Rattle.ld_base.specs.Text.{byte_text, hex_digit, is_plain, name_or_none, name_text}
use Rattle.history_event.specs.declared.event.CloseAnswer.{CloseAnswer}
use Rattle.history_event.specs.declared.event.CloseAnswer.TheVariants as closes
use Rattle.history_event.specs.declared.event.Event.{Event}
use Rattle.history_event.specs.declared.event.Event.TheVariants as events
use Rattle.history_event.specs.declared.event.OpenAnswer.{OpenAnswer}
use Rattle.history_event.specs.declared.event.OpenAnswer.TheVariants as opens
use Rattle.history_event.specs.declared.event.SymAnswer.{SymAnswer}
use Rattle.history_event.specs.declared.event.SymAnswer.TheVariants as syms
use Rattle.history_event.specs.declared.hart_end.HartEnd.{HartEnd}
use Rattle.history_event.specs.declared.hart_end.HartEnd.TheVariants as ends
use Rattle.history_state.specs.Lemmas.Lists.{first_or_later, none_in}
use Rattle.trace_check.specs.Lines.{HasNoFeed}
use Rattle.trace_text.specs.Ends.{end_text}
use Rattle.trace_text.specs.Lines.{asked_text, close_answer_text, definition_text, granted_text, open_answer_text, open_text, refused_text, sym_answer_text, sym_text, told_text, unresolved_text, words_text}
use Rattle.trace_text.specs.Lists.{added_text, byte_digits, new_text, place_text, serials_text}
use Rattle.trace_text.specs.Said.{said}

abbrev pub is_bare : ℕ → Bool
is_bare c = not (c == 10)

-- no byte is a line feed
abbrev pub Bare : List ℕ → Type 0
Bare text = list_all is_bare text ≡ true

pub no_feed : (text : List ℕ) → Bare text → HasNoFeed text
no_feed [] bare there = none_in 10 there
no_feed (c ∷ text) bare there =
    let both = and_parts (is_bare c) (list_all is_bare text) bare in
    ⊎_elim
    (λ (is : c ≡ 10). let same : is_bare 10 ≡ true = subst (λ (b : ℕ). is_bare b ≡ true) is both.0 in let none : true ≡ false = (let it : false ≡ true = same in cc) in true≢false none)
    (λ (more : Contains text 10). no_feed text both.1 more)
    (first_or_later c text 10 there)

-- ---- texts in a row

pub joined : (a b : List ℕ) → Bare a → Bare b → Bare (a ++ b)
joined a b one other = list_all-append is_bare a b ∙ and_from (list_all is_bare a) (list_all is_bare b) one other

-- behind a byte that is none
behind : (c : ℕ) (text : List ℕ) → is_bare c ≡ true → Bare text → Bare (c ∷ text)
behind c text one other = and_from (is_bare c) (list_all is_bare text) one other

pub said_bare : (words : List (List ℕ)) (last : List ℕ) → AllByRecursion Bare words → Bare last → Bare (said words last)
said_bare [] last all bare = bare
said_bare (word ∷ words) last all bare = joined word (32 ∷ said words last) all.0 (behind 32 (said words last) refl (said_bare words last all.1 bare))

flat_bare : {X : Type 0} (f : X → List ℕ) → ((x : X) → Bare (f x)) → (xs : List X) → Bare (flat_map f xs)
flat_bare f each [] = refl
flat_bare f each (x ∷ xs) = joined (f x) (flat_map f xs) (each x) (flat_bare f each xs)

-- ---- numbers

above : (c : ℕ) → 11 ≤ c → is_bare c ≡ true
above c high = ap not (ne_eqb c 10 (λ (is : c ≡ 10). omega (arith, high, is)))

glyph : (upper : Bool) (d : ℕ) → is_bare (digit_glyph upper d) ≡ true
glyph upper d = by (nat_lt d 10) upper
  where
    by : (small big : Bool) → is_bare (cond small (48 + d) (cond big (55 + d) (87 + d))) ≡ true
    by true big = above (48 + d) (omega arith)
    by false true = above (55 + d) (omega arith)
    by false false = above (87 + d) (omega arith)

onto : (k base : ℕ) (upper : Bool) (n : ℕ) (acc : List ℕ) → Bare acc → Bare (digits_onto k base upper n acc)
onto zero base upper n acc bare = bare
onto (suc k) base upper n acc bare =
    let more : Bare (digit_glyph upper (n % base) ∷ acc) = behind (digit_glyph upper (n % base)) acc (glyph upper (n % base)) bare in
    by (n / base == 0) more (onto k base upper (n / base) (digit_glyph upper (n % base) ∷ acc) more)
  where
    by : (last : Bool) → Bare (digit_glyph upper (n % base) ∷ acc) → Bare (digits_onto k base upper (n / base) (digit_glyph upper (n % base) ∷ acc))
        → Bare (cond last (digit_glyph upper (n % base) ∷ acc) (digits_onto k base upper (n / base) (digit_glyph upper (n % base) ∷ acc)))
    by true one more = one
    by false one more = more

digits_bare : (base : ℕ) (upper : Bool) (n : ℕ) → Bare (digits base upper n)
unfolding digits
digits_bare base upper n = onto 64 base upper n [] refl

pub decimal_bare : (n : ℕ) → Bare (decimal n)
decimal_bare n = digits_bare 10 false n

hex_bare : (n : ℕ) → Bare (hex_text n)
hex_bare n = joined (codes "0x") (digits 16 false n) refl (digits_bare 16 false n)

-- ---- names

hex_digit_bare : (n : ℕ) → is_bare (hex_digit n) ≡ true
hex_digit_bare n = by (nat_lt n 10)
  where
    by : (small : Bool) → is_bare (cond small (48 + n) (87 + n)) ≡ true
    by true = above (48 + n) (omega arith)
    by false = above (87 + n) (omega arith)

digits_of : (c : ℕ) → Bare (byte_digits c)
digits_of c = behind (hex_digit (c / 16)) (hex_digit (c % 16) ∷ []) (hex_digit_bare (c / 16)) (behind (hex_digit (c % 16)) [] (hex_digit_bare (c % 16)) refl)

byte_bare : (c : ℕ) → Bare (byte_text c)
byte_bare c = by (is_plain c) refl
  where
    by : (plain : Bool) → is_plain c ≡ plain → Bare (cond plain (c ∷ []) (37 ∷ hex_digit (c / 16) ∷ hex_digit (c % 16) ∷ []))
    by true is = behind c [] (ap not (ne_eqb c 10 (λ (feed : c ≡ 10). true≢false (sym is ∙ ap is_plain feed)))) refl
    by false is = behind 37 (byte_digits c) refl (digits_of c)

name_bare : (name : List ℕ) → Bare (name_text name)
unfolding name_text
name_bare name = by (length name == 0) (bytes_eq name (45 ∷ []))
  where
    by : (empty dash : Bool) → Bare (cond empty (37 ∷ []) (cond dash (37 ∷ 50 ∷ 100 ∷ []) (flat_map byte_text name)))
    by true dash = refl
    by false true = refl
    by false false = flat_bare byte_text byte_bare name

some_bare : (name : Option (List ℕ)) → Bare (name_or_none name)
some_bare None = refl
some_bare (Some name) = name_bare name

-- ---- refusals

two_bare : (a b : List ℕ) → Bare a → Bare b → Bare (a ++ 32 ∷ b)
two_bare a b one other = joined a (32 ∷ b) one (behind 32 b refl other)

fault_bare : (fault : DlFault) → Bare (fault_text fault)
unfolding fault_text
fault_bare (faults.MissingLibrary name) = joined (codes "missing-library ") (name_text name) refl (name_bare name)
fault_bare (faults.ReadFault path) = joined (codes "read-fault ") (name_text path) refl (name_bare path)
fault_bare (faults.NotAccepted path broken) =
    two_bare (codes "not-accepted " ++ name_text path ++ 32 ∷ decimal broken.rule) (decimal broken.number)
    (two_bare (codes "not-accepted " ++ name_text path) (decimal broken.rule) (joined (codes "not-accepted ") (name_text path) refl (name_bare path)) (decimal_bare broken.rule))
    (decimal_bare broken.number)
fault_bare (faults.MissingVersion o file version) =
    two_bare (codes "missing-version " ++ name_text o ++ 32 ∷ name_text file) (name_text version)
    (two_bare (codes "missing-version " ++ name_text o) (name_text file) (joined (codes "missing-version ") (name_text o) refl (name_bare o)) (name_bare file))
    (name_bare version)
fault_bare (faults.MissingSymbol o name version) =
    two_bare (codes "missing-symbol " ++ name_or_none o ++ 32 ∷ name_text name) (name_or_none version)
    (two_bare (codes "missing-symbol " ++ name_or_none o) (name_text name) (joined (codes "missing-symbol ") (name_or_none o) refl (some_bare o)) (name_bare name))
    (some_bare version)
fault_bare (faults.NotCode o name) =
    two_bare (codes "not-code " ++ name_text o) (name_text name) (joined (codes "not-code ") (name_text o) refl (name_bare o)) (name_bare name)
fault_bare (faults.NeedsStaticTls o) = joined (codes "needs-static-tls ") (name_text o) refl (name_bare o)
fault_bare (faults.AddressSpaceFull pages) = joined (codes "address-space-full ") (decimal pages) refl (decimal_bare pages)
fault_bare faults.NamespacesFull = refl
fault_bare (faults.BadHandle handle) = joined (codes "bad-handle ") (hex_text handle) refl (hex_bare handle)
fault_bare (faults.BadFlags flags) = joined (codes "bad-flags ") (hex_text flags) refl (hex_bare flags)
fault_bare (faults.ClosingHere o) = joined (codes "closing-here ") (name_text o) refl (name_bare o)
fault_bare faults.NameTooLong = refl
fault_bare (faults.BadNamespace ns) = joined (codes "bad-namespace ") (hex_text ns) refl (hex_bare ns)

refused_bare : (fault : DlFault) → Bare (refused_text fault)
refused_bare fault = said_bare (codes "no" ∷ []) (fault_text fault) (refl, tt) (fault_bare fault)

-- ---- ends

pub end_bare : (reason : HartEnd) → Bare (end_text reason)
unfolding end_text
end_bare (ends.Exit code) = said_bare (codes "exit" ∷ []) (decimal code) (refl, tt) (decimal_bare code)
end_bare ends.FuelOut = refl
end_bare (ends.NotMapped pc address) = said_bare (codes "not-mapped" ∷ hex_text pc ∷ []) (hex_text address) (refl, (hex_bare pc, tt)) (hex_bare address)
end_bare (ends.SlotStore pc address) = said_bare (codes "slot-store" ∷ hex_text pc ∷ []) (hex_text address) (refl, (hex_bare pc, tt)) (hex_bare address)
end_bare (ends.BadInstruction pc word) = said_bare (codes "bad-instruction" ∷ hex_text pc ∷ []) (hex_text word) (refl, (hex_bare pc, tt)) (hex_bare word)
end_bare (ends.Misaligned pc address) = said_bare (codes "misaligned" ∷ hex_text pc ∷ []) (hex_text address) (refl, (hex_bare pc, tt)) (hex_bare address)
end_bare (ends.Break pc) = said_bare (codes "break" ∷ []) (hex_text pc) (refl, tt) (hex_bare pc)
end_bare (ends.BadModule number) = said_bare (codes "bad-module" ∷ []) (decimal number) (refl, tt) (decimal_bare number)
end_bare (ends.Unloaded serial) = said_bare (codes "unloaded" ∷ []) (hex_text serial) (refl, tt) (hex_bare serial)
end_bare (ends.NoSlot serial eights) = said_bare (codes "no-slot" ∷ decimal serial ∷ []) (hex_text eights) (refl, (decimal_bare serial, tt)) (hex_bare eights)
end_bare (ends.Unresolved serial slot) = said_bare (codes "unresolved" ∷ decimal serial ∷ []) (decimal slot) (refl, (decimal_bare serial, tt)) (decimal_bare slot)
end_bare (ends.NotCode serial slot) = said_bare (codes "not-code" ∷ decimal serial ∷ []) (decimal slot) (refl, (decimal_bare serial, tt)) (decimal_bare slot)
end_bare (ends.AddressSpaceFull pages) = said_bare (codes "address-space-full" ∷ []) (decimal pages) (refl, tt) (decimal_bare pages)
end_bare ends.Memory = refl

-- ---- lists

serials_bare : (serials : List ℕ) → Bare (serials_text serials)
serials_bare [] = refl
serials_bare (serial ∷ serials) =
    joined (decimal serial) (flat_map (λ s. 44 ∷ decimal s) serials) (decimal_bare serial)
    (flat_bare (λ s. 44 ∷ decimal s) (λ s. behind 44 (decimal s) refl (decimal_bare s)) serials)

offset_bare : (offset : Option ℕ) → Bare (elim offset [ None ↦ [] | Some offset ↦ 43 ∷ hex_text offset ])
offset_bare None = refl
offset_bare (Some offset) = behind 43 (hex_text offset) refl (hex_bare offset)

place_bare : (place : Option TlsPlace) → Bare (place_text place)
place_bare None = refl
place_bare (Some place) =
    behind 47 (decimal place.number ++ elim place.offset [ None ↦ [] | Some offset ↦ 43 ∷ hex_text offset ]) refl
    (joined (decimal place.number) (elim place.offset [ None ↦ [] | Some offset ↦ 43 ∷ hex_text offset ]) (decimal_bare place.number) (offset_bare place.offset))

new_bare : (o : Loaded) → Bare (new_text o)
new_bare o =
    joined (decimal o.serial ++ 58 ∷ name_text o.path ++ 64 ∷ hex_text o.base) (place_text o.«module»)
    (joined (decimal o.serial ++ 58 ∷ name_text o.path) (64 ∷ hex_text o.base)
    (joined (decimal o.serial) (58 ∷ name_text o.path) (decimal_bare o.serial) (behind 58 (name_text o.path) refl (name_bare o.path)))
    (behind 64 (hex_text o.base) refl (hex_bare o.base)))
    (place_bare o.«module»)

added_bare : (added : List Loaded) → Bare (added_text added)
added_bare [] = refl
added_bare (object ∷ objects) =
    joined (new_text object) (flat_map (λ o. 44 ∷ new_text o) objects) (new_bare object)
    (flat_bare (λ o. 44 ∷ new_text o) (λ o. behind 44 (new_text o) refl (new_bare o)) objects)

-- ---- answers

-- a word with a number behind its mark
numbered : (mark : List ℕ) (n : ℕ) → Bare mark → Bare (mark ++ decimal n)
numbered mark n bare = joined mark (decimal n) bare (decimal_bare n)

hexed : (mark : List ℕ) (n : ℕ) → Bare mark → Bare (mark ++ hex_text n)
hexed mark n bare = joined mark (hex_text n) bare (hex_bare n)

asked_bare : (ns : Option ℕ) → Bare (asked_text ns)
asked_bare (Some ns) = decimal_bare ns
asked_bare None = refl

definition_bare : (serial index : ℕ) → Bare (definition_text serial index)
definition_bare serial index = joined (decimal serial) (46 ∷ decimal index) (decimal_bare serial) (behind 46 (decimal index) refl (decimal_bare index))

open_bare : (answer : OpenAnswer) → Bare (open_answer_text answer)
open_bare (opens.Done ns root added ranges) =
    said_bare (codes "ok" ∷ (codes "in=" ++ decimal ns) ∷ (codes "root=" ++ decimal root) ∷ []) (codes "new=" ++ added_text added)
    (refl, (numbered (codes "in=") ns refl, (numbered (codes "root=") root refl, tt))) (joined (codes "new=") (added_text added) refl (added_bare added))
open_bare opens.Absent = refl
open_bare (opens.Refused fault) = refused_bare fault

close_bare : (answer : CloseAnswer) → Bare (close_answer_text answer)
close_bare (closes.Done dying) = said_bare (codes "ok" ∷ []) (codes "dying=" ++ serials_text dying) (refl, tt) (joined (codes "dying=") (serials_text dying) refl (serials_bare dying))
close_bare (closes.Refused fault) = refused_bare fault

sym_bare : (answer : SymAnswer) → Bare (sym_answer_text answer)
sym_bare (syms.Found serial index address) =
    said_bare (codes "ok" ∷ definition_text serial index ∷ []) (hex_text address) (refl, (definition_bare serial index, tt)) (hex_bare address)
sym_bare (syms.Refused fault) = refused_bare fault

granted_bare : (choice : Choice) (value : ℕ) → Bare (granted_text choice value)
granted_bare (choices.Def serial index) value = said_bare (definition_text serial index ∷ []) (hex_text value) (definition_bare serial index, tt) (hex_bare value)
granted_bare choices.WeakZero value = said_bare (codes "weak" ∷ []) (hex_text value) (refl, tt) (hex_bare value)
granted_bare choices.Missing value = refl

unresolved_bare : (choice : Choice) → Bare (unresolved_text choice)
unresolved_bare (choices.Def serial index) = said_bare (codes "not-code" ∷ []) (definition_text serial index) (refl, tt) (definition_bare serial index)
unresolved_bare choices.WeakZero = refl
unresolved_bare choices.Missing = refl

-- ---- events

hart_bare : (hart : ℕ) → Bare (codes "h=" ++ decimal hart)
hart_bare hart = numbered (codes "h=") hart refl

object_bare : (serial : ℕ) → Bare (codes "o=" ++ decimal serial)
object_bare serial = numbered (codes "o=") serial refl

told_bare : (hart : ℕ) (fault : Option DlFault) → Bare (told_text hart fault)
told_bare hart (Some fault) = said_bare (codes "told" ∷ (codes "h=" ++ decimal hart) ∷ []) (fault_text fault) (refl, (hart_bare hart, tt)) (fault_bare fault)
told_bare hart None = said_bare (codes "told" ∷ (codes "h=" ++ decimal hart) ∷ []) (45 ∷ []) (refl, (hart_bare hart, tt)) refl

pub words_bare : (e : Event) → Bare (words_text e)
unfolding words_text open_text sym_text
words_bare (events.Open hart ask answer) =
    said_bare (codes "open" ∷ (codes "h=" ++ decimal hart) ∷ (codes "ns=" ++ asked_text ask.ns) ∷ (codes "name=" ++ name_or_none ask.name) ∷ (codes "flags=" ++ hex_text ask.flags) ∷ [])
    (open_answer_text answer) (refl, (hart_bare hart, (joined (codes "ns=") (asked_text ask.ns) refl (asked_bare ask.ns), (joined (codes "name=") (name_or_none ask.name) refl (some_bare ask.name), (hexed (codes "flags=") ask.flags refl, tt)))))
    (open_bare answer)
words_bare (events.Close hart handle answer) =
    said_bare (codes "close" ∷ (codes "h=" ++ decimal hart) ∷ (codes "handle=" ++ hex_text handle) ∷ []) (close_answer_text answer)
    (refl, (hart_bare hart, (hexed (codes "handle=") handle refl, tt))) (close_bare answer)
words_bare (events.Unmapped hart set) =
    said_bare (codes "unmapped" ∷ (codes "h=" ++ decimal hart) ∷ []) (codes "set=" ++ serials_text set) (refl, (hart_bare hart, tt))
    (joined (codes "set=") (serials_text set) refl (serials_bare set))
words_bare (events.Grant grant hart owner slot choice value) =
    said_bare (codes "grant" ∷ (codes "g=" ++ decimal grant) ∷ (codes "h=" ++ decimal hart) ∷ (codes "o=" ++ decimal owner) ∷ (codes "slot=" ++ decimal slot) ∷ codes "->" ∷ [])
    (granted_text choice value)
    (refl, (numbered (codes "g=") grant refl, (hart_bare hart, (object_bare owner, (numbered (codes "slot=") slot refl, (refl, tt)))))) (granted_bare choice value)
words_bare (events.Bound grant) = said_bare (codes "bound" ∷ []) (codes "g=" ++ decimal grant) (refl, tt) (numbered (codes "g=") grant refl)
words_bare (events.Lost grant saw) =
    said_bare (codes "lost" ∷ (codes "g=" ++ decimal grant) ∷ []) (codes "saw=" ++ hex_text saw) (refl, (numbered (codes "g=") grant refl, tt)) (hexed (codes "saw=") saw refl)
words_bare (events.Unresolved hart owner slot choice) =
    said_bare (codes "unresolved" ∷ (codes "h=" ++ decimal hart) ∷ (codes "o=" ++ decimal owner) ∷ (codes "slot=" ++ decimal slot) ∷ []) (unresolved_text choice)
    (refl, (hart_bare hart, (object_bare owner, (numbered (codes "slot=") slot refl, tt)))) (unresolved_bare choice)
words_bare (events.Sym hart ask answer) =
    said_bare (codes "sym" ∷ (codes "h=" ++ decimal hart) ∷ (codes "ns=" ++ decimal ask.ns) ∷ (codes "handle=" ++ hex_text ask.handle) ∷ (codes "name=" ++ name_text ask.name)
    ∷ (codes "ver=" ++ name_or_none ask.version) ∷ [])
    (sym_answer_text answer) (refl, (hart_bare hart, (numbered (codes "ns=") ask.ns refl, (hexed (codes "handle=") ask.handle refl, (joined (codes "name=") (name_text ask.name) refl (name_bare ask.name), (joined (codes "ver=") (name_or_none ask.version) refl (some_bare ask.version), tt))))))
    (sym_bare answer)
words_bare (events.Tls hart owner address) =
    said_bare (codes "tls" ∷ (codes "h=" ++ decimal hart) ∷ (codes "o=" ++ decimal owner) ∷ []) (hex_text address) (refl, (hart_bare hart, (object_bare owner, tt))) (hex_bare address)
words_bare (events.Init hart object) =
    said_bare (codes "init" ∷ (codes "h=" ++ decimal hart) ∷ []) (codes "o=" ++ decimal object) (refl, (hart_bare hart, tt)) (object_bare object)
words_bare (events.Fini hart object) =
    said_bare (codes "fini" ∷ (codes "h=" ++ decimal hart) ∷ []) (codes "o=" ++ decimal object) (refl, (hart_bare hart, tt)) (object_bare object)
words_bare (events.Wrote hart bytes) =
    said_bare (codes "wrote" ∷ (codes "h=" ++ decimal hart) ∷ (codes "n=" ++ decimal (length bytes)) ∷ []) (flat_map byte_digits bytes)
    (refl, (hart_bare hart, (numbered (codes "n=") (length bytes) refl, tt))) (flat_bare byte_digits digits_of bytes)
words_bare (events.Told hart fault) = told_bare hart fault
words_bare (events.Ended hart reason) = said_bare (codes "ended" ∷ (codes "h=" ++ decimal hart) ∷ []) (end_text reason) (refl, (hart_bare hart, tt)) (end_bare reason)
