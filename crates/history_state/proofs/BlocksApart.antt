-- No address is in two blocks of thread-local storage.
use Rattle.std.proofs.Common.{◌≡◌, ◌⊎◌, inl, inr, ⊎_elim, ℕ, ◌+◌, ◌<◌, ◌≤◌, true, false, List, sym, subst, ◌∙◌, arith}
use Rattle.std.specs.Prelude.{◌==◌}
use Rattle.std.specs.List.{Contains}
use Rattle.std.proofs.lemmas.Bool.{cases_Bool, eq-eqb, eqb-true, true≢false}
use Rattle.history_event.specs.declared.event.Event.{Event}
use Rattle.history_event.specs.declared.event.Purpose.TheVariants as purposes
use Rattle.history_event.specs.declared.event.Range.{Range}
use Rattle.history_event.specs.declared.state.Block.{Block}
use Rattle.history_event.specs.declared.state.Module.{Module}
use Rattle.history_state.specs.State.{State}
use Rattle.history_state.specs.After.{after}
use Rattle.history_state.specs.Laws.{BlocksAreApart}
use Rattle.history_state.specs.Legal.{Lawful}
use Rattle.history_state.specs.Memory.{covers, is_in_block}
use Rattle.history_state.specs.Setting.{Machine}
use Rattle.history_state.specs.Storage.{tp_of}
use Rattle.history_state.specs.Lemmas.Brought.{LoadLaws}
use Rattle.history_state.specs.Lemmas.InBlocks.{IsLate, IsStatic, in_area, one_range, stands}
use Rattle.history_state.specs.Lemmas.Moduled.{NumberLaws}
use Rattle.history_state.specs.Lemmas.Offsets.{modules_tidy}
use Rattle.history_state.specs.Lemmas.Static.{statics_apart}

module _ (numbers : NumberLaws) (loads : LoadLaws) (m : Machine) (journal : List Event) (lawful : Lawful m journal) where
  abbrev s : State
  s = after journal

  one_module : (x y : Module) → Contains s.modules x → Contains s.modules y → x.serial ≡ y.serial → x ≡ y
  one_module = (modules_tidy numbers loads m journal lawful).one

  stands_at : (hart a : ℕ) (x : Module) → Contains s.modules x → is_in_block s hart a x ≡ true → IsStatic s hart a x ⊎ IsLate s hart a x
  stands_at = stands numbers loads m journal lawful

  area_of : (hart a : ℕ) (x : Module) → hart < m.harts → IsStatic s hart a x → (r : Range) × Contains s.ranges r × (r.purpose ≡ purposes.StaticTls hart) × (covers a r ≡ true)
  area_of = in_area numbers loads m journal lawful

  purpose_is : (a : ℕ) (r q : Range) → Contains s.ranges r → Contains s.ranges q → covers a r ≡ true → covers a q ≡ true → r.purpose ≡ q.purpose
  purpose_is = one_range numbers loads m journal lawful

  same_static : (h k a : ℕ) (x y : Module) → Contains s.modules x → Contains s.modules y → h ≡ k → IsStatic s h a x → IsStatic s k a y → x ≡ y
  same_static h k a x y first second same b c = ⊎_elim
      (λ (e : (x.serial == y.serial) ≡ true). one_module x y first second (eqb-true x.serial y.serial e))
      (λ (e : (x.serial == y.serial) ≡ false). absurd (neither e))
      (cases_Bool (x.serial == y.serial))
    where
      neither : (x.serial == y.serial) ≡ false → ⊥
      neither e =
          let from_b : tp_of s h + b.offset ≤ a = b.from in
          let to_b : a < tp_of s h + b.offset + b.seg.memsz = b.to in
          let from_c : tp_of s h + c.offset ≤ a = subst (λ (n : ℕ). tp_of s n + c.offset ≤ a) (sym same) c.from in
          let to_c : a < tp_of s h + c.offset + c.seg.memsz = subst (λ (n : ℕ). a < tp_of s n + c.offset + c.seg.memsz) (sym same) c.to in
          ⊎_elim
          (λ (l : b.offset + b.seg.memsz ≤ c.offset). omega (arith, to_b, from_c, l))
          (λ (l : c.offset + c.seg.memsz ≤ b.offset). omega (arith, to_c, from_b, l))
          ((statics_apart loads m journal lawful).apart b.object c.object b.offset c.offset b.seg c.seg b.has c.has
          (λ is. absurd (true≢false (sym (eq-eqb x.serial y.serial (sym b.serial ∙ is ∙ c.serial)) ∙ e))))

  pub blocks_apart : BlocksAreApart m s
  blocks_apart h k a x y few_h few_k first second in_x in_y = by (stands_at h a x first in_x) (stands_at k a y second in_y)
    where
      by : IsStatic s h a x ⊎ IsLate s h a x → IsStatic s k a y ⊎ IsLate s k a y → (h ≡ k) × (x ≡ y)
      by (inl b) (inl c) =
          let r = area_of h a x few_h b in
          let q = area_of k a y few_k c in
          let purpose : purposes.StaticTls h ≡ purposes.StaticTls k = sym r.2 ∙ purpose_is a r.0 q.0 r.1 q.1 r.3 q.3 ∙ q.2 in
          let same : h ≡ k = cc in
          (same, same_static h k a x y first second same b c)
      by (inl b) (inr c) =
          let r = area_of h a x few_h b in
          let d : purposes.StaticTls h ≡ purposes.Block k y.serial = sym r.2 ∙ purpose_is a r.0 c.range r.1 c.there r.3 c.inside ∙ c.purpose in absurd cc
      by (inr b) (inl c) =
          let q = area_of k a y few_k c in
          let d : purposes.Block h x.serial ≡ purposes.StaticTls k = sym b.purpose ∙ purpose_is a b.range q.0 b.there q.1 b.inside q.3 ∙ q.2 in absurd cc
      by (inr b) (inr c) =
          let purpose : purposes.Block h x.serial ≡ purposes.Block k y.serial = sym b.purpose ∙ purpose_is a b.range c.range b.there c.there b.inside c.inside ∙ c.purpose in
          let same : h ≡ k = cc in
          let serial : x.serial ≡ y.serial = cc in
          (same, one_module x y first second serial)
