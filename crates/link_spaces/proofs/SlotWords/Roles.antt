-- Which roles are those of code.
use Rattle.std.proofs.Common.{◌≡◌, Bool, true, false, ℕ, Some, None, refl}
use Rattle.ld_base.specs.declared.object.Object.{Object}
use Rattle.ld_base.specs.declared.object.Segment.{Segment}
use Rattle.history_state.specs.Addresses.{is_rx}
use Rattle.seg_image.specs.Pages.{segment_at}
use Rattle.seg_image.specs.Roles.{is_executable, is_linkers, is_relro, is_slot, is_writable, role_in, role_of}

of_segment : (o : Object) (v : ℕ) (g : Segment) → is_executable g ≡ is_rx (role_in o v g)
of_segment o v g = by (is_executable g) refl (is_writable g) refl (is_slot o v) refl (is_linkers o v) refl (is_relro o v) refl
  where
    by : (a : Bool) → is_executable g ≡ a → (b : Bool) → is_writable g ≡ b → (c : Bool) → is_slot o v ≡ c → (d : Bool) → is_linkers o v ≡ d → (e : Bool) → is_relro o v ≡ e
        → is_executable g ≡ is_rx (role_in o v g)
    by true p b q c r d s e t = rw p refl
    by false p false q c r d s e t = rw (p, q) refl
    by false p true q true r d s e t = rw (p, q, r) refl
    by false p true q false r true s e t = rw (p, q, r, s) refl
    by false p true q false r false s true t = rw (p, q, r, s, t) refl
    by false p true q false r false s false t = rw (p, q, r, s, t) refl

-- the doubleword of an executable segment's pages is code
pub in_segment : (o : Object) (v : ℕ) (g : Segment) → segment_at o v ≡ Some g → is_executable g ≡ is_rx (role_of o v)
unfolding role_of
in_segment o v g at = rw at (of_segment o v g)

-- and none outside is
pub in_none : (o : Object) (v : ℕ) → segment_at o v ≡ None → false ≡ is_rx (role_of o v)
unfolding role_of
in_none o v at = rw at refl
