-- The fields one by one.
use Rattle.std.proofs.Common.{◌≡◌, ◌∙◌, ap, map, List, ℕ}
use Rattle.asm_write.specs.declared.starts.Starts.{Starts}
use Rattle.asm_write.specs.declared.contents.Extent.{Extent}
use Rattle.asm_write.specs.Starts.{starts_of, starts_from, extent_of, base_of}
use Rattle.asm_write.specs.Parts.{all_parts}
use Rattle.asm_write.proofs.starts.Starts.of.Goals as goal

both : (a b c d : List ℕ) → a ≡ b → c ≡ d → ◌≡◌ {A = Starts} (record { addresses = a; sizes = c }) (record { addresses = b; sizes = d })
both a b c d e f = cc

pub returns : goal.returns
unfolding starts_of
returns c =
    let contents = c.args.contents.now in
    let extents = c.in_ok-extents.ensures in
    let addresses : c.into.result ≡ starts_from (base_of contents.kind) (map (extent_of contents) all_parts) =
    c.into.ensures ∙ c.in_ok-addresses.ensures ∙ ap (λ list. starts_from c.base_of.result list) (c.deref.ensures.value ∙ extents)
    ∙ ap (λ base. starts_from base (map (extent_of contents) all_parts)) c.base_of.ensures in
    let sizes : c.into-2.result ≡ map (λ (extent : Extent). extent.size) (map (extent_of contents) all_parts) =
    c.into-2.ensures ∙ c.in_ok-sizes.ensures ∙ ap (λ list. map (λ (extent : Extent). extent.size) list) (c.deref-2.ensures.value ∙ extents) in
    both _ _ _ _ addresses sizes
