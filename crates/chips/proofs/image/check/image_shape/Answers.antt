use Rattle.std.proofs.Common.{◌≡◌, ◌*◌, length, true, false, cond, ◌&&◌, Some, None, drop, sym, ap, ◌∙◌, rules, tests, arith}
use Rattle.std.proofs.lemmas.Iterator.{cases_from_all}
use Rattle.std.proofs.lemmas.List.{drop-drop, length-drop, take_rest}
use Rattle.chips.specs.ImageBounded.{image_sizes_of}
use Rattle.chips.specs.ImageLayout.{block_size, header_mark, image_sizes_fit, blocks_fit, shape_in}
use Rattle.chips.specs.Layout.{block_count}
use Rattle.chips.proofs.Chains.{YieldsList-from_chunks}
use Rattle.chips.proofs.ImageChanged.{Fits, blocks_in_order}
use Rattle.chips.proofs.image.check.image_shape.Goals as goal

pub returns : goal.returns
returns c =
    let bytes = c.args.bytes.now in
    let s = shape_in bytes in
    let sizes : image_sizes_fit s bytes ≡ true = search rules in
    let size : c.block_size.result ≡ block_size s = search rules in
    let blocks : length (drop 6 bytes) ≡ block_count s * block_size s = simp length-drop (omega (arith, (image_sizes_of s bytes sizes).long)) in
    let after = c.in_ok-strip_prefix.field-0.now in
    let records = take_rest after 3 ∙ (ap (drop 3) c.in_ok-strip_prefix.ensures.cases.1 ∙ drop-drop 3 3 bytes) in
    let told = cases_from_all _ _ c.all-fit.result (Fits s bytes sizes true) (Fits s bytes sizes false) c.all-fit.ensures.ran
    (YieldsList-from_chunks (block_size s) (omega arith) (drop 6 bytes) (block_count s) (c.chunks_exact.ensures.size ∙ size) (c.chunks_exact.ensures.rest ∙ records) blocks)
    (λ x q k. search (rules, tests)) (λ x q k. search (rules, tests)) in
    let fits : c.all-fit.result ≡ blocks_fit s bytes (block_count s) = blocks_in_order s bytes sizes c.all-fit.result told in
    let header : header_mark bytes ≡ true = search rules in
    let named : c.then_some.result ≡ cond c.all-fit.result (Some s) None = search rules in
    named ∙ sym (λ t. cond (header t && (sizes t && sym fits t)) (Some s) None)
