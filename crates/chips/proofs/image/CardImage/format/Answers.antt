use Rattle.std.proofs.Common.{◌≡◌, true, sym, ap, ◌∙◌, arith, rules}
use Rattle.std.proofs.lemmas.Bool.{and_parts, cond-true}
use Rattle.chips.specs.ImageBounded.{block_within, image_sizes_of}
use Rattle.chips.specs.ImageLayout.{image_sizes_fit, opened}
use Rattle.chips.specs.Layout.{shape_fits}
use Rattle.chips.proofs.BlankImage.{begun_all, begun_more, begun_none, blank_opens}
use Rattle.chips.proofs.image.CardImage.format.Goals as goal

pub loop-i-init : goal.loop-i-init
loop-i-init c =
    begun_none c.args.shape c.args.lives _ _ _ (c.fill.ensures.after (λ y e. e)) (image_sizes_of c.args.shape c.args.bytes.now (search rules)).long
    (c.copy_from_slice.ensures.after ∙ c.header.ensures)

pub slice_bounds-copy_from_slice-end-in-loop-i : goal.slice_bounds-copy_from_slice-end-in-loop-i
slice_bounds-copy_from_slice-end-in-loop-i c =
    omega (arith, c.loop-i.auto.bytes, block_within c.args.shape c.args.bytes.now c.loop-i.i (search rules) (omega arith))

pub loop-i-preserved : goal.loop-i-preserved
loop-i-preserved c =
    begun_more c.args.shape c.args.lives c.loop-i.bytes c.copy_from_slice-in-loop-i.new.self c.loop-i.i c.block_start-start.result _ (omega arith)
    c.loop-i.invariant c.block_start-start.ensures (omega arith) (c.copy_from_slice-in-loop-i.ensures.after ∙ c.block_head-head.ensures)

pub returns : goal.returns
returns c =
    let s = c.args.shape in
    let bytes = c.args.bytes.now in
    let e : image_sizes_fit s bytes ≡ true = search rules in
    let written = begun_all s c.args.lives c.loop-i.bytes c.loop-i.i (omega arith) c.loop-i.invariant in
    record {
      answer = sym e;
      bytes = written ∙ sym (cond-true (image_sizes_fit s bytes) _ bytes e);
      opens = λ _. ap opened written ∙ blank_opens s c.args.lives (and_parts (shape_fits s) _ e).0 (omega arith);
    }
