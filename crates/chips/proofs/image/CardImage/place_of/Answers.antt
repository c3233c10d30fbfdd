use Rattle.std.proofs.Common.{ap, ◌∙◌, ◌+◌, ◌*◌, ◌<◌, ◌≤◌, arith, refl, rules, subst, sym}
use Rattle.chips.specs.Bounded.{number_below}
use Rattle.chips.specs.ImageBounded.{block_within, image_sizes_of, named_by_banks}
use Rattle.chips.specs.ImageLayout.{block_start}
use Rattle.chips.specs.ImageMemory.{shape_of_image}
use Rattle.chips.specs.Shapes.{few_in_all}
use Rattle.chips.proofs.ImageCalls.{kept_shape}
use Rattle.chips.proofs.image.CardImage.place_of.Goals as goal

pub block_start-start-requires : goal.block_start-start-requires
block_start-start-requires c =
    let s = shape_of_image c.args.self.now in
    let same = kept_shape c.self.invariant c.self.view_is in
    let bank : c.args.at.bank < s.banks = search rules in
    let block : c.args.at.block < s.blocks = search rules in
    let ranges = (image_sizes_of s _ (named_by_banks s c.args.self.now refl (omega arith)).sizes).ranges in
    subst (λ v. (v.pages ≤ 64) × (c.args.at.bank * v.blocks + c.args.at.block ≤ 1024)) (sym same)
    (ranges.few_pages, omega (arith, few_in_all s ranges, number_below c.args.at.bank c.args.at.block s.banks s.blocks bank block))

pub returns : goal.returns
returns c =
    let s = shape_of_image c.args.self.now in
    let bytes = c.args.self.now in
    let same = kept_shape c.self.invariant c.self.view_is in
    let bank : c.args.at.bank < s.banks = search rules in
    let block : c.args.at.block < s.blocks = search rules in
    let sizes = (named_by_banks s bytes refl (omega arith)).sizes in
    let start = c.block_start-start.ensures ∙ ap (λ v. block_start v (c.args.at.bank * v.blocks + c.args.at.block)) same in
    let size = c.block_size.ensures ∙ ap (λ v. 4 + 2050 * v.pages) same in
    record {
      shown = record { sizes = sizes; bank = bank; block = block };
      start = start;
      end = omega (arith, size);
      within = omega (arith, start, size, block_within s bytes (c.args.at.bank * s.blocks + c.args.at.block) sizes (number_below c.args.at.bank c.args.at.block s.banks s.blocks bank block));
    }
