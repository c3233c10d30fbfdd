use Rattle.std.proofs.Common.{subst, sym, ap}
use Rattle.flash.specs.Memory.{shape_of}
use Rattle.chips.specs.Layout.{Whole}
use Rattle.chips.proofs.Blocks.{memory_is, shown}
use Rattle.chips.proofs.bare.BareChipFlash.shape.Goals as goal

pub returns : goal.returns
returns c = record {
  shape = sym (ap shape_of (shown c.self.invariant c.self.view_is));
  whole = subst Whole c.self.view_is c.self.invariant;
  shown = memory_is (subst Whole c.self.view_is c.self.invariant);
}
