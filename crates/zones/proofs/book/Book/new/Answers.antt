use Rattle.std.proofs.Common.{replicate, refl, ap, rules}
use Rattle.zones.specs.Formed.{group_at}
use Rattle.zones.proofs.NoZones.{no_zone_is}
use Rattle.zones.proofs.Ranges.{each_made}
use Rattle.zones.proofs.book.Book.new.Goals as goal

pub returns : goal.returns
returns c =
    let groups = c.from_fn-groups.ensures.items in
    record {
      geometry = refl;
      zones = ap (replicate 64) (no_zone_is _);
      rows = refl;
      groups = groups.long;
      rising = λ i l. each_made _ _ (group_at c.args.geometry) (λ x y q k. search rules) _ 64 groups i 0 l;
    }
