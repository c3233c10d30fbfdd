-- A table of zones of which none is used.
use Rattle.std.proofs.Common.{◌≡◌, ℕ, ◌≤◌, get_or, None, replicate, ⊎_elim, arith}
use Rattle.std.proofs.Math.Bridge.{le_prop}
use Rattle.std.proofs.lemmas.List.{get_or-replicate, get_or_past, length-replicate}
use Rattle.std.proofs.lemmas.Bool.{cases_lt}
use Rattle.zones.specs.declared.zone.Phase.TheVariants.{Empty}
use Rattle.zones.specs.declared.zone.Zone.{Zone}
use Rattle.zones.specs.Defaults.{no_zone}

-- whichever way it was seen that the pointer is in reach
pub no_zone_is : (h : 0 ≤ 4096) → ◌≡◌ {A = Zone} (record { phase = Empty; pointer = 0; slot = None; reach = h }) no_zone
no_zone_is h = λ i. record { phase = Empty; pointer = 0; slot = None; reach = le_prop h no_zone.reach i }

pub no_zones : (z : ℕ) → get_or (replicate 64 no_zone) z no_zone ≡ no_zone
no_zones z = ⊎_elim (get_or-replicate 64 z no_zone no_zone) (λ h. get_or_past (replicate 64 no_zone) z no_zone (omega (arith, length-replicate 64 no_zone))) (cases_lt z 64)
