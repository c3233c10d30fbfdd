-- What is read past the end of a report's list.
use Rattle.zones.specs.declared.report.ZoneReport.{ZoneReport}
use Rattle.zones.specs.declared.state.State.TheVariants.{Empty}

abbrev pub no_line : ZoneReport
no_line = record { state = Empty; start = 0; pointer = 0 }
