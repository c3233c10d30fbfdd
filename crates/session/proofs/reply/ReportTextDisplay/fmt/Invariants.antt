use Rattle.std.proofs.Common.{◌++◌, map, take, codes}
use Rattle.std.specs.Fmt.{HasWritten, IsPlainFormatter}
use Rattle.zones.specs.Numbers.{line_of}
use Rattle.session.specs.Replies.{lines_text}
use Rattle.session.proofs.reply.ReportTextDisplay.fmt.Given as goal

abbrev pub invariant-loop-zone : goal.invariant-loop-zone
invariant-loop-zone g l =
    IsPlainFormatter l.fn.f → HasWritten g.W.Write.write_str_gives l.fn.f (codes "0" ++ lines_text (map line_of (take l.zone-index l.zone-items))) l.f
