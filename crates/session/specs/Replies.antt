-- What a session answers a line with, and the card after it, as the flat card has both.
use Rattle.std.specs.Prelude.{ℕ, ◌-◌, List, [], ◌++◌, map, replicate, Some, None, Ok, Err, codes, decimal, Option}
use Rattle.std.specs.List.{flat_map}
use Rattle.flash.specs.Tables.{unless_refused}
use Rattle.flatcard.specs.Calls.{form, report}
use Rattle.flatcard.specs.Card.{Answer, refused, done, Flat, Line, Survey}
use Rattle.zones.specs.Numbers.{answer_of, line_of, refusal_number}
use Rattle.session.specs.declared.command.Command.{Command}
use Rattle.session.specs.declared.command.Command.TheVariants.{Form, Report}
use Rattle.session.specs.declared.reply.Reply.{Reply}
use Rattle.session.specs.declared.reply.Reply.TheVariants.{Unknown, Work, Zones}

-- the text of an answer: a refusal's number less 10, or 0 and then what was done
abbrev pub answer_text : Answer → List ℕ
answer_text (refused n) = decimal (n - 10) ++ codes " 0 0 0"
answer_text (done programmed copied erased) = codes "0 " ++ (decimal programmed ++ (codes " " ++ (decimal copied ++ (codes " " ++ decimal erased))))

-- the text of a zone's line: a space, the state, and the address of the pointer
abbrev pub line_text : Line → List ℕ
line_text l = codes " " ++ (decimal l.state ++ (codes "/" ++ decimal l.pointer))

-- the texts of lines, one after another
abbrev pub lines_text : List Line → List ℕ
lines_text ls = flat_map line_text ls

-- the text of a report: 0 and then its lines, or a refusal's number less 10
abbrev pub report_text : ℕ × List Line → List ℕ
report_text r = unless_refused r.0 (codes "0" ++ lines_text r.1) (decimal (r.0 - 10))

-- the text of a reply
abbrev pub shown : Reply → List ℕ
shown Unknown = codes "?"
shown (Work answer) = answer_text (answer_of answer)
shown (Zones (Ok zones)) = report_text (0, map line_of zones.items)
shown (Zones (Err refusal)) = report_text (refusal_number refusal, [])

-- a line of the list that a report is asked to fill. Any would do: an accepted report writes over each, a refused one is shown without its lines
abbrev pub fresh_line : Line
fresh_line = record { state = 0; start = 0; pointer = 0 }

-- the text that a line is answered with, given the flash's survey, the card and the command that the line writes
abbrev pub reply_text : Survey → Flat → Option Command → List ℕ
reply_text s f None = codes "?"
reply_text s f (Some (Form limit width)) = answer_text (form f limit width s).0
reply_text s f (Some (Report first count)) = report_text (report f first (replicate count fresh_line))

-- the card after that line
abbrev pub card_after : Survey → Flat → Option Command → Flat
card_after s f None = f
card_after s f (Some (Form limit width)) = (form f limit width s).1
card_after s f (Some (Report first count)) = f
