use Rattle.std.proofs.Common.{rules}
use Rattle.std.proofs.lemmas.Iterator.{YieldsList-from_slice}
use Rattle.std.proofs.lemmas.Iterator.Consumers.{fold_from_yields_List}
use Rattle.session.proofs.Numerals.{digit_more, read}
use Rattle.session.proofs.number.number.Goals as goal

pub returns : goal.returns
returns c =
    read c.args.word.now _ (search rules) (fold_from_yields_List _ digit_more 0 _ c.fold-value.ensures.ran (YieldsList-from_slice c.args.word.now cc) (λ n b m q k. search rules))
