use Rattle.std.proofs.Common.{sym}
use Rattle.affc_words.proofs.Numbers.{number_to-none}
use Rattle.affc_words.proofs.words.number_to.Goals as goal

pub returns-in_default-3-clause-reads : goal.returns-in_default-3-clause-reads
returns-in_default-3-clause-reads c = number_to-none c.args.most c.args.text.now c.ranges.most.fits (sym c.if-not-are_digits.ensures) c.in_default.ensures.value.0
