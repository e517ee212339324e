use Rattle.std.proofs.Common.{length}
use Rattle.affc_schedtext.proofs.forms.+given.Given as goal

abbrev pub decreases-given : goal.decreases-given
decreases-given l = length l.others.now
