use Rattle.std.proofs.Common.{length}
use Rattle.affc_loops.proofs.terms.forms.+and_terms.Given as goal

abbrev pub decreases-and_terms : goal.decreases-and_terms
decreases-and_terms l = length l.coefs.now
