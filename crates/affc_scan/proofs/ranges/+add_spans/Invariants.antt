use Rattle.std.proofs.Common.{length}
use Rattle.affc_scan.proofs.ranges.+add_spans.Given as goal

abbrev pub decreases-add_spans : goal.decreases-add_spans
decreases-add_spans l = length l.forms.now
