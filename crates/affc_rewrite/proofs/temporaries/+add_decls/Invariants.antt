use Rattle.std.proofs.Common.{length}
use Rattle.affc_rewrite.proofs.temporaries.+add_decls.Given as goal

abbrev pub decreases-add_decls : goal.decreases-add_decls
decreases-add_decls l = length l.decls.now
