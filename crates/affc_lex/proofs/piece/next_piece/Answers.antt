use Rattle.std.proofs.Common.{sym, subst}
use Rattle.affc_lex.specs.FoundAt.{FoundAt}
use Rattle.affc_lex.proofs.Sound.{sound_at}
use Rattle.affc_lex.proofs.piece.next_piece.Goals as goal

pub returns-clause-found : goal.returns-clause-found
returns-clause-found c = subst (FoundAt c.args.spot c.args.text.now) (sym c.read_piece.ensures) (sound_at c.args.spot c.args.text.now c.requires)
