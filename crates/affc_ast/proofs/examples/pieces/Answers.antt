use Rattle.affc_ast.proofs.PieceProofs as x
use Rattle.affc_ast.proofs.examples.pieces.Goals as goal

pub returns : goal.returns
returns c = record { relations_have_opposites = x.relations_have_opposites; denials_exchange = x.denials_exchange; atoms_compare = x.atoms_compare; relations_have_pieces = x.relations_have_pieces; pieces_stand_in_order = x.pieces_stand_in_order; pieces_are_numbered = x.pieces_are_numbered; joined_conditions = x.joined_conditions; joined_programs = x.joined_programs }
