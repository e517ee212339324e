-- Pieces of the example texts, by their bytes.
use Rattle.std.proofs.Common.{ℕ, List, [], ◌∷◌}
use Rattle.affc_lex.specs.declared.token.Kind.{Kind}
use Rattle.affc_lex.specs.declared.piece.What.TheVariants.{Space, Comment, Token}
use Rattle.affc_lex.specs.Pieces.{Piece}

abbrev pub blank : ℕ → Piece
blank b = record { what = Space; bytes = b ∷ [] }

abbrev pub comment : List ℕ → Piece
comment bytes = record { what = Comment; bytes = bytes }

abbrev pub kept : Kind → List ℕ → Piece
kept kind bytes = record { what = Token kind; bytes = bytes }
