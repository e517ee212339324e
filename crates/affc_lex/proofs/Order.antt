-- The tokens of a text stand one behind another.
use Rattle.std.proofs.Common.{◌≡◌, ℕ, zero, suc, ◌+◌, ◌≤◌, List, [], ◌∷◌, ◌++◌, length, Result, Ok, Err, IfOk, Vec, Global, sym, ap, subst, arith}
use Rattle.std.proofs.lemmas.List.{length-append}
use Rattle.std.proofs.lemmas.Bool.{cond_both}
use Rattle.affc_lex.specs.declared.token.Token.{Token}
use Rattle.affc_lex.specs.declared.token.LexFault.{LexFault}
use Rattle.affc_lex.specs.declared.piece.What.{What}
use Rattle.affc_lex.specs.declared.piece.What.TheVariants.{Space, Comment, Token as of_kind}
use Rattle.affc_lex.specs.Pieces.{Piece, text_of}
use Rattle.affc_lex.specs.Lexes.{InOrder, Lexeme, Lexes, lexemes, token_at, tokens_from, begins_scop_line, without_scop_lines}

abbrev SeenInOrder : ℕ → List Lexeme → ℕ → Type 0
SeenInOrder from [] to = from ≤ to
SeenInOrder from (t ∷ ts) to = (from ≤ t.start) × (t.start ≤ t.end) × SeenInOrder t.end ts to

earlier_start : (from start to : ℕ) (ts : List Lexeme) → start ≤ from → SeenInOrder from ts to → SeenInOrder start ts to
earlier_start from start to [] less order = omega (arith, order)
earlier_start from start to (t ∷ ts) less order = (omega (arith, order.0), order.1, order.2)

one_token : (at to : ℕ) (what : What) (bytes : List ℕ) (ts : List Lexeme) → SeenInOrder (at + length bytes) ts to → SeenInOrder at (token_at at what bytes ++ ts) to
one_token at to Space bytes ts order = earlier_start (at + length bytes) at to ts (omega arith) order
one_token at to Comment bytes ts order = earlier_start (at + length bytes) at to ts (omega arith) order
one_token at to (of_kind kind) bytes ts order = (omega arith, omega arith, order)

pieces_in_order : (at : ℕ) (ps : List Piece) → SeenInOrder at (tokens_from at ps) (at + length (text_of ps))
pieces_in_order at [] = omega arith
pieces_in_order at (p ∷ ps) =
    let end : (at + length p.bytes) + length (text_of ps) ≡ at + length (p.bytes ++ text_of ps) = omega (arith, length-append p.bytes (text_of ps)) in
    one_token at _ p.what p.bytes (tokens_from (at + length p.bytes) ps) (subst (SeenInOrder (at + length p.bytes) (tokens_from (at + length p.bytes) ps)) end (pieces_in_order (at + length p.bytes) ps))

dropped_in_order : (from to left : ℕ) (ts : List Lexeme) → SeenInOrder from ts to → SeenInOrder from (without_scop_lines left ts) to
dropped_in_order from to zero [] order = order
dropped_in_order from to (suc left) [] order = order
dropped_in_order from to zero (t ∷ ts) order =
    cond_both (begins_scop_line (t ∷ ts)) (without_scop_lines 3 ts) (t ∷ without_scop_lines zero ts) (λ us. SeenInOrder from us to)
    (λ _. earlier_start t.end from to (without_scop_lines 3 ts) (omega (arith, order.0, order.1)) (dropped_in_order t.end to 3 ts order.2))
    (λ _. (order.0, order.1, dropped_in_order t.end to zero ts order.2))
dropped_in_order from to (suc left) (t ∷ ts) order =
    earlier_start t.end from to (without_scop_lines left ts) (omega (arith, order.0, order.1)) (dropped_in_order t.end to left ts order.2)

unseen : (text : List ℕ) (from to : ℕ) (tokens : List Token) → SeenInOrder from (lexemes text tokens) to → InOrder from tokens to
unseen text from to [] order = order
unseen text from to (t ∷ ts) order = (order.0, order.1, unseen text t.end to ts order.2)

pub in_order : (text : List ℕ) (tokens : List Token) → Lexes text (lexemes text tokens) → InOrder 0 tokens (length text)
in_order text tokens l =
    let end : 0 + length (text_of l.pieces) ≡ length text = omega (arith, ap length l.spelled) in
    unseen text 0 (length text) tokens
    (subst (λ ts. SeenInOrder 0 ts (length text)) (sym l.its_tokens)
    (subst (SeenInOrder 0 (without_scop_lines 0 (tokens_from 0 l.pieces))) end (dropped_in_order 0 _ 0 (tokens_from 0 l.pieces) (pieces_in_order 0 l.pieces))))

pub answered_in_order : (text : List ℕ) (result : Result (Vec Token Global) LexFault) → IfOk result (λ v. Lexes text (lexemes text v.items)) → IfOk result (λ v. InOrder 0 v.items (length text))
answered_in_order text (Ok v) l = in_order text v.items l
answered_in_order text (Err f) l = l
