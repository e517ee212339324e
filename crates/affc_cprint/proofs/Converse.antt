-- A program whose printed text reads as it is well named.
use Rattle.std.proofs.Common.{◌≡◌, ◌+◌, ◌&&◌, ℕ, zero, suc, Bool, true, false, not, List, [], ◌∷◌, ◌++◌, map, length, Option, None, Some, Result, Ok, Err, refl, sym, ap, subst, ◌∙◌, if◌then◌else◌}
use Rattle.std.proofs.lemmas.Bool.{and_parts, and_from}
use Rattle.std.specs.List.{list_all}
use Rattle.affc_lex.specs.declared.token.Kind.{Kind}
use Rattle.affc_lex.specs.declared.token.Kind.TheVariants.{Word, Number, Value, Header, Hash, LineEnd, Prelude, Mark}
use Rattle.affc_lex.specs.declared.piece.What.{What}
use Rattle.affc_lex.specs.declared.piece.What.TheVariants.{Space, Comment, Token as of_kind}
use Rattle.affc_lex.specs.declared.piece.Spot.{Spot}
use Rattle.affc_lex.specs.declared.piece.Spot.TheVariants.{Fresh}
use Rattle.affc_lex.specs.Bytes.{next_is, is_letter_or_digit}
use Rattle.affc_lex.specs.Pieces.{Piece, is_word, is_number, is_value, is_small, leading_digits, text_of, stands, all_stand, token_stands, next_spot}
use Rattle.affc_lex.specs.Lexes.{Lexeme, Lexes, tokens_from, token_at, begins_scop_line, without_scop_lines}
use Rattle.affc_lex.proofs.Exact.{one_list}
use Rattle.affc_ast.specs.declared.tree.Program.{Program}
use Rattle.affc_grammar.specs.Grammar.{symbol, text_symbols}
use Rattle.affc_grammar.specs.Draft.{text_draft}
use Rattle.affc_grammar.specs.Names.{Refusal, program_tree}
use Rattle.affc_grammar.specs.Limits.{Passed, least, nearer, wide_limits, shape_passed, passed, products_of_names}
use Rattle.affc_grammar.specs.Printed.{printed}
use Rattle.affc_grammar.specs.Reads.{TextFault, within_limits, affine, named, can_have, WellNamed, ReadsWide}
use Rattle.affc_grammar.proofs.Texts.{one_text}
use Rattle.affc_cprint.specs.Layout.{printed_text}
use Rattle.affc_cprint.proofs.Spelled.{AllHave}
use Rattle.affc_cprint.proofs.Lexed.{laid_out}
use Rattle.affc_cprint.proofs.ReadBackTexts.{program_back, printed_again}
use Rattle.affc_cprint.proofs.Calls.{calls_again}
use Rattle.affc_cprint.proofs.Whole.{printed_reads}

-- ---- The tokens of a text

one_has : (spot : Spot) (kind : Kind) (bytes after : List ℕ) → token_stands spot kind bytes after ≡ true → can_have kind bytes ≡ true
one_has spot Word bytes after h = (and_parts (is_word bytes) _ (and_parts (is_word bytes && not (next_is is_letter_or_digit after)) _ h).0).0
one_has spot Number bytes after h = (and_parts (is_number bytes && is_small bytes) _ h).0
one_has spot Value bytes after h = (and_parts (is_value bytes && is_small (leading_digits bytes)) _ h).0
one_has spot Header bytes after h = refl
one_has spot Hash bytes after h = refl
one_has spot LineEnd bytes after h = refl
one_has spot Prelude bytes after h = refl
one_has spot Mark bytes after h = refl

pieces_have : (at : ℕ) (spot : Spot) (ps : List Piece) (after : List ℕ) → all_stand spot ps after ≡ true → AllHave (map symbol (tokens_from at ps))
pieces_have at spot [] after h = refl
pieces_have at spot (p ∷ ps) after h =
    let s = and_parts (stands spot p.what p.bytes (text_of ps ++ after)) (all_stand (next_spot spot p.what p.bytes) ps after) h in
    one p.what s.0 (pieces_have (at + length p.bytes) (next_spot spot p.what p.bytes) ps after s.1)
  where
    one : (what : What) → stands spot what p.bytes (text_of ps ++ after) ≡ true → AllHave (map symbol (tokens_from (at + length p.bytes) ps))
        → AllHave (map symbol (token_at at what p.bytes ++ tokens_from (at + length p.bytes) ps))
    one Space s rest = rest
    one Comment s rest = rest
    one (of_kind kind) s rest = and_from _ _ (one_has spot kind p.bytes (text_of ps ++ after) s) rest

kept_have : (left : ℕ) (ts : List Lexeme) → AllHave (map symbol ts) → AllHave (map symbol (without_scop_lines left ts))
kept_have zero [] h = refl
kept_have (suc left) [] h = refl
kept_have zero (t ∷ ts) h =
    let p = and_parts (can_have t.kind t.bytes) (list_all (λ s. can_have s.kind s.bytes) (map symbol ts)) h in
    chosen (begins_scop_line (t ∷ ts)) (without_scop_lines 3 ts) (t ∷ without_scop_lines 0 ts) (kept_have 3 ts p.1) (and_from _ _ p.0 (kept_have 0 ts p.1))
  where
    chosen : (b : Bool) (xs ys : List Lexeme) → AllHave (map symbol xs) → AllHave (map symbol ys) → AllHave (map symbol (if b then xs else ys))
    chosen true xs ys p q = p
    chosen false xs ys p q = q
kept_have (suc left) (t ∷ ts) h = kept_have left ts (and_parts (can_have t.kind t.bytes) (list_all (λ s. can_have s.kind s.bytes) (map symbol ts)) h).1

pub tokens_have : (text : List ℕ) (ts : List Lexeme) → Lexes text ts → AllHave (map symbol ts)
tokens_have text ts l = subst (λ us. AllHave (map symbol us)) (sym l.its_tokens) (kept_have 0 (tokens_from 0 l.pieces) (pieces_have 0 Fresh l.pieces [] l.standing))

-- ---- The rules that a tree keeps

pub record KeepsAll (r : Result Program Refusal) (places : List ℕ) (faults : List Passed) (p : Program) : Type 0 where
  pub its_tree : r ≡ Ok p
  pub its_products : places ≡ []
  pub limits : faults ≡ []

nearer_some : (x : Passed) (o : Option Passed) → nearer x o ≡ None → ⊥
nearer_some x None e = cc
nearer_some x (Some y) e = of _ e
  where
    of : (b : Bool) → (if b then Some x else Some y) ≡ None → ⊥
    of true e = cc
    of false e = cc

pub keeps_all : (r : Result Program Refusal) (places : List ℕ) (faults : List Passed) (p : Program) → named r (λ tree. affine places (within_limits (least faults) tree)) ≡ Ok p → KeepsAll r places faults p
keeps_all (Err x) places faults p e = absurd (cc)
keeps_all (Ok tree) (at ∷ places) faults p e = absurd (cc)
keeps_all (Ok tree) [] (x ∷ faults) p e = of (nearer x (least faults)) refl e
  where
    of : (o : Option Passed) → nearer x (least faults) ≡ o → ◌≡◌ {A = Result Program TextFault} (within_limits o tree) (Ok p) → KeepsAll (Ok tree) [] (x ∷ faults) p
    of None q e = absurd (nearer_some x (least faults) q)
    of (Some y) q e = absurd (cc)
keeps_all (Ok tree) [] [] p e = record { its_tree = ap (λ t. Ok t) (same tree p e); its_products = refl; limits = refl }
  where
    same : (a b : Program) → ◌≡◌ {A = Result Program TextFault} (Ok a) (Ok b) → a ≡ b
    same a b e = ap (λ (r : Result Program TextFault). elim r [ Ok t ↦ t | Err f ↦ a ]) e

pub well_named_by_text : (p : Program) → ReadsWide (printed_text p) p → WellNamed p
well_named_by_text p r =
    let d = r.derives in
    let c = d.written in
    let have : AllHave (text_symbols c) = ap (list_all (λ s. can_have s.kind s.bytes)) (sym d.spelled) ∙ tokens_have (printed_text p) r.tokens r.lexes in
    let k = keeps_all (program_tree (text_draft c)) (products_of_names (text_draft c)) (passed wide_limits (text_draft c)) p d.its_tree in
    let back = program_back c p have k.its_tree in
    let text = printed_again p (calls_again c p back k.its_tree) back in
    let has = laid_out (printed p) text.line text.lines text.function in
    let tokens : r.tokens ≡ has.tokens = one_list (printed_text p) r.tokens has.tokens r.lexes (subst (λ x. Lexes x has.tokens) (sym text.laid_out) has.lexes) in
    let symbols : map symbol r.tokens ≡ text_symbols (printed p) = ap (map symbol) tokens ∙ has.are in
    let same : c ≡ printed p = one_text c (printed p) (sym d.spelled ∙ symbols) in
    record {
      written = c;
      tokens = have;
      its_tree = k.its_tree;
      its_products = k.its_products;
      printed_shape = ap (shape_passed wide_limits) (sym symbols) ∙ d.shape;
      printed_limits = ap (λ t. passed wide_limits (text_draft t)) (sym same) ∙ k.limits;
    }

-- what is printed reads as the program exactly where the program is well named
pub reads_back : (p : Program) (text : List ℕ) → text ≡ printed_text p → (WellNamed p → ReadsWide text p) × (ReadsWide text p → WellNamed p)
reads_back p text e = (λ w. subst (λ t. ReadsWide t p) (sym e) (printed_reads p w), λ r. well_named_by_text p (subst (λ t. ReadsWide t p) e r))
