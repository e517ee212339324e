-- From what is found of the tokens as they are shown to what is answered of the text.
use Rattle.std.proofs.Common.{◌≡◌, ℕ, ◌<◌, ◌^◌, Bool, true, false, nat_le, cond, List, [], ◌∷◌, ◌++◌, map, Option, Some, None, Ok, Err, refl, sym, ap, ◌∙◌, arith}
use Rattle.affc_ast.specs.declared.tree.Program.{Program}
use Rattle.affc_lex.specs.Lexes.{Lexeme}
use Rattle.affc_grammar.specs.declared.fault.LimitName.{LimitName}
use Rattle.affc_grammar.specs.Grammar.{Text, text_symbols}
use Rattle.affc_grammar.specs.Draft.{TextDraft, text_draft}
use Rattle.affc_grammar.specs.Names.{Refusal, program_tree}
use Rattle.affc_grammar.specs.Limits.{Limits, limits_of, Passed, passed_at, nearer, least, shape_passed, products_of_names, passed}
use Rattle.affc_grammar.specs.Reads.{Reads, has_prelude, name_refused, not_affine, limit_passed, within_limits, affine, named, tree_of}
use Rattle.affc_names.specs.Stored as stored
use Rattle.affc_names.proofs.Kept.{text_kept}
use Rattle.affc_parse.specs.Answers.{limits_with, HasTokens, HasShape}
use Rattle.affc_parse.specs.Shown.{shown}
use Rattle.affc_parse.proofs.ShownBack.{spelled_back}
use Rattle.affc_parse.proofs.ShownShape.{shape_same, prelude_same}
use Rattle.affc_parse.proofs.WrittenShifts.{text_shifts}

pub none_passed : (ps : List Passed) → least ps ≡ None → ps ≡ []
none_passed [] e = refl
none_passed (p ∷ ps) e = absurd (some (least ps) e)
  where
    one : (b : Bool) (q : Passed) → cond b (Some p) (Some q) ≡ None → ⊥
    one true q h = cc
    one false q h = cc

    some : (o : Option Passed) → nearer p o ≡ None → ⊥
    some None h = cc
    some (Some q) h = one (nat_le p.at q.at) q h

-- ---- The tree, names before products before limits

pub tree_read : (limits : Limits) (c : TextDraft) (tree : Program) → program_tree c ≡ Ok tree → products_of_names c ≡ [] → least (passed limits c) ≡ None → tree_of limits c ≡ Ok tree
tree_read limits c tree e p l =
    ap (λ m. named m (λ t. affine (products_of_names c) (within_limits (least (passed limits c)) t))) e
    ∙ ap (λ ps. affine ps (within_limits (least (passed limits c)) tree)) p
    ∙ ap (λ o. within_limits o tree) l

pub name_wrong : (limits : Limits) (c : TextDraft) (r : Refusal) → program_tree c ≡ Err r → tree_of limits c ≡ Err (name_refused r)
name_wrong limits c r e = ap (λ m. named m (λ t. affine (products_of_names c) (within_limits (least (passed limits c)) t))) e

pub product_wrong : (limits : Limits) (c : TextDraft) (tree : Program) (at : ℕ) (others : List ℕ) → program_tree c ≡ Ok tree → products_of_names c ≡ at ∷ others → tree_of limits c ≡ Err (not_affine at)
product_wrong limits c tree at others e p =
    ap (λ m. named m (λ t. affine (products_of_names c) (within_limits (least (passed limits c)) t))) e
    ∙ ap (λ ps. affine ps (within_limits (least (passed limits c)) tree)) p

pub limit_wrong : (limits : Limits) (c : TextDraft) (tree : Program) (q : Passed) → program_tree c ≡ Ok tree → products_of_names c ≡ [] → least (passed limits c) ≡ Some q → tree_of limits c ≡ Err (limit_passed q)
limit_wrong limits c tree q e p l =
    ap (λ m. named m (λ t. affine (products_of_names c) (within_limits (least (passed limits c)) t))) e
    ∙ ap (λ ps. affine ps (within_limits (least (passed limits c)) tree)) p
    ∙ ap (λ o. within_limits o tree) l

-- ---- A text of the grammar that keeps the limits has no number that is cut

pub no_append : {A : Type 0} (xs ys : List A) → xs ++ ys ≡ [] → (xs ≡ []) × (ys ≡ [])
no_append [] ys e = (refl, e)
no_append (x ∷ xs) ys e = absurd (cc)

pub no_place : (which : LimitName) (places : List ℕ) → passed_at which places ≡ [] → places ≡ []
no_place which [] e = refl
no_place which (p ∷ ps) e = absurd (cc)

small_literal : (b : Bool) → (limits_of b).literal < 2 ^ 63
small_literal true = omega arith
small_literal false = omega arith

small_divisor : (b : Bool) → (limits_of b).divisor < 2 ^ 63
small_divisor true = omega arith
small_divisor false = omega arith

pub written_kept : (b : Bool) (written : Text) → least (passed (limits_of b) (text_draft written)) ≡ None → stored.text (text_draft written) ≡ text_draft written
written_kept b written e =
    let c = text_draft written in
    let k = no_append _ _ (none_passed (passed (limits_of b) c) e) in
    let m = no_append _ _ k.0 in
    let l = no_append _ _ (no_append _ _ m.0).0 in
    let a = no_append _ _ (no_append _ _ (no_append _ _ (no_append _ _ (no_append _ _ (no_append _ _ (no_append _ _ (no_append _ _ l.0).0).0).0).0).0).0).0 in
    text_kept (limits_of b).literal (limits_of b).divisor (small_literal b) (small_divisor b) c (no_place _ _ l.1) (no_place _ _ a.1) (no_place _ _ m.1) (text_shifts written)

-- ---- The text

pub has_shape : (text : List ℕ) (tokens : List Lexeme) → HasTokens text tokens → least (shape_passed (limits_of (has_prelude (map shown tokens))) (map shown tokens)) ≡ None → HasShape text tokens
has_shape text tokens h e = record {
  has_tokens = h;
  shape =
      sym (shape_same (limits_with tokens) tokens)
      ∙ ap (λ b. shape_passed (limits_of b) (map shown tokens)) (sym (prelude_same tokens))
      ∙ none_passed (shape_passed (limits_of (has_prelude (map shown tokens))) (map shown tokens)) e;
}

pub is_read : (text : List ℕ) (tokens : List Lexeme) (written : Text) (tree : Program) → HasShape text tokens → map shown tokens ≡ text_symbols written → tree_of (limits_with tokens) (text_draft written) ≡ Ok tree → Reads text tree
is_read text tokens written tree h e t = record {
  size = h.has_tokens.size;
  tokens = tokens;
  lexes = h.has_tokens.lexes;
  derives = record { shape = h.shape; written = written; spelled = spelled_back tokens written e; its_tree = t };
}
