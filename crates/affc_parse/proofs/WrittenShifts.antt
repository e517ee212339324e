-- The shifts of a text of the grammar are such as a tree can hold.
use Rattle.std.proofs.Common.{◌≡◌, ℕ, Bool, true, ◌&&◌, nat_lt, refl, ap, ◌∙◌, arith}
use Rattle.std.proofs.lemmas.Bool.Decides.{nat_tests}
use Rattle.affc_lex.specs.Bytes.{decimal}
use Rattle.affc_grammar.specs.Grammar as g
use Rattle.affc_grammar.specs.Grammar.{ValueText, StmtsText, StmtText, SimpleText, BodyText, Text, Digits, is_shift}
use Rattle.affc_grammar.specs.Draft.{value_draft, stmts_draft, stmt_draft, simple_draft, body_draft, text_draft}
use Rattle.affc_names.specs.Shifts.{value_shifts, stmts_shift, stmt_shifts}

joined : (a b : Bool) → a ≡ true → b ≡ true → (a && b) ≡ true
joined a b h k = ap (λ x. x && b) h ∙ k

few_bits : (by : Digits) → is_shift by ≡ true → nat_lt (decimal by) 256 ≡ true
few_bits by h = grind (arith, nat_tests)

values : {prelude : Bool} {n : ℕ} (at : ℕ) (v : ValueText prelude n) → value_shifts (value_draft at v) ≡ true
values at (g.complement v) = values _ v
values at (g.load array subs) = refl
values at (g.constant bytes) = refl
values at (g.parens v) = values _ v
values at (g.cast a) = refl
values at (g.operand v) = values _ v
values at (g.binary a op _ b) = joined _ _ (values _ a) (values _ b)
values at (g.shift v left by h) = joined (value_shifts (value_draft at v)) (nat_lt (decimal by) 256) (values at v) (few_bits by h)

mutual
  stmts : {prelude : Bool} (at : ℕ) (ss : StmtsText prelude) → stmts_shift (stmts_draft at ss) ≡ true
  stmts at g.no_stmts = refl
  stmts at (g.and_stmt ss s) = joined _ _ (stmts at ss) (stmt _ s)

  stmt : {prelude : Bool} (at : ℕ) (s : StmtText prelude) → stmt_shifts (stmt_draft at s) ≡ true
  stmt at (g.simple s) = simple at s
  stmt at (g.block ls ss) = stmts _ ss

  simple : {prelude dangles : Bool} (at : ℕ) (s : SimpleText prelude dangles) → stmt_shifts (simple_draft at s) ≡ true
  simple at (g.for_loop iterator low tested strict high step body) = body_of _ body
  simple at (g.if_then c body) = joined _ _ (body_of _ body) refl
  simple at (g.if_else c body other) = joined _ _ (body_of _ body) (body_of _ other)
  simple at (g.assign array subs op v) = values _ v

  body_of : {prelude dangles : Bool} (at : ℕ) (b : BodyText prelude dangles) → stmts_shift (body_draft at b) ≡ true
  body_of at (g.braces ss) = stmts _ ss
  body_of at (g.bare s) = simple at s

pub text_shifts : (c : Text) → stmts_shift (text_draft c).body ≡ true
text_shifts c = stmts _ c.function.stmts
