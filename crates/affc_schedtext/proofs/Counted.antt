-- A line of a statement has an inverse form for each of its iterators.
use Rattle.std.proofs.Common.{◌≡◌, ℕ, suc, ◌+◌, List, [], ◌∷◌, ◌++◌, length, Option, Some, None, refl, ap, subst}
use Rattle.affc_grammar.specs.Grammar.{Name}
use Rattle.affc_schedtext.specs.Outline.{Outline, Scope, statement_of, iterators_of, lists_at, presence_at, statement_lists, statement_presence}
use Rattle.affc_schedtext.specs.Grammar as g
use Rattle.affc_schedtext.specs.Grammar.{GivenText, InverseText, without, written, LineText, StmtsText, no_stmts, and_stmt, stmts_symbols, Text, order, and_fold, entry_symbols}
use Rattle.affc_schedtext.specs.Draft.{LineDraft, OrderDraft, source, time, given_draft, inverse_draft, line_draft, stmts_draft, text_draft}

-- ---- Each of a list

abbrev pub Each : {A : Type 0} → (A → Type 0) → List A → Type 0
Each P [] = Unit {0}
Each P (x ∷ xs) = P x × Each P xs

each_more : {A : Type 0} (P : A → Type 0) (xs : List A) (x : A) → Each P xs → P x → Each P (xs ++ x ∷ [])
each_more P [] x h p = (p, tt)
each_more P (y ∷ xs) x h p = (h.0, each_more P xs x h.1 p)

pub each_middle : {A : Type 0} (P : A → Type 0) (xs : List A) (x : A) (ys : List A) → Each P (xs ++ x ∷ ys) → P x
each_middle P [] x ys h = h.0
each_middle P (y ∷ xs) x ys h = each_middle P xs x ys h.1

-- ---- Lines

abbrev pub HasInverses : Outline → LineDraft → Type 0
HasInverses o l = (is : List Name) → iterators_of o (statement_of o l.name) ≡ Some is → length l.inverse ≡ length is

given_count : {scope : Scope} {ws : List Name} (t : GivenText scope ws) (at : ℕ) → length (given_draft at t) ≡ length ws
given_count (g.last_entry w a) at = refl
given_count (g.entry_then w a others) at = ap suc (given_count others (at + length (entry_symbols w a) + 1))

same_some : (a b : List Name) → ◌≡◌ {A = Option (List Name)} (Some a) (Some b) → a ≡ b
same_some a b e = cc

inverse_count : (o : Outline) (n : ℕ) (x : Option (List Name)) (scope : Scope) (at : ℕ) (t : InverseText scope (lists_at o n x).words (presence_at x)) (is : List Name) → x ≡ Some is → length (inverse_draft at t) ≡ length is
inverse_count o n None scope at t is e = absurd (cc)
inverse_count o n (Some []) scope at without is e = ap length (same_some [] is e)
inverse_count o n (Some (i ∷ js)) scope at (written (g.given t)) is e = subst (λ (ks : List Name). length (given_draft (at + 1) t) ≡ length ks) (same_some (i ∷ js) is e) (given_count t (at + 1))

module _ (o : Outline) where
  line_counts : (n : ℕ) (l : LineText (statement_lists o n) (statement_presence o)) (at : ℕ) → HasInverses o (line_draft at l)
  line_counts n l at is e = inverse_count o n (iterators_of o (statement_of o l.name)) (statement_lists o n l.name).back _ l.inverse is e

  stmts_count : (n : ℕ) (ss : StmtsText o n) (at : ℕ) → Each (HasInverses o) (stmts_draft at ss)
  stmts_count n no_stmts at = tt
  stmts_count n (and_stmt ss l) at = each_more (HasInverses o) (stmts_draft at ss) (line_draft (at + length (stmts_symbols ss)) l) (stmts_count n ss at) (line_counts n l (at + length (stmts_symbols ss)))

  abbrev pub HaveInverses : OrderDraft → Type 0
  HaveInverses source = Unit {0}
  HaveInverses (time at n lines) = Each (HasInverses o) lines

  pub text_counts : (c : Text o) → HaveInverses (text_draft c).order
  text_counts (order g.source) = tt
  text_counts (order (g.time digits ss)) = stmts_count _ ss 3
  text_counts (and_fold c l) = text_counts c
