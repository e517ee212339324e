-- The lines of a text that breaks no rule are right.
use Rattle.std.proofs.Common.{◌≡◌, ℕ, not, ◌==◌, nat_le, List, [], ◌∷◌, ◌++◌, length, map, flat_map}
use Rattle.std.proofs.lemmas.Bool.{and_parts, leb-true}
use Rattle.affc_grammar.specs.Limits.{at_if}
use Rattle.affc_schedtext.specs.declared.outline.Outline.{Outline}
use Rattle.affc_schedtext.specs.Draft.{LineDraft, OrderDraft, source, time, text_draft}
use Rattle.affc_schedtext.specs.Grammar.{Text}
use Rattle.affc_schedtext.specs.Rules.{wrong_statements, statements_in, has_all, wrong_folds, large_sides, fold_sides, is_length, statement, length_of_line, fold, limit, fold_breaches, fold_limits, order_breaches, breaches, statement_sides}
use Rattle.affc_schedtext.proofs.Counted.{Each, HaveInverses, text_counts}
use Rattle.affc_schedtext.proofs.Empty.{none_left, none_right, map_none}
use Rattle.affc_schedtext.proofs.Scheduled.{kept}
use Rattle.affc_plan.specs.Maps.{IsRightLine, IsRightFold, AreRightLines, AreRight, IsRightOrder}
use Rattle.affc_plan.proofs.RightLines.{right_lines}
use Rattle.affc_plan.proofs.RightFolds.{right_folds, folds_have_lists}

module _ (o : Outline) where
  all_lines : (n : ℕ) (lines : List LineDraft) → Each (IsRightLine o n) lines → AreRightLines o n lines
  all_lines n [] h = tt
  all_lines n (l ∷ ls) h = (h.0, all_lines n ls h.1)

  all_folds : (folds : List LineDraft) → Each (IsRightFold o) folds → AreRight o folds
  all_folds [] h = tt
  all_folds (l ∷ ls) h = (h.0, all_folds ls h.1)

  pub first_kept : (tokens at n : ℕ) (lines folds : List LineDraft) → order_breaches o tokens (time at n lines) folds ≡ [] → wrong_statements o [] lines ≡ []
  first_kept tokens at n lines folds e =
      let missing = at_if (not (has_all (length o.statements) (statements_in o lines))) tokens in
      let lengths = map length_of_line (flat_map (λ (l : LineDraft). at_if (not (length l.forms == n)) l.at) lines) in
      let four = map limit (at_if (not (is_length n)) at ++ flat_map (λ l. large_sides (statement_sides o n l)) lines) in
      let one = map statement (wrong_statements o [] lines ++ missing) in
      let first : one ≡ [] = none_left one lengths (none_left (one ++ lengths) (fold_breaches o folds) (none_left (one ++ lengths ++ fold_breaches o folds) four (none_left (one ++ lengths ++ fold_breaches o folds ++ four) (fold_limits o folds) e))) in
      none_left (wrong_statements o [] lines) missing (map_none statement (wrong_statements o [] lines ++ missing) first)

  right_order : (tokens : ℕ) (d : OrderDraft) (folds : List LineDraft) → order_breaches o tokens d folds ≡ [] → HaveInverses o d → IsRightOrder o d
  right_order tokens source folds e c = tt
  right_order tokens (time at n lines) folds e c =
      let k = kept o tokens at n lines folds e in
      let few = and_parts (nat_le 1 n) (nat_le n 12) k.few in
      (leb-true 1 n few.0, leb-true n 12 few.1, all_lines n lines (right_lines o n [] lines (first_kept tokens at n lines folds e) k.lengths k.small c))

  no_fold : (tokens : ℕ) (d : OrderDraft) (folds : List LineDraft) → order_breaches o tokens d folds ≡ [] → (wrong_folds o [] folds ≡ []) × (flat_map (λ l. large_sides (fold_sides o l)) folds ≡ [])
  no_fold tokens source folds e =
      (map_none fold (wrong_folds o [] folds) (none_left (fold_breaches o folds) (fold_limits o folds) e), map_none limit (flat_map (λ l. large_sides (fold_sides o l)) folds) (none_right (fold_breaches o folds) (fold_limits o folds) e))
  no_fold tokens (time at n lines) folds e =
      (map_none fold (wrong_folds o [] folds) (none_right _ (fold_breaches o folds) (none_left _ _ (none_left _ (fold_limits o folds) e))), map_none limit (flat_map (λ l. large_sides (fold_sides o l)) folds) (none_right _ (fold_limits o folds) e))

  pub right_drafts : (tokens : ℕ) (c : Text o) → breaches o tokens (text_draft c) ≡ [] → IsRightOrder o (text_draft c).order × AreRight o (text_draft c).folds
  right_drafts tokens c e =
      let f = no_fold tokens (text_draft c).order (text_draft c).folds e in
      (right_order tokens (text_draft c).order (text_draft c).folds e (text_counts o c), all_folds (text_draft c).folds (right_folds o [] (text_draft c).folds f.0 f.1 (folds_have_lists o c)))
