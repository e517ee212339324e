-- Lines, looked at one after the other.
use Rattle.std.proofs.Common.{◌≡◌, ℕ, zero, suc, ◌+◌, ◌<◌, ◌≤◌, Bool, true, false, not, ◌&&◌, ◌||◌, ◌==◌, List, [], ◌∷◌, ◌++◌, length, map, take, drop, get_or, Option, Some, None, refl, sym, ap, ◌∙◌, subst, arith}
use Rattle.std.specs.List.{list_any}
use Rattle.std.proofs.lemmas.Bool.{and_from, false≢true}
use Rattle.std.proofs.lemmas.List.{length-map, take_more, drop_all}
use Rattle.affc_grammar.specs.Limits.{at_if}
use Rattle.affc_schedtext.specs.declared.draft.LineDraft as code
use Rattle.affc_schedtext.specs.declared.outline.Outline.{Outline}
use Rattle.affc_schedtext.specs.Outline.{statement_of, array_of, array_at}
use Rattle.affc_schedtext.specs.Rules.{is_in, wrong_statements, statements_in, has_all, wrong_folds, is_temporary_of}
use Rattle.affc_schedtext.specs.Seen.{line_seen}
use Rattle.affc_schedtext.proofs.Scheduled.{all_there}
use Rattle.affc_schedtext.proofs.Walks.{front}
use Rattle.affc_schedtext.specs.Terms.{term}
use Rattle.affc_plan.specs.Lines.{head, is_of_statement, is_of_array, wrong_statement, wrong_fold, is_wrong_statement, is_wrong_fold, wrong_from, same_number}

-- ---- Numbers that stand among those before

any_more : (p : code.LineDraft → Bool) (xs : List code.LineDraft) (y : code.LineDraft) → list_any p (xs ++ y ∷ []) ≡ p y || list_any p xs
any_more p [] y = refl
any_more p (x ∷ xs) y = ap (λ b. p x || b) (any_more p xs y) ∙ swap (p x) (p y) (list_any p xs)
  where
    swap : (a b c : Bool) → a || (b || c) ≡ b || (a || c)
    swap true true c = refl
    swap true false c = refl
    swap false b c = refl

-- the numbers are those of the lines
abbrev AreOf : (ℕ → code.LineDraft → Bool) → List code.LineDraft → List ℕ → Type 0
AreOf p before earlier = (s : ℕ) → list_any (p s) before ≡ is_in s earlier

module _ (o : Outline) where
  more_statement : (before : List code.LineDraft) (earlier : List ℕ) (l : code.LineDraft) (x : ℕ) → statement_of o l.word.name ≡ Some x → AreOf (is_of_statement o) before earlier → AreOf (is_of_statement o) (before ++ l ∷ []) (x ∷ earlier)
  more_statement before earlier l x e h = λ s. any_more (is_of_statement o s) before l ∙ (λ i. same_number s (e i) || h s i)

  no_statement : (before : List code.LineDraft) (earlier : List ℕ) (l : code.LineDraft) → statement_of o l.word.name ≡ None → AreOf (is_of_statement o) before earlier → AreOf (is_of_statement o) (before ++ l ∷ []) earlier
  no_statement before earlier l e h = λ s. any_more (is_of_statement o s) before l ∙ (λ i. same_number s (e i) || h s i)

  more_array : (before : List code.LineDraft) (earlier : List ℕ) (l : code.LineDraft) (x : ℕ) → array_of o l.word.name ≡ Some x → AreOf (is_of_array o) before earlier → AreOf (is_of_array o) (before ++ l ∷ []) (x ∷ earlier)
  more_array before earlier l x e h = λ s. any_more (is_of_array o s) before l ∙ (λ i. same_number s (e i) || h s i)

  no_array : (before : List code.LineDraft) (earlier : List ℕ) (l : code.LineDraft) → array_of o l.word.name ≡ None → AreOf (is_of_array o) before earlier → AreOf (is_of_array o) (before ++ l ∷ []) earlier
  no_array before earlier l e h = λ s. any_more (is_of_array o s) before l ∙ (λ i. same_number s (e i) || h s i)

  -- ---- Wrong lines

  of_statement : (before : List code.LineDraft) (earlier : List ℕ) (l : code.LineDraft) (ls : List code.LineDraft) (x : Option ℕ) → statement_of o l.word.name ≡ x → AreOf (is_of_statement o) before earlier
      → ((es : List ℕ) → AreOf (is_of_statement o) (before ++ l ∷ []) es → wrong_from (is_wrong_statement o) (before ++ l ∷ []) ls ≡ wrong_statements o es (map line_seen ls))
      → at_if (wrong_statement o x before) l.word.at ++ wrong_from (is_wrong_statement o) (before ++ l ∷ []) ls
      ≡ elim x [ None ↦ l.word.at ∷ wrong_statements o earlier (map line_seen ls) | Some s ↦ at_if (is_in s earlier) l.word.at ++ wrong_statements o (s ∷ earlier) (map line_seen ls) ]
  of_statement before earlier l ls None e h k = ap (λ r. l.word.at ∷ r) (k earlier (no_statement before earlier l e h))
  of_statement before earlier l ls (Some s) e h k = (λ i. at_if (h s i) l.word.at ++ k (s ∷ earlier) (more_statement before earlier l s e h) i)

  wrong_lines : (before : List code.LineDraft) (earlier : List ℕ) (ls : List code.LineDraft) → AreOf (is_of_statement o) before earlier → wrong_from (is_wrong_statement o) before ls ≡ wrong_statements o earlier (map line_seen ls)
  wrong_lines before earlier [] h = refl
  wrong_lines before earlier (l ∷ ls) h = of_statement before earlier l ls (statement_of o l.word.name) refl h (λ es k. wrong_lines (before ++ l ∷ []) es ls k)

  pub statements_wrong : (ls : List code.LineDraft) → wrong_from (is_wrong_statement o) [] ls ≡ wrong_statements o [] (map line_seen ls)
  statements_wrong ls = wrong_lines [] [] ls (λ s. refl)

  of_array : (before : List code.LineDraft) (earlier : List ℕ) (l : code.LineDraft) (ls : List code.LineDraft) (x : Option ℕ) → array_of o l.word.name ≡ x → AreOf (is_of_array o) before earlier
      → ((es : List ℕ) → AreOf (is_of_array o) (before ++ l ∷ []) es → wrong_from (is_wrong_fold o) (before ++ l ∷ []) ls ≡ wrong_folds o es (map line_seen ls))
      → at_if (wrong_fold o (length l.forms) x before) l.word.at ++ wrong_from (is_wrong_fold o) (before ++ l ∷ []) ls
      ≡ elim x [ None ↦ l.word.at ∷ wrong_folds o earlier (map line_seen ls) | Some y ↦ at_if (is_in y earlier || not (is_temporary_of (length (map term l.forms)) (array_at o (Some y)))) l.word.at ++ wrong_folds o (y ∷ earlier) (map line_seen ls) ]
  of_array before earlier l ls None e h k = ap (λ r. l.word.at ∷ r) (k earlier (no_array before earlier l e h))
  of_array before earlier l ls (Some y) e h k =
      (λ i. at_if (h y i || not (is_temporary_of (sym (length-map l.forms term) i) (array_at o (Some y)))) l.word.at ++ k (y ∷ earlier) (more_array before earlier l y e h) i)

  wrong_arrays : (before : List code.LineDraft) (earlier : List ℕ) (ls : List code.LineDraft) → AreOf (is_of_array o) before earlier → wrong_from (is_wrong_fold o) before ls ≡ wrong_folds o earlier (map line_seen ls)
  wrong_arrays before earlier [] h = refl
  wrong_arrays before earlier (l ∷ ls) h = of_array before earlier l ls (array_of o l.word.name) refl h (λ es k. wrong_arrays (before ++ l ∷ []) es ls k)

  pub folds_wrong : (ls : List code.LineDraft) → wrong_from (is_wrong_fold o) [] ls ≡ wrong_folds o [] (map line_seen ls)
  folds_wrong ls = wrong_arrays [] [] ls (λ s. refl)

  -- ---- Lines of all statements

  any_of : (s : ℕ) (b : Bool) (ns : List ℕ) (x : Option ℕ) → b ≡ is_in s ns → same_number s x || b ≡ is_in s (elim x [ None ↦ ns | Some t ↦ t ∷ ns ])
  any_of s b ns None e = e
  any_of s b ns (Some t) e = ap (λ c. (t == s) || c) e

  pub lines_any : (s : ℕ) (ls : List code.LineDraft) → list_any (is_of_statement o s) ls ≡ is_in s (statements_in o (map line_seen ls))
  lines_any s [] = refl
  lines_any s (l ∷ ls) = any_of s (list_any (is_of_statement o s) ls) (statements_in o (map line_seen ls)) (statement_of o l.word.name) (lines_any s ls)

pub all_so_far : (n : ℕ) (ns : List ℕ) → is_in n ns ≡ true → has_all n ns ≡ true → has_all (n + 1) ns ≡ true
all_so_far n ns h k = let e : suc n ≡ n + 1 = omega arith in subst (λ m. has_all m ns ≡ true) e (and_from (is_in n ns) (has_all n ns) h k)

pub one_missing : (k n : ℕ) (ns : List ℕ) → k < n → is_in k ns ≡ false → has_all n ns ≡ false
one_missing k zero ns h e = absurd (omega (arith, h))
one_missing k (suc n) ns h e = by (is_in n ns && has_all n ns) refl
  where
    by : (b : Bool) → is_in n ns && has_all n ns ≡ b → b ≡ false
    by true q = absurd (false≢true (sym e ∙ all_there (suc n) ns k q h))
    by false q = refl

-- ---- Going on over a list with what stands before

module _ (is_wrong : List code.LineDraft → code.LineDraft → Bool) (ls : List code.LineDraft) where
  pub wrong_here : (i : ℕ) (l : code.LineDraft) → i < length ls → l ≡ get_or ls i l → is_wrong (take i ls) l ≡ true → head (wrong_from is_wrong (take i ls) (drop i ls)) ≡ head (wrong_from is_wrong [] ls) → Some l.word.at ≡ head (wrong_from is_wrong [] ls)
  wrong_here i l lt e w h =
      sym (ap (λ b. head (at_if b l.word.at ++ wrong_from is_wrong (take i ls ++ l ∷ []) (drop (i + 1) ls))) w)
      ∙ ap (λ r. head (wrong_from is_wrong (take i ls) r)) (sym (front ls i l lt e))
      ∙ h

  pub wrong_on : (i : ℕ) (l : code.LineDraft) → i < length ls → l ≡ get_or ls i l → is_wrong (take i ls) l ≡ false → head (wrong_from is_wrong (take i ls) (drop i ls)) ≡ head (wrong_from is_wrong [] ls) → head (wrong_from is_wrong (take (i + 1) ls) (drop (i + 1) ls)) ≡ head (wrong_from is_wrong [] ls)
  wrong_on i l lt e w h =
      ap (λ t. head (wrong_from is_wrong t (drop (i + 1) ls))) (take_more ls i l lt ∙ ap (λ x. take i ls ++ x ∷ []) (sym e))
      ∙ sym (ap (λ b. head (at_if b l.word.at ++ wrong_from is_wrong (take i ls ++ l ∷ []) (drop (i + 1) ls))) w)
      ∙ ap (λ r. head (wrong_from is_wrong (take i ls) r)) (sym (front ls i l lt e))
      ∙ h

  pub wrong_end : (i : ℕ) → length ls ≤ i → head (wrong_from is_wrong (take i ls) (drop i ls)) ≡ head (wrong_from is_wrong [] ls) → None ≡ head (wrong_from is_wrong [] ls)
  wrong_end i le h = ap (λ r. head (wrong_from is_wrong (take i ls) r)) (sym (drop_all i ls le)) ∙ h

pub same_entry : (xs : List code.LineDraft) (i : ℕ) (d e : code.LineDraft) → i < length xs → get_or xs i d ≡ get_or xs i e
same_entry [] i d e h = absurd (omega (arith, h))
same_entry (x ∷ xs) zero d e h = refl
same_entry (x ∷ xs) (suc i) d e h = same_entry xs i d e (omega (arith, h))
