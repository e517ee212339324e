-- Lines that break no rule are right, and no two of them are of one statement.
use Rattle.std.proofs.Common.{◌≡◌, ℕ, zero, suc, ◌<◌, Bool, true, false, not, ◌==◌, List, [], ◌∷◌, ◌++◌, length, flat_map, get_or, slice_get, Option, Some, None, refl, sym, ap, ◌∙◌, arith}
use Rattle.std.proofs.lemmas.Bool.{eqb-true, eq-eqb, or_left, or_right, false≢true}
use Rattle.affc_grammar.specs.Limits.{at_if}
use Rattle.affc_schedtext.specs.declared.outline.Outline.{Outline}
use Rattle.affc_schedtext.specs.Outline.{statement_of, iterators_of}
use Rattle.affc_schedtext.specs.Draft.{LineDraft}
use Rattle.affc_schedtext.specs.Rules.{is_in, wrong_statements, large_sides, statement_sides}
use Rattle.affc_schedtext.proofs.Counted.{Each, HasInverses}
use Rattle.affc_schedtext.proofs.Empty.{none_left, none_right, kept_if}
use Rattle.affc_plan.specs.Maps.{IsRightLine}
use Rattle.affc_plan.proofs.ColumnLaws.{numbered_within}

pub got : {A : Type 0} (xs : List A) (k : ℕ) → k < length xs → (x : A) × (slice_get xs k ≡ Some x)
got [] k h = absurd (omega (arith, h))
got (x ∷ xs) zero h = (x, refl)
got (x ∷ xs) (suc k) h = got xs k (omega (arith, h))

not_if : (b : Bool) (at : ℕ) → at_if b at ≡ [] → b ≡ false
not_if true at e = absurd (cc)
not_if false at e = refl

module _ (o : Outline) where
  -- what a first line that isn't wrong is of
  record IsNew (earlier : List ℕ) (l : LineDraft) (ls : List LineDraft) : Type 0 where
    number : ℕ
    stands : statement_of o l.name ≡ Some number
    new : is_in number earlier ≡ false
    others : wrong_statements o (number ∷ earlier) ls ≡ []

  first_new : (earlier : List ℕ) (l : LineDraft) (ls : List LineDraft) → wrong_statements o earlier (l ∷ ls) ≡ [] → IsNew earlier l ls
  first_new earlier l ls e = by (statement_of o l.name) refl e
    where
      by : (x : Option ℕ) → statement_of o l.name ≡ x → ◌≡◌ {A = List ℕ} (elim x [ None ↦ l.at ∷ wrong_statements o earlier ls | Some s ↦ at_if (is_in s earlier) l.at ++ wrong_statements o (s ∷ earlier) ls ]) [] → IsNew earlier l ls
      by None q h = absurd (cc)
      by (Some s) q h = record {
        number = s;
        stands = q;
        new = not_if (is_in s earlier) l.at (none_left (at_if (is_in s earlier) l.at) (wrong_statements o (s ∷ earlier) ls) h);
        others = none_right (at_if (is_in s earlier) l.at) (wrong_statements o (s ∷ earlier) ls) h;
      }

  pub right_lines : (n : ℕ) (earlier : List ℕ) (lines : List LineDraft) → wrong_statements o earlier lines ≡ [] → flat_map (λ (l : LineDraft). at_if (not (length l.forms == n)) l.at) lines ≡ []
      → flat_map (λ l. large_sides (statement_sides o n l)) lines ≡ [] → Each (HasInverses o) lines → Each (IsRightLine o n) lines
  right_lines n earlier [] w f s c = tt
  right_lines n earlier (l ∷ ls) w f s c =
      let k = first_new earlier l ls w in
      let is = got o.statements k.number (numbered_within (83 ∷ []) (length o.statements) l.name k.number k.stands) in
      let stands : iterators_of o (statement_of o l.name) ≡ Some is.0 = ap (iterators_of o) k.stands ∙ is.1 in (
        record {
          iterators = is.0;
          stands = stands;
          forms = eqb-true (length l.forms) n (kept_if (length l.forms == n) l.at (none_left (at_if (not (length l.forms == n)) l.at) _ f));
          inverse = c.0 is.0 stands;
          slight = none_left (large_sides (statement_sides o n l)) _ s;
        },
        right_lines n (k.number ∷ earlier) ls k.others (none_right (at_if (not (length l.forms == n)) l.at) _ f) (none_right (large_sides (statement_sides o n l)) _ s) c.1,
      )

  none_again : (earlier : List ℕ) (lines : List LineDraft) (s k : ℕ) (d : LineDraft) → wrong_statements o earlier lines ≡ [] → is_in s earlier ≡ true → k < length lines → statement_of o (get_or lines k d).name ≡ Some s → ⊥
  none_again earlier [] s k d w i lt e = absurd (omega (arith, lt))
  none_again earlier (l ∷ ls) s zero d w i lt e =
      let m = first_new earlier l ls w in
      let same : m.number ≡ s = let both : ◌≡◌ {A = Option ℕ} (Some m.number) (Some s) = sym m.stands ∙ e in cc in
      false≢true (sym m.new ∙ ap (λ x. is_in x earlier) same ∙ i)
  none_again earlier (l ∷ ls) s (suc k) d w i lt e =
      let m = first_new earlier l ls w in
      none_again (m.number ∷ earlier) ls s k d m.others (or_right (m.number == s) (is_in s earlier) i) (omega (arith, lt)) e

  pub one_line : (earlier : List ℕ) (lines : List LineDraft) (s i j : ℕ) (d : LineDraft) → wrong_statements o earlier lines ≡ [] → i < length lines → j < length lines
      → statement_of o (get_or lines i d).name ≡ Some s → statement_of o (get_or lines j d).name ≡ Some s → i ≡ j
  one_line earlier [] s i j d w p q e f = absurd (omega (arith, p))
  one_line earlier (l ∷ ls) s zero zero d w p q e f = refl
  one_line earlier (l ∷ ls) s zero (suc j) d w p q e f =
      let m = first_new earlier l ls w in
      let same : m.number ≡ s = let both : ◌≡◌ {A = Option ℕ} (Some m.number) (Some s) = sym m.stands ∙ e in cc in
      absurd (none_again (m.number ∷ earlier) ls s j d m.others (or_left (m.number == s) (is_in s earlier) (eq-eqb m.number s same)) (omega (arith, q)) f)
  one_line earlier (l ∷ ls) s (suc i) zero d w p q e f =
      let m = first_new earlier l ls w in
      let same : m.number ≡ s = let both : ◌≡◌ {A = Option ℕ} (Some m.number) (Some s) = sym m.stands ∙ f in cc in
      absurd (none_again (m.number ∷ earlier) ls s i d m.others (or_left (m.number == s) (is_in s earlier) (eq-eqb m.number s same)) (omega (arith, p)) e)
  one_line earlier (l ∷ ls) s (suc i) (suc j) d w p q e f =
      let m = first_new earlier l ls w in
      ap suc (one_line (m.number ∷ earlier) ls s i j d m.others (omega (arith, p)) (omega (arith, q)) e f)
