-- The maps of statements, one after the other.
use Rattle.std.proofs.Common.{◌≡◌, ℕ, zero, suc, ◌+◌, ◌<◌, Bool, true, false, nat_lt, List, [], ◌∷◌, ◌++◌, length, map, take, drop, get_or, slice_get, All, Option, Some, None, refl, sym, ap, ◌∙◌, subst, arith}
use Rattle.std.proofs.lemmas.Bool.{eqb-true, ltb-true, ltb-false, false≢true}
use Rattle.std.proofs.lemmas.List.{length-map}
use Rattle.std.proofs.lemmas.List.Elements.{All-cons, All-append}
use Rattle.affc_trace.specs.declared.schedule.TimeMap.{TimeMap}
use Rattle.affc_trace.specs.Inverses.{AreInverse}
use Rattle.affc_schedtext.specs.declared.draft.LineDraft as code
use Rattle.affc_schedtext.specs.declared.outline.Outline.{Outline}
use Rattle.affc_grammar.specs.Grammar.{Name}
use Rattle.affc_schedtext.specs.Outline.{statement_of, iterators_of}
use Rattle.affc_schedtext.specs.Draft.{LineDraft}
use Rattle.affc_schedtext.specs.Rules.{Sides, statement_sides, there_forms, back_forms, wrong_statements}
use Rattle.affc_schedtext.specs.Answers.{IsUndone, IsFirstLost, IsMapOfLine, LosesIterator}
use Rattle.affc_schedtext.specs.Seen.{line_seen}
use Rattle.affc_schedtext.proofs.Scheduled.{within}
use Rattle.affc_schedtext.proofs.Walks.{front}
use Rattle.affc_plan.specs.Lines.{same_number, is_of_statement}
use Rattle.affc_plan.specs.Maps.{IsRightLine}
use Rattle.affc_plan.specs.Times.{AreRightTimes, HasMap}
use Rattle.affc_plan.proofs.FoldLaws.{lines_more, split_at}
use Rattle.affc_plan.proofs.RightLines.{one_line}

pub right_time : (o : Outline) (n : ℕ) (ls : List code.LineDraft) (i : ℕ) (l : code.LineDraft) → i < length ls → l ≡ get_or ls i l → AreRightTimes o n (drop i ls) → IsRightLine o n (line_seen l) × AreRightTimes o n (drop (i + 1) ls)
right_time o n ls i l lt e h = subst (AreRightTimes o n) (front ls i l lt e) h

pub right_of : (o : Outline) (n : ℕ) (ls : List code.LineDraft) (i : ℕ) (l : code.LineDraft) → i < length ls → l ≡ get_or ls i l → AreRightTimes o n ls → IsRightLine o n (line_seen l)
right_of o n [] i l lt e h = absurd (omega (arith, lt))
right_of o n (x ∷ ls) zero l lt e h = subst (λ (y : code.LineDraft). IsRightLine o n (line_seen y)) (sym e) h.0
right_of o n (x ∷ ls) (suc i) l lt e h = right_of o n ls i l (omega (arith, lt)) e h.1

pub undone_map : (s : Sides) (m : TimeMap) → IsMapOfLine s m → IsUndone s
undone_map s m h = subst (λ f. AreInverse f (back_forms s)) h.forms (subst (λ g. AreInverse m.forms g) h.inverse m.inverts)

pub undone_on : (o : Outline) (n : ℕ) (ls : List code.LineDraft) (i : ℕ) (l : code.LineDraft) → i < length ls → l ≡ get_or ls i l → All (λ x. IsUndone (statement_sides o n x)) (map line_seen (take i ls)) → IsUndone (statement_sides o n (line_seen l))
    → All (λ x. IsUndone (statement_sides o n x)) (map line_seen (take (i + 1) ls))
undone_on o n ls i l lt e h u =
    subst (All (λ x. IsUndone (statement_sides o n x))) (sym (lines_more ls i l lt e))
    (All-append (λ x. IsUndone (statement_sides o n x)) (map line_seen (take i ls)) (line_seen l ∷ []) h (All-cons (λ x. IsUndone (statement_sides o n x)) (line_seen l) [] u (λ k d q. absurd (omega (arith, q)))))

pub loses_line : (o : Outline) (n : ℕ) (ls : List code.LineDraft) (i : ℕ) (l : code.LineDraft) (s k : ℕ) → i < length ls → l ≡ get_or ls i l → All (λ x. IsUndone (statement_sides o n x)) (map line_seen (take i ls))
    → statement_of o (line_seen l).name ≡ Some s → IsFirstLost (there_forms (statement_sides o n (line_seen l))) (back_forms (statement_sides o n (line_seen l))) k → LosesIterator o n (map line_seen ls) s k
loses_line o n ls i l s k lt e h a b = record {
  front = map line_seen (take i ls);
  line = line_seen l;
  others = map line_seen (drop (i + 1) ls);
  split = split_at ls i l lt e;
  before = h;
  its_number = a;
  lost = b;
}

-- ---- One map for each statement

number_is : (s : ℕ) (x : Option ℕ) → same_number s x ≡ true → x ≡ Some s
number_is s None e = absurd (false≢true e)
number_is s (Some m) e = ap (λ k. Some k) (eqb-true m s e)

got_before : {A : Type 0} (xs : List A) (x y : A) (k : ℕ) → slice_get xs k ≡ Some y → slice_get (xs ++ x ∷ []) k ≡ Some y
got_before [] x y k e = absurd (cc)
got_before (z ∷ xs) x y zero e = e
got_before (z ∷ xs) x y (suc k) e = got_before xs x y k e

got_last : {A : Type 0} (xs : List A) (x : A) → slice_get (xs ++ x ∷ []) (length xs) ≡ Some x
got_last [] x = refl
got_last (z ∷ xs) x = got_last xs x

line_at : (ls : List code.LineDraft) (k : ℕ) → k < length ls → (l : code.LineDraft) × (l ≡ get_or ls k l)
line_at [] k lt = absurd (omega (arith, lt))
line_at (x ∷ ls) zero lt = (x, refl)
line_at (x ∷ ls) (suc k) lt = line_at ls k (omega (arith, lt))

seen_at : (ls : List code.LineDraft) (k : ℕ) (l : code.LineDraft) (d : LineDraft) → k < length ls → l ≡ get_or ls k l → get_or (map line_seen ls) k d ≡ line_seen l
seen_at [] k l d lt e = absurd (omega (arith, lt))
seen_at (x ∷ ls) zero l d lt e = ap line_seen (sym e)
seen_at (x ∷ ls) (suc k) l d lt e = seen_at ls k l d (omega (arith, lt)) e

module _ (o : Outline) (n : ℕ) (ls : List code.LineDraft) where
  pub one_more : (maps : List TimeMap) (m : TimeMap) (number at : ℕ) (l : code.LineDraft) → length maps ≡ number → ((s : ℕ) → s < number → HasMap o n ls maps s) → at < length ls → l ≡ get_or ls at l
      → is_of_statement o number (get_or ls at l) ≡ true → IsMapOfLine (statement_sides o n (line_seen l)) m → (s : ℕ) → s < number + 1 → HasMap o n ls (maps ++ m ∷ []) s
  one_more maps m number at l long each within stands own forms s lt = by (nat_lt s number) refl
    where
      by : (b : Bool) → nat_lt s number ≡ b → HasMap o n ls (maps ++ m ∷ []) s
      by true q =
          let h = each s (ltb-true s number q) in
          record { at = h.at; line = h.line; map = h.map; within = h.within; stands = h.stands; number = h.number; found = got_before maps m h.map s h.found; forms = h.forms }
      by false q =
          let ge = ltb-false s number q in
          let last : s ≡ length maps = omega (arith, lt, long) in
          let same : number ≡ s = omega (arith, lt) in
          record {
            at = at;
            line = l;
            map = m;
            within = within;
            stands = stands;
            number = subst (λ k. statement_of o (line_seen l).name ≡ Some k) same (number_is number (statement_of o l.word.name) (subst (λ x. is_of_statement o number x ≡ true) (sym stands) own));
            found = ap (slice_get (maps ++ m ∷ [])) last ∙ got_last maps m;
            forms = forms;
          }

  statement_there : (l : LineDraft) (x : Option ℕ) (is : List Name) → statement_of o l.name ≡ x → iterators_of o x ≡ Some is → (s : ℕ) × (statement_of o l.name ≡ Some s) × (s < length o.statements)
  statement_there l None is e h = absurd (cc)
  statement_there l (Some s) is e h = (s, e, within o.statements s is h)

  pub maps_each : (maps : List TimeMap) → AreRightTimes o n ls → wrong_statements o [] (map line_seen ls) ≡ [] → ((s : ℕ) → s < length o.statements → HasMap o n ls maps s)
      → All (λ l. (s : ℕ) × (m : TimeMap) × (statement_of o l.name ≡ Some s) × (slice_get maps s ≡ Some m) × IsMapOfLine (statement_sides o n l) m) (map line_seen ls)
  maps_each maps right once each = λ k d lt.
      let size = length-map ls line_seen in
      let less : k < length ls = omega arith in
      let p = line_at ls k less in
      let r = right_of o n ls k p.0 less p.1 right in
      let s = statement_there (line_seen p.0) (statement_of o (line_seen p.0).name) r.iterators refl r.stands in
      let h = each s.0 s.2 in
      let h_within = h.within in
      let here = seen_at ls k p.0 d less p.1 in
      let there = seen_at ls h.at h.line d h.within h.stands in
      let same : k ≡ h.at = one_line o [] (map line_seen ls) s.0 k h.at d once lt (omega arith) (ap (λ (x : LineDraft). statement_of o x.name) here ∙ s.1) (ap (λ (x : LineDraft). statement_of o x.name) there ∙ h.number) in
      let is : get_or (map line_seen ls) k d ≡ line_seen h.line = ap (λ j. get_or (map line_seen ls) j d) same ∙ there in
      subst (λ (l : LineDraft). (s : ℕ) × (m : TimeMap) × (statement_of o l.name ≡ Some s) × (slice_get maps s ≡ Some m) × IsMapOfLine (statement_sides o n l) m) (sym is) (s.0, h.map, h.number, h.found, h.forms)

  pub not_lost : (at : ℕ) (l : code.LineDraft) (k : ℕ) → at < length ls → l ≡ get_or ls at l → All (λ x. IsUndone (statement_sides o n x)) (map line_seen ls) → IsFirstLost (there_forms (statement_sides o n (line_seen l))) (back_forms (statement_sides o n (line_seen l))) k → ⊥
  not_lost at l k lt e undone lost =
      let size = length-map ls line_seen in
      let here : IsUndone (statement_sides o n (line_seen l)) = subst (λ x. IsUndone (statement_sides o n x)) (seen_at ls at l (line_seen l) lt e) (undone at (line_seen l) (omega arith)) in
      lost.lost (here k)
