-- A text that reads as a plan has no fault but want of memory.
use Rattle.std.proofs.Common.{◌≡◌, ℕ, false, List, [], ◌∷◌, ◌++◌, length, get_or, slice_get, Some, All, codes, refl, sym, ap, ◌∙◌, subst, ◌⊎◌, inl, inr, arith, append_assoc, append-nil, length-append}
use Rattle.affc_lex.proofs.Exact.{one_list, no_fault}
use Rattle.affc_rows.specs.Forms.{Affine}
use Rattle.affc_ast.specs.declared.tree.ArrayId.{ArrayId}
use Rattle.affc_ast.specs.declared.tree.Program.{Program}
use Rattle.affc_trace.specs.declared.schedule.TimeMap.{TimeMap}
use Rattle.affc_trace.specs.declared.schedule.Schedule.{Schedule}
use Rattle.affc_trace.specs.declared.schedule.Schedule.TheVariants as schedule
use Rattle.affc_trace.specs.Inverses.{AreInverse}
use Rattle.affc_basis.specs.declared.basis.Basis.{Basis}
use Rattle.affc_basis.specs.Bases.{AreComponents}
use Rattle.affc_grammar.specs.Grammar.{Symbol, mark, term_symbols, factor_symbols}
use Rattle.affc_grammar.specs.Reads.{symbols}
use Rattle.affc_schedtext.specs.declared.plan.Plan.{Plan}
use Rattle.affc_schedtext.specs.declared.plan.SchedFault.{SchedFault}
use Rattle.affc_schedtext.specs.declared.plan.SchedFault.TheVariants as f
use Rattle.affc_schedtext.specs.Outline.{Outline, outline, statement_of}
use Rattle.affc_schedtext.specs.Grammar.{Text, text_symbols, IsProduct}
use Rattle.affc_schedtext.specs.Draft.{LineDraft, OrderDraft, source, time, Draft, text_draft}
use Rattle.affc_schedtext.specs.Rules.{statement_sides, fold_sides, there_forms, back_forms, Breach, statement, length_of_line, fold, limit, breaches}
use Rattle.affc_schedtext.specs.Answers.{IsFirstProduct, HasNoProduct, Stops, IsStop, StopsText, StopsFront, Spells, draft_of, breaches_of, Breaks, Keeps, StatementsLose, LosesSubscript, IsMapOfLine, IsScheduleOfOrder, AreBasesOfLines, PlanReads, IsFault}
use Rattle.affc_schedtext.proofs.Texts.{one_text}

-- ---- What stands in the middle of a list

at_middle : {A : Type 0} (xs : List A) (x : A) (ys : List A) → get_or (xs ++ x ∷ ys) (length xs) x ≡ x
at_middle [] x ys = refl
at_middle (y ∷ xs) x ys = at_middle xs x ys

pub all_middle : {A : Type 0} (P : A → Type 0) (xs : List A) (x : A) (ys : List A) → All P (xs ++ x ∷ ys) → P x
all_middle P xs x ys h =
    let size = length-append xs (x ∷ ys) in
    subst P (at_middle xs x ys) (h (length xs) x (omega (arith, size)))

-- a product stays one before further symbols
product_stays : (before rest : List Symbol) (at : ℕ) → IsProduct before at → IsProduct (before ++ rest) at
product_stays before rest at p =
    let term = term_symbols p.left in
    let factor = factor_symbols p.right in
    let star = mark (codes "*") in
    record {
      front = p.front;
      left = p.left;
      right = p.right;
      others = p.others ++ rest;
      stands =
          ap (λ l. l ++ rest) p.stands
          ∙ append_assoc p.front (term ++ star ∷ (factor ++ p.others)) rest
          ∙ ap (λ l. p.front ++ l) (append_assoc term (star ∷ (factor ++ p.others)) rest ∙ ap (λ l. term ++ star ∷ l) (append_assoc factor p.others rest));
      left_names = p.left_names;
      right_names = p.right_names;
      its_place = p.its_place;
    }

module _ (text : List ℕ) (o : Outline) where
  -- ---- One way to spell a text

  pub same_tokens : (a b : Spells text o) → a.tokens ≡ b.tokens
  same_tokens a b = one_list text a.tokens b.tokens a.lexes b.lexes

  same_written : (a b : Spells text o) → a.written ≡ b.written
  same_written a b = one_text o a.written b.written (sym a.spelled ∙ ap symbols (same_tokens a b) ∙ b.spelled)

  pub same_draft : (a b : Spells text o) → draft_of a ≡ draft_of b
  same_draft a b = ap text_draft (same_written a b)

  pub same_breaches : (a b : Spells text o) → breaches_of a ≡ breaches_of b
  same_breaches a b = (λ i. breaches o (length (same_tokens a b i)) (same_draft a b i))

  -- ---- Causes that a text which is spelled out doesn't have

  refused : (before rest : List Symbol) → Stops o false before rest → (c : Text o) → text_symbols c ≡ before ++ rest → ⊥
  refused before [] h c e = h c (e ∙ append-nil before)
  refused before (x ∷ others) h c e = h c others e

  no_stop : (s : Spells text o) (at : ℕ) → IsStop o false (symbols s.tokens) at → ⊥
  no_stop s at st = of_cause st.cause
    where
      of_cause : IsFirstProduct st.before at ⊎ (HasNoProduct st.before × (at ≡ length st.before) × Stops o false st.before st.rest) → ⊥
      of_cause (inl p) = s.affine at (subst (λ l. IsProduct l at) (sym st.split) (product_stays st.before st.rest at p.0))
      of_cause (inr q) = refused st.before st.rest q.2 s.written (sym s.spelled ∙ st.split)

  pub not_stopped : (s : Spells text o) (place : ℕ) → StopsText text o place → ⊥
  not_stopped s place t = no_stop s t.at (subst (λ ts. IsStop o false (symbols ts) t.at) (one_list text t.tokens s.tokens t.lexes s.lexes) t.stop)

  pub not_faulty : (s : Spells text o) (place : ℕ) → StopsFront text o place → ⊥
  not_faulty s place t = no_fault text s.tokens t.fault s.lexes t.stands

  none_first : (b : Breach) (bs : List Breach) → ◌≡◌ {A = List Breach} [] (b ∷ bs) → ⊥
  none_first b bs e = absurd (cc)

  pub not_broken : (k : Keeps text o) (place : ℕ) (b : Breach) → Breaks text o place b → ⊥
  not_broken k place b h = none_first b h.others (sym k.none ∙ same_breaches k.spells h.spells ∙ h.first)

-- ---- Forms that are undone

undone : (m : TimeMap) (forms inverse : List Affine) → m.forms ≡ forms → m.inverse ≡ inverse → AreInverse forms inverse
undone m forms inverse e q = subst (λ f. AreInverse f inverse) e (subst (λ g. AreInverse m.forms g) q m.inverts)

pub not_lost : (o : Outline) (s k : ℕ) (order : OrderDraft) (plan : Schedule) → IsScheduleOfOrder o order plan → StatementsLose o order s k → ⊥
not_lost o s k source plan h l = absurd l
not_lost o s k (time at n lines) schedule.Source h l = absurd h
not_lost o s k (time at n lines) (schedule.Time components maps) h l =
    let own = all_middle (λ (x : LineDraft). (i : ℕ) × (m : TimeMap) × (statement_of o x.name ≡ Some i) × (slice_get maps i ≡ Some m) × IsMapOfLine (statement_sides o n x) m) l.front l.line l.others
    (subst (λ xs. All (λ (x : LineDraft). (i : ℕ) × (m : TimeMap) × (statement_of o x.name ≡ Some i) × (slice_get maps i ≡ Some m) × IsMapOfLine (statement_sides o n x) m) xs) l.split h.1.1) in
    l.lost.lost (undone own.1 (there_forms (statement_sides o n l.line)) (back_forms (statement_sides o n l.line)) own.4.forms own.4.inverse k)

are_components : (b : Basis) (rows inverse : List Affine) → b.rows ≡ rows → b.inverse ≡ inverse → AreComponents rows inverse
are_components b rows inverse e q = subst (λ f. AreComponents f inverse) e (subst (λ g. AreComponents b.rows g) q b.identity)

basis_of : (o : Outline) (front : List LineDraft) (line : LineDraft) (others : List LineDraft) (folds : List (ArrayId × Basis)) → AreBasesOfLines o (front ++ line ∷ others) folds
    → (b : Basis) × (b.rows ≡ there_forms (fold_sides o line)) × (b.inverse ≡ back_forms (fold_sides o line))
basis_of o [] line others [] h = absurd h
basis_of o [] line others (b ∷ bs) h = (b.1, h.1, h.2)
basis_of o (x ∷ front) line others [] h = absurd h
basis_of o (x ∷ front) line others (b ∷ bs) h = basis_of o front line others bs h.3

pub not_torn : (o : Outline) (lines : List LineDraft) (array k : ℕ) (folds : List (ArrayId × Basis)) → AreBasesOfLines o lines folds → LosesSubscript o lines array k → ⊥
not_torn o lines array k folds h l =
    let own = basis_of o l.front l.line l.others folds (subst (λ ls. AreBasesOfLines o ls folds) l.split h) in
    l.broken.broken (are_components own.0 (there_forms (fold_sides o l.line)) (back_forms (fold_sides o l.line)) own.1 own.2 k l.broken.within)

-- ---- No fault

pub excludes : (text : List ℕ) (program : Program) (plan : Plan) (fault : SchedFault) → PlanReads text program plan → IsFault text program fault → fault ≡ f.Memory
excludes text program plan (f.Syntax place) r (inl t) = absurd (not_stopped text (outline program) r.keeps.spells place t)
excludes text program plan (f.Syntax place) r (inr t) = absurd (not_faulty text (outline program) r.keeps.spells place t)
excludes text program plan (f.Statement place) r b = absurd (not_broken text (outline program) r.keeps place (statement b.0) b.1)
excludes text program plan (f.Length place) r b = absurd (not_broken text (outline program) r.keeps place (length_of_line b.0) b.1)
excludes text program plan (f.Fold place) r b = absurd (not_broken text (outline program) r.keeps place (fold b.0) b.1)
excludes text program plan (f.Limit place) r b = absurd (not_broken text (outline program) r.keeps place (limit b.0) b.1)
excludes text program plan (f.Inverse s k) r l =
    absurd (not_lost (outline program) s k (draft_of r.keeps.spells).order plan.schedule r.schedule (subst (λ (d : Draft). StatementsLose (outline program) d.order s k) (same_draft text (outline program) l.0.spells r.keeps.spells) l.1))
excludes text program plan (f.Basis array k) r l =
    absurd (not_torn (outline program) (draft_of r.keeps.spells).folds array.0 k plan.folds r.folds (subst (λ (d : Draft). LosesSubscript (outline program) d.folds array.0 k) (same_draft text (outline program) l.0.spells r.keeps.spells) l.2))
excludes text program plan f.Memory r h = refl
