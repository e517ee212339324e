-- The stages of reading a schedule's text, one behind another.
use Rattle.std.proofs.Common.{◌≡◌, ℕ, List, [], ◌∷◌, length, map, get_or, Option, Some, None, refl, sym, ap, ◌∙◌, subst, All}
use Rattle.std.specs.Prelude.{Result, Ok, Err, IfOk, IfErr}
use Rattle.std.specs.Option.{option_map}
use Rattle.affc_lex.specs.declared.token.Token.{Token}
use Rattle.affc_lex.specs.Lexes.{Lexeme, lexemes}
use Rattle.affc_ast.specs.declared.tree.Program.{Program}
use Rattle.affc_trace.specs.declared.schedule.TimeMap.{TimeMap}
use Rattle.affc_trace.specs.declared.schedule.Schedule.{Schedule}
use Rattle.affc_trace.specs.declared.schedule.Schedule.TheVariants as schedule
use Rattle.affc_grammar.specs.Reads.{place_of}
use Rattle.affc_schedtext.specs.declared.draft.Draft as code
use Rattle.affc_schedtext.specs.declared.draft.LineDraft as code_line
use Rattle.affc_schedtext.specs.declared.outline.Outline.{Outline}
use Rattle.affc_schedtext.specs.declared.plan.Plan.{Plan}
use Rattle.affc_schedtext.specs.declared.plan.SchedFault.{SchedFault}
use Rattle.affc_schedtext.specs.declared.plan.SchedFault.TheVariants as fault
use Rattle.affc_schedtext.specs.Outline.{outline}
use Rattle.affc_schedtext.specs.Draft.{LineDraft, OrderDraft, source, time, Draft}
use Rattle.affc_schedtext.specs.Rules.{place_in, breaches, order_breaches, statement_sides}
use Rattle.affc_schedtext.specs.Answers.{Keeps, draft_of, Breaks, IsUndone, StatementsUndone, AreMapsOfLines, IsScheduleOfOrder, Answers, IsFault, PlanReads}
use Rattle.affc_schedtext.specs.Seen.{line_seen, draft_seen}
use Rattle.affc_schedtext.proofs.Scheduled.{kept}
use Rattle.affc_plan.specs.Folds.{AreRightFolds, FoldsFault}
use Rattle.affc_plan.specs.declared.breach.Breach as code_breach
use Rattle.affc_plan.specs.Lines.{head, breach_seen}
use Rattle.affc_plan.specs.Maps.{AreRight, AreRightLines, IsRightOrder}
use Rattle.affc_plan.specs.Stages.{IsDraftOf, HasLines, FormsFault, IsPlanOf}
use Rattle.affc_plan.specs.Times.{AreRightTimes}
use Rattle.affc_plan.proofs.RightDrafts.{right_drafts, first_kept}
use Rattle.affc_plan.proofs.TimeLaws.{undone_map}

-- ---- Lines of the code

pub right_times : (o : Outline) (n : ℕ) (ls : List code_line.LineDraft) → AreRightLines o n (map line_seen ls) → AreRightTimes o n ls
right_times o n [] h = tt
right_times o n (l ∷ ls) h = (h.0, right_times o n ls h.1)

pub right_folds : (o : Outline) (ls : List code_line.LineDraft) → AreRight o (map line_seen ls) → AreRightFolds o ls
right_folds o [] h = tt
right_folds o (l ∷ ls) h = (h.0, right_folds o ls h.1)

-- ---- Rules

has_lines : (o : Outline) (tokens : ℕ) (d : OrderDraft) (folds : List LineDraft) → order_breaches o tokens d folds ≡ [] → HasLines o d
has_lines o tokens source folds e = tt
has_lines o tokens (time at n lines) folds e = (first_kept o tokens at n lines folds e, (kept o tokens at n lines folds e).whole)

first_of : {A : Type 0} (xs : List A) (x : A) → Some x ≡ head xs → (ys : List A) × (xs ≡ x ∷ ys)
first_of [] x e = absurd (cc)
first_of (y ∷ ys) x e = (ys, let same : y ≡ x = cc in ap (λ z. z ∷ ys) same)

none_of : {A : Type 0} (xs : List A) → None ≡ head xs → xs ≡ []
none_of [] e = refl
none_of (y ∷ ys) e = absurd (cc)

module _ (text : List ℕ) (o : Outline) (tokens : List Lexeme) (d : code.Draft) (k : IsDraftOf text o tokens d) where
  pub no_breach : (n : ℕ) → n ≡ length tokens → (x : Option code_breach.Breach) → x ≡ None → option_map breach_seen x ≡ head (breaches o n (draft_seen d)) → breaches o (length tokens) (draft_seen d) ≡ []
  no_breach n size x is e = subst (λ m. breaches o m (draft_seen d) ≡ []) size (none_of (breaches o n (draft_seen d)) (sym (ap (option_map breach_seen) is) ∙ e))

  pub breaks : (n : ℕ) → n ≡ length tokens → (x : Option code_breach.Breach) (b v : code_breach.Breach) → x ≡ Some b → b ≡ v → option_map breach_seen x ≡ head (breaches o n (draft_seen d)) → (place : ℕ) → place ≡ place_of text tokens (place_in (breach_seen v))
      → Breaks text o place (breach_seen v)
  breaks n size x b v is same e place at =
      let first : Some (breach_seen v) ≡ head (breaches o n (draft_seen d)) = sym (ap (option_map breach_seen) (is ∙ ap (λ y. Some y) same)) ∙ e in
      let f = first_of (breaches o n (draft_seen d)) (breach_seen v) first in
      record {
        spells = record { tokens = tokens; lexes = k.lexes; written = k.written; spelled = k.spelled; affine = k.affine };
        others = f.0;
        first = subst (λ x. breaches o (length tokens) x ≡ breach_seen v ∷ f.0) k.is_draft (subst (λ m. breaches o m (draft_seen d) ≡ breach_seen v ∷ f.0) size f.1);
        its_place = at;
      }

-- the text is one of the grammar with this draft, which breaks no rule
abbrev pub Kept : List ℕ → List Lexeme → code.Draft → Outline → Type 0
Kept text tokens d o = IsDraftOf text o tokens d × (breaches o (length tokens) (draft_seen d) ≡ [])

pub kept_tokens : (text : List ℕ) (o : Outline) (us vs ts : List Token) (d : code.Draft) → us ≡ ts → IsDraftOf text o (lexemes text us) d → vs ≡ ts → breaches o (length (lexemes text vs)) (draft_seen d) ≡ [] → Kept text (lexemes text ts) d o
kept_tokens text o us vs ts d p h q e = (subst (λ xs. IsDraftOf text o (lexemes text xs) d) p h, subst (λ xs. breaches o (length (lexemes text xs)) (draft_seen d) ≡ []) q e)

module _ (text : List ℕ) (o : Outline) (tokens : List Lexeme) (d : code.Draft) (k : Kept text tokens d o) where
  pub right_draft : IsRightOrder o (draft_seen d).order × AreRight o (draft_seen d).folds × HasLines o (draft_seen d).order
  right_draft =
      let right = subst (λ (x : Draft). IsRightOrder o x.order × AreRight o x.folds) (sym k.0.is_draft) (right_drafts o (length tokens) k.0.written (subst (λ x. breaches o (length tokens) x ≡ []) k.0.is_draft k.1)) in
      (right.0, right.1, has_lines o (length tokens) (draft_seen d).order (draft_seen d).folds k.1)

  keeps : (kept : Keeps text o) × (draft_seen d ≡ draft_of kept.spells)
  keeps = (
    record {
      spells = record { tokens = tokens; lexes = k.0.lexes; written = k.0.written; spelled = k.0.spelled; affine = k.0.affine };
      none = subst (λ x. breaches o (length tokens) x ≡ []) k.0.is_draft k.1;
    },
    k.0.is_draft,
  )

-- ---- Forms

undone_line : (o : Outline) (n : ℕ) (maps : List TimeMap) (lines : List LineDraft) → AreMapsOfLines o n lines maps → All (λ l. IsUndone (statement_sides o n l)) lines
undone_line o n maps lines h = λ k d lt. let w = h.1 k d lt in undone_map (statement_sides o n (get_or lines k d)) w.1 w.4

undone_order : (o : Outline) (d : OrderDraft) (s : Schedule) → IsScheduleOfOrder o d s → StatementsUndone o d
undone_order o source s h = tt
undone_order o (time at n lines) schedule.Source h = absurd h
undone_order o (time at n lines) (schedule.Time size maps) h = undone_line o n maps lines h.1

pub basis_fault : (o : Outline) (d : Draft) (s : Schedule) (f : SchedFault) → IsScheduleOfOrder o d.order s → FoldsFault o d.folds f → FormsFault o d f
basis_fault o d s fault.Memory i h = tt
basis_fault o d s (fault.Syntax p) i h = h
basis_fault o d s (fault.Statement p) i h = h
basis_fault o d s (fault.Length p) i h = h
basis_fault o d s (fault.Fold p) i h = h
basis_fault o d s (fault.Limit p) i h = h
basis_fault o d s (fault.Inverse k c) i h = absurd h
basis_fault o d s (fault.Basis a c) i h = (undone_order o d.order s i, h)

-- ---- The whole

forms_here : (text : List ℕ) (program : Program) (tokens : List Lexeme) (d : code.Draft) (f : SchedFault) → Kept text tokens d (outline program) → FormsFault (outline program) (draft_seen d) f → IsFault text program f
forms_here text program tokens d f k h =
    let m = keeps text (outline program) tokens d k in
    by f (subst (λ x. FormsFault (outline program) x f) m.1 h)
  where
    by : (f : SchedFault) → FormsFault (outline program) (draft_of (keeps text (outline program) tokens d k).0.spells) f → IsFault text program f
    by fault.Memory x = tt
    by (fault.Syntax p) x = absurd x
    by (fault.Statement p) x = absurd x
    by (fault.Length p) x = absurd x
    by (fault.Fold p) x = absurd x
    by (fault.Limit p) x = absurd x
    by (fault.Inverse s c) x = ((keeps text (outline program) tokens d k).0, x)
    by (fault.Basis a c) x = ((keeps text (outline program) tokens d k).0, x.0, x.1)

pub forms_fault : (text : List ℕ) (program : Program) (o : Outline) → o ≡ outline program → (tokens : List Lexeme) (d : code.Draft) (f : SchedFault) → Kept text tokens d o → FormsFault o (draft_seen d) f → IsFault text program f
forms_fault text program o e tokens d f k h =
    forms_here text program tokens d f (subst (Kept text tokens d) e k) (subst (λ x. FormsFault x (draft_seen d) f) e h)

plan_here : (text : List ℕ) (program : Program) (tokens : List Lexeme) (d : code.Draft) (p : Plan) → Kept text tokens d (outline program) → IsPlanOf (outline program) (draft_seen d) p → PlanReads text program p
plan_here text program tokens d p k h =
    let m = keeps text (outline program) tokens d k in
    let own = subst (λ x. IsPlanOf (outline program) x p) m.1 h in
    record { keeps = m.0; schedule = own.schedule; folds = own.folds }

pub plan_reads : (text : List ℕ) (program : Program) (o : Outline) → o ≡ outline program → (tokens : List Lexeme) (d : code.Draft) (p : Plan) → Kept text tokens d o → IsPlanOf o (draft_seen d) p → PlanReads text program p
plan_reads text program o e tokens d p k h =
    plan_here text program tokens d p (subst (Kept text tokens d) e k) (subst (λ x. IsPlanOf x (draft_seen d) p) e h)

pub answers : (text : List ℕ) (program : Program) (o : Outline) → o ≡ outline program → (tokens : List Lexeme) (d : code.Draft) → Kept text tokens d o → (r : Result Plan SchedFault) → IfOk r (IsPlanOf o (draft_seen d)) → IfErr r (FormsFault o (draft_seen d)) → Answers text program r
answers text program o e tokens d k (Ok p) plan fault = plan_reads text program o e tokens d p k plan
answers text program o e tokens d k (Err f) plan fault = forms_fault text program o e tokens d f k fault
