-- What the items of each group give.
use Rattle.std.proofs.Common.{◌≡◌, ℕ, ℤ, List, [], ◌++◌, length, map, refl, sym, subst, inr}
use Rattle.affc_system.specs.Systems.{Rows, Met, IsPoint, HasNoPoint}
use Rattle.affc_ast.specs.declared.tree.Program.{Program}
use Rattle.affc_farkas.specs.declared.proof.Proof.{Proof}
use Rattle.affc_trace.specs.declared.schedule.Schedule.{Schedule}
use Rattle.affc_trace.specs.Dataflow.{Legal}
use Rattle.affc_trace.specs.Law.{IsIn}
use Rattle.affc_trace.specs.Laws.{IsInContext}
use Rattle.affc_trace.specs.Target.{IsScheduleOf}
use Rattle.affc_trace.proofs.LastStores.{append_nil}
use Rattle.affc_trace.proofs.Members.{to_first, to_second, to_map, to_flat_map}
use Rattle.affc_nest.specs.Domains.{box_rows}
use Rattle.affc_nest.specs.Laws.{HasNest, NamesArrays, StaysWithin}
use Rattle.affc_nest.specs.Nests.{nest_of}
use Rattle.affc_nest.specs.Questions.{extent_questions, bound_questions}
use Rattle.affc_nest.proofs.DomainLemmas.{from_all, to_all, met_both}
use Rattle.affc_nest.proofs.PointLemmas.{met_box}
use Rattle.affc_nest.proofs.QuestionLemmas as nests
use Rattle.affc_sched.specs.Questions.{legality_questions}
use Rattle.affc_sched.specs.Questions as sched
use Rattle.affc_sched.proofs.LegalLemmas as orders
use Rattle.affc_quast.specs.Trees.{Tree}
use Rattle.affc_flow.specs.Questions.{flow_questions}
use Rattle.affc_flow.specs.Questions as flow
use Rattle.affc_conflicts.specs.Conditions.{InContext}
use Rattle.affc_conflicts.specs.Questions.{context_system}
use Rattle.affc_life.proofs.NestLemmas.{from_context}
use Rattle.affc_check.specs.list.Items.{Item, Question, FoldShown, fold_items, items}
use Rattle.affc_check.specs.Valid.{AreValid}
use Rattle.affc_check.proofs.Sound.{Holds, each_holds}

-- a point of the context's system is in the context
pub in_context : (context : Rows) (ranges : List (ℤ × ℤ)) (p : List ℤ) → length ranges ≡ context.columns → IsPoint (context_system context ranges) p → InContext context ranges p
in_context context ranges p each is =
    let parts = met_both p (box_rows context.columns 0 ranges) context.rows (from_all p (box_rows context.columns 0 ranges ++ context.rows) is.meets) in
    let box : Met p (box_rows (length p) 0 ranges) = subst (λ n. Met p (box_rows n 0 ranges)) (sym is.width) parts.0 in
    record {
      meets = record { width = is.width; meets = to_all p context.rows parts.1 };
      inside = met_box ranges [] p [] (many each is.width) (subst (λ q. Met q (box_rows (length q) 0 ranges)) (sym (append_nil p)) box);
    }
  where
    many : {a b c : ℕ} → a ≡ b → c ≡ b → c ≡ a
    many e f = cc

module _ (program : Program) (schedule : Schedule) (context : List ℤ) (trees : List Tree) (folds : List FoldShown) (proofs : List Proof)
    (valid : AreValid (items (nest_of program) schedule context trees folds) proofs) where
  abbrev extents : List Item
  extents = map Question (extent_questions (nest_of program))

  abbrev bounds : List Item
  bounds = map Question (bound_questions (nest_of program))

  abbrev trees_items : List Item
  trees_items = map (λ (q : flow.Question). Question q.system) (flow_questions (nest_of program) trees)

  abbrev schedule_items : List Item
  schedule_items = map (λ (q : sched.Question). Question q.system) (legality_questions (nest_of program) schedule)

  holds : (i : Item) → IsIn i (items (nest_of program) schedule context trees folds) → Holds i
  holds = each_holds (items (nest_of program) schedule context trees folds) proofs valid

  pub context_shown : HasNest program → IsInContext program context
  context_shown has = from_context program has.plain context (in_context (nest_of program).context (nest_of program).params context refl valid.0)

  no_extent : (q : Rows) → IsIn q (extent_questions (nest_of program)) → HasNoPoint q
  no_extent q i = holds (Question q) (inr (to_first extents _ (Question q) (to_map Question (extent_questions (nest_of program)) q i)))

  no_bound : (q : Rows) → IsIn q (bound_questions (nest_of program)) → HasNoPoint q
  no_bound q i = holds (Question q) (inr (to_second extents _ (Question q) (to_first bounds _ (Question q) (to_map Question (bound_questions (nest_of program)) q i))))

  pub no_flow : (q : flow.Question) → IsIn q (flow_questions (nest_of program) trees) → HasNoPoint q.system
  no_flow q i =
      holds (Question q.system)
      (inr (to_second extents _ (Question q.system) (to_second bounds _ (Question q.system) (to_first trees_items _ (Question q.system) (to_map (λ (q : flow.Question). Question q.system) (flow_questions (nest_of program) trees) q i)))))

  no_turn : (q : sched.Question) → IsIn q (legality_questions (nest_of program) schedule) → HasNoPoint q.system
  no_turn q i =
      holds (Question q.system)
      (inr (to_second extents _ (Question q.system) (to_second bounds _ (Question q.system) (to_second trees_items _ (Question q.system)
      (to_first schedule_items _ (Question q.system) (to_map (λ (q : sched.Question). Question q.system) (legality_questions (nest_of program) schedule) q i))))))

  pub fold_holds : (f : FoldShown) → IsIn f folds → (i : Item) → IsIn i (fold_items (nest_of program) f) → Holds i
  fold_holds f there i inside =
      holds i
      (inr (to_second extents _ i (to_second bounds _ i (to_second trees_items _ i (to_second schedule_items _ i (to_flat_map (fold_items (nest_of program)) folds f i there inside))))))

  pub stays_within : HasNest program → NamesArrays program → (p : List ℤ) → IsInContext program p → StaysWithin program p
  stays_within has named = (nests.questions_decide program has named).0 (no_extent, no_bound)

  pub is_legal : HasNest program → NamesArrays program → IsScheduleOf program schedule → (p : List ℤ) → IsInContext program p → Legal program schedule p
  is_legal has named fits = (orders.questions_decide program schedule has named fits).0 no_turn
