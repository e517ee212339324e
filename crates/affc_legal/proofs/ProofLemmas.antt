-- Valid proofs of all questions.
use Rattle.std.proofs.Common.{◌≡◌, ℤ, List, [], ◌∷◌, length, sym, ap, subst, ◌∙◌, inl, inr}
use Rattle.std.specs.List.{All}
use Rattle.affc_farkas.specs.declared.proof.Proof.{Proof}
use Rattle.affc_leaf.proofs.Boxes.{none_in_box}
use Rattle.affc_system.specs.Boxes.{InBox}
use Rattle.affc_system.specs.Pairs.{WithinReach}
use Rattle.affc_system.specs.Systems.{IsPoint}
use Rattle.affc_ast.specs.declared.tree.Program.{Program}
use Rattle.affc_trace.specs.declared.schedule.Schedule.{Schedule}
use Rattle.affc_trace.specs.declared.schedule.Schedule.TheVariants.{Source, Time}
use Rattle.affc_trace.specs.Law.{IsIn}
use Rattle.affc_nest.specs.Laws.{HasNest}
use Rattle.affc_nest.specs.Nests.{nest_of}
use Rattle.affc_nest.proofs.QuestionProofs.{nests_are_asked}
use Rattle.affc_legal.specs.Legal.{AreSystems, ProofsShowLegality}
use Rattle.affc_legal.specs.Legal.{AreProofs}
use Rattle.affc_sched.specs.Questions.{Question, legality_questions}
use Rattle.affc_sched.proofs.AskedLemmas.{asked}
use Rattle.affc_sched.proofs.LegalLemmas.{questions_decide, points_are_boxed}
use Rattle.affc_legal.proofs.RangeLemmas.{ranges_reach, ranges_long}

-- the ranges of a question may be searched
record IsRanged (q : Question) : Type 0 where
  long : length q.ranges ≡ q.system.columns
  reach : All WithinReach q.ranges

is_ranged : (program : Program) → HasNest program → (schedule : Schedule) (q : Question) → IsIn q (legality_questions (nest_of program) schedule) → IsRanged q
is_ranged program has Source q i = absurd i
is_ranged program has (Time components maps) q i =
    let k = asked (nest_of program) components maps q i in
    let n = nests_are_asked program has in
    let are = ap (λ (z : Question). z.ranges) k.is in
    record {
      long = ranges_long (nest_of program) n k.first k.second k.first_in k.second_in k.first_alive k.second_alive q.ranges are ∙ sym (ap (λ (z : Question). z.system.columns) k.is);
      reach = ranges_reach (nest_of program) n k.first k.second k.first_in k.second_in k.first_alive k.second_alive q.ranges are;
    }

none_at : (qs : List Question) (ps : List Proof) → AreSystems qs → AreProofs qs ps → (q : Question) → IsIn q qs → IsRanged q → (x : List ℤ) → InBox q.ranges x → IsPoint q.system x → ⊥
none_at [] ps s h q i = absurd i
none_at (r ∷ qs) [] s h q i = absurd h
none_at (r ∷ qs) (p ∷ ps) s h q (inl e) = subst (λ (z : Question). IsRanged z → (x : List ℤ) → InBox z.ranges x → IsPoint z.system x → ⊥) (sym e) (λ g. none_in_box r.system r.ranges p g.long g.reach s.0 h.0)
none_at (r ∷ qs) (p ∷ ps) s h q (inr i) = none_at qs ps s.1 h.1 q i

pub proofs_show_legality : ProofsShowLegality
proofs_show_legality program schedule proofs has named fits systems valid =
    (questions_decide program schedule has named fits).0 (λ q i x is.
    none_at (legality_questions (nest_of program) schedule) proofs systems valid q i (is_ranged program has schedule q i) x (points_are_boxed program schedule q x has named fits i is) is)
