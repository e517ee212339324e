-- The context of a program as one whose parameters are near.
use Rattle.std.proofs.Common.{◌^◌, ◌≤◌, ℤ, ◌≤ℤ◌, List, [], ◌∷◌, sym, subst, ◌∙◌, arith}
use Rattle.std.specs.Prelude.{unsigned_abs}
use Rattle.std.specs.List.{All}
use Rattle.std.proofs.lemmas.Int.{ints}
use Rattle.std.proofs.lemmas.List.Elements.{All-nil, All-cons, All-head, All-tail}
use Rattle.affc_system.specs.Boxes.{InBox}
use Rattle.affc_ast.specs.declared.tree.Program.{Program}
use Rattle.affc_trace.specs.Laws.{IsInContext}
use Rattle.affc_trace.specs.Target.{numbers_in}
use Rattle.affc_domain.specs.Plain.{IsPlain}
use Rattle.affc_domain.specs.Ranges.{number_ranges}
use Rattle.affc_domain.proofs.RangeLemmas.{box_length, numbers_are}
use Rattle.affc_conflicts.specs.Conditions.{IsNear}
use Rattle.affc_weigh.specs.Choices.{IsNearContext}
use Rattle.affc_life.proofs.NestLemmas.{near_ranges, to_context}

near_values : (rs : List (ℤ × ℤ)) (p : List ℤ) → All IsNear rs → InBox rs p → All (λ x. unsigned_abs x ≤ 2 ^ 24) p
near_values [] [] h b = All-nil (λ x. unsigned_abs x ≤ 2 ^ 24)
near_values [] (x ∷ p) h b = absurd b
near_values (r ∷ rs) [] h b = absurd b
near_values (r ∷ rs) (x ∷ p) h b =
    let near = All-head IsNear r rs h in
    All-cons (λ x. unsigned_abs x ≤ 2 ^ 24) x p (within r.0 r.1 x near.low near.high b.0 b.1) (near_values rs p (All-tail IsNear r rs h) b.2)
  where
    within : (low high x : ℤ) → unsigned_abs low ≤ 2 ^ 24 → unsigned_abs high ≤ 2 ^ 24 → low ≤ℤ x → x ≤ℤ high → unsigned_abs x ≤ 2 ^ 24
    within low high x a b h k = omega (arith, ints)

pub near_context : (program : Program) → IsPlain program → IsNearContext (IsInContext program) (numbers_in program.params)
near_context program plain = record {
  few = subst (λ n. n ≤ 4) (sym (numbers_are program.params)) plain.few_numbers;
  wide = λ p here. sym (box_length (number_ranges program.params) p (to_context program plain p here).inside) ∙ sym (numbers_are program.params);
  near = λ p here. near_values (number_ranges program.params) p (near_ranges (number_ranges program.params) plain.ranges) (to_context program plain p here).inside;
}
