-- What holds of each element of an array that an instance touches holds of both elements of a live pair.
use Rattle.std.proofs.Common.{ℕ, ℤ, List, inl, inr}
use Rattle.affc_ast.specs.declared.tree.Instance.{Instance}
use Rattle.affc_ast.specs.declared.tree.Program.{Program}
use Rattle.affc_ast.specs.Trace.{trace}
use Rattle.affc_trace.specs.declared.schedule.Schedule.{Schedule}
use Rattle.affc_trace.specs.Law.{IsIn}
use Rattle.affc_trace.specs.Orders.{StoredBetween, Touches}
use Rattle.affc_trace.specs.Effects.{effect}
use Rattle.affc_trace.specs.Target.{target}
use Rattle.affc_trace.specs.Dataflow.{same_element, LivePair}
use Rattle.affc_trace.proofs.Legality.{later_is_in}
use Rattle.affc_trace.proofs.Contents.{target_is_reordered_law}

module _ (program : Program) (schedule : Schedule) (array : ℕ) (p : List ℤ) (P : List ℤ → Type 0)
    (holds : (b : Instance) (x : List ℤ) → IsIn b (trace program p) → Touches (effect program p) b (array, x) → P x) where
  both_touched : (x y : List ℤ) → StoredBetween (effect program p) same_element (trace program p) (target program schedule p) (array, x) (array, y) → P x × P y
  both_touched x y s =
      let reordered = target_is_reordered_law program schedule p in (
        holds s.load x (reordered.no_other s.load (later_is_in (target program schedule p) s.other s.load s.before)) (inl s.loads),
        holds s.other y (reordered.no_other s.other (later_is_in (target program schedule p) s.store s.other s.after)) (inr s.stores),
      )

  pub both_live : (x y : List ℤ) → LivePair program schedule array p x y → P x × P y
  both_live x y live = elim live.between [ inl s ↦ both_touched x y s | inr s ↦ (let r = both_touched y x s in (r.1, r.0)) ]
