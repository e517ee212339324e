-- What the arrays hold at the end of a run.
use Rattle.std.proofs.Common.{◌≡◌, ℕ, ℤ, T, Bool, List, [], Some, map, sym, ap, subst, ◌∙◌}
use Rattle.std.specs.Prelude.{IsTrue}
use Rattle.std.specs.FinMap.Entries.{is_sorted}
use Rattle.affc_ast.specs.declared.tree.Instance.{Instance}
use Rattle.affc_ast.specs.declared.tree.Program.{Program}
use Rattle.affc_ast.specs.Store.{Element, Store, at, element_cmp}
use Rattle.affc_ast.specs.Meaning.{State, Ended, meaning}
use Rattle.affc_ast.specs.Trace.{trace}
use Rattle.affc_trace.specs.declared.schedule.Schedule.{Schedule}
use Rattle.affc_trace.specs.Law.{Effect, placed, or_else, last_at, held, stores_of, as_stored}
use Rattle.affc_trace.specs.Target.{target}
use Rattle.affc_trace.specs.Dataflow.{same_element, Legal}
use Rattle.affc_trace.specs.Effects.{effect, effects, has_no_locals}
use Rattle.affc_trace.specs.Laws.{RunOfEffects, EffectsOfTrace, TargetIsReordered, ValuesByInstance}
use Rattle.affc_trace.proofs.LastStores.{option_map, last_value}
use Rattle.affc_trace.proofs.Legality.{same_last}
use Rattle.affc_trace.proofs.Targets.{same_element_decides, same_instance_decides, target_is_reordered}
use Rattle.affc_trace.proofs.Reorders.{value_in, stored_values}
use Rattle.affc_trace.proofs.Once.{once}
use Rattle.affc_trace.proofs.EffectRuns.{Agrees, Does, Ran, run_of_effects}
use Rattle.affc_trace.proofs.TraceEffects.{trace_effects}
use Rattle.affc_trace.specs.Dataflow.{same_instance}

to_T : (b : Bool) → IsTrue b → T b
to_T b e = subst T (sym e) tt

-- a run that ends, by its effects
pub done : (program : Program) (p : List ℤ) (store : Store) (end : State) → meaning program p store ≡ Ended end
    → Does (at store) (record { store = store; written = []; steps = 0 }) (effects program p) end
unfolding Ran
done program p store end e = subst (Ran (at store) (record { store = store; written = []; steps = 0 }) (effects program p)) e (run_of_effects program p store)

pub run_of_effects_law : RunOfEffects
run_of_effects_law program p store end e = let d = done program p store end e in d.run ∙ ap Some (sym d.written)

pub effects_of_trace : EffectsOfTrace
effects_of_trace program p plain = trace_effects program p (to_T (has_no_locals program) plain)

pub target_is_reordered_law : TargetIsReordered
target_is_reordered_law program schedule p = target_is_reordered program schedule p (once program p)

-- a run that ends, by its trace's instances
pub ended_run : (program : Program) (p : List ℤ) (store : Store) (end : State) → IsTrue (has_no_locals program) → meaning program p store ≡ Ended end
    → stores_of same_element (at store) [] (map (effect program p) (trace program p)) ≡ Some end.written
ended_run program p store end plain e =
    ap (stores_of same_element (at store) []) (sym (effects_of_trace program p plain)) ∙ run_of_effects_law program p store end e

pub values_by_instance : ValuesByInstance
values_by_instance source p store end plain e = (
  value_in same_instance same_instance_decides 0 (trace source p) (map (λ w. w.1) end.written),
  stored_values same_instance same_instance_decides 0 same_element (effect source p) (at store) [] (trace source p) end.written (once source p) (ended_run source p store end plain e),
)

pub held_at_end : (program : Program) (p : List ℤ) (store : Store) (end : State) → meaning program p store ≡ Ended end
    → (x : Element) → at end.store x ≡ held same_element (at store) end.written x
unfolding Agrees
held_at_end program p store end e x = (done program p store end e).agrees x

pub sorted_at_end : (program : Program) (p : List ℤ) (store : Store) (end : State) → meaning program p store ≡ Ended end
    → T (is_sorted element_cmp store) → T (is_sorted element_cmp end.store)
sorted_at_end program p store end e h = (done program p store end e).sorted h

-- an element at its own place, which it shares with no other, holds the same at the end of both runs
pub same_contents : (printed source : Program) (schedule : Schedule) (p : List ℤ) (store : Store) (t u : State) (place : Element → Element) (v : Instance → ℕ)
    → meaning source p store ≡ Ended t → meaning printed p store ≡ Ended u
    → Legal source schedule p
    → t.written ≡ as_stored (effect source p) v (trace source p)
    → u.written ≡ as_stored (placed place (effect source p)) v (target source schedule p)
    → (x : Element) → place x ≡ x → ((y : Element) → place x ≡ place y → x ≡ y) → at u.store x ≡ at t.store x
same_contents printed source schedule p store t u place v source_ends ends legal values values' x own alone =
    let its : Instance → Effect Element ℕ = effect source p in
    let last : last_at same_element x u.written ≡ last_at same_element x t.written =
    ap (last_at same_element x) values'
    ∙ last_value same_element (placed place its) v (target source schedule p) x
    ∙ ap (λ z. option_map v (last_at same_element z (map (λ a. (place (its a).stores, a)) (target source schedule p)))) (sym own)
    ∙ ap (option_map v) (same_last its same_element same_element same_element_decides same_element_decides place (trace source p) (target source schedule p)
    (target_is_reordered_law source schedule p) legal x alone)
    ∙ sym (last_value same_element its v (trace source p) x)
    ∙ ap (last_at same_element x) (sym values) in
    held_at_end printed p store u ends x ∙ ap (λ o. or_else o (at store x)) last ∙ sym (held_at_end source p store t source_ends x)
