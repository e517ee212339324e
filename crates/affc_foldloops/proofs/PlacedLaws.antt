-- A program that stands for a source, and its loops, run the source's target at the places.
use Rattle.std.proofs.Common.{◌≡◌, ℤ, List, [], ◌∷◌, map, refl, sym, ap, subst, ◌∙◌, ◌⊎◌, inl, inr}
use Rattle.affc_ast.specs.declared.tree.Program.{Program}
use Rattle.affc_ast.specs.Store.{Element}
use Rattle.affc_ast.specs.Trace.{trace}
use Rattle.affc_trace.specs.declared.schedule.Schedule.{Schedule}
use Rattle.affc_trace.specs.declared.schedule.Schedule.TheVariants.{Source, Time}
use Rattle.affc_trace.specs.Effects.{effect}
use Rattle.affc_trace.specs.Law.{Effect, IsIn, placed}
use Rattle.affc_trace.specs.Orders.{IsReordered}
use Rattle.affc_trace.specs.Target.{ordered, target}
use Rattle.affc_trace.proofs.Contents.{target_is_reordered_law}
use Rattle.affc_trace.proofs.Members.{in_map}
use Rattle.affc_safe.specs.Safe.{LiesWithin, KeepsWithin}
use Rattle.affc_loops.proofs.Does.{own_places}
use Rattle.affc_loops.proofs.BetweenLaws.{between_do_other, between_run_other}
use Rattle.affc_loops.proofs.SameLoops.{within_same}
use Rattle.affc_loops.proofs.SourceOrder.{runs_itself}
use Rattle.affc_foldloops.specs.Laws.{SourceRunsPlaced, BetweenDoPlaced, BetweenRunPlaced}
use Rattle.affc_foldloops.specs.Placed.{StandsFor, PlacesLieWithin}

map_in_same : {A B : Type 0} (f g : A → B) (xs : List A) → ((x : A) → IsIn x xs → f x ≡ g x) → map f xs ≡ map g xs
map_in_same f g [] h = refl
map_in_same f g (x ∷ xs) h = ap (λ y. y ∷ map f xs) (h x (inl refl)) ∙ ap (λ l. g x ∷ l) (map_in_same f g xs (λ y i. h y (inr i)))

-- the target's instances do the same at the places
target_at_places : (other source : Program) (schedule : Schedule) (place : Element → Element) (p : List ℤ) → StandsFor other source place p
    → map (placed (λ x. x) (effect other p)) (target other schedule p) ≡ map (placed place (effect source p)) (target source schedule p)
target_at_places other source schedule place p stands =
    ap (λ its. map its (target other schedule p)) (sym (own_places other p))
    ∙ ap (λ is. map (effect other p) (ordered (λ b. b) schedule p is)) stands.same_trace
    ∙ map_in_same (effect other p) (placed place (effect source p)) (target source schedule p)
    (λ b i. stands.same_effects b (IsReordered.no_other (target_is_reordered_law source schedule p) b i))

-- what is touched is at places
keeps_within : (other source : Program) (place : Element → Element) (p : List ℤ) → StandsFor other source place p → PlacesLieWithin other source place p → KeepsWithin other p
keeps_within other source place p stands within b x i t =
    let here : IsIn b (trace source p) = subst (IsIn b) stands.same_trace i in
    elim (subst (λ (e : Effect _ _). IsIn x e.loads ⊎ (x ≡ e.stores)) (stands.same_effects b here) t) [
      | inl l ↦
          let q = in_map place (effect source p b).loads x l in
          subst (LiesWithin other p) (sym q.2) (within b q.0 here (inl q.1))
      | inr s ↦ subst (LiesWithin other p) (sym s) (within b (effect source p b).stores here (inr refl))
    ]

-- ---- in the source's own order

pub source_runs_placed : SourceRunsPlaced
source_runs_placed other source place p store same within r =
    let runs = runs_itself other p store (r.stands).bare (within_same source other same p within) r.small r.extents (keeps_within other source place p r.stands r.within) in
    record {
      does = runs.does ∙ target_at_places other source Source place p r.stands;
      only_unwritten = runs.only_unwritten;
    }

-- ---- between ends

pub between_do_placed : BetweenDoPlaced
between_do_placed other source n maps ends place p has same within times stands =
    between_do_other source other n maps ends p has same within times ∙ target_at_places other source (Time n maps) place p stands

pub between_run_placed : BetweenRunPlaced
between_run_placed other source n maps ends place p store has same within times r = record {
  does = between_do_placed other source n maps ends place p has same within times r.stands;
  only_unwritten = (between_run_other source other n maps ends p store has same within times r.small r.extents (keeps_within other source place p r.stands r.within)).only_unwritten;
}
