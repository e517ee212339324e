-- What the folds of a program are asked of, and what they give.
use Rattle.std.proofs.Common.{◌≡◌, ℕ, ℤ, List, [], ◌∷◌, sym, subst, inl, inr}
use Rattle.affc_ast.specs.declared.tree.ArrayId.{ArrayId}
use Rattle.affc_ast.specs.declared.tree.Program.{Program}
use Rattle.affc_ast.specs.declared.tree.Instance.{Instance}
use Rattle.affc_ast.specs.Store.{Element}
use Rattle.affc_ast.specs.Trace.{loads_of, store_of, events}
use Rattle.affc_trace.specs.Dataflow.{LivePair}
use Rattle.affc_trace.specs.Effects.{effect}
use Rattle.affc_trace.specs.Law.{IsIn}
use Rattle.affc_trace.specs.Laws.{IsInContext}
use Rattle.affc_trace.specs.Orders.{Touches}
use Rattle.affc_split.specs.Budgets.{Account}
use Rattle.affc_nest.specs.declared.nest.Nest.{Nest}
use Rattle.affc_nest.specs.Laws as nest
use Rattle.affc_nest.specs.Laws.{NamesArrays}
use Rattle.affc_bounds.specs.Faults.{StaysWithin}
use Rattle.affc_quast.specs.Limits.{narrow, AreTreesWithin}
use Rattle.affc_quast.specs.Sources.{NameSources, HaveNearQuotients}
use Rattle.affc_quast.specs.Trees.{Tree}
use Rattle.affc_basis.specs.declared.fold.Fold.{Fold}
use Rattle.affc_weigh.specs.declared.choice.Choice.{Choice}
use Rattle.affc_schedtext.specs.declared.plan.Plan.{Plan}
use Rattle.affc_folds.specs.Folding.{IsAnalysed, AreFoldsUnder}
use Rattle.affc_driver.specs.Compilations.{IsCompilation}
use Rattle.affc_driver.specs.Flows.{NameThroughout}
use Rattle.affc_driver.specs.Made.{AreDecided}
use Rattle.affc_driver.specs.Plans.{LegalThroughout, WrittenThroughout}
use Rattle.affc_driver.specs.Programs.{OfEachText}
use Rattle.affc_trace.proofs.Once.{in_append}
use Rattle.affc_driver.proofs.Compiled.{named_is_written, none_is_written, no_folds}

-- an event of an instance is an element that it touches
touches : (program : Program) (p : List ℤ) (b : Instance) (x : Element) → IsIn x (events program p b) → Touches (effect program p) b x
touches program p b x there = elim (in_append (loads_of program p b) (store_of program p b ∷ []) x there) [
  | inl k ↦ inl k
  | inr k ↦ elim k [ inl e ↦ inr e | inr none ↦ absurd none ]
]

-- at a p of the context
pub stays_at : (program : Program) → StaysWithin program → (p : List ℤ) → IsInContext program p → nest.StaysWithin program p
stays_at program within p inside = record {
  extents = within.extents p inside;
  accesses = λ b x runs there. within.accesses p inside b x runs (touches program p b x there);
}

pub analysed : (program : Program) (nest : Nest) (plan : Plan) (trees : List Tree) → IsCompilation program nest plan → NameThroughout program trees → AreTreesWithin narrow 302 12 nest trees → IsAnalysed program nest trees plan.schedule
analysed program nest plan trees c named limits = record {
  has = record { plain = c.plain; near = c.within.near };
  named = c.arrays;
  is = c.is;
  fits = c.fits;
  slight = c.slight;
  found = limits;
  some = c.within.some;
  stays = stays_at program c.within;
  sources = λ p inside. subst (λ n. NameSources program p n trees) (sym c.is) (named p inside).sources;
  near = λ p inside. subst (λ n. HaveNearQuotients program p n trees) (sym c.is) (named p inside).near;
}

-- where there are no temporaries
pub decided_without : (Answers : List ℕ → ℕ → Type 0) (program : Program) (plan : Plan) (budget : Account) → NamesArrays program → StaysWithin program → program.temps ≡ [] → LegalThroughout program plan.schedule
    → AreDecided Answers program plan budget [] []
decided_without Answers program plan budget names within none legal = record {
  written = λ text reads bare. none_is_written program names within none;
  legal = legal;
  are_folds = no_folds Answers program (LivePair program plan.schedule) plan.folds budget none;
}

pub written_each : (program : Program) (trees : List Tree) → StaysWithin program → NameThroughout program trees → OfEachText program (λ text. WrittenThroughout program)
written_each program trees within named text reads bare = named_is_written text program trees reads bare within named

pub decided : (Answers : List ℕ → ℕ → Type 0) (program : Program) (plan : Plan) (budget : Account) (trees : List Tree) (folds : List (ArrayId × Fold)) (choices : List (ArrayId × Choice)) → StaysWithin program → NameThroughout program trees
    → LegalThroughout program plan.schedule → AreFoldsUnder Answers program (LivePair program plan.schedule) plan.folds budget folds choices → AreDecided Answers program plan budget folds choices
decided Answers program plan budget trees folds choices within named legal are = record { written = written_each program trees within named; legal = legal; are_folds = are }
