-- What a program stores that follows another, and programs that store something else.
use Rattle.std.proofs.Common.{◌≡◌, ℕ, ℤ, pos, Bool, true, false, not, List, [], ◌∷◌, is_some, map, refl, sym, ap, ◌∙◌}
use Rattle.std.specs.Prelude.{nat_eq}
use denote.Hole.Carrier.{hidden}
use Rattle.affc_ast.specs.declared.tree.Ix.TheBlock.{shape-the_row-Ix-0, hidden-the_row-Ix-0}
use Rattle.affc_ast.specs.declared.tree.Cond.TheBlock.{shape-the_row-Cond-0, hidden-the_row-Cond-0}
use Rattle.affc_ast.specs.declared.tree.Stmt.TheBlock.{shape-the_row-Stmt-0, hidden-the_row-Stmt-0}
use Rattle.affc_ast.specs.declared.tree.Val.TheBlock.{shape-the_row-Val-0, hidden-the_row-Val-0}
use Rattle.affc_ast.specs.declared.tree.Program.{Program}
use Rattle.affc_ast.specs.Compiles.{RunsAs}
use Rattle.affc_ast.specs.Counterexamples.{OrdersDiffer, ValuesDiffer, PlacesDiffer, OwnElementsDiffer, OutputsDiffer, NamesDiffer, RangesDiffer, ContextsDiffer, RunsDiffer}
use Rattle.affc_ast.specs.Examples.{cell, three}
use Rattle.affc_ast.specs.Fits.{outputs}
use Rattle.affc_ast.specs.Follows.{Order, Places, Follows, stores_by, elements, put_at}
use Rattle.affc_ast.specs.Meaning.{Outcome, Ended, Stuck, meaning}
use Rattle.affc_ast.specs.Store.{Element, Store, at}
use Rattle.affc_ast.specs.Trace.{trace, store_of}
use Rattle.affc_ast.proofs.FitProofs.{some_data_fit}

abbrev written_by : Outcome → List (Element × ℕ)
written_by (Ended s) = s.written
written_by (Stuck cause steps) = []

abbrev store_after : Outcome → Store
store_after (Ended s) = s.store
store_after (Stuck cause steps) = []

module _ (target source : Program) (ordered : Order) (place : Places) (p : List ℤ) (store : Store) where
  its_stores : Follows target source ordered place p store
      → written_by (meaning target p store) ≡ map (put_at place) (ordered (stores_by (trace source p) (written_by (meaning source p store))))
  its_stores f =
      ap written_by f.target_ends ∙ f.written
      ∙ ap (λ w. map (put_at place) (ordered (stores_by (trace source p) w))) (sym (ap written_by f.source_ends))

  own_elements : Follows target source ordered place p store → elements (written_by (meaning source p store)) ≡ map (store_of source p) (trace source p)
  own_elements f = ap (λ o. elements (written_by o)) f.source_ends ∙ f.own_elements

  same_outputs : RunsAs target source ordered place p store
      → outputs target (store_after (meaning target p store)) ≡ outputs source (store_after (meaning source p store))
  same_outputs r =
      ap (λ o. outputs target (store_after o)) r.follows.target_ends ∙ r.same_outputs
      ∙ sym (ap (λ o. outputs source (store_after o)) r.follows.source_ends)

-- equal things pass the same tests
apart : {A : Type 0} {x y : A} (test : A → Bool) → x ≡ y → test x ≡ true → test y ≡ false → ⊥
apart test e passes fails = cc

-- whether the first store is of this value
abbrev first_is : ℕ → List (Element × ℕ) → Bool
first_is v [] = false
first_is v (w ∷ ws) = nat_eq w.1 v

-- whether nothing is stored at x
abbrev is_free : Element → List (Element × ℕ) → Bool
is_free x ws = not (is_some (at ws x))

pub orders_differ : OrdersDiffer
unfolding shape-the_row-Ix-0 hidden-the_row-Ix-0 shape-the_row-Val-0 hidden-the_row-Val-0 shape-the_row-Stmt-0 hidden-the_row-Stmt-0 shape-the_row-Cond-0 hidden-the_row-Cond-0 hidden
orders_differ f = apart (first_is 8) (its_stores _ _ _ _ _ _ f) refl refl

pub values_differ : ValuesDiffer
unfolding shape-the_row-Ix-0 hidden-the_row-Ix-0 shape-the_row-Val-0 hidden-the_row-Val-0 shape-the_row-Stmt-0 hidden-the_row-Stmt-0 shape-the_row-Cond-0 hidden-the_row-Cond-0 hidden
values_differ f = apart (first_is 8) (its_stores _ _ _ _ _ _ f) refl refl

pub places_differ : PlacesDiffer
unfolding shape-the_row-Ix-0 hidden-the_row-Ix-0 shape-the_row-Val-0 hidden-the_row-Val-0 shape-the_row-Stmt-0 hidden-the_row-Stmt-0 shape-the_row-Cond-0 hidden-the_row-Cond-0 hidden
places_differ f = apart (is_free (cell 2 1)) (its_stores _ _ _ _ _ _ f) refl refl

pub own_elements_differ : OwnElementsDiffer
unfolding shape-the_row-Ix-0 hidden-the_row-Ix-0 shape-the_row-Val-0 hidden-the_row-Val-0 shape-the_row-Stmt-0 hidden-the_row-Stmt-0 shape-the_row-Cond-0 hidden-the_row-Cond-0 hidden
own_elements_differ f = apart (λ xs. is_free (cell 1 0) (map (λ x. (x, 0)) xs)) (own_elements _ _ _ _ _ _ f) refl refl

pub outputs_differ : OutputsDiffer
unfolding shape-the_row-Ix-0 hidden-the_row-Ix-0 shape-the_row-Val-0 hidden-the_row-Val-0 shape-the_row-Stmt-0 hidden-the_row-Stmt-0 shape-the_row-Cond-0 hidden-the_row-Cond-0 hidden
outputs_differ = (
  record { source_end = _; source_ends = refl; target_end = _; target_ends = refl; own_elements = refl; written = refl },
  λ r. apart (first_is 8) (same_outputs _ _ _ _ _ _ r) refl refl,
)

pub names_differ : NamesDiffer
names_differ c = let e = c.name in cc

pub ranges_differ : RangesDiffer
ranges_differ c = let e = c.parameters in cc

pub contexts_differ : ContextsDiffer
contexts_differ c = let e = c.context in cc

pub runs_differ : RunsDiffer
unfolding shape-the_row-Ix-0 hidden-the_row-Ix-0 shape-the_row-Val-0 hidden-the_row-Val-0 shape-the_row-Stmt-0 hidden-the_row-Stmt-0 shape-the_row-Cond-0 hidden-the_row-Cond-0 hidden
runs_differ c = apart (is_free (cell 1 0)) (its_stores _ _ _ _ _ _ (c.runs (pos 3 ∷ []) (three 0 0 0) some_data_fit).follows) refl refl
