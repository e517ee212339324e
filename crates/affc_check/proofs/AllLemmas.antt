-- All items of a certificate are looked at.
use Rattle.std.proofs.Common.{◌≡◌, ◌+◌, ℤ, List, [], ◌∷◌, ◌++◌, length, map, flat_map, refl, ap, subst, arith, ◌∙◌}
use Rattle.affc_trace.specs.declared.schedule.Schedule.{Schedule}
use Rattle.affc_trace.proofs.LastStores.{append_nil}
use Rattle.affc_farkas.specs.declared.proof.Proof.{Proof}
use Rattle.affc_nest.specs.Questions.{extent_questions, bound_questions}
use Rattle.affc_nest.specs.declared.nest.Nest.{Nest}
use Rattle.affc_sched.specs.Questions.{legality_questions}
use Rattle.affc_quast.specs.Seen.{trees_of}
use Rattle.affc_cert.specs.declared.cert.Cert.{Cert}
use Rattle.affc_certvalue.specs.declared.fold.fold.CertFold.{CertFold}
use Rattle.affc_check.specs.Looked.{Stands, Looks, PartsLooked, FoldsLooked, AllLooked}
use Rattle.affc_check.specs.Steps.{Leaves}
use Rattle.affc_check.specs.Valid.{AreValid, questions_among}
use Rattle.affc_check.specs.list.Held.{context_item, legality_item}
use Rattle.affc_check.specs.list.Items.{Item, Question, Shown, fold_items}
use Rattle.affc_check.specs.list.Certs.{AreFoldsSaid}
use Rattle.affc_check.specs.list.Limits.{HoldsOfNone}
use Rattle.affc_check.specs.list.Passes.{FoldPasses, items_by_tree}
use Rattle.affc_check.specs.declared.checks.Looked.{Looked}
use Rattle.affc_check.proofs.CheckLemmas.{valid_behind}
use Rattle.affc_check.proofs.list.ListingLemmas.{are_all}

-- items that hold are valid
pub leaves_valid : (is : List Item) (proofs rest : List Proof) → Leaves is proofs rest → AreValid is proofs
leaves_valid is proofs rest h = subst (λ js. AreValid js proofs) (append_nil is) (valid_behind is [] proofs rest h tt)

-- each question takes one proof
pub leaves_spare : (is : List Item) (proofs rest : List Proof) → Leaves is proofs rest → length proofs ≡ questions_among is + length rest
leaves_spare [] proofs rest h = let e = ap length h in omega (arith, e)
leaves_spare (Question system ∷ is) [] rest h = absurd h
leaves_spare (Question system ∷ is) (p ∷ ps) rest h = let e = leaves_spare is ps rest h.1 in omega (arith, e)
leaves_spare (Shown system point ∷ is) proofs rest h = leaves_spare is proofs rest h.1

-- the context, and what is asked of extents and accesses
pub bounds_listed : (i0 i1 i2 i3 a b : List Item) (point context : Item) → i0 ≡ [] → point ≡ context → i1 ≡ i0 ++ point ∷ [] → i2 ≡ i1 ++ a → i3 ≡ i2 ++ b → i3 ≡ context ∷ (a ++ b)
bounds_listed i0 i1 i2 i3 a b point context none is e f g = g ∙ ap (λ z. z ++ b) (f ∙ ap (λ z. z ++ a) (e ∙ ap (λ z. z ++ point ∷ []) none ∙ ap (λ p. p ∷ []) is))

module _ (nest : Nest) (schedule : Schedule) (c : Cert) (p : List ℤ) (folds : List CertFold) (context : p ≡ c.context) (of_cert : folds ≡ c.folds) where
  abbrev Bounds : List Item
  Bounds = context_item nest p ∷ (map Question (extent_questions nest) ++ map Question (bound_questions nest))

  abbrev Asked : List Item
  Asked = map legality_item (legality_questions nest schedule)

  pub all_looked : (a b d e f : Looked) → Stands a [] c.proofs → Looks a b Bounds → PartsLooked b d (items_by_tree nest (trees_of c.flow)) → Looks d e Asked → FoldsLooked nest schedule (trees_of c.flow) folds e f
      → AllLooked nest schedule c f
  all_looked a b d e f start bounds trees asked more =
      let of_trees : List Item = flat_map (λ items. items) (items_by_tree nest (trees_of c.flow)) in
      let of_folds : List Item = flat_map (fold_items nest) more.folds in
      let point : Item = context_item nest p in
      let extents : List Item = map Question (extent_questions nest) in
      record {
        items = ((Bounds ++ of_trees) ++ Asked) ++ of_folds;
        are = record {
          folds = more.folds;
          said = subst (λ cs. AreFoldsSaid nest schedule (trees_of c.flow) cs more.folds) of_cert more.said;
          are = are_all nest schedule c p point [] (point ∷ []) (point ∷ extents) Bounds (Bounds ++ of_trees) ((Bounds ++ of_trees) ++ Asked) (((Bounds ++ of_trees) ++ Asked) ++ of_folds) more.folds
              context refl refl refl refl refl refl refl refl;
        };
        within = record { trees = trees.within; folds = subst (HoldsOfNone (FoldPasses nest schedule (trees_of c.flow))) of_cert more.within };
        stands = more.looks ((Bounds ++ of_trees) ++ Asked) c.proofs (asked (Bounds ++ of_trees) c.proofs (trees.looks Bounds c.proofs (bounds [] c.proofs start)));
      }
