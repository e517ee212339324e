-- Folds that are looked at, row by row.
use Rattle.std.proofs.Common.{◌≡◌, ℕ, suc, List, [], ◌∷◌, ◌++◌, map, flat_map, sym, ap, subst, ◌∙◌}
use Rattle.affc_rows.specs.Forms.{Affine}
use Rattle.affc_system.specs.declared.pairs.PairSystem.{PairSystem}
use Rattle.affc_trace.specs.declared.schedule.Schedule.{Schedule}
use Rattle.affc_nest.specs.declared.nest.Nest.{Nest}
use Rattle.affc_quast.specs.Trees.{Tree}
use Rattle.affc_conflicts.specs.Questions.{positive_question, distance_questions}
use Rattle.affc_life.specs.Clashes.{Clash, clash_of, clashes}
use Rattle.affc_life.specs.Sizes.{AnyLarge}
use Rattle.affc_certvalue.specs.declared.fold.fold.CertFold.{CertFold}
use Rattle.affc_certvalue.specs.declared.fold.fold.CertModulus.{CertModulus}
use Rattle.affc_check.specs.Looked.{AreLooked, FoldLooked, FoldsLooked}
use Rattle.affc_check.specs.Walked.{AreRowsAlong}
use Rattle.affc_check.specs.list.ByClash.{questions_by}
use Rattle.affc_check.specs.list.Certs.{modulus_said}
use Rattle.affc_check.specs.list.Items.{Question, ModulusShown, mark_items, row_items, rows_items, fold_items}
use Rattle.affc_check.specs.list.Limits.{AnyPasses}
use Rattle.affc_check.specs.list.Passes.{FoldPasses}
use Rattle.affc_check.specs.list.Walks.{fold_shown}
use Rattle.affc_check.specs.declared.checks.Looked.{Looked}
use Rattle.affc_check.proofs.LookLemmas.{looks_none, looks_twice, looked_twice}
use Rattle.affc_check.proofs.list.FoldLemmas.{distances_are, distance_passes, parted, fold_within, fold_is_said}
use Rattle.affc_check.proofs.list.PartLemmas.{none_of_nil, none_cons}

-- ---- A row

module _ (nest : Nest) (rows : List Affine) (k : ℕ) (row : Affine) (m : ModulusShown) (cs : List Clash) (ss : List PairSystem) (are : map clash_of ss ≡ cs) where
  by_clash : map Question (flat_map (questions_by rows k row m.form) cs) ≡ map Question (distance_questions rows k row m.form ss)
  by_clash = ap (λ z. map Question (flat_map (questions_by rows k row m.form) z)) (sym are) ∙ sym (ap (map Question) (distances_are nest rows k row m.form ss))

  pub row_looked : (a b c d : Looked) → AreLooked a b (Question (positive_question nest.context nest.params m.form) ∷ []) → AreLooked b c (map Question (flat_map (questions_by rows k row m.form) cs))
      → AreLooked c d (mark_items nest rows k row m.form ss m.least) → AreLooked a d (row_items nest ss rows k row m)
  row_looked a b c d h g f =
      let ds = map Question (distance_questions rows k row m.form ss) in
      let ms = mark_items nest rows k row m.form ss m.least in
      looked_twice a b d (Question (positive_question nest.context nest.params m.form) ∷ []) (ds ++ ms) h (looked_twice b c d ds ms (subst (AreLooked b c) by_clash g) f)

  pub clash_passes : AnyPasses (map Question (flat_map (questions_by rows k row m.form) cs)) → AnyPasses (row_items nest ss rows k row m)
  clash_passes h = distance_passes nest ss rows k row m (subst AnyPasses by_clash h)

-- ---- Rows

pub no_rows_looked : (nest : Nest) (ss : List PairSystem) (rows : List Affine) (k : ℕ) (more : List Affine) (ms : List ModulusShown) (l : Looked) → rows_items nest ss rows k more ms ≡ [] → AreLooked l l (rows_items nest ss rows k more ms)
no_rows_looked nest ss rows k more ms l e = subst (AreLooked l l) (sym e) (record { looks = looks_none l; within = λ a. absurd a.there })

pub no_rows : (nest : Nest) (ss : List PairSystem) (rows : List Affine) (k : ℕ) (more : List Affine) (ms : List ModulusShown) → more ≡ [] → rows_items nest ss rows k more ms ≡ []
no_rows nest ss rows k more ms e = ap (λ z. rows_items nest ss rows k z ms) e

pub no_moduli : (nest : Nest) (ss : List PairSystem) (rows : List Affine) (k : ℕ) (more rest : List Affine) (row : Affine) (ms : List ModulusShown) → more ≡ row ∷ rest → ms ≡ [] → rows_items nest ss rows k more ms ≡ []
no_moduli nest ss rows k more rest row ms e f = ap (λ z. rows_items nest ss rows k z ms) e ∙ ap (rows_items nest ss rows k (row ∷ rest)) f

module _ (nest : Nest) (cs : List Clash) (rows more others : List Affine) (row : Affine) (ms rest : List CertModulus) (m : CertModulus) (is : more ≡ row ∷ others) (js : ms ≡ m ∷ rest) where
  abbrev Own : Type 0
  Own = AreRowsAlong nest cs rows (row ∷ others) (m ∷ rest)

  pub row_along : AreRowsAlong nest cs rows more ms → Own
  row_along h = subst (AreRowsAlong nest cs rows (row ∷ others)) js (subst (λ z. AreRowsAlong nest cs rows z ms) is h)

pub rows_looked : (nest : Nest) (ss : List PairSystem) (rows : List Affine) (k n : ℕ) (next : n ≡ suc k) (more others : List Affine) (row : Affine) (ms rest : List CertModulus) (m : CertModulus) (is : more ≡ row ∷ others) (js : ms ≡ m ∷ rest)
    (a b c : Looked) → AreLooked a b (row_items nest ss rows k row (modulus_said m)) → AreLooked b c (rows_items nest ss rows n others (map modulus_said rest)) → AreLooked a c (rows_items nest ss rows k more (map modulus_said ms))
rows_looked nest ss rows k n next more others row ms rest m is js a b c h g =
    subst (AreLooked a c) (sym (parted nest ss rows k n next more others row ms rest m is js))
    (looked_twice a b c (row_items nest ss rows k row (modulus_said m)) (rows_items nest ss rows n others (map modulus_said rest)) h g)

-- ---- Folds

pub fold_looked : (nest : Nest) (schedule : Schedule) (trees : List Tree) (c : CertFold) (systems : List PairSystem) (a b : Looked) → map clash_of systems ≡ clashes nest trees schedule c.array.0 → ¬ (AnyLarge (clashes nest trees schedule c.array.0))
    → AreLooked a b (fold_items nest (fold_shown c systems)) → FoldLooked nest schedule trees c a b
fold_looked nest schedule trees c systems a b are fits h =
    let said = fold_is_said nest schedule trees c systems are in
    record { fold = fold_shown c systems; said = said; looks = h.looks; within = fold_within nest schedule trees c (fold_shown c systems) said fits h.within }

pub no_folds_looked : (nest : Nest) (schedule : Schedule) (trees : List Tree) (cs : List CertFold) (l : Looked) → cs ≡ [] → FoldsLooked nest schedule trees cs l l
no_folds_looked nest schedule trees cs l e =
    subst (λ z. FoldsLooked nest schedule trees z l l) (sym e) (record { folds = []; said = tt; looks = looks_none l; within = none_of_nil (FoldPasses nest schedule trees) })

pub folds_looked : (nest : Nest) (schedule : Schedule) (trees : List Tree) (cs rest : List CertFold) (c : CertFold) (a b d : Looked) → cs ≡ c ∷ rest → FoldLooked nest schedule trees c a b → FoldsLooked nest schedule trees rest b d
    → FoldsLooked nest schedule trees cs a d
folds_looked nest schedule trees cs rest c a b d e h g =
    subst (λ z. FoldsLooked nest schedule trees z a d) (sym e)
    (record {
      folds = h.fold ∷ g.folds;
      said = (h.said, g.said);
      looks = looks_twice a b d (fold_items nest h.fold) (flat_map (fold_items nest) g.folds) h.looks g.looks;
      within = none_cons (FoldPasses nest schedule trees) c rest h.within g.within;
    })
