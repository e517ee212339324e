-- What a certificate that is accepted shows.
use Rattle.std.proofs.Common.{◌≡◌, ℕ, ◌+◌, ℤ, IsTrue, List, [], ◌∷◌, length, map, Some, refl, sym, ap, ap₂, subst, arith, ◌∙◌}
use Rattle.std.specs.Prelude.{slice_get}
use Rattle.std.specs.List.{All, AllZip}
use Rattle.std.proofs.lemmas.List.Elements.{All-nil, All-cons, All-head, All-tail}
use Rattle.affc_rows.specs.Forms.{Affine}
use Rattle.affc_system.specs.declared.pairs.PairSystem.{PairSystem}
use Rattle.affc_ast.specs.declared.tree.ArrayId.{ArrayId}
use Rattle.affc_ast.specs.declared.tree.Program.{Program}
use Rattle.affc_trace.specs.declared.schedule.Schedule.{Schedule}
use Rattle.affc_trace.specs.Dataflow.{LivePair}
use Rattle.affc_trace.specs.Law.{IsIn}
use Rattle.affc_trace.specs.Laws.{IsInContext}
use Rattle.affc_trace.proofs.Members.{to_map, in_map}
use Rattle.affc_basis.specs.declared.fold.Fold.{Fold}
use Rattle.affc_basis.specs.Folds.{forms_of, Obeys}
use Rattle.affc_basis.specs.Moduli.{IsModulus}
use Rattle.affc_domain.proofs.RangeLemmas.{numbers_are}
use Rattle.affc_nest.specs.declared.nest.Nest.{Nest}
use Rattle.affc_nest.specs.Nests.{nest_of}
use Rattle.affc_quast.specs.Seen.{trees_of}
use Rattle.affc_quast.specs.Trees.{Tree}
use Rattle.affc_flow.specs.Questions.{is_temporary_info}
use Rattle.affc_life.specs.Folding.{HasTrueMarks, IsFoldFor}
use Rattle.affc_life.proofs.NestLemmas.{is_temporary}
use Rattle.affc_cert.specs.Certificates.{seen}
use Rattle.affc_cert.specs.declared.cert.Cert.{Cert}
use Rattle.affc_cert.specs.declared.layout.Layout.{Layout}
use Rattle.affc_certvalue.specs.fold.Entries.{FoldEntry, entry_of}
use Rattle.affc_certvalue.specs.fold.Limits.{IsFoldWithin}
use Rattle.affc_certvalue.specs.declared.fold.fold.CertFold.{CertFold}
use Rattle.affc_certvalue.specs.declared.fold.layout.Temporary.{Temporary}
use Rattle.affc_check.specs.Answers.{IsFoldMade}
use Rattle.affc_check.specs.list.Certs.{AreFoldsSaid}
use Rattle.affc_check.specs.list.Items.{ModulusShown, FoldShown, moduli_of}
use Rattle.affc_check.specs.Laws.{IsFoldOfArray, IsRightFold}
use Rattle.affc_check.proofs.Members.{seen_wide}
use Rattle.affc_check.proofs.Read.{certs_are_read, valid_certs_give}
use Rattle.affc_check.proofs.ReadFor.{zip_in}
use Rattle.affc_accept.specs.Laws.{HasTemporariesLast, AcceptedShows}
use Rattle.affc_accept.specs.Layouts.{Dimensions, dimensions_of, temporaries_from, IsLayout}
use Rattle.affc_accept.proofs.Listed.{temporary_in}
use Rattle.affc_accept.proofs.Refused.{certificate_within, read_within}

-- ---- Lists beside one another

pub zip_map : {A B C : Type 0} (R : A → B → Type 0) (f : A → C) (g : B → C) → ((x : A) (y : B) → R x y → g y ≡ f x) → (xs : List A) (ys : List B) → AllZip R xs ys → map g ys ≡ map f xs
zip_map R f g same [] [] h = refl
zip_map R f g same [] (y ∷ ys) h = absurd h
zip_map R f g same (x ∷ xs) [] h = absurd h
zip_map R f g same (x ∷ xs) (y ∷ ys) h = ap₂ (λ z zs. z ∷ zs) (same x y h.0) (zip_map R f g same xs ys h.1)

map_twice : {A B C : Type 0} (f : B → C) (g : A → B) (xs : List A) → map f (map g xs) ≡ map (λ x. f (g x)) xs
map_twice f g [] = refl
map_twice f g (x ∷ xs) = ap (λ zs. f (g x) ∷ zs) (map_twice f g xs)

-- ---- The arrays of the folds

said_arrays : (nest : Nest) (schedule : Schedule) (trees : List Tree) (cs : List CertFold) (fs : List FoldShown) → AreFoldsSaid nest schedule trees cs fs → map (λ (f : FoldShown). f.array) fs ≡ map (λ (c : CertFold). c.array.0) cs
said_arrays nest schedule trees [] [] h = refl
said_arrays nest schedule trees [] (f ∷ fs) h = absurd h
said_arrays nest schedule trees (c ∷ cs) [] h = absurd h
said_arrays nest schedule trees (c ∷ cs) (f ∷ fs) h = ap₂ (λ z zs. z ∷ zs) h.0.array (said_arrays nest schedule trees cs fs h.1)

-- they are those of the layout
pub all_arrays : (nest : Nest) (layout : Layout) (schedule : Schedule) (c : Cert) (shown : List FoldShown) (folds : List (ArrayId × Fold)) → IsLayout nest layout
    → AllZip (IsFoldWithin layout.parameters) layout.temporaries (map entry_of c.folds) → AreFoldsSaid nest schedule (trees_of c.flow) c.folds shown → AllZip IsFoldMade shown folds
    → map (λ (f : ArrayId × Fold). f.0.0) folds ≡ map (λ (t : ℕ × ℕ). t.0) (temporaries_from 0 nest.arrays)
all_arrays nest layout schedule c shown folds l within said made =
    zip_map IsFoldMade (λ (f : FoldShown). f.array) (λ (f : ArrayId × Fold). f.0.0) (λ x y m. m.array) shown folds made
    ∙ said_arrays nest schedule (trees_of c.flow) c.folds shown said
    ∙ sym (map_twice (λ (e : FoldEntry). e.array) entry_of c.folds)
    ∙ zip_map (IsFoldWithin layout.parameters) (λ (t : Temporary). t.array) (λ (e : FoldEntry). e.array) (λ x y w. w.array) layout.temporaries (map entry_of c.folds) within
    ∙ sym (map_twice (λ (d : Dimensions). d.0) dimensions_of layout.temporaries)
    ∙ ap (map (λ (d : Dimensions). d.0)) l.temporaries

-- ---- One fold

moduli_kept : (columns : ℕ) (systems : List PairSystem) (rows : List Affine) (ms : List ModulusShown) → All (λ m. IsModulus columns m.form) ms → All (IsModulus columns) (forms_of (moduli_of systems rows ms))
moduli_kept columns systems [] ms h = All-nil (IsModulus columns)
moduli_kept columns systems (r ∷ rows) [] h = All-nil (IsModulus columns)
moduli_kept columns systems (r ∷ rows) (m ∷ ms) h =
    All-cons (IsModulus columns) m.form (forms_of (moduli_of systems rows ms)) (All-head (λ (m : ModulusShown). IsModulus columns m.form) m ms h)
    (moduli_kept columns systems rows ms (All-tail (λ (m : ModulusShown). IsModulus columns m.form) m ms h))

module _ (program : Program) (schedule : Schedule) (pairs : ℕ → List ℤ → List ℤ → List ℤ → Type 0) (last : HasTemporariesLast program) (array : ArrayId) (fold : Fold)
    (among : IsIn array.0 (map (λ (t : ℕ × ℕ). t.0) (temporaries_from 0 (nest_of program).arrays)))
    (trees : List Tree) (f : FoldShown) (made : IsFoldMade f (array, fold)) (of : IsFoldOfArray program schedule trees f) (right : IsRightFold program pairs f) where
  pub fold_for : IsFoldFor program pairs array.0 fold
  fold_for =
      let m = in_map (λ (t : ℕ × ℕ). t.0) (temporaries_from 0 (nest_of program).arrays) array.0 among in
      let h = temporary_in 0 (nest_of program).arrays m.0 m.1 in
      let at : array.0 ≡ h.number = m.2 ∙ h.array ∙ (let n : 0 + h.number ≡ h.number = omega arith in n) in
      let there : slice_get (nest_of program).arrays array.0 ≡ Some h.info = ap (slice_get (nest_of program).arrays) at ∙ h.there in
      let own : IsTrue (is_temporary_info (slice_get (nest_of program).arrays array.0)) = ap is_temporary_info there ∙ h.own in
      let t = is_temporary program array.0 of.info (ap (slice_get (nest_of program).arrays) made.array ∙ of.declared) (last array.0 own) in
      let columns = numbers_are program.params in
      let forms : forms_of fold.moduli ≡ forms_of (moduli_of f.systems f.rows f.moduli) = ap forms_of made.shown.moduli in
      record {
        in_program = record {
          number = t.number;
          decl = t.decl;
          stands = t.stands;
          behind = t.behind;
          rows = ap length made.shown.rows ∙ of.dimensions ∙ t.dimensions;
          moduli = subst (λ n. All (λ (b : Affine). length b.coefs ≡ n) (forms_of fold.moduli)) (sym columns)
              (subst (λ bs. All (λ (b : Affine). length b.coefs ≡ (nest_of program).context.columns) bs) (sym forms) (seen_wide (nest_of program).context.columns f.systems f.rows f.moduli of.moduli));
        };
        limits = subst (λ n. All (IsModulus n) (forms_of fold.moduli)) (sym columns)
            (subst (λ bs. All (IsModulus (nest_of program).context.columns) bs) (sym forms) (moduli_kept (nest_of program).context.columns f.systems f.rows f.moduli of.moduli));
        obeys = λ p inside. subst (λ n. Obeys (pairs n p) fold p) (sym made.array) (right.obeys fold made.shown p inside);
        marks = subst (λ n. HasTrueMarks (IsInContext program) (pairs n) fold) (sym made.array) (right.marks fold made.shown);
      }

-- ---- The law

pub accepted_shows : AcceptedShows
accepted_shows program plan text folds has named last fits a =
    let nest : Nest = nest_of program in
    let layout = a.read.layout in
    let within = read_within nest layout a.cert a.read.is_layout a.read.right in
    let c = a.is_checked in
    let read = certs_are_read program plan.schedule a.cert c.are.folds has named fits within.certificate c.are.said in
    let shown = valid_certs_give program plan.schedule a.cert c.items has named fits within.certificate c.are c.valid in
    let made : AllZip IsFoldMade c.are.folds folds = subst (AllZip IsFoldMade c.are.folds) a.are c.folds in
    let arrays = all_arrays nest layout plan.schedule a.cert c.are.folds folds a.read.is_layout (certificate_within layout (seen a.cert) a.read.right).folds c.are.said made in (
      shown,
      record {
        arrays = arrays;
        each = λ array fold i.
            let z = zip_in IsFoldMade c.are.folds folds (array, fold) made i in
            fold_for program plan.schedule (LivePair program plan.schedule) last array fold (subst (IsIn array.0) arrays (to_map (λ (f : ArrayId × Fold). f.0.0) folds (array, fold) i)) (trees_of a.cert.flow) z.0 z.2 (read.arrays z.0 z.1) (shown.folds_right z.0 z.1);
      },
    )
