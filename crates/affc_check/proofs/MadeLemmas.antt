-- The folds that a certificate says.
use Rattle.std.proofs.Common.{◌≡◌, ℤ, Bool, true, false, if◌then◌else◌, List, [], ◌∷◌, ◌++◌, length, map, Option, Some, refl, sym, ap, subst, arith, ◌∙◌}
use Rattle.std.specs.List.{AllZip}
use Rattle.affc_ast.specs.declared.tree.ArrayId.{ArrayId}
use Rattle.affc_rows.specs.Forms.{Affine}
use Rattle.affc_system.specs.declared.pairs.PairSystem.{PairSystem}
use Rattle.affc_trace.specs.declared.schedule.Schedule.{Schedule}
use Rattle.affc_trace.proofs.EndedReads.{append_assoc}
use Rattle.affc_trace.proofs.LastStores.{append_nil}
use Rattle.affc_basis.specs.declared.fold.Fold.{Fold}
use Rattle.affc_basis.specs.declared.fold.Mark.{Mark}
use Rattle.affc_basis.specs.declared.fold.Modulus.{Modulus}
use Rattle.affc_nest.specs.declared.nest.Nest.{Nest}
use Rattle.affc_quast.specs.Trees.{Tree}
use Rattle.affc_certvalue.specs.declared.fold.fold.CertFold.{CertFold}
use Rattle.affc_certvalue.specs.declared.fold.fold.CertModulus.{CertModulus}
use Rattle.affc_check.specs.Answers.{IsFoldMade}
use Rattle.affc_check.specs.list.Certs.{AreFoldsSaid, least_said, modulus_said}
use Rattle.affc_check.specs.list.Items.{ModulusShown, FoldShown, mark_of, moduli_of}
use Rattle.affc_life.specs.Clashes.{Clash}
use Rattle.affc_check.specs.Made.{IsMarkFit, AreRowsFit, MarkFits, RowsFit, IsMadeOf, AreMade}

abbrev both : List ℤ → List ℤ → Option (List ℤ × List ℤ)
both x y = Some (x, y)

-- the two elements in order
pub behind_pair : (b : Bool) (v w x y : List ℤ) → b ≡ true → x ≡ v → y ≡ w → (if b then both v w else both w v) ≡ both x y
behind_pair b v w x y e f g = ap (λ t. if t then both v w else both w v) e ∙ ap (λ z. both z w) (sym f) ∙ ap (λ z. both x z) (sym g)

pub ahead_pair : (b : Bool) (v w x y : List ℤ) → b ≡ false → x ≡ v → y ≡ w → (if b then both v w else both w v) ≡ both y x
ahead_pair b v w x y e f g = ap (λ t. if t then both v w else both w v) e ∙ ap (λ z. both z v) (sym g) ∙ ap (λ z. both y z) (sym f)

pub next_modulus : (systems : List PairSystem) (more rows : List Affine) (row : Affine) (ms rest : List CertModulus) (m : CertModulus) (mark : Mark) (form : Affine) (old mid new : List Modulus)
    → more ≡ row ∷ rows → ms ≡ m ∷ rest → form ≡ m.form → mark ≡ mark_of systems row (least_said m.least) → mid ≡ old ++ record { form = form; mark = mark } ∷ []
    → new ≡ mid ++ moduli_of systems rows (map modulus_said rest) → new ≡ old ++ moduli_of systems more (map modulus_said ms)
next_modulus systems more rows row ms rest m mark form old mid new i j f k a b =
    let behind = moduli_of systems rows (map modulus_said rest) in
    b ∙ ap (λ z. z ++ behind) a ∙ append_assoc old (record { form = form; mark = mark } ∷ []) behind
    ∙ ap (λ g. old ++ (record { form = g; mark = mark } ∷ behind)) f ∙ ap (λ g. old ++ (record { form = m.form; mark = g } ∷ behind)) k
    ∙ ap (λ z. old ++ moduli_of systems z (map modulus_said (m ∷ rest))) (sym i) ∙ ap (λ z. old ++ moduli_of systems more (map modulus_said z)) (sym j)

pub no_rows_made : (ss : List PairSystem) (more : List Affine) (ms : List ModulusShown) (old : List Modulus) → more ≡ [] → old ≡ old ++ moduli_of ss more ms
no_rows_made ss more ms old e = sym (append_nil old) ∙ ap (λ z. old ++ moduli_of ss z ms) (sym e)

pub no_moduli_made : (ss : List PairSystem) (more rest : List Affine) (row : Affine) (ms : List ModulusShown) (old : List Modulus) → more ≡ row ∷ rest → ms ≡ [] → old ≡ old ++ moduli_of ss more ms
no_moduli_made ss more rest row ms old e f = sym (append_nil old) ∙ ap (λ z. old ++ moduli_of ss (row ∷ rest) z) (sym f) ∙ ap (λ z. old ++ moduli_of ss z ms) (sym e)

module _ (cs : List Clash) (more others : List Affine) (row : Affine) (ms rest : List CertModulus) (m : CertModulus) (is : more ≡ row ∷ others) (js : ms ≡ m ∷ rest) where
  parts_fit : (h : RowsFit cs more (map modulus_said ms)) → IsMarkFit h.systems (least_said m.least) × AreRowsFit h.systems others (map modulus_said rest)
  parts_fit h = subst (λ z. AreRowsFit h.systems (row ∷ others) (map modulus_said z)) js (subst (λ z. AreRowsFit h.systems z (map modulus_said ms)) is h.fit)

  pub first_fits : RowsFit cs more (map modulus_said ms) → MarkFits cs (least_said m.least)
  first_fits h = record { systems = h.systems; are = h.are; fit = (parts_fit h).0 }

  pub others_fit : RowsFit cs more (map modulus_said ms) → RowsFit cs others (map modulus_said rest)
  others_fit h = record { systems = h.systems; are = h.are; fit = (parts_fit h).1 }

pub as_many : (systems : List PairSystem) (rows : List Affine) (ms : List ModulusShown) → length ms ≡ length rows → length (moduli_of systems rows ms) ≡ length rows
as_many systems [] ms e = refl
as_many systems (row ∷ rows) [] e = absurd (omega (arith, e))
as_many systems (row ∷ rows) (m ∷ ms) e = let h = as_many systems rows ms (omega (arith, e)) in omega (arith, h)

pub nothing_made : (nest : Nest) (schedule : Schedule) (trees : List Tree) (cs : List CertFold) (old : List (ArrayId × Fold)) → cs ≡ [] → AreMade nest schedule trees cs old old
nothing_made nest schedule trees cs old e = subst (λ z. AreMade nest schedule trees z old old) (sym e) (record { made = []; put = sym (append_nil old); each = tt })

pub next_made : (nest : Nest) (schedule : Schedule) (trees : List Tree) (cs rest : List CertFold) (c : CertFold) (m : ArrayId × Fold) (old mid new : List (ArrayId × Fold))
    → cs ≡ c ∷ rest → IsMadeOf nest schedule trees c m → mid ≡ old ++ m ∷ [] → AreMade nest schedule trees rest mid new → AreMade nest schedule trees cs old new
next_made nest schedule trees cs rest c m old mid new i made a h =
    subst (λ z. AreMade nest schedule trees z old new) (sym i)
    (record {
      made = m ∷ h.made;
      put = h.put ∙ ap (λ z. z ++ h.made) a ∙ append_assoc old (m ∷ []) h.made;
      each = (made, h.each);
    })

-- each fold that is said is made
each_made : (nest : Nest) (schedule : Schedule) (trees : List Tree) (cs : List CertFold) (fs : List FoldShown) (made : List (ArrayId × Fold)) → AreFoldsSaid nest schedule trees cs fs → AllZip (IsMadeOf nest schedule trees) cs made → AllZip IsFoldMade fs made
each_made nest schedule trees [] [] [] said h = tt
each_made nest schedule trees [] [] (m ∷ ms) said h = absurd h
each_made nest schedule trees [] (f ∷ fs) made said h = absurd said
each_made nest schedule trees (c ∷ cs) [] made said h = absurd said
each_made nest schedule trees (c ∷ cs) (f ∷ fs) [] said h = absurd h
each_made nest schedule trees (c ∷ cs) (f ∷ fs) (m ∷ ms) said h = (h.0 f said.0, each_made nest schedule trees cs fs ms said.1 h.1)

pub all_made : (nest : Nest) (schedule : Schedule) (trees : List Tree) (cs : List CertFold) (fs : List FoldShown) (old new : List (ArrayId × Fold)) → old ≡ [] → AreFoldsSaid nest schedule trees cs fs → AreMade nest schedule trees cs old new
    → AllZip IsFoldMade fs new
all_made nest schedule trees cs fs old new e said h = subst (AllZip IsFoldMade fs) (sym (h.put ∙ ap (λ z. z ++ h.made) e)) (each_made nest schedule trees cs fs h.made said h.each)
