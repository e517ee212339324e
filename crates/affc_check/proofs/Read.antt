-- What is known of a certificate for a program's nest.
use Rattle.std.proofs.Common.{◌≡◌, zero, suc, List, [], ◌∷◌, length, map, Some, refl, sym, subst, ap, ◌∙◌, inl, inr}
use Rattle.std.specs.Prelude.{slice_get}
use Rattle.std.specs.List.{All}
use Rattle.affc_trace.specs.declared.schedule.Schedule.{Schedule}
use Rattle.affc_trace.specs.Law.{IsIn}
use Rattle.affc_basis.specs.Moduli.{IsModulus}
use Rattle.affc_nest.specs.declared.nest.Nest.{Nest}
use Rattle.affc_nest.specs.Nests.{nest_of}
use Rattle.affc_quast.specs.Seen.{trees_of}
use Rattle.affc_quast.specs.Trees.{Tree}
use Rattle.affc_life.specs.Clashes.{clash_of, clashes}
use Rattle.affc_life.proofs.LightLemmas.{all_map}
use Rattle.affc_certvalue.specs.declared.fold.fold.CertFold.{CertFold}
use Rattle.affc_certvalue.specs.declared.fold.fold.CertModulus.{CertModulus}
use Rattle.affc_check.specs.list.Certs.{modulus_said, IsFoldSaid, AreFoldsSaid, IsFoldFor}
use Rattle.affc_check.specs.list.Items.{Question, Shown, ModulusShown, FoldShown}
use Rattle.affc_check.specs.Laws.{CertsAreRead, ValidCertsGive, FailingIsNotValid}
use Rattle.affc_check.specs.Valid.{AreValid}
use Rattle.affc_check.proofs.Gives.{valid_gives}

-- each fold that is said is one of the certificate's
said_of : (nest : Nest) (schedule : Schedule) (trees : List Tree) (cs : List CertFold) (fs : List FoldShown) → AreFoldsSaid nest schedule trees cs fs → (f : FoldShown) → IsIn f fs
    → (c : CertFold) × IsIn c cs × IsFoldSaid nest schedule trees c f
said_of nest schedule trees [] [] h f i = absurd i
said_of nest schedule trees [] (g ∷ fs) h f i = absurd h
said_of nest schedule trees (c ∷ cs) [] h f i = absurd i
said_of nest schedule trees (c ∷ cs) (g ∷ fs) h f (inl e) = (c, inl refl, subst (IsFoldSaid nest schedule trees c) (sym e) h.0)
said_of nest schedule trees (c ∷ cs) (g ∷ fs) h f (inr i) = let r = said_of nest schedule trees cs fs h.1 f i in (r.0, inr r.1, r.2)

pub certs_are_read : CertsAreRead
certs_are_read program schedule c folds has named fits for said = record {
  has = has;
  named = named;
  fits = fits;
  shapes = for.shapes;
  arrays = λ f i.
      let s = said_of (nest_of program) schedule (trees_of c.flow) c.folds folds said f i in
      let a : IsFoldFor (nest_of program) s.0 = for.folds s.0 s.1 in
      record {
        info = a.info;
        declared = subst (λ n. slice_get (nest_of program).arrays n ≡ Some a.info) (sym s.2.array) a.declared;
        dimensions = ap length s.2.rows ∙ a.dimensions;
        moduli = subst (All (λ (m : ModulusShown). IsModulus (nest_of program).context.columns m.form)) (sym s.2.moduli)
            (all_map (λ (m : CertModulus). IsModulus (nest_of program).context.columns m.form) (λ (m : ModulusShown). IsModulus (nest_of program).context.columns m.form) modulus_said (λ m h. h) s.0.moduli a.moduli);
        systems = subst (λ n. map clash_of f.systems ≡ clashes (nest_of program) (trees_of c.flow) schedule n) (sym s.2.array) s.2.systems;
      };
}

pub valid_certs_give : ValidCertsGive
valid_certs_give program schedule c is has named fits for items valid =
    valid_gives program schedule c.context (trees_of c.flow) items.folds c.proofs (certs_are_read program schedule c items.folds has named fits for items.said) (subst (λ is. AreValid is c.proofs) items.are valid)

pub failing_is_not_valid : FailingIsNotValid
failing_is_not_valid [] proofs n f v = f
failing_is_not_valid (Shown system point ∷ is) proofs zero f v = f v.0
failing_is_not_valid (Shown system point ∷ is) proofs (suc n) f v = failing_is_not_valid is proofs n f.1 v.1
failing_is_not_valid (Question system ∷ is) [] n f v = v
failing_is_not_valid (Question system ∷ is) (proof ∷ proofs) zero f v = f v.0
failing_is_not_valid (Question system ∷ is) (proof ∷ proofs) (suc n) f v = failing_is_not_valid is proofs n f.1 v.1
