-- What a certificate without folds keeps.
use Rattle.std.proofs.Common.{◌≡◌, List, [], sym, subst, ap, ◌∙◌}
use Rattle.std.specs.Prelude.{length}
use Rattle.affc_trace.specs.Law.{IsIn}
use Rattle.affc_nest.specs.declared.nest.Nest.{Nest}
use Rattle.affc_quast.specs.Limits.{HaveShapes}
use Rattle.affc_quast.specs.Seen.{trees_of}
use Rattle.affc_quast.specs.Trees.{Tree}
use Rattle.affc_life.specs.Asked.{KeepLimits}
use Rattle.affc_cert.specs.declared.cert.Cert.{Cert}
use Rattle.affc_certvalue.specs.declared.fold.fold.CertFold.{CertFold}
use Rattle.affc_check.specs.list.Certs.{IsCertWithin, IsFoldFor, IsFoldWithin}
use Rattle.affc_certify.specs.Asked.{AreAsked}

pub no_folds : (nest : Nest) (trees : List Tree) (c : Cert) → AreAsked nest trees → trees_of c.flow ≡ trees → c.folds ≡ [] → IsCertWithin nest c
no_folds nest trees c h e none = record {
  certificate = record {
    shapes = subst (HaveShapes nest) (sym e) h.shapes;
    folds = λ f i. absurd (subst (IsIn f) none i);
  };
  trees = subst (KeepLimits nest) (sym e) h.limits;
  no_more = ap length e ∙ h.no_more;
  folds = λ f i. absurd (subst (IsIn f) none i);
}
