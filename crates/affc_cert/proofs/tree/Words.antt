-- The numbers of trees within the limits fit 64 bits.
use Rattle.affc_cert.specs.tree.Limits.{FitsTree}
use Rattle.affc_certvalue.proofs.Within.{small_fits, all_weaker}
use Rattle.affc_certvalue.specs.Limits as value
use Rattle.affc_quast.specs.Limits as quast
use Rattle.affc_quast.specs.Limits.{FitsForm, widest}
use Rattle.affc_quast.specs.Seen.{seen}
use Rattle.affc_quast.specs.declared.quast.Quast.{Quast, Test', Div', Source, Input}
use Rattle.affc_rows.specs.Forms.{Affine}
use Rattle.std.proofs.Common.{arith}

form_words : (f : Affine) → FitsForm widest f → value.FitsForm f
form_words f h = small_fits 16777216 1125899906842624 f (omega arith) (omega arith) (record { coefs = h.coefs_fit; constant = h.constant_fits })

pub tree_fits : (t : Quast) → quast.FitsTree widest (seen t) → FitsTree t
tree_fits (Test' f p on q off) h = (form_words f h.0, tree_fits on h.1, tree_fits off h.2)
tree_fits (Div' f by p rest) h = (form_words f h.0, tree_fits rest h.2)
tree_fits (Source s fs) h = all_weaker (FitsForm widest) value.FitsForm form_words fs h
tree_fits Input h = tt
