use Rattle.affc_domain.proofs.FormLemmas.{forms_have_the_value}
use Rattle.affc_domain.proofs.laws.forms_have_the_value.Goals as goal

pub returns : goal.returns
returns c = record { law = forms_have_the_value }
