use Rattle.affc_domain.proofs.OrderLemmas.{order_of_the_text}
use Rattle.affc_domain.proofs.laws.order_of_the_text.Goals as goal

pub returns : goal.returns
returns c = record { law = order_of_the_text }
