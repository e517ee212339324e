use Rattle.std.proofs.Common.{◌-◌, length, sym, subst}
use Rattle.affc_trace.specs.Law.{IsIn}
use Rattle.affc_domain.proofs.Lists.{stands_in}
use Rattle.affc_life.proofs.walk.add_writer.Goals as goal

pub add_store-requires-clause-store : goal.add_store-requires-clause-store
add_store-requires-clause-store c =
    subst (IsIn c.in-Some.store.now) c.as_slice.ensures (stands_in c.as_slice.result.now (length c.as_slice.result.now - 1) c.in-Some.store.now (sym c.in-Some.ensures.value))
