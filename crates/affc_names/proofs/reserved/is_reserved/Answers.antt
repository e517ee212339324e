use Rattle.affc_names.proofs.ReservedTests.{reserved_is}
use Rattle.affc_names.proofs.reserved.is_reserved.Goals as goal

pub returns : goal.returns
returns c =
    reserved_is c.args.name.now _ _ _ _ c.is_keyword-listed.ensures c.begins_reserved-begins.ensures
    (rw c.as_bytes.ensures.value at c.ends_with-ends.ensures.value) c.eq-main.ensures
