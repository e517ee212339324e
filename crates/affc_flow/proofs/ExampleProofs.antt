-- Each example computes.
use Rattle.std.proofs.Common.{refl}
use Rattle.affc_flow.specs.Examples.{RowsOfAStore, OwnStoreIsLater, NoSuchStore, NoStore, LoadsInOrder}

pub rows_of_a_store : RowsOfAStore
rows_of_a_store = refl

pub own_store_is_later : OwnStoreIsLater
own_store_is_later = refl

pub no_such_store : NoSuchStore
no_such_store = (refl, refl)

pub no_store : NoStore
no_store = (refl, refl, refl)

pub loads_in_order : LoadsInOrder
loads_in_order = refl
