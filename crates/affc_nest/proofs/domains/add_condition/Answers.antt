use Rattle.std.proofs.Common.{sym}
use Rattle.std.proofs.lemmas.Result.{on_ok_weaker}
use Rattle.affc_nest.proofs.CondLemmas.{plain_if, counted_if, room_by, grows_by}
use Rattle.affc_nest.proofs.domains.add_condition.Goals as goal

pub add_cond-requires-clause-plain : goal.add_cond-requires-clause-plain
add_cond-requires-clause-plain c = plain_if c.args.names c.args.is_denied c.args.cond.now c.requires.plain

pub add_cond-requires-clause-room : goal.add_cond-requires-clause-room
add_cond-requires-clause-room c = room_by _ _ _ (counted_if c.args.is_denied c.args.cond.now) c.requires.room

pub returns-clause-grows : goal.returns-clause-grows
returns-clause-grows c = on_ok_weaker c.add_cond.result (grows_by _ _ _ _ (sym (counted_if c.args.is_denied c.args.cond.now))) c.add_cond.ensures.grows
