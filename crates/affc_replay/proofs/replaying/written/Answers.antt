use Rattle.affc_replay.proofs.replaying.written.Goals as goal

pub finish-requires-clause-within : goal.finish-requires-clause-within
finish-requires-clause-within c = c.requires.decided.within

pub finish-requires-clause-in_program : goal.finish-requires-clause-in_program
finish-requires-clause-in_program c = c.requires.decided.fold_all.in_program

pub finish-requires-clause-limits : goal.finish-requires-clause-limits
finish-requires-clause-limits c = c.requires.decided.fold_all.limits

pub returns-in-Ok-clause-ok : goal.returns-in-Ok-clause-ok
returns-in-Ok-clause-ok c = record { folds = c.args.folds.now; decided = c.requires.decided; made = c.in-Ok.ensures.ok }

pub finish-requires-clause-plain : goal.finish-requires-clause-plain
finish-requires-clause-plain c = c.requires.replaying.plain

pub finish-requires-clause-nest : goal.finish-requires-clause-nest
finish-requires-clause-nest c = c.requires.replaying.is

pub finish-requires-clause-fits : goal.finish-requires-clause-fits
finish-requires-clause-fits c = c.requires.replaying.fits

pub finish-requires-clause-slight : goal.finish-requires-clause-slight
finish-requires-clause-slight c = c.requires.replaying.slight
