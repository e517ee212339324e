use Rattle.affc_names.proofs.Tables.{inserted}
use Rattle.affc_names.proofs.scope.insert.Goals as goal
use Rattle.affc_names.proofs.scope.insert.Goals.{in-Ok, in-Err}

pub returns-clause-added : goal.returns-clause-added
returns-clause-added c = elim c.match-insert.branch [
  | in-Ok w ↦ rw w.result-is (inserted c.args.things.now.entries c.insert.new.self.entries c.in_ok-name.name c.args.name.now c.args.thing c.in_ok-name.ensures.ok c.requires.apart c.requires.absent w.in-Ok.ensures.entries)
  | in-Err w ↦ rw w.result-is tt
]
