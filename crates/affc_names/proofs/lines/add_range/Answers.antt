use Rattle.std.proofs.Common.{sym, ◌∙◌}
use Rattle.affc_names.proofs.LineLaws.{range_there, range_added}
use Rattle.affc_names.proofs.lines.add_range.Goals as goal
use Rattle.affc_names.proofs.lines.add_range.Goals.{in-Ok, in-Err}

pub returns-then-contains_key : goal.returns-then-contains_key
returns-then-contains_key c = range_there c.args.ranges.now.entries c.args.name.now c.args.range (sym c.contains_key.ensures ∙ c.if-contains_key.true)

pub returns : goal.returns
returns c = elim c.match-insert.branch [
  | in-Ok w ↦ rw w.result-is (range_added c.args.ranges.now.entries c.insert.new.self.entries c.in_ok-name.name c.args.name.now c.args.range c.in_ok-name.ensures.ok (sym c.contains_key.ensures ∙ c.if-contains_key.false) w.in-Ok.ensures.entries)
  | in-Err w ↦ rw w.result-is tt
]
