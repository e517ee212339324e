use Rattle.std.proofs.Common.{◌≡◌, ◌<◌, true, false, length, map, sym, ◌∙◌, arith, rules}
use Rattle.std.specs.List.{list_any}
use Rattle.affc_schedtext.specs.Rules.{statements_in}
use Rattle.affc_schedtext.specs.Seen.{line_seen}
use Rattle.affc_plan.specs.Lines.{is_of_statement}
use Rattle.affc_plan.proofs.LineLaws.{lines_any, all_so_far, one_missing}
use Rattle.affc_plan.proofs.breach.has_all.Goals as goal

pub returns-then-not-has_line : goal.returns-then-not-has_line
returns-then-not-has_line c =
    let o = c.args.outline.now in
    let ls = c.args.lines.now in
    let k = c.loop-number.number in
    let none : list_any (is_of_statement o k) ls ≡ false = first_of (cc, search rules) in
    let less : k < length o.statements = omega arith in
    sym (one_missing k (length o.statements) (statements_in o (map line_seen ls)) less (sym (lines_any o k ls) ∙ none))

pub loop-number-preserved : goal.loop-number-preserved
loop-number-preserved c =
    let o = c.args.outline.now in
    let ls = c.args.lines.now in
    let k = c.loop-number.number in
    let some : list_any (is_of_statement o k) ls ≡ true = first_of (cc, search rules) in
    all_so_far k (statements_in o (map line_seen ls)) (sym (lines_any o k ls) ∙ some) c.loop-number.invariant
