use Rattle.std.proofs.Common.{◌≡◌, List, length, map, rules, ap, ◌∙◌}
use Rattle.affc_ast.specs.declared.tree.Program.{Program}
use Rattle.affc_trace.specs.declared.schedule.TimeMap.{TimeMap}
use Rattle.affc_nest.specs.declared.nest.Nest.{Nest}
use Rattle.affc_nest.specs.Sites.{Place, places, places_of}
use Rattle.affc_scan.specs.declared.gathered.Gathered.{Gathered}
use Rattle.affc_scan.specs.declared.alive.Alive.{Alive}
use Rattle.affc_scan.specs.Alive.{numbered}
use Rattle.affc_scan.specs.Numbered.{numbered_in}
use Rattle.affc_scan.proofs.Whole.{printable_there, spans_there, ordered_there, projects_there, between_there}
use Rattle.affc_scan.proofs.target.scan_times.Goals as goal

pub projected-requires-clause-spans : goal.projected-requires-clause-spans
projected-requires-clause-spans c =
    let program : Program = c.args.program.now in
    let nest : Nest = c.args.nest.now in
    let maps : List TimeMap = c.args.maps.now in
    let found : List Place = places c.as_slice.result.now in
    let ps : List Alive = c.as_slice-statements.result.now in
    let walked : found ≡ places_of program = ap places c.as_slice.ensures.value ∙ c.in_ok-sites.ensures in
    let entries : c.as_slice-entries.result.now ≡ nest.entries = first_of (cc, search rules, search (rules, c.as_slice-entries.ensures), cc (c.as_slice-entries.ensures)) in
    let statements : map numbered ps ≡ numbered_in found maps nest.entries =
    ap (map numbered) c.as_slice-statements.ensures.value ∙ c.in_ok-found.ensures ∙ ap (λ es. numbered_in found maps es) entries in
    spans_there program nest c.args.length maps found ps c.requires.nest walked statements

pub projected-requires-clause-ordered : goal.projected-requires-clause-ordered
projected-requires-clause-ordered c =
    let program : Program = c.args.program.now in
    let nest : Nest = c.args.nest.now in
    let maps : List TimeMap = c.args.maps.now in
    let found : List Place = places c.as_slice.result.now in
    let ps : List Alive = c.as_slice-statements.result.now in
    let walked : found ≡ places_of program = ap places c.as_slice.ensures.value ∙ c.in_ok-sites.ensures in
    let entries : c.as_slice-entries.result.now ≡ nest.entries = first_of (cc, search rules, search (rules, c.as_slice-entries.ensures), cc (c.as_slice-entries.ensures)) in
    let statements : map numbered ps ≡ numbered_in found maps nest.entries =
    ap (map numbered) c.as_slice-statements.ensures.value ∙ c.in_ok-found.ensures ∙ ap (λ es. numbered_in found maps es) entries in
    ordered_there program nest c.args.length maps found ps c.requires.nest walked statements

pub projected-requires-clause-statements : goal.projected-requires-clause-statements
projected-requires-clause-statements c =
    let program : Program = c.args.program.now in
    let nest : Nest = c.args.nest.now in
    let maps : List TimeMap = c.args.maps.now in
    let found : List Place = places c.as_slice.result.now in
    let ps : List Alive = c.as_slice-statements.result.now in
    let walked : found ≡ places_of program = ap places c.as_slice.ensures.value ∙ c.in_ok-sites.ensures in
    let entries : c.as_slice-entries.result.now ≡ nest.entries = first_of (cc, search rules, search (rules, c.as_slice-entries.ensures), cc (c.as_slice-entries.ensures)) in
    let statements : map numbered ps ≡ numbered_in found maps nest.entries =
    ap (map numbered) c.as_slice-statements.ensures.value ∙ c.in_ok-found.ensures ∙ ap (λ es. numbered_in found maps es) entries in
    projects_there program nest c.args.length maps found ps c.requires.nest walked statements

pub body-requires-clause-printable : goal.body-requires-clause-printable
body-requires-clause-printable c =
    let program : Program = c.args.program.now in
    let nest : Nest = c.args.nest.now in
    let maps : List TimeMap = c.args.maps.now in
    let found : List Place = places c.as_slice.result.now in
    let ps : List Alive = c.as_slice-statements.result.now in
    let walked : found ≡ places_of program = ap places c.as_slice.ensures.value ∙ c.in_ok-sites.ensures in
    let entries : c.as_slice-entries.result.now ≡ nest.entries = first_of (cc, search rules, search (rules, c.as_slice-entries.ensures), cc (c.as_slice-entries.ensures)) in
    let statements : map numbered ps ≡ numbered_in found maps nest.entries =
    ap (map numbered) c.as_slice-statements.ensures.value ∙ c.in_ok-found.ensures ∙ ap (λ es. numbered_in found maps es) entries in
    let first : length c.ranges-2.result.now ≡ length nest.params = ap length c.ranges-2.ensures.ranges in
    printable_there program nest c.args.length maps found ps c.requires.nest walked statements (length c.ranges-2.result.now) first

pub returns : goal.returns
returns c =
    let program : Program = c.args.program.now in
    let nest : Nest = c.args.nest.now in
    let maps : List TimeMap = c.args.maps.now in
    let found : List Place = places c.as_slice.result.now in
    let ps : List Alive = c.as_slice-statements.result.now in
    let walked : found ≡ places_of program = ap places c.as_slice.ensures.value ∙ c.in_ok-sites.ensures in
    let entries : c.as_slice-entries.result.now ≡ nest.entries = first_of (cc, search rules, search (rules, c.as_slice-entries.ensures), cc (c.as_slice-entries.ensures)) in
    let statements : map numbered ps ≡ numbered_in found maps nest.entries =
    ap (map numbered) c.as_slice-statements.ensures.value ∙ c.in_ok-found.ensures ∙ ap (λ es. numbered_in found maps es) entries in
    let first : length c.ranges-2.result.now ≡ length nest.params = ap length c.ranges-2.ensures.ranges in
    let made : Gathered = c.in_ok-ends.field-0 in
    between_there program nest c.args.length maps found ps c.requires.nest walked statements (length c.ranges-2.result.now) made first c.in_ok-ends.ensures.all
    c.in_ok-body.body c.in_ok-program.program c.in_ok-body.ensures c.in_ok-program.ensures
