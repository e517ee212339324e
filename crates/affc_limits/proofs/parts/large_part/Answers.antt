use Rattle.std.proofs.Common.{◌≡◌, true, is_some, sym, ap, ◌∙◌}
use Rattle.affc_syntax.specs.draft.Drafts.{ix}
use Rattle.affc_limits.specs.Parts.{is_found_by, least_token}
use Rattle.affc_limits.specs.Places.{lesser}
use Rattle.affc_limits.proofs.PartLaws.{lesser-none, none_before, none_large}
use Rattle.affc_limits.proofs.parts.large_part.Goals as goal

pub returns-then-is_some : goal.returns-then-is_some
returns-then-is_some c =
    let h : is_some c.size.result ≡ true = sym c.is_some.ensures ∙ c.if-is_some.true in
    sym (ap (lesser c.args.before) (none_large (ix c.args.e.now) (ap is_some (sym c.size.ensures.value) ∙ h)) ∙ lesser-none c.args.before)

pub returns-then-is_found_by : goal.returns-then-is_found_by
returns-then-is_found_by c =
    let h : is_found_by c.args.before (least_token (ix c.args.e.now)) ≡ true = ap (is_found_by c.args.before) (sym c.least_token.ensures) ∙ sym c.is_found_by.ensures ∙ c.if-is_found_by.true in
    none_before c.args.before (ix c.args.e.now) h

pub returns : goal.returns
returns c = c.lesser.ensures ∙ ap (lesser c.args.before) c.in_ok-whole.ensures.past
