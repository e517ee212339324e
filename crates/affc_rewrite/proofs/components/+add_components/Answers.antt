use Rattle.std.proofs.Common.{◌≡◌, length, rules}
use Rattle.affc_rewrite.specs.Sizes.{IsRow, IsPrintable}
use Rattle.affc_rewrite.proofs.Foldings.{shorter_than, all_rest, moduli_rest, few_left}
use Rattle.affc_rewrite.proofs.components.+add_components.Goals as goal

pub add_components-requires : goal.add_components-requires
add_components-requires t c = (
  (let e : length c.args.rows.now ≡ t = first_of (cc (c.decreases), search (rules, c.decreases)) in shorter_than c.args.rows.now t c.in-len1-up.len_at_least e),
  (
    c.requires.access,
    (
      all_rest (IsRow (length c.args.access.now.forms.now)) c.args.rows.now c.in-len1-up.len_at_least c.requires.rows,
      (
        moduli_rest (IsPrintable c.args.access.now.parameters) c.args.moduli.now c.in-len1-up-moduli.len_at_least c.requires.moduli,
        few_left c.args.rows.now c.args.k c.in-len1-up.len_at_least c.requires.few,
      ),
    ),
  ),
)
