use Rattle.std.proofs.Common.{◌≡◌, length, rules}
use Rattle.affc_rewrite.specs.Sizes.{IsPrintable}
use Rattle.affc_rewrite.proofs.Foldings.{shorter_than, moduli_rest}
use Rattle.affc_rewrite.proofs.temporaries.+add_moduli.Goals as goal

pub add_moduli-requires : goal.add_moduli-requires
add_moduli-requires t c = (
  (let e : length c.args.moduli.now ≡ t = first_of (cc (c.decreases), search (rules, c.decreases)) in shorter_than c.args.moduli.now t c.in-len1-up.len_at_least e),
  moduli_rest (IsPrintable c.args.parameters) c.args.moduli.now c.in-len1-up.len_at_least c.requires,
)
