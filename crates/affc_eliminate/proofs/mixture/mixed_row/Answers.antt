use Rattle.std.proofs.Common.{◌≡◌, ◌++◌, ◌∷◌, [], ◌∙◌, ap, length, pos, ◌+ℤ◌, ◌*ℤ◌, ◌+◌, rules}
use Rattle.std.specs.Prelude.{FitsSigned}
use Rattle.std.specs.Int.{w128}
use Rattle.std.proofs.lemmas.Int.{to_z-of_z}
use Rattle.std.proofs.lemmas.List.{length_push}
use Rattle.affc_farkas.specs.Multiples.{entry_of}
use Rattle.affc_eliminate.proofs.Quotients.{quotients_more}
use Rattle.affc_eliminate.proofs.mixture.mixed_row.Goals as goal

pub loop-column-preserved : goal.loop-column-preserved
loop-column-preserved c =
    let old = c.loop-column.coefs.items in
    let part = c.in-Some.part in
    let fits : FitsSigned w128 part = search rules in
    let e : c.push.new.self.items ≡ old ++ part ∷ [] = search (rules, to_z-of_z) in
    let inv = c.loop-column.invariant in
    record {
      width = ap length e ∙ length_push old part ∙ ap (λ n. n + 1) inv.width;
      made = quotients_more c.args.divisor (λ j. (pos c.args.s *ℤ entry_of c.args.first.now j) +ℤ (pos c.args.t *ℤ entry_of c.args.second.now j)) old c.push.new.self.items c.loop-column.column part
          inv.width e inv.made c.in-Some.ensures.some;
    }
