-- What is known of the ends of a component, where the names before it are in sight.
use Rattle.std.proofs.Common.{◌≡◌, ℕ, suc, ◌^◌, ◌≤◌, pos, true, arith, ◌∙◌}
use Rattle.std.proofs.lemmas.Bool.{and_from, lt-ltb}
use Rattle.std.proofs.lemmas.Int.{ints}
use Rattle.affc_ast.specs.declared.tree.Ix.{Ix}
use Rattle.affc_ast.proofs.Steps.{min_here, max_here, floord_here, ceild_here}
use Rattle.affc_domain.proofs.Lists.{le_true}
use Rattle.affc_wellnamed.specs.Known.{Known, is_divisor, ix_step, ix_known}
use Rattle.affc_loopprint.proofs.EndCases.{EndCases}
use Rattle.affc_loopprint.proofs.Sums.{sums_known, number_has, narrow_has}

-- where calls may stand, and there are so many names at least
abbrev pub KnownAt : (column : ℕ) → Ix → Type 0
KnownAt column e = (known : Known) → known.prelude ≡ true → column ≤ known.numbers → ix_known known e ≡ true

divisor_known : (n : ℕ) → suc n ≤ 2 ^ 62 → is_divisor (pos (suc n)) ≡ true
divisor_known n h = and_from _ _ (le_true (pos 1) (pos (suc n)) (omega (arith, ints))) (lt-ltb (suc n) (2 ^ 64) (omega (arith, h)))

pub known_cases : (first : ℕ) → EndCases first KnownAt (λ operands deep. KnownAt)
known_cases first = record {
  range_end = λ column z h known calls l. number_has (λ e. ix_known known e ≡ true) known.numbers (sums_known known) z h;
  form = λ column f l wide s k known calls m. narrow_has (λ e. ix_known known e ≡ true) known.numbers (sums_known known) first first f s k (omega (arith, l, m)) (omega (arith, l, wide, m));
  form_alone = λ column e h. h;
  up = λ column by e s h known calls l. ceild_here (ix_step known) e (pos (suc by)) ∙ and_from _ _ calls (and_from _ _ (divisor_known by s) (h known calls l));
  down = λ column by e s h known calls l. floord_here (ix_step known) e (pos (suc by)) ∙ and_from _ _ calls (and_from _ _ (divisor_known by s) (h known calls l));
  least = λ m n d column a b h k known calls l. min_here (ix_step known) a b ∙ and_from _ _ calls (and_from _ _ (h known calls l) (k known calls l));
  greatest = λ m n d column a b h k known calls l. max_here (ix_step known) a b ∙ and_from _ _ calls (and_from _ _ (h known calls l) (k known calls l));
  more = λ m n d k column e a b h. h;
}
