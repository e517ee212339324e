-- Loops turn as long as their condition holds.
use Rattle.std.proofs.Common.{◌≡◌, suc, ℤ, pos, ◌+ℤ◌, ◌<ℤ◌, ◌≤ℤ◌, arith}
use Rattle.std.proofs.lemmas.Int.{ints}
use Rattle.affc_ast.specs.declared.tree.Rel.TheVariants.{Less, LessEqual}
use Rattle.affc_ast.specs.Meaning.{turns_of}

pub one_turn_below : (x high : ℤ) → x <ℤ high → turns_of Less x high ≡ suc (turns_of Less (x +ℤ pos 1) high)
one_turn_below x high h = grind (arith, ints)

pub no_turn_below : (x high : ℤ) → high ≤ℤ x → turns_of Less x high ≡ 0
no_turn_below x high h = grind (arith, ints)

pub one_turn_up_to : (x high : ℤ) → x ≤ℤ high → turns_of LessEqual x high ≡ suc (turns_of LessEqual (x +ℤ pos 1) high)
one_turn_up_to x high h = grind (arith, ints)

pub no_turn_up_to : (x high : ℤ) → high <ℤ x → turns_of LessEqual x high ≡ 0
no_turn_up_to x high h = grind (arith, ints)
