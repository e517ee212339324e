-- The names of a schedule's loops: each is new where a program keeps the rules on names, and they differ from one another.
use Rattle.std.proofs.Common.{◌≡◌, ℕ, ◌^◌, ◌<◌, true, false, List, decimal, refl, sym, ap, ◌∙◌, arith}
use Rattle.std.proofs.lemmas.Bool.{false≢true}
use Rattle.affc_lex.specs.Bytes.{same, decimal as value_of}
use Rattle.affc_lex.specs.Pieces.{is_word}
use Rattle.affc_ast.specs.Names.{is_reserved}
use Rattle.affc_grammar.specs.Names.{is_time_name}
use Rattle.affc_loops.specs.Loops.{time_name}
use Rattle.affc_cprint.proofs.Numbers.{value_of-decimal, digits_of_decimal}
use Rattle.affc_cprint.proofs.Sees.{same_is}
use Rattle.affc_cprint.proofs.Spelled.{decimal_is_number, letters_of_digits, not_true}

pub time_is_word : (n : ℕ) → n < 2 ^ 64 → is_word (time_name n) ≡ true
time_is_word n lt = letters_of_digits (decimal n) (digits_of_decimal n lt)

pub time_is_time : (n : ℕ) → n < 2 ^ 64 → is_time_name (time_name n) ≡ true
time_is_time n lt = decimal_is_number n lt

pub time_is_reserved : (n : ℕ) → is_reserved (time_name n) ≡ true
time_is_reserved n = refl

pub times_differ : (m n : ℕ) → m < 2 ^ 64 → n < 2 ^ 64 → m < n → same (time_name m) (time_name n) ≡ false
times_differ m n a b lt = not_true (same (time_name m) (time_name n)) (λ e. apart (same_is (decimal m) (decimal n) e))
  where
    apart : decimal m ≡ decimal n → ⊥
    apart e = let q = sym (value_of-decimal m a) ∙ ap value_of e ∙ value_of-decimal n b in absurd (omega (arith, q, lt))

-- a name that isn't kept is none of them
pub free_is_other : (n : ℕ) (w : List ℕ) → is_reserved w ≡ false → same (time_name n) w ≡ false
free_is_other n w free = not_true (same (time_name n) w) (λ e. false≢true (sym free ∙ ap is_reserved (sym (same_is (time_name n) w e)) ∙ time_is_reserved n))

pub kept_apart : (n : ℕ) (w : List ℕ) → is_reserved w ≡ false → same w (time_name n) ≡ false
kept_apart n w free = not_true (same w (time_name n)) (λ e. false≢true (sym free ∙ ap is_reserved (same_is w (time_name n) e) ∙ time_is_reserved n))
