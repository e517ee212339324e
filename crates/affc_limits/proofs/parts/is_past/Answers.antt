use Rattle.std.proofs.Common.{◌≡◌, true, false, ◌||◌, nat_lt, nat_abs, sym, ap, ◌∙◌}
use Rattle.affc_grammar.specs.Grammar.{Name}
use Rattle.affc_grammar.specs.Limits.{coefficient_of, constant_of}
use Rattle.affc_limits.proofs.PartLaws.{large_is}
use Rattle.affc_limits.proofs.parts.is_past.Goals as goal

pub returns-else-is_above : goal.returns-else-is_above
returns-else-is_above c = λ e k n.
    let small : nat_lt 16777216 (nat_abs (constant_of e)) ≡ false = ap (λ z. nat_lt 16777216 (nat_abs z)) (sym k) ∙ sym c.is_above.ensures ∙ c.if-is_above.false in
    let there : c.has_large.result ≡ true → (w : Name) × (nat_lt 65536 (nat_abs (coefficient_of w e)) ≡ true) =
    λ t. let f = c.has_large.ensures.0 t in (f.0, ap (λ z. nat_lt 65536 (nat_abs z)) (sym (n f.0)) ∙ f.1) in
    let back : (w : Name) → nat_lt 65536 (nat_abs (coefficient_of w e)) ≡ true → c.has_large.result ≡ true =
    λ w h. c.has_large.ensures.1 (w, ap (λ z. nat_lt 65536 (nat_abs z)) (n w) ∙ h) in
    ap (λ b. b || c.has_large.result) (sym small) ∙ large_is e c.has_large.result there back
