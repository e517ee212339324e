-- The turns of the pass over tokens.
use Rattle.std.proofs.Common.{◌≡◌, ℕ, suc, ◌+◌, ◌<◌, ◌≤◌, List, length, map, drop, get_or, sym, ap, ◌∙◌, arith}
use Rattle.std.proofs.lemmas.List.{drop_all}
use Rattle.std.specs.Prelude.{MatchOption}
use Rattle.affc_syntax.specs.declared.draft.symbol.Symbol.{Symbol}
use Rattle.affc_syntax.specs.draft.Symbols.{seen}
use Rattle.affc_schedtext.specs.Answers.{IsFirstProduct, HasNoProduct}
use Rattle.affc_schedtext.proofs.Walks.{front}
use Rattle.affc_schedtext.specs.Products.{sign_of, Walk, turn, walked, start}
use Rattle.affc_schedtext.proofs.ProductComplete.{exact}

pub one_turn : (xs : List Symbol) (at : ℕ) (x : Symbol) (w v whole : Walk) → at < length xs → x ≡ get_or xs at x → v ≡ turn at w (sign_of (seen x)) → walked at w (map seen (drop at xs)) ≡ whole → walked (at + 1) v (map seen (drop (at + 1) xs)) ≡ whole
one_turn xs at x w v whole lt e is h =
    let next : at + 1 ≡ suc at = omega arith in
    (λ i. walked (next i) (is i) (map seen (drop (at + 1) xs))) ∙ sym (ap (λ l. walked at w (map seen l)) (front xs at x lt e)) ∙ h

pub all_turns : (xs : List Symbol) (at : ℕ) (w : Walk) → length xs ≤ at → walked at w (map seen (drop at xs)) ≡ walked 0 start (map seen xs) → MatchOption w.found (HasNoProduct (map seen xs)) (IsFirstProduct (map seen xs))
all_turns xs at w le h =
    let done : walked at w (map seen (drop at xs)) ≡ w = ap (λ l. walked at w (map seen l)) (drop_all at xs le) in
    exact (map seen xs) w.found (ap (λ (v : Walk). v.found) (sym done ∙ h))
